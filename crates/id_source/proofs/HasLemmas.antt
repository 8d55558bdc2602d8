-- What is true of what a thing Has: it follows by what stands at its place.
use Rattle.std.proofs.Common.{◌≡◌, ◌⊎◌, ℤ, inl, inr, ℕ, suc, pos, ◌+◌, ◌+ℤ◌, Bool as Truth}
use Rattle.std.proofs.Common.{true, false, Some, List, length, refl, ap, sym, ◌∙◌, subst}
use Rattle.std.specs.Prelude.{slice_get}
use Rattle.std.proofs.lemmas.Bool.{false≢true}
use Rattle.id_value.specs.declared.Kind.{Kind}
use Rattle.id_value.specs.declared.Constant.{Constant}
use Rattle.id_value.specs.declared.Constant.TheVariants as constant
use Rattle.id_value.specs.declared.Outcome.TheVariants.{Gives}
use Rattle.id_value.specs.Results.{result_of_unary, result_of_binary}
use Rattle.id_table.specs.declared.row.Node.{Node}
use Rattle.id_table.specs.declared.row.Node.TheVariants.{Param, Literal, Name, Unary, Binary, Split, If, Arg, Call}
use Rattle.id_table.specs.declared.row.Node.TheVariants.{Next, Loop, Block, Binding, Def, Array, Fetch, Index}
use Rattle.id_table.specs.Rows.{at}
use Rattle.id_table.specs.Tables.{is_param, is_thing}
use Rattle.id_table.specs.Turns.{params_at}
use Rattle.id_check.specs.Programs.{Stands, binder, place, rows}
use Rattle.id_check.proofs.ProgramsLemmas.{table_of}
use Rattle.id_value.proofs.AmongLemmas.{Among-from_at}
use Rattle.id_source.specs.declared.Path.{Path}
use Rattle.id_source.specs.declared.SourceValue.{SourceValue}
use Rattle.id_source.specs.declared.SourceValue.TheVariants as value
use Rattle.id_source.specs.declared.Site.{Site}
use Rattle.id_source.specs.declared.Fact.{Fact}
use Rattle.id_source.specs.declared.Fact.TheVariants.{Has}
use Rattle.id_source.specs.Sources.{Source, IsInput, value_of}
use Rattle.id_source.specs.Facts.{ForStands, index_begins, index_counts, NextStands, first_has, next_has, loop_has}
use Rattle.id_source.specs.Facts.{outermost, below, without, between, Chooses, then_arm, else_arm, Rule, StoreStands}
use Rattle.id_source.specs.Facts.{array_has, ask, asks, fetch_has, put, puts, shape, shape_made, site, param_has}
use Rattle.id_source.specs.Facts.{literal_has, unary_has, binary_has, name_has, conditional_has, argument_has, call_has}
use Rattle.id_source.specs.Facts.{block_has, binding_has}
use Rattle.id_source.specs.Rounds.{Every}
use Rattle.id_source.specs.Links.{arm_of}
use Rattle.id_source.proofs.CheckedLemmas.{apart_of}
use Rattle.id_source.proofs.LiveLemmas.{IsFetch}
use Rattle.id_source.proofs.ParamsLemmas.{input_param, params-among}

-- the conditional at the row n has its predicate at the row t, and this truth value of it turns On the arm at the row a
pub record IsChoice (S : Source) (n t : ℕ) (b : Truth) (a : ℕ) : Type 0 where
  pub split : ℕ
  pub then : ℕ
  pub otherwise : ℕ
  pub stands : Stands S.checked n (If split then otherwise)
  pub splits : Stands S.checked split (Split t)
  pub arm : arm_of b then otherwise ≡ a

pub choice : {S : Source} {n t a : ℕ} {b : Truth} → Chooses S n t b a → IsChoice S n t b a
choice (then_arm {s = s} {a = a} {b = b} u v) =
    record { split = s; then = a; otherwise = b; stands = u; splits = v; arm = refl }
choice (else_arm {s = s} {a = a} {b = b} u v) =
    record { split = s; then = a; otherwise = b; stands = u; splits = v; arm = refl }

-- it has one predicate
pub one_test : {S : Source} {n t u a d : ℕ} {b c : Truth} → IsChoice S n t b a → IsChoice S n u c d → t ≡ u
one_test {S} {t = t} {u = u} f g =
    let e : If f.split f.then f.otherwise ≡ If g.split g.then g.otherwise = sym f.stands.node ∙ g.stands.node in
    let q : f.split ≡ g.split = cc in
    let k : Split t ≡ Split u = sym f.splits.node ∙ ap (λ i. (at (rows S.checked) i).node) q ∙ g.splits.node in
    cc

-- and for each truth value one arm
pub one_arm : {S : Source} {n t u a d : ℕ} {b c : Truth} → IsChoice S n t b a → IsChoice S n u c d → b ≡ c → a ≡ d
one_arm {a = a} {d = d} {b = b} {c = c} f g e =
    let k : If f.split f.then f.otherwise ≡ If g.split g.then g.otherwise = sym f.stands.node ∙ g.stands.node in
    let x : f.then ≡ g.then = cc in
    let y : f.otherwise ≡ g.otherwise = cc in
    sym f.arm ∙ ap (λ i. arm_of b i f.otherwise) x ∙ ap (λ i. arm_of b g.then i) y
    ∙ ap (λ i. arm_of i g.then g.otherwise) e ∙ g.arm

-- it is one of both
pub arm-among : (x y : ℕ) (b : Truth) (a : ℕ) → arm_of b x y ≡ a → (a ≡ x) ⊎ (a ≡ y)
arm-among x y true a h = inl (sym h)
arm-among x y false a h = inr (sym h)

-- a fetch asks for cells of a structure that its target Has, by an index that its index Has
pub record IsAsked (S : Source) (F : Fact → Type 0) (f s : Site) (j : ℤ) : Type 0 where
  pub fetch : IsFetch S f
  pub target : F (Has f.path (place S.checked fetch.target) (value.Name s))
  pub index : F (Has f.path (place S.checked fetch.index) (value.Int j))

pub asked_by : {S : Source} (F : Fact → Type 0) {f s : Site} {j : ℤ} {fs : List Fact} → Rule S fs (ask f s j)
    → Every F fs → IsAsked S F f s j
asked_by F (asks {n = n} {t = t} {i = i} st e) h =
    record {
      fetch = record { row = n; target = t; index = i; stands = st; here = refl };
      target = h.1.0;
      index =
          h.1.1.0;
    }

-- a store stands at the place of the site, and puts what its value Has
pub record IsPut (S : Source) (F : Fact → Type 0) (a : Site) (v : SourceValue) : Type 0 where
  pub row : ℕ
  pub target : ℕ
  pub index : ℕ
  pub value : ℕ
  pub stands : StoreStands S.checked row target index value
  pub here : place S.checked row ≡ a.place
  pub has : F (Has a.path (place S.checked value) v)

pub put_by : {S : Source} (F : Fact → Type 0) {s a : Site} {j : ℤ} {v : SourceValue} {fs : List Fact}
    → Rule S fs (put s j v a) → Every F fs → IsPut S F a v
put_by F (puts {m = m} {t = t} {i = i} {x = x} st e) h =
    record { row = m; target = t; index = i; value = x; stands = st; here = refl; has = h.1.1.1.0 }

-- an `array` stands at the place of the site, and gives its structure the bounds that its parts Have
pub record IsMade (S : Source) (F : Fact → Type 0) (s : Site) (lo hi : ℤ) : Type 0 where
  pub row : ℕ
  pub nested : Truth
  pub low : ℕ
  pub high : ℕ
  pub stands : Stands S.checked row (Array nested low high)
  pub here : place S.checked row ≡ s.place
  pub lowest : F (Has s.path (place S.checked low) (value.Int lo))
  pub highest : F (Has s.path (place S.checked high) (value.Int hi))

pub made_by : {S : Source} (F : Fact → Type 0) {s : Site} {lo hi : ℤ} {fs : List Fact} → Rule S fs (shape s lo hi)
    → Every F fs → IsMade S F s lo hi
made_by F (shape_made {n = n} {a = a} {b = b} {nested = nested} st e) h =
    record { row = n; nested = nested; low = a; high = b; stands = st; here = refl; lowest = h.1.0; highest = h.1.1.0 }

-- the call at the row n is of the procedure that is defined at a row
pub record IsCall (S : Source) (n : ℕ) : Type 0 where
  pub enter : ℕ
  pub count : ℕ
  pub def : ℕ
  pub name : ℕ
  pub head : ℕ
  pub kind : Kind
  pub body : ℕ
  pub stands : Stands S.checked n (Call enter count)
  pub binder : binder S.checked enter ≡ Some def
  pub definition : Stands S.checked def (Def name head kind body)

-- it is of one
pub record IsSameCall {S : Source} {n m : ℕ} (c : IsCall S n) (d : IsCall S m) : Type 0 where
  pub enter : c.enter ≡ d.enter
  pub head : c.head ≡ d.head
  pub body : c.body ≡ d.body

pub one_call : {S : Source} {n m : ℕ} (c : IsCall S n) (d : IsCall S m) → n ≡ m → IsSameCall c d
one_call {S} c d e =
    let R = rows S.checked in
    let k : Call c.enter c.count ≡ Call d.enter d.count =
    sym c.stands.node ∙ ap (λ i. (at R i).node) e ∙ d.stands.node in
    let enter : c.enter ≡ d.enter = cc in
    let b : Some c.def ≡ Some d.def = sym c.binder ∙ ap (λ i. binder S.checked i) enter ∙ d.binder in
    let q : c.def ≡ d.def = cc in
    let f : Def c.name c.head c.kind c.body ≡ Def d.name d.head d.kind d.body =
    sym c.definition.node ∙ ap (λ i. (at R i).node) q ∙ d.definition.node in
    record { enter = enter; head = cc; body = cc }

-- the argument of one index has one value
pub one_argument : (S : Source) (m l e f i j a b : ℕ) → Stands S.checked m (Arg e i a) → Stands S.checked l (Arg f j b)
    → e ≡ f → i ≡ j → a ≡ b
one_argument S m l e f i j a b s t p q =
    let R = rows S.checked in
    let r : m ≡ l =
    (table_of S.checked).one_arg m l e i (record { value = a; within = s.within; node = s.node })
    (record { value = b; within = t.within; node = t.node ∙ (λ k. Arg (sym p k) (sym q k) b) }) in
    let k : Arg e i a ≡ Arg f j b = sym s.node ∙ ap (λ n. (at R n).node) r ∙ t.node in
    cc

-- a call has an argument for the parameter at the row b, and passes on what that Has
pub record IsPassed (S : Source) (F : Fact → Type 0) (b : ℕ) (p : Path) (v : SourceValue) : Type 0 where
  pub call : ℕ
  pub outer : Path
  pub is_call : IsCall S call
  pub row : ℕ
  pub index : ℕ
  pub value : ℕ
  pub argument : Stands S.checked row (Arg is_call.enter index value)
  pub param : slice_get (params_at (rows S.checked) is_call.head) index ≡ Some b
  pub path : p ≡ below outer (place S.checked call) 0
  pub has : F (Has outer (place S.checked value) v)

-- what follows at a parameter: its input at the empty path, or what a call passes on
abbrev pub FollowsParam : Source → (Fact → Type 0) → ℕ → Path → SourceValue → Type 0
FollowsParam S F b p v = ((c : Constant) × (p ≡ outermost) × IsInput S b c × (v ≡ value_of c)) ⊎ IsPassed S F b p v

-- the loop of a `next` at the row m
pub record IsNext (S : Source) (m o a : ℕ) : Type 0 where
  pub row : ℕ
  pub head : ℕ
  pub switches : ℕ
  pub last : ℕ
  pub loop : Stands S.checked row (Loop head switches last)
  pub next : NextStands S.checked m head o a

-- in iteration 0 a variable Has what its name means outside
pub record IsFirst (S : Source) (F : Fact → Type 0) (m o a : ℕ) (p : Path) (v : SourceValue) : Type 0 where
  pub of : IsNext S m o a
  pub outer : Path
  pub outside : ℕ
  pub binder : binder S.checked o ≡ Some outside
  pub path : p ≡ below outer (place S.checked of.row) 0
  pub has : F (Has (without (between S of.row outside) outer) (place S.checked outside) v)

-- in a later one, what its `next` expression Has in the one before
pub record IsLater (S : Source) (F : Fact → Type 0) (m o a : ℕ) (p : Path) (v : SourceValue) : Type 0 where
  pub of : IsNext S m o a
  pub outer : Path
  pub number : ℕ
  pub path : p ≡ below outer (place S.checked of.row) (suc number)
  pub has : F (Has (below outer (place S.checked of.row) number) (place S.checked a) v)

-- in iteration 0 an index Has what its lower bound Has
pub record IsBegun (S : Source) (F : Fact → Type 0) (x : ℕ) (p : Path) (v : SourceValue) : Type 0 where
  pub row : ℕ
  pub switches : ℕ
  pub lower : ℕ
  pub upper : ℕ
  pub last : ℕ
  pub loop : ForStands S.checked row switches x lower upper last
  pub outer : Path
  pub low : ℤ
  pub path : p ≡ below outer (place S.checked row) 0
  pub has : F (Has outer (place S.checked lower) (value.Int low))
  pub gives : v ≡ value.Int low

-- in a later one, one more than in the one before
pub record IsCounted (S : Source) (F : Fact → Type 0) (x : ℕ) (p : Path) (v : SourceValue) : Type 0 where
  pub row : ℕ
  pub switches : ℕ
  pub lower : ℕ
  pub upper : ℕ
  pub last : ℕ
  pub loop : ForStands S.checked row switches x lower upper last
  pub outer : Path
  pub number : ℕ
  pub index : ℤ
  pub path : p ≡ below outer (place S.checked row) (suc number)
  pub has : F (Has (below outer (place S.checked row) number) (place S.checked x) (value.Int index))
  pub gives : v ≡ value.Int (index +ℤ pos 1)

-- the loop at the row n Has what its last expression Has in an iteration
pub record IsLeft (S : Source) (F : Fact → Type 0) (n l : ℕ) (p : Path) (v : SourceValue) : Type 0 where
  pub head : ℕ
  pub switches : ℕ
  pub loop : Stands S.checked n (Loop head switches l)
  pub number : ℕ
  pub has : F (Has (below p (place S.checked n) number) (place S.checked l) v)

-- a fetch Has what is put into a cell that it asks for
pub record IsFetched (S : Source) (F : Fact → Type 0) (n : ℕ) (p : Path) (v : SourceValue) : Type 0 where
  pub name : Site
  pub cell : ℤ
  pub store : Site
  pub asks : F (ask (site p (place S.checked n)) name cell)
  pub puts : F (put name cell v store)

-- what follows at a row of this node from facts: a literal's value, an operator's result on what its operands Have,
-- what a name's
-- binder, the chosen arm of a conditional, a callee's body at the path of the call, a block's body, a loop's last
-- expression and a
-- binding's expression Has, and what follows at a parameter, at a loop's variable and at an index
abbrev pub Follows : Source → (Fact → Type 0) → ℕ → Node → Path → SourceValue → Type 0
Follows S F n (Literal c) p v = v ≡ value_of c
Follows S F n (Unary o a) p v =
    (c : Constant) × (x : Constant) × F (Has p (place S.checked a) (value_of c)) × (result_of_unary o c ≡ Gives x)
    × (v ≡ value_of x)
Follows S F n (Binary o a b) p v =
    (c : Constant) × (d : Constant) × (x : Constant) × F (Has p (place S.checked a) (value_of c))
    × F (Has p (place S.checked b) (value_of d)) ×
    (result_of_binary o c d ≡ Gives x) × (v ≡ value_of x)
Follows S F n (Name y) p v =
    (b : ℕ) × (binder S.checked n ≡ Some b) × F (Has (without (between S n b) p) (place S.checked b) v)
Follows S F n (If s x y) p v =
    (t : ℕ) × (b : Truth) × (a : ℕ) × IsChoice S n t b a × F (Has p (place S.checked t) (value_of (constant.Bool b)))
    × F (Has p (place S.checked a) v)
Follows S F n (Call e c) p v = (d : IsCall S n) × F (Has (below p (place S.checked n) 0) (place S.checked d.body) v)
Follows S F n (Block b) p v = F (Has p (place S.checked b) v)
Follows S F n (Loop h w l) p v = IsLeft S F n l p v
Follows S F n (Next y i o a) p v = IsFirst S F n o a p v ⊎ IsLater S F n o a p v
Follows S F n (Index y) p v = IsBegun S F n p v ⊎ IsCounted S F n p v
Follows S F n (Binding y a) p v = F (Has p (place S.checked a) v)
Follows S F n (Array nested a b) p v = v ≡ value.Name (site p (place S.checked n))
Follows S F n (Fetch t i) p v = IsFetched S F n p v
Follows S F n (Param y k) p v = FollowsParam S F n p v
Follows S F n _ p v = ⊥

-- a thing stands there, and at its node the value follows
pub record FollowsAt (S : Source) (F : Fact → Type 0) (p : Path) (e : ℕ) (v : SourceValue) : Type 0 where
  pub row : ℕ
  pub node : Node
  pub stands : Stands S.checked row node
  pub thing : is_thing node ≡ true
  pub here : place S.checked row ≡ e
  pub follows : Follows S F row node p v

param_follows : {S : Source} (F : Fact → Type 0) {b : ℕ} {p : Path} {v : SourceValue} (n : Node) → Stands S.checked b n
    → is_param n ≡ true → FollowsParam S F b p v → FollowsAt S F p (place S.checked b) v
param_follows F (Param x k) s t i = record { row = _; node = _; stands = s; thing = refl; here = refl; follows = i }
param_follows F _ s t i = absurd (false≢true t)

-- a fetch that asks stands there
abbrev pub Fetches : Source → (Fact → Type 0) → Type 0
Fetches S F = (f s : Site) (j : ℤ) → F (ask f s j) → IsFetch S f

fetched : {S : Source} (F : Fact → Type 0) {f s a : Site} {j : ℤ} {v : SourceValue} → IsFetch S f → F (ask f s j)
    → F (put s j v a) → FollowsAt S F f.path f.place v
fetched {S} F {f} {s} {a} {j} {v} x h k =
    let G : ℕ → Type 0 = λ e. F (ask (site f.path e) s j) in
    record {
      row = x.row;
      node = Fetch x.target x.index;
      stands = x.stands;
      thing = refl;
      here = x.here;
      follows = record { name = s; cell = j; store = a; asks = subst G (sym x.here) h; puts = k };
    }

pub follows_by : {S : Source} (F : Fact → Type 0) → Fetches S F → {p : Path} {e : ℕ} {v : SourceValue} {fs : List Fact}
    → Rule S fs (Has p e v) → Every F fs → FollowsAt S F p e v
follows_by F asked (param_has {c = c} i) h =
    let q = input_param i in param_follows F _ (record { within = q.0; node = refl }) q.1 (inl (c, refl, i, refl))
follows_by F asked (literal_has s) h =
    record { row = _; node = _; stands = s; thing = refl; here = refl; follows = refl }
follows_by F asked (unary_has {x = x} c s is) h =
    record { row = _; node = _; stands = s; thing = refl; here = refl; follows = (c, x, h.1.0, is, refl) }
follows_by F asked (binary_has {x = x} c d s is) h =
    record { row = _; node = _; stands = s; thing = refl; here = refl; follows = (c, d, x, h.1.0, h.1.1.0, is, refl) }
follows_by F asked (name_has {b = b} s is) h =
    record { row = _; node = _; stands = s; thing = refl; here = refl; follows = (b, is, h.1.0) }
follows_by F asked (conditional_has {t = t} {a = a} {b = b} c) h =
    let d = choice c in
    record {
      row = _;
      node = If d.split d.then d.otherwise;
      stands = d.stands;
      thing = refl;
      here = refl;
      follows =
          (t, b, a, d, h.1.0, h.1.1.0);
    }
follows_by {S} F asked (argument_has {n = n} {h = g} {m = m} {i = i} {v = a} {q = q} {p = p} s t is def there) h =
    let R = rows S.checked in
    let w = params-among R g (length R) q (Among-from_at q (params_at R g) i there) in
    let call : IsCall S n =
    record {
      enter = _;
      count = _;
      def = _;
      name = _;
      head = g;
      kind = _;
      body = _;
      stands = s;
      binder = is;
      definition = def;
    } in
    param_follows F _ (record { within = w.0; node = refl }) w.1
    (inr (record {
      call = n;
      outer = p;
      is_call = call;
      row = m;
      index = i;
      value = a;
      argument = t;
      param = there;
      path = refl;
      has = h.1.0;
    }))
follows_by {S} F asked (call_has {n = n} s is def) h =
    let call : IsCall S n =
    record {
      enter = _;
      count = _;
      def = _;
      name = _;
      head = _;
      kind = _;
      body = _;
      stands = s;
      binder = is;
      definition = def;
    } in
    record { row = n; node = _; stands = s; thing = refl; here = refl; follows = (call, h.1.0) }
follows_by {S} F asked (first_has {n = n} {h = g} {w = w} {l = l} {m = m} {o = o} {v = a} {c = c} {p = q} s x e) h =
    let of : IsNext S m o a = record { row = n; head = g; switches = w; last = l; loop = s; next = x } in
    record {
      row = m;
      node = Next x.name x.index o a;
      stands = x.next;
      thing = refl;
      here = refl;
      follows = inl (record { of = of; outer = q; outside = c; binder = e; path = refl; has = h.1.0 });
    }
follows_by {S} F asked (next_has {n = n} {h = g} {w = w} {l = l} {m = m} {o = o} {v = a} q k s x) h =
    let of : IsNext S m o a = record { row = n; head = g; switches = w; last = l; loop = s; next = x } in
    record {
      row = m;
      node = Next x.name x.index o a;
      stands = x.next;
      thing = refl;
      here = refl;
      follows = inr (record { of = of; outer = q; number = k; path = refl; has = h.0 });
    }
follows_by F asked (index_begins {n = n} {w = w} {x = x} {a = a} {b = b} {l = l} {p = q} {lo = lo} s e) h =
    record {
      row = x;
      node = Index s.name;
      stands = s.index;
      thing = refl;
      here = refl;
      follows = inl
          (record {
            row = n;
            switches = w;
            lower = a;
            upper = b;
            last = l;
            loop = s;
            outer = q;
            low = lo;
            path = refl;
            has = h.1.0;
            gives = refl;
          });
    }
follows_by F asked (index_counts {n = n} {w = w} {x = x} {a = a} {b = b} {l = l} {i = i} q k s e) h =
    record {
      row = x;
      node = Index s.name;
      stands = s.index;
      thing = refl;
      here = refl;
      follows = inr
          (record {
            row = n;
            switches = w;
            lower = a;
            upper = b;
            last = l;
            loop = s;
            outer = q;
            number = k;
            index = i;
            path = refl;
            has = h.0;
            gives = refl;
          });
    }
follows_by F asked (loop_has {n = n} {h = g} {w = w} {l = l} q k s) h =
    record {
      row = n;
      node = Loop g w l;
      stands = s;
      thing = refl;
      here = refl;
      follows = record { head = g; switches = w; loop = s; number = k; has = h.0 };
    }
follows_by F asked (block_has s) h =
    record { row = _; node = _; stands = s; thing = refl; here = refl; follows = h.1.0 }
follows_by F asked (binding_has s) h =
    record { row = _; node = _; stands = s; thing = refl; here = refl; follows = h.0 }
follows_by F asked (array_has s e) h =
    record { row = _; node = _; stands = s; thing = refl; here = refl; follows = refl }
follows_by F asked (fetch_has {f = f} {s = s} {a = a} {j = j} {v = v}) h = fetched F (asked f s j h.0) h.0 h.1.0

-- what follows at a place follows at the thing that stands there
pub follows_at : {S : Source} (F : Fact → Type 0) {p : Path} {e : ℕ} {v : SourceValue} (n : ℕ) (m : Node)
    → Stands S.checked n m → is_thing m ≡ true → place S.checked n ≡ e → FollowsAt S F p e v → Follows S F n m p v
follows_at {S} F {p} {e} {v} n m s t here f =
    let R = rows S.checked in
    let T : Node → Type 0 = λ z. is_thing z ≡ true in
    let q : f.row ≡ n =
    (apart_of S.checked).apart f.row n f.stands.within s.within (subst T (sym f.stands.node) f.thing)
    (subst T (sym s.node) t) (f.here ∙ sym here) in
    let k : f.node ≡ m = sym f.stands.node ∙ ap (λ i. (at R i).node) q ∙ s.node in
    let A : ℕ → Type 0 = λ i. Follows S F i f.node p v in
    let B : Node → Type 0 = λ z. Follows S F n z p v in
    subst B k (subst A q f.follows)
