-- What is true of the rows of a loop's statements.
use Rattle.std.proofs.Common.{◌≡◌, ◌⊎◌, inl, inr, ◌<◌, ◌≤◌, ◌+◌, ℕ, suc, Bool, true, false, List, length, refl, sym, ap, ◌∙◌, subst, arith}
use Rattle.std.proofs.lemmas.Bool.{cases_lt, false≢true}
use Rattle.id_grammar.specs.Tree.{Tree, more, next}
use Rattle.id_table.specs.declared.row.Row.{Row}
use Rattle.id_table.specs.declared.row.Stand.{Stand}
use Rattle.id_table.specs.declared.row.Node.{Node}
use Rattle.id_table.specs.declared.row.Node.TheVariants.{LoopHead, Variable, NextUse, Next, Loop, Block}
use Rattle.id_table.specs.Rows.{Parts, add_variables, arm, arm_at, at, in_top, size, with_row}
use Rattle.id_table.specs.Tables.{can_be_on, is_block, is_expression, is_in_loop, is_next, is_statement}
use Rattle.id_table.specs.Loops.{IsLoopOf, IsNextIn, IsNextOf}
use Rattle.id_table.specs.Regions.{Lies}
use Rattle.id_table.specs.Turns.{Root, TurnedIn, in_block}
use Rattle.id_table.proofs.BlockLemmas.{in_block-before, in_block-behind, in_block-more}
use Rattle.id_table.proofs.HasLemmas.{Has, Has-variables, at-push, push-size, row_for, row_in}
use Rattle.id_table.proofs.RowLemmas.{Fits, HeadIn, IsNextOfLoop, IsUseOf, RowIs, RowIs-row, RowIs-within, StandsHere}
use Rattle.id_table.proofs.ExpressionLemmas.{AreExpression, AreStatement, ByStatement, part_of}

-- how many `next` statements are in the list
abbrev pub nexts_in : Tree → ℕ
nexts_in (more (next x a p) b) = suc (nexts_in b)
nexts_in (more a b) = nexts_in b
nexts_in t = 0

-- the variables from the i-th on of a loop with the head h stand behind it, each at the place of its `next` statement
abbrev pub Variables : List Row → ℕ → ℕ → Tree → Type 0
Variables F h i (more (next x a p) b) = (at F (h + 1 + i) ≡ row_in (in_top h) p (h + 1 + i) (h + 1 + i) Variable) × Variables F h (suc i) b
Variables F h i (more a b) = Variables F h i b
Variables F h i t = Unit {0}

-- the row i is that of a variable of the loop with the head h
abbrev pub VariableAt : List Row → ℕ → ℕ → Type 0
VariableAt F h i = (q : ℕ) × (at F i ≡ row_in (in_top h) q i i Variable)

pub variables-each : (F : List Row) (h i : ℕ) (t : Tree) → Variables F h i t → (k : ℕ) → i ≤ k → k < i + nexts_in t → VariableAt F h (h + 1 + k)
variables-each F h i (more (next x a p) b) v k l m = elim (cases_lt i k) [
  | inl f ↦ variables-each F h (suc i) b v.1 k f (omega arith)
  | inr f ↦ let z : i ≡ k = omega arith in subst (λ j. VariableAt F h (h + 1 + j)) z (p, v.0)
]
variables-each F h i (more a b) v k l m = variables-each F h i b v k l m
variables-each F h i _ v k l m = absurd (omega arith)

pub size-variables : (s : Stand) (t : Tree) (T : Parts) → size (add_variables s T t) ≡ size T + nexts_in t
size-variables s (more (next x a p) b) T =
    let V = with_row T s p (size T) Variable in
    let z = size-variables s b V in
    let q = push-size T.rows (row_for T.rows s p (size T) Variable) in
    omega arith
size-variables s (more a b) T = size-variables s b T
size-variables s _ T = omega arith

pub variables-added : (F : List Row) (h i : ℕ) (t : Tree) (T : Parts) → size T ≡ h + 1 + i → Has F (add_variables (in_top h) T t).rows → Variables F h i t
variables-added F h i (more (next x a p) b) T e has =
    let V = with_row T (in_top h) p (size T) Variable in
    let q = push-size T.rows (row_for T.rows (in_top h) p (size T) Variable) in
    let row = at-push F T.rows _ (Has-variables F b (in_top h) V has) in (
      subst (λ k. at F k ≡ row_in (in_top h) p k k Variable) e row,
      variables-added F h (suc i) b V (omega arith) has,
    )
variables-added F h i (more a b) T e has = variables-added F h i b T e has
variables-added F h i _ T e has = tt

-- whether a row of this node is one of a `next` statement
abbrev pub is_of_next : Node → Bool
is_of_next (NextUse x) = true
is_of_next (Next x k o v) = true
is_of_next _ = false

-- the rows from lo up to hi are those of statements right in the body of a loop, which is s; the indices of their `next`
-- statements are those from i up to c
pub record AreNexts (F : List Row) (s : Stand) (i c lo hi : ℕ) : Type 0 where
  pub low : lo ≤ hi
  pub order : i ≤ c
  pub rows : (j : ℕ) → lo ≤ j → j < hi → RowIs F s s.block j (at F j)
  pub first : (j : ℕ) → lo ≤ j → j < hi → lo ≤ (at F j).first
  pub turned : (j : ℕ) → lo ≤ j → j < hi → can_be_on (at F j).node ≡ true → ByStatement F s lo hi j ⊎ TurnedIn F (at F j).region j
  pub held : (j : ℕ) → lo ≤ j → j < hi → is_statement (at F j).node ≡ true → StandsHere F s j ⊎ (in_block F j hi ≡ true)
  pub parts : (j : ℕ) → lo ≤ j → j < hi → (at F j).block ≡ s.block → is_in_loop (at F j).node ≡ true → is_of_next (at F j).node ≡ true
  pub own : (j k x : ℕ) → lo ≤ j → j < hi → IsNextOf F j s.block k x → (i ≤ k) × (k < c)
  pub each : (k : ℕ) → i ≤ k → k < c → (m : ℕ) × (x : ℕ) × IsNextOf F m s.block k x
  pub once : (j m k x y : ℕ) → lo ≤ j → j < hi → lo ≤ m → m < hi → IsNextOf F j s.block k x → IsNextOf F m s.block k y → j ≡ m

-- the loop at the row n, with the head h, the switches w and the last expression l, is round its statements
pub record IsRound (F : List Row) (u h w l n : ℕ) : Type 0 where
  pub within : n < length F
  pub low : h < w
  pub head : (at F h).node ≡ LoopHead u
  pub node : (at F n).node ≡ Loop h w l

abbrev index_or : ℕ → Node → ℕ
index_or d (Next x k o v) = k
index_or d _ = d

no_block : (n : Node) (c : ℕ) → is_block n ≡ false → n ≡ Block c → ⊥
no_block n c e h = false≢true (sym e ∙ ap is_block h)

module _ (F : List Row) (s : Stand) where
  pub nexts-none : (i lo : ℕ) → AreNexts F s i i lo lo
  nexts-none i lo = record {
    low = omega arith;
    order = omega arith;
    rows = λ j b c. absurd (omega arith);
    first = λ j b c. absurd (omega arith);
    turned = λ j b c _. absurd (omega arith);
    held = λ j b c _. absurd (omega arith);
    parts = λ j b c _ _. absurd (omega arith);
    own = λ j k x b c _. absurd (omega arith);
    each = λ k b c. absurd (omega arith);
    once = λ j m k x y b c _ _ _ _. absurd (omega arith);
  }

  -- statements before others
  pub nexts-both : (i m c lo mid hi : ℕ) → AreNexts F s i m lo mid → AreNexts F s m c mid hi → AreNexts F s i c lo hi
  nexts-both i m c lo mid hi f g =
      let low = f.low in
      let next = g.low in
      record {
        low = omega arith;
        order = omega (arith, f.order, g.order);
        rows = λ j b d. elim (cases_lt j mid) [ inl q ↦ f.rows j b q | inr q ↦ g.rows j q d ];
        first = λ j b d. elim (cases_lt j mid) [ inl q ↦ f.first j b q | inr q ↦ omega (arith, g.first j q d) ];
        turned = λ j b d t. elim (cases_lt j mid) [
          | inl q ↦ elim (f.turned j b q t) [
            | inl by ↦ inl (record {
              row = by.row;
              value = by.value;
              low = by.low;
              before = omega (arith, by.before);
              statement = by.statement;
              free = in_block-behind F by.row mid hi next by.free (λ k u v. let z = g.first k u v in omega (arith, by.before));
              turned = by.turned;
            })
            | inr on ↦ inr on
          ]
          | inr q ↦ elim (g.turned j q d t) [
            | inl by ↦ inl (record {
              row = by.row;
              value = by.value;
              low = omega (arith, by.low);
              before = by.before;
              statement = by.statement;
              free = by.free;
              turned = by.turned;
            })
            | inr on ↦ inr on
          ]
        ];
        held = λ j b d t. elim (cases_lt j mid) [
          | inl q ↦ elim (f.held j b q t) [ inl here ↦ inl here | inr e ↦ inr (in_block-more F j mid hi next e) ]
          | inr q ↦ g.held j q d t
        ];
        parts = λ j b d e t. elim (cases_lt j mid) [ inl q ↦ f.parts j b q e t | inr q ↦ g.parts j q d e t ];
        own = λ j k x b d t. elim (cases_lt j mid) [
          | inl q ↦ let z = f.own j k x b q t in (z.0, omega (arith, z.1, g.order))
          | inr q ↦ let z = g.own j k x q d t in (omega (arith, z.0, f.order), z.1)
        ];
        each = λ k b d. elim (cases_lt k m) [ inl q ↦ f.each k b q | inr q ↦ g.each k q d ];
        once = λ j o k x y b d b' d' t t'. elim (cases_lt j mid) [
          | inl q ↦ elim (cases_lt o mid) [
            | inl q' ↦ f.once j o k x y b q b' q' t t'
            | inr q' ↦ absurd (omega (arith, (f.own j k x b q t).1, (g.own o k y q' d' t').0))
          ]
          | inr q ↦ elim (cases_lt o mid) [
            | inl q' ↦ absurd (omega (arith, (f.own o k y b' q' t').1, (g.own j k x q d t).0))
            | inr q' ↦ g.once j o k x y q d q' d' t t'
          ]
        ];
      }

  -- what stands in a row that begins behind the head stands behind it
  pub behind-head : (mid k : ℕ) → s.block ≤ mid → RowIs F s mid k (at F k) → RowIs F s s.block k (at F k)
  behind-head mid k l r = RowIs-within F s s s.block mid k (at F k) l (inl refl) Lies.here (λ e. inl e) r

  -- no part of the loop stands in an expression
  pub no_part : (mid j : ℕ) → s.block < mid → RowIs F s mid j (at F j) → (at F j).block ≡ s.block → is_in_loop (at F j).node ≡ false
  no_part mid j l r t = elim r.block [ inl e ↦ e.1 | inr h ↦ absurd (omega (arith, h.low, t)) ]

  pub no_inner : (mid j k x : ℕ) → s.block < mid → RowIs F s mid j (at F j) → IsNextOf F j s.block k x → ⊥
  no_inner mid j k x l r t = false≢true (sym (no_part mid j l r t.block) ∙ ap is_in_loop t.node)

  -- a statement that is no `next`
  pub one-statement : (lo i j : ℕ) → s.block < lo → AreStatement F s lo j → AreNexts F s i i lo (suc j)
  one-statement lo i j low h = record {
    low = omega (arith, h.low);
    order = omega arith;
    rows = λ k c d. behind-head lo k (omega arith) (h.rows k c d);
    first = λ k c d. (h.rows k c d).low;
    turned = λ k c d w. inl (record {
      row = j;
      value = h.value;
      low = h.low;
      before = omega arith;
      statement = h.statement;
      free = in_block-before F j (suc j) (omega arith);
      turned = λ t. h.turned t k c d w;
    });
    held = λ k c d w. elim (cases_lt k j) [
      | inl f ↦ inr (h.held k c f w)
      | inr f ↦ let z : j ≡ k = omega arith in inl (subst (StandsHere F s) z h.stands)
    ];
    parts = λ m c d t is. absurd (false≢true (sym (no_part lo m low (h.rows m c d) t) ∙ is));
    own = λ m k y c d t. absurd (no_inner lo m k y low (h.rows m c d) t);
    each = λ k c d. absurd (omega arith);
    once = λ m o k y z c d _ _ t _. absurd (no_inner lo m k y low (h.rows m c d) t);
  }

-- a `next` statement of the index i behind its use of the outer name at the row lo, and its expression
module _ (F : List Row) (u h w l n : ℕ) (c : IsRound F u h w l n) (p lo x i a j : ℕ)
    (used : at F lo ≡ row_in (arm (in_top h) w true) p lo lo (NextUse x)) (e : AreExpression F (arm (in_top h) w true) (suc lo) j) (ends : suc a ≡ j)
    (row : at F j ≡ row_in (arm (in_top h) w true) p lo j (Next x i lo a))
    (variable : at F (h + 1 + i) ≡ row_in (in_top h) p (h + 1 + i) (h + 1 + i) Variable) (after : w < lo) (before : j < n) where
  abbrev s : Stand
  s = arm (in_top h) w true

  abbrev of_loop : IsLoopOf F n h
  of_loop = record { switches = w; last = l; within = c.within; node = c.node }

  low : lo < j
  low = omega (arith, e.low, e.ends)

  inside : j < length F
  inside = omega (arith, before, c.within)

  head_low : h < lo
  head_low = omega (arith, after, c.low)

  use_node : (at F lo).node ≡ NextUse x
  use_node = ap (λ (r : Row). r.node) used

  next_node : (at F j).node ≡ Next x i lo a
  next_node = ap (λ (r : Row). r.node) row

  next_block : (at F j).block ≡ h
  next_block = ap (λ (r : Row). r.block) row

  is_next_in : IsNextIn F n j h w i x lo
  is_next_in = record {
    region = ap (λ (r : Row). r.region) row;
    outer = use_node;
    first = ap (λ (r : Row). r.first) row;
    own = ap (λ (r : Row). r.first) used;
    outer_place = ap (λ (r : Row). r.place) used ∙ sym (ap (λ (r : Row). r.place) row);
    variable = ap (λ (r : Row). r.node) variable;
    variable_block = ap (λ (r : Row). r.block) variable;
    place = ap (λ (r : Row). r.place) variable ∙ sym (ap (λ (r : Row). r.place) row);
    before = after;
    behind = before;
  }

  belongs : IsNextOfLoop F j i x lo
  belongs =
      let z : (q : IsLoopOf F n (at F j).block) × IsNextIn F n j (at F j).block q.switches i x lo =
      subst (λ g. (q : IsLoopOf F n g) × IsNextIn F n j g q.switches i x lo) (sym next_block) (of_loop, is_next_in) in
      record { loop = n; of = z.0; inside = z.1 }

  -- its rows stand behind the head
  head_in : (k : ℕ) → lo ≤ k → k ≤ j → HeadIn F h k h
  head_in k b d = record {
    low = omega arith;
    high = omega (arith, head_low);
    start = u;
    node = c.head;
    row = n;
    loop = of_loop;
    before = omega (arith, before);
  }

  abbrev next_of : IsNextOf F j h i x
  next_of = record { outer = lo; value = a; within = inside; block = next_block; node = next_node }

  is_use_of : IsUseOf F lo x
  is_use_of =
      let block : (at F lo).block ≡ h = ap (λ (r : Row). r.block) used in
      let z : (q : IsNextOf F j (at F lo).block i x) × (q.outer ≡ lo) = subst (λ g. (q : IsNextOf F j g i x) × (q.outer ≡ lo)) (sym block) (next_of, refl) in
      record { row = j; index = i; next = z.0; own = z.1 }

  use_row : RowIs F s h lo (at F lo)
  use_row =
      RowIs-row F s p h lo lo lo (NextUse x) used (omega (arith, head_low)) (omega arith) (λ k b d. absurd (omega arith))
      (inr (head_in lo (omega arith) (omega (arith, low)))) refl (record {
        formed = λ b q. absurd q;
        part_stands = λ b q. absurd q;
        operand_is = λ b q. absurd q;
        value_block = λ b q. absurd (no_block (NextUse x) b refl q);
        value_self = λ q. refl;
        value = λ q. absurd (false≢true q);
        statements = λ q. absurd (false≢true q);
        at_top = λ q. absurd (false≢true q);
        heads = λ q. absurd (false≢true q);
        belongs = is_use_of;
      })

  -- the rows before its own
  row_before : (k : ℕ) → lo ≤ k → k < j → RowIs F s h k (at F k)
  row_before k b d = elim (cases_lt lo k) [
    | inl f ↦ behind-head F s (suc lo) k (omega (arith, head_low)) (e.rows k f d)
    | inr f ↦ let z : lo ≡ k = omega arith in subst (λ g. RowIs F s h g (at F g)) z use_row
  ]

  first_before : (k : ℕ) → lo ≤ k → k < j → lo ≤ (at F k).first
  first_before k b d = elim (cases_lt lo k) [
    | inl f ↦ omega (arith, (e.rows k f d).low)
    | inr f ↦ let z : lo ≡ k = omega arith in omega (arith, ap (λ g. (at F g).first) z, ap (λ (r : Row). r.first) used)
  ]

  next_fits : Fits F s lo j j (Next x i lo a)
  next_fits =
      let part = part_of F s (suc lo) j a e ends in
      record {
        formed = λ b q. elim q [
          | inl z ↦ (omega (arith, z), omega (arith, z, low))
          | inr z ↦ (omega (arith, z, part.low), omega (arith, z, ends))
        ];
        part_stands = λ b q. elim q [
          | inl z ↦ subst (StandsHere F s) (sym z) (ap (λ (r : Row). r.block) used, ap (λ (r : Row). r.region) used)
          | inr z ↦ subst (StandsHere F s) (sym z) part.stands
        ];
        operand_is = λ b q. subst (λ k. is_expression (at F k).node ≡ true) (sym q) part.expression;
        value_block = λ b q. absurd (no_block (Next x i lo a) b refl q);
        value_self = λ q. refl;
        value = λ q. absurd (false≢true q);
        statements = λ q. absurd (false≢true q);
        at_top = λ q. absurd (false≢true q);
        heads = λ q. absurd (false≢true q);
        belongs = belongs;
      }

  next_row : RowIs F s h j (at F j)
  next_row =
      RowIs-row F s p h lo j j (Next x i lo a) row (omega (arith, head_low)) (omega (arith, low)) (λ k b d. (first_before k b d, (row_before k b d).lies))
      (inr (head_in j (omega (arith, low)) (omega arith))) refl next_fits

  -- what is true of its use, of the rows of its expression and of its own row is true of each of its rows
  by_row : (P : ℕ → Type 0) → P lo → ((m : ℕ) → lo < m → m < j → P m) → P j → (m : ℕ) → lo ≤ m → m < suc j → P m
  by_row P begin each end m b d = elim (cases_lt m j) [
    | inl f ↦ elim (cases_lt lo m) [ inl g ↦ each m g f | inr g ↦ let z : lo ≡ m = omega arith in subst P z begin ]
    | inr f ↦ let z : j ≡ m = omega arith in subst P z end
  ]

  own_is : (m k y : ℕ) → lo ≤ m → m < suc j → IsNextOf F m h k y → (m ≡ j) × (k ≡ i)
  own_is m k y = by_row (λ m. IsNextOf F m h k y → (m ≡ j) × (k ≡ i))
      (λ t. absurd (false≢true (ap is_next (sym use_node ∙ t.node))))
      (λ m g f t. absurd (no_inner F s (suc lo) m k y (omega (arith, head_low)) (e.rows m g f) t))
      (λ t. (refl, ap (index_or 0) (sym t.node ∙ next_node))) m

  pub one-next : AreNexts F (arm (in_top h) w true) i (suc i) lo (suc j)
  one-next = record {
    low = omega (arith, low);
    order = omega arith;
    rows = by_row (λ k. RowIs F s h k (at F k)) use_row (λ k g f. row_before k (omega arith) f) next_row;
    first = by_row (λ k. lo ≤ (at F k).first) (first_before lo (omega arith) low) (λ k g f. first_before k (omega arith) f)
        (omega (arith, ap (λ (r : Row). r.first) row));
    turned = by_row (λ k. can_be_on (at F k).node ≡ true → ByStatement F s lo (suc j) k ⊎ TurnedIn F (at F k).region k)
        (λ t. absurd (false≢true (sym (ap can_be_on use_node) ∙ t))) (λ k g f t. inr (turned_on k g f t))
        (λ t. absurd (false≢true (sym (ap can_be_on next_node) ∙ t)));
    held = by_row (λ k. is_statement (at F k).node ≡ true → StandsHere F s k ⊎ (in_block F k (suc j) ≡ true))
        (λ t. absurd (false≢true (sym (ap is_statement use_node) ∙ t))) (λ k g f t. inr (in_block-more F k j (suc j) (omega arith) (e.held k g f t)))
        (λ t. absurd (false≢true (sym (ap is_statement next_node) ∙ t)));
    parts = by_row (λ k. (at F k).block ≡ h → is_in_loop (at F k).node ≡ true → is_of_next (at F k).node ≡ true)
        (λ _ _. ap is_of_next use_node)
        (λ k g f t is. absurd (false≢true (sym (no_part F s (suc lo) k (omega (arith, head_low)) (e.rows k g f) t) ∙ is)))
        (λ _ _. ap is_of_next next_node);
    own = λ m k y b d t. let z = (own_is m k y b d t).1 in (omega arith, omega arith);
    each = λ k b d. let z : i ≡ k = omega arith in (j, x, subst (λ g. IsNextOf F j h g x) z next_of);
    once = λ m o k y z b d b' d' t t'. (own_is m k y b d t).0 ∙ sym (own_is o k z b' d' t').0;
  }
    where
      turned_on : (k : ℕ) → lo < k → k < j → can_be_on (at F k).node ≡ true → TurnedIn F (at F k).region k
      turned_on k g f t =
          let region : (at F j).region ≡ arm_at w true = ap (λ (r : Row). r.region) row in
          let same : a ≡ e.end = omega (arith, ends, e.ends) in
          let on = subst (λ r. TurnedIn F r a) region (TurnedIn.root (Root.of_next inside next_node)) in
          e.turned (subst (TurnedIn F (arm_at w true)) same on) k g f t
