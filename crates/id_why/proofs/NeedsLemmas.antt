-- What is found that a thing needs is what it needs.
use Rattle.std.proofs.Common.{◌≡◌, ◌⊎◌, ◌<◌, ◌+◌, ◌-◌, ◌&&◌, ◌||◌, ◌++◌, inl, inr, ℕ, ℤ, zero, suc, Bool as Truth, true}
use Rattle.std.proofs.Common.{false}
use Rattle.std.proofs.Common.{Option, None, Some, nat_eq, List, [], ◌∷◌, length, map, if◌then◌else◌, refl, ap, sym, ◌∙◌}
use Rattle.std.proofs.Common.{subst, arith}
use Rattle.std.proofs.Common.{Vec, Global}
use Rattle.std.proofs.lemmas.Bool.{cases_lt, eqb-true, eqb-false, ne_eqb}
use Rattle.std.proofs.lemmas.List.{get_or_past}
use Rattle.id_value.specs.List.{Among}
use Rattle.id_value.proofs.AmongLemmas.{Among-either, Among-from_map, Among-left, Among-map, Among-right}
use Rattle.id_value.specs.declared.Kind.{Kind}
use Rattle.id_table.specs.declared.row.Node.{Node}
use Rattle.id_table.specs.declared.row.Node.TheVariants as node
use Rattle.id_table.specs.declared.row.Row.{Row}
use Rattle.id_table.specs.Rows.{at, no_row}
use Rattle.id_check.specs.declared.checked.Checked.{Checked}
use Rattle.id_check.specs.Programs.{binder, rows}
use Rattle.id_source.specs.declared.links.Links.{Links}
use Rattle.id_source.specs.Links.{AreArgs, Leads, arm_of, asker_of, far_from, parts_turned, targets, test_of}
use Rattle.id_source.specs.Links.{test_of_loop}
use Rattle.id_facts.specs.declared.cells.Point.{Point}
use Rattle.id_facts.specs.declared.facts.RowFact.{RowFact}
use Rattle.id_facts.specs.declared.facts.RowFact.TheVariants.{On, Has, Shape, Put, Ask}
use Rattle.id_facts.specs.declared.facts.RowValue.{RowValue}
use Rattle.id_facts.specs.declared.facts.RowValue.TheVariants.{Int, Bool, Name}
use Rattle.id_facts.specs.declared.facts.Trail.{Trail}
use Rattle.id_facts.specs.declared.facts.Trail.TheVariants.{Outermost, Below}
use Rattle.id_facts.specs.Cells.{find, out_of, told}
use Rattle.id_facts.specs.RowFacts.{fact_at, same_value}
use Rattle.id_facts.proofs.FactsLemmas.{among-at, index-of}
use Rattle.id_facts.proofs.OneLemmas.{and-is, both, eq-itself}
use Rattle.id_facts.proofs.LookupLemmas.{find-all, find-true, told-all, told-among}
use Rattle.id_meaning.specs.Effects.{body_in, callee_of, is_row}
use Rattle.id_why.specs.declared.known.Cell.{Cell}
use Rattle.id_why.specs.declared.known.Known.{Known}
use Rattle.id_why.specs.Found.{argument_by, arguments, arguments_of, arm_by, arms, before, body_by, filler, filler_at}
use Rattle.id_why.specs.Found.{fillers, first_by, has_value}
use Rattle.id_why.specs.Found.{head_in, may_be, may_fill, needs, others, passed, passed_at, passed_by, seen_at, tested}
use Rattle.id_why.specs.Found.{things_at, turn_by, turns_at, wanted}
use Rattle.id_why.specs.Known.{AreIndexed, asks, known_facts, spot_by, store_by, store_number, values}
use Rattle.id_why.specs.Needs.{IsArgument, IsOnBy, MayFill, MayHave, Needs, node_at, point}
use Rattle.id_why.specs.Needs.{part as need-part, binding as need-binding, name as need-name, arm as need-arm}
use Rattle.id_why.specs.Needs.{body as need-body, argument as need-argument}
use Rattle.id_why.specs.Needs.{turn as need-turn, first as need-first, next as need-next, store as need-store}
use Rattle.id_why.specs.Walks.{AreApart}
use Rattle.id_why.proofs.TestLemmas.{if-some, or-left, or-right, or-true, some-one, value-one, value-same}
use Rattle.id_why.proofs.KnownLemmas.{asks-all, asks-true, values-all, values-true}

-- ---- forms

wanted-parts : (P : Checked) (z : Node) (a : ℕ) → Among a (parts_turned (rows P) z) → Among a (wanted (rows P) z)
wanted-parts P (node.Binding x b) a m = absurd m
wanted-parts P z a m = m

body-def : (z : Node) (b : ℕ) → body_in z ≡ Some b → (x h : ℕ) × (k : Kind) × (z ≡ node.Def x h k b)
body-def (node.Def x h k c) b e = (x, h, k, ap (λ y. node.Def x h k y) (some-one c b e))
body-def _ b e = cc

head-def : (z : Node) (h : ℕ) → head_in z ≡ Some h → (x b : ℕ) × (k : Kind) × (z ≡ node.Def x h k b)
head-def (node.Def x g k b) h e = (x, b, k, ap (λ y. node.Def x y k b) (some-one g h e))
head-def _ h e = cc

-- ---- arms

arms-true : (p : Trail) (x y : ℕ) (vs : List RowValue) (u : Point) → Among u (arms p x y vs)
    → (b : Truth) × Among (Bool b) vs × (u ≡ point p (arm_of b x y))
arms-true p x y [] u m = absurd m
arms-true p x y (Bool b ∷ vs) u (inl q) = (b, inl refl, q)
arms-true p x y (Bool b ∷ vs) u (inr m) = let r = arms-true p x y vs u m in (r.0, inr r.1, r.2)
arms-true p x y (Int n ∷ vs) u m = let r = arms-true p x y vs u m in (r.0, inr r.1, r.2)
arms-true p x y (Name n ∷ vs) u m = let r = arms-true p x y vs u m in (r.0, inr r.1, r.2)

arms-all : (p : Trail) (x y : ℕ) (vs : List RowValue) (b : Truth) → Among (Bool b) vs
    → Among (point p (arm_of b x y)) (arms p x y vs)
arms-all p x y [] b m = absurd m
arms-all p x y (v ∷ vs) b (inl q) =
    let F : RowValue → Type 0 = λ w. Among (point p (arm_of b x y)) (arm_by p x y w ++ arms p x y vs) in
    subst F q (inl refl)
arms-all p x y (v ∷ vs) b (inr m) =
    Among-right (point p (arm_of b x y)) (arm_by p x y v) (arms p x y vs) (arms-all p x y vs b m)

-- ---- arguments

arguments-true : (P : Checked) (q : Trail) (n e h : ℕ) (ms : List ℕ) (u : Point) → Among u (arguments P q n e h ms)
    → (m i v : ℕ) × Among m ms × (node_at P m ≡ node.Arg e i v) × (n ≡ h + 1 + i) × (u ≡ point q v)
arguments-true P q n e h [] u a = absurd a
arguments-true P q n e h (m ∷ ms) u a =
    elim (Among-either u (argument_by q n e h (node_at P m)) (arguments P q n e h ms) a) [
      | inl b ↦ (let r = one (node_at P m) b in (m, r.0, r.1, inl refl, r.2, r.3, r.4))
      | inr b ↦ (let r = arguments-true P q n e h ms u b in (r.0, r.1, r.2, inr r.3, r.4, r.5, r.6))
    ]
  where
    two : (f i v : ℕ) (t : Truth) → nat_eq f e && nat_eq n (h + 1 + i) ≡ t → Among u (if t then point q v ∷ [] else [])
        → (j w : ℕ) × (node.Arg f i v ≡ node.Arg e j w) × (n ≡ h + 1 + j) × (u ≡ point q w)
    two f i v true s (inl b) =
        let r = both (nat_eq f e) (nat_eq n (h + 1 + i)) s in
        (i, v, ap (λ y. node.Arg y i v) (eqb-true f e r.0), eqb-true n (h + 1 + i) r.1, b)
    two f i v true s (inr b) = absurd b
    two f i v false s b = absurd b

    one : (z : Node) → Among u (argument_by q n e h z) → (j w : ℕ) × (z ≡ node.Arg e j w) × (n ≡ h + 1 + j)
        × (u ≡ point q w)
    one (node.Arg f i v) b = two f i v (nat_eq f e && nat_eq n (h + 1 + i)) refl b
    one _ b = absurd b

arguments-all : (P : Checked) (q : Trail) (n e h : ℕ) (ms : List ℕ) (m i v : ℕ) → Among m ms
    → node_at P m ≡ node.Arg e i v → n ≡ h + 1 + i → Among (point q v) (arguments P q n e h ms)
arguments-all P q n e h [] m i v a s t = absurd a
arguments-all P q n e h (o ∷ ms) m i v (inl a) s t =
    let F : Node → Type 0 = λ z. Among (point q v) (argument_by q n e h z) in
    let c : nat_eq e e && nat_eq n (h + 1 + i) ≡ true =
    and-is (nat_eq e e) (nat_eq n (h + 1 + i)) (eq-itself e) (ap (λ y. nat_eq n y) (sym t) ∙ eq-itself n) in
    let G : Truth → Type 0 = λ b. Among (point q v) (if b then point q v ∷ [] else []) in
    Among-left (point q v) (argument_by q n e h (node_at P o)) (arguments P q n e h ms)
    (subst F (sym (ap (λ y. node_at P y) (sym a) ∙ s)) (subst G (sym c) (inl refl)))
arguments-all P q n e h (o ∷ ms) m i v (inr a) s t =
    Among-right (point q v) (argument_by q n e h (node_at P o)) (arguments P q n e h ms)
    (arguments-all P q n e h ms m i v a s t)

-- ---- turns

row-true : (o : Option ℕ) (m : ℕ) → is_row o m ≡ true → o ≡ Some m
row-true None m e = cc
row-true (Some a) m e = ap (λ y. Some y) (eqb-true a m e)

turn-true : (i l : ℕ) (o : Option ℕ) (f : RowFact) (u : Point) → turn_by i l o f ≡ Some u
    → (j m : ℕ) × (f ≡ On (Below i j) m) × (u ≡ point (Below i j) m) × ((m ≡ l) ⊎ (o ≡ Some m))
turn-true i l o (On (Below s j) m) u e =
    let r = if-some (nat_eq s i && (nat_eq m l || is_row o m)) (point (Below s j) m) u e in
    let b = both (nat_eq s i) (nat_eq m l || is_row o m) r.0 in
    let q = eqb-true s i b.0 in (
      j,
      m,
      ap (λ y. On (Below y j) m) q,
      sym r.1 ∙ ap (λ y. point (Below y j) m) q,
      elim (or-true (nat_eq m l) (is_row o m) b.1) [ inl a ↦ inl (eqb-true m l a) | inr a ↦ inr (row-true o m a) ],
    )
turn-true i l o (On Outermost m) u e = cc
turn-true i l o (Has p n v) u e = cc
turn-true i l o (Shape s lo hi) u e = cc
turn-true i l o (Put p n s j v) u e = cc
turn-true i l o (Ask p n s j) u e = cc

turn-is : (i l : ℕ) (o : Option ℕ) (j m : ℕ) → (m ≡ l) ⊎ (o ≡ Some m)
    → turn_by i l o (On (Below i j) m) ≡ Some (point (Below i j) m)
turn-is i l o j m w =
    ap (λ b. if b then Some (point (Below i j) m) else None)
    (and-is (nat_eq i i) (nat_eq m l || is_row o m) (eq-itself i) (elim w [
      | inl q ↦ or-left (nat_eq m l) (is_row o m) (ap (λ y. nat_eq m y) (sym q) ∙ eq-itself m)
      | inr q ↦ or-right (nat_eq m l) (is_row o m) (ap (λ y. is_row y m) q ∙ eq-itself m)
    ]))

-- ---- values that may be

has-true : (v : RowValue) (ws : List RowValue) → has_value v ws ≡ true → Among v ws
has-true v [] e = cc
has-true v (w ∷ ws) e = elim (or-true (same_value w v) (has_value v ws) e) [
  | inl a ↦ inl (sym (value-one w v a))
  | inr a ↦ inr (has-true v ws a)
]

has-all : (v : RowValue) (ws : List RowValue) → Among v ws → has_value v ws ≡ true
has-all v [] m = absurd m
has-all v (w ∷ ws) (inl q) = or-left (same_value w v) (has_value v ws) (ap (λ y. same_value y v) (sym q) ∙ value-same v)
has-all v (w ∷ ws) (inr m) = or-right (same_value w v) (has_value v ws) (has-all v ws m)

may-true : (v : RowValue) (ws : List RowValue) → may_be ws v ≡ true → Among v ws ⊎ ((w : RowValue) → Among w ws → ⊥)
may-true v [] e = inr (λ w m. m)
may-true v (w ∷ ws) e = inl (has-true v (w ∷ ws) e)

may-all : (v : RowValue) (ws : List RowValue) → Among v ws ⊎ ((w : RowValue) → Among w ws → ⊥) → may_be ws v ≡ true
may-all v [] m = refl
may-all v (w ∷ ws) (inl m) = has-all v (w ∷ ws) m
may-all v (w ∷ ws) (inr un) = absurd (un w (inl refl))

-- edges from a row are those of one of them
targets-low : (vs : List (Vec ℕ Global)) (n b : ℕ) → Among b (targets vs n) → n < length vs
targets-low [] n b m = absurd m
targets-low (v ∷ vs) zero b m = omega arith
targets-low (v ∷ vs) (suc n) b m = let r = targets-low vs n b m in omega arith

-- an argument is one of the rows
arg-within : (P : Checked) (m e i v : ℕ) → node_at P m ≡ node.Arg e i v → m < length (rows P)
arg-within P m e i v q = elim (cases_lt m (length (rows P))) [
  | inl r ↦ r
  | inr r ↦ (let none : node_at P m ≡ node.Head = ap (λ (y : Row). y.node) (get_or_past (rows P) m no_row r) in
      absurd (un (sym none ∙ q)))
]
  where
    un : node.Head ≡ node.Arg e i v → ⊥
    un e = cc

module _ (P : Checked) (l : Links) (k : Known) (h : AreIndexed P k) (args : AreArgs P l.args) where
  have-true : (p : Trail) (n : ℕ) (v : RowValue) → may_be (values k p n) v ≡ true → MayHave (known_facts k) p n v
  have-true p n v e = elim (may-true v (values k p n) e) [
    | inl m ↦ inl (values-true P k h p n v m)
    | inr un ↦ inr (λ w m. un w (values-all P k h p n w m))
  ]

  have-all : (p : Trail) (n : ℕ) (v : RowValue) → MayHave (known_facts k) p n v → may_be (values k p n) v ≡ true
  have-all p n v (inl m) = may-all v (values k p n) (inl (values-all P k h p n v m))
  have-all p n v (inr un) = may-all v (values k p n) (inr (λ w m. un w (values-true P k h p n w m)))

  -- ---- stores

  fill-true : (p : Trail) (m : ℕ) (c : Cell) (a x : ℕ) (z : Node) → node_at P m ≡ node.Store a x → node_at P a ≡ z
      → Among (On p m) (known_facts k) → may_fill k p c z ≡ true → MayFill P (known_facts k) (point p m) c.name c.index
  fill-true p m c a x (node.Address t i) e q on f =
      let b = both (may_be (values k p t) (Name c.name)) (may_be (values k p i) (Int c.index)) f in
      record {
        address = a;
        value = x;
        target = t;
        index = i;
        store = e;
        parts = q;
        on = on;
        array = have-true p t (Name c.name) b.0;
        cell = have-true p i (Int c.index) b.1;
      }
  fill-true p m c a x _ e q on f = cc

  filler-true : (c : Cell) (f : RowFact) (u : Point) → filler P k c f ≡ Some u → Among f (known_facts k)
      → MayFill P (known_facts k) u c.name c.index
  filler-true c (On p m) u e on = go (node_at P m) refl e
    where
      go : (z : Node) → node_at P m ≡ z → filler_at P k c p m z ≡ Some u → MayFill P (known_facts k) u c.name c.index
      go (node.Store a x) q f =
          let r = if-some (may_fill k p c (node_at P a)) (point p m) u f in
          let F : Point → Type 0 = λ y. MayFill P (known_facts k) y c.name c.index in
          subst F r.1 (fill-true p m c a x (node_at P a) q refl on r.0)
      go _ q f = cc
  filler-true c (Has p n v) u e on = cc
  filler-true c (Shape s lo hi) u e on = cc
  filler-true c (Put p n s j v) u e on = cc
  filler-true c (Ask p n s j) u e on = cc

  filler-is : (u : Point) (c : Cell) → (m : MayFill P (known_facts k) u c.name c.index)
      → filler P k c (On u.path u.row) ≡ Some u
  filler-is u c m =
      let a : may_fill k u.path c (node_at P m.address) ≡ true =
      ap (may_fill k u.path c) m.parts
      ∙ and-is (may_be (values k u.path m.target) (Name c.name)) (may_be (values k u.path m.index) (Int c.index))
      (have-all u.path m.target (Name c.name) m.array) (have-all u.path m.index (Int c.index) m.cell) in
      ap (filler_at P k c u.path u.row) m.store ∙ ap (λ b. if b then Some u else None) a

  fillers-true : (cs : List Cell) (u : Point) → Among u (fillers P k cs)
      → (c : Cell) × Among c cs × MayFill P (known_facts k) u c.name c.index
  fillers-true [] u m = absurd m
  fillers-true (c ∷ cs) u m =
      elim (Among-either u (told (filler P k c) (known_facts k) k.stores.items) (fillers P k cs) m) [
        | inl a ↦
            (let r = told-among (filler P k c) (known_facts k) k.stores.items u a in (
              c,
              inl refl,
              filler-true c (fact_at (known_facts k) r.0) u r.2
                  (among-at (known_facts k) r.0 (h.stores_within r.0 r.1)),
            ))
        | inr a ↦ (let r = fillers-true cs u a in (r.0, inr r.1, r.2))
      ]

  fillers-all : (cs : List Cell) (u : Point) (c : Cell) → Among c cs → MayFill P (known_facts k) u c.name c.index
      → Among u (fillers P k cs)
  fillers-all [] u c m f = absurd m
  fillers-all (d ∷ cs) u c (inl q) f =
      let r = index-of (On u.path u.row) (known_facts k) f.on in
      let F : RowFact → Type 0 = λ g. Among r.0 (store_by P g r.0) in
      let G : Node → Type 0 = λ z. Among r.0 (store_number z r.0) in
      let there : Among r.0 k.stores.items = h.stores r.0 r.1 (subst F (sym r.2) (subst G (sym f.store) (inl refl))) in
      let C : Cell → Type 0 = λ e. Among u (told (filler P k e) (known_facts k) k.stores.items) in
      Among-left u (told (filler P k d) (known_facts k) k.stores.items) (fillers P k cs)
      (subst C q
      (told-all (filler P k c) (known_facts k) k.stores.items r.0 u there (ap (filler P k c) r.2 ∙ filler-is u c f)))
  fillers-all (d ∷ cs) u c (inr m) f =
      Among-right u (told (filler P k d) (known_facts k) k.stores.items) (fillers P k cs) (fillers-all cs u c m f)

  -- ---- what is needed beyond the thing's own path

  seen-true : (p q : Trail) (n x : ℕ) (u : Point) (o : Option ℕ) → node_at P n ≡ node.Name x → binder P n ≡ o
      → Among u (seen_at (out_of (known_facts k) (far_from P n o) p) o) → Needs P (known_facts k) (point p n) u
  seen-true p q n x u None e b m = absurd m
  seen-true p q n x u (Some c) e b (inl r) =
      let F : Point → Type 0 = λ y. Needs P (known_facts k) (point p n) y in
      subst F (sym r) (need-name p n x c e b)
  seen-true p q n x u (Some c) e b (inr r) = absurd r

  tests-true : (p : Trail) (n s x y : ℕ) (u : Point) (o : Option ℕ) → node_at P n ≡ node.If s x y
      → test_of (node_at P s) ≡ o → Among u (arms p x y (tested k p o)) → Needs P (known_facts k) (point p n) u
  tests-true p n s x y u None e b m = absurd m
  tests-true p n s x y u (Some t) e b m =
      let r = arms-true p x y (values k p t) u m in
      let F : Point → Type 0 = λ w. Needs P (known_facts k) (point p n) w in
      subst F (sym r.2) (need-arm p n s x y t r.0 e b (values-true P k h p t (Bool r.0) r.1))

  body-true : (p : Trail) (n e c : ℕ) (u : Point) (i b : Option ℕ) → node_at P n ≡ node.Call e c → find k.cells p n ≡ i
      → body_in (callee_of P e) ≡ b → Among u (body_by i b) → Needs P (known_facts k) (point p n) u
  body-true p n e c u (Some i) (Some b) s f g (inl r) =
      let on = find-true k.cells h.chained p n i f in
      let d = body-def (callee_of P e) b g in
      let F : Point → Type 0 = λ w. Needs P (known_facts k) (point p n) w in
      subst F (sym r) (need-body p n i e c d.0 d.1 b d.2 s (record { within = on.within; fact = on.fact }) d.3)
  body-true p n e c u (Some i) (Some b) s f g (inr r) = absurd r
  body-true p n e c u (Some i) None s f g m = absurd m
  body-true p n e c u None b s f g m = absurd m

  passed-true : (n i x : ℕ) (z : Kind) (u : Point) (f : RowFact) → node_at P n ≡ node.Param x z
      → fact_at (known_facts k) i ≡ f → Among u (passed_by P l n f) → Needs P (known_facts k) (point (Below i 0) n) u
  passed-true n i x z u (On q c) e s m = go (node_at P c) refl m
    where
      arg : (d a : ℕ) (o : Option ℕ) → node_at P c ≡ node.Call d a → head_in (callee_of P d) ≡ o
          → Among u (arguments_of P l q n d o) → Needs P (known_facts k) (point (Below i 0) n) u
      arg d a None b o m = absurd m
      arg d a (Some g) b o m =
          let r = arguments-true P q n d g (targets l.args.rows.items d) u m in
          let y = head-def (callee_of P d) g o in
          let F : Point → Type 0 = λ w. Needs P (known_facts k) (point (Below i 0) n) w in
          let wide = args.wide in
          let low = targets-low l.args.rows.items d r.0 r.3 in
          subst F (sym r.6) (need-argument q n i c x r.2 z e s record {
            enter = d;
            count = a;
            name = y.0;
            head = g;
            kind = y.2;
            body = y.1;
            index = r.1;
            arg = r.0;
            call = b;
            callee = y.3;
            argument = r.4;
            within = omega arith;
            behind = r.5;
          })

      go : (w : Node) → node_at P c ≡ w → Among u (passed_at P l q n w)
          → Needs P (known_facts k) (point (Below i 0) n) u
      go (node.Call d a) b m = arg d a (head_in (callee_of P d)) b refl m
      go _ b m = absurd m
  passed-true n i x z u (Has p o v) e s m = absurd m
  passed-true n i x z u (Shape o lo hi) e s m = absurd m
  passed-true n i x z u (Put p o t j v) e s m = absurd m
  passed-true n i x z u (Ask p o t j) e s m = absurd m

  turns-true : (p : Trail) (n g w t : ℕ) (u : Point) (i : Option ℕ) → node_at P n ≡ node.Loop g w t
      → find k.cells p n ≡ i → Among u (turns_at k t (test_of_loop (rows P) (node_at P w)) i)
      → Needs P (known_facts k) (point p n) u
  turns-true p n g w t u None e f m = absurd m
  turns-true p n g w t u (Some i) e f m =
      let o = test_of_loop (rows P) (node_at P w) in
      let r = told-among (turn_by i t o) (known_facts k) (targets k.turns.rows.items i) u m in
      let a = turn-true i t o (fact_at (known_facts k) r.0) u r.2 in
      let on = find-true k.cells h.chained p n i f in
      let G : RowFact → Type 0 = λ y. Among y (known_facts k) in
      let F : Point → Type 0 = λ y. Needs P (known_facts k) (point p n) y in
      subst F (sym a.3) (need-turn p n i g w t a.0 a.1 e (record { within = on.within; fact = on.fact })
      (subst G a.2 (among-at (known_facts k) r.0 (h.turns_within i r.0 r.1))) a.4)

  first-true : (n i x y o v : ℕ) (u : Point) (f : RowFact) → node_at P n ≡ node.Next x y o v
      → fact_at (known_facts k) i ≡ f → Among u (first_by P (known_facts k) o f)
      → Needs P (known_facts k) (point (Below i 0) n) u
  first-true n i x y o v u (On q c) e s m = go (binder P o) refl m
    where
      go : (b : Option ℕ) → binder P o ≡ b → Among u (seen_at (out_of (known_facts k) (far_from P c b) q) b)
          → Needs P (known_facts k) (point (Below i 0) n) u
      go None b m = absurd m
      go (Some d) b (inl r) =
          let F : Point → Type 0 = λ w. Needs P (known_facts k) (point (Below i 0) n) w in
          subst F (sym r) (need-first q n i c x y o v d e s b)
      go (Some d) b (inr r) = absurd r
  first-true n i x y o v u (Has p a w) e s m = absurd m
  first-true n i x y o v u (Shape a lo hi) e s m = absurd m
  first-true n i x y o v u (Put p a t j w) e s m = absurd m
  first-true n i x y o v u (Ask p a t j) e s m = absurd m

  before-true : (n x y o v : ℕ) (u : Point) (p : Trail) → node_at P n ≡ node.Next x y o v
      → Among u (before P (known_facts k) o v p) → Needs P (known_facts k) (point p n) u
  before-true n x y o v u Outermost e m = absurd m
  before-true n x y o v u (Below i j) e m = go (nat_eq j 0) refl m
    where
      go : (b : Truth) → nat_eq j 0 ≡ b
          → Among u (if b then first_by P (known_facts k) o (fact_at (known_facts k) i)
          else point (Below i (j - 1)) v ∷ []) → Needs P (known_facts k) (point (Below i j) n) u
      go true b m =
          let F : ℕ → Type 0 = λ a. Needs P (known_facts k) (point (Below i a) n) u in
          subst F (sym (eqb-true j 0 b)) (first-true n i x y o v u (fact_at (known_facts k) i) e refl m)
      go false b (inl r) =
          let un = eqb-false j 0 b in
          let more : suc (j - 1) ≡ j = omega arith in
          let F : ℕ → Type 0 = λ a. Needs P (known_facts k) (point (Below i a) n) (point (Below i (j - 1)) v) in
          let G : Point → Type 0 = λ w. Needs P (known_facts k) (point (Below i j) n) w in
          subst G (sym r) (subst F more (need-next n i x y o v (j - 1) e))
      go false b (inr r) = absurd r

  called-true : (n x : ℕ) (z : Kind) (u : Point) (p : Trail) → node_at P n ≡ node.Param x z
      → Among u (passed P l (known_facts k) n p) → Needs P (known_facts k) (point p n) u
  called-true n x z u Outermost e m = absurd m
  called-true n x z u (Below i j) e m = go (nat_eq j 0) refl m
    where
      go : (b : Truth) → nat_eq j 0 ≡ b → Among u (if b then passed_by P l n (fact_at (known_facts k) i) else [])
          → Needs P (known_facts k) (point (Below i j) n) u
      go true b m =
          let F : ℕ → Type 0 = λ a. Needs P (known_facts k) (point (Below i a) n) u in
          subst F (sym (eqb-true j 0 b)) (passed-true n i x z u (fact_at (known_facts k) i) e refl m)
      go false b m = absurd m

  others-true : (p : Trail) (n : ℕ) (u : Point) (z : Node) → node_at P n ≡ z → Among u (others P l k p n z)
      → Needs P (known_facts k) (point p n) u
  others-true p n u (node.Name x) e m = seen-true p p n x u (binder P n) e refl m
  others-true p n u (node.If s x y) e m = tests-true p n s x y u (test_of (node_at P s)) e refl m
  others-true p n u (node.Call a c) e m = body-true p n a c u (find k.cells p n) (body_in (callee_of P a)) e refl refl m
  others-true p n u (node.Param x z) e m = called-true n x z u p e m
  others-true p n u (node.Loop g w t) e m = turns-true p n g w t u (find k.cells p n) e refl m
  others-true p n u (node.Next x y o v) e m = before-true n x y o v u p e m
  others-true p n u _ e m = absurd m

  wanted-true : (p : Trail) (n a : ℕ) (z : Node) → node_at P n ≡ z → Among a (wanted (rows P) z)
      → Needs P (known_facts k) (point p n) (point p a)
  wanted-true p n a (node.Binding x b) e (inl q) =
      let F : ℕ → Type 0 = λ w. Needs P (known_facts k) (point p n) (point p w) in
      subst F (sym q) (need-binding p n x b e)
  wanted-true p n a (node.Binding x b) e (inr q) = absurd q
  wanted-true p n a z e m =
      let F : Node → Type 0 = λ w. Among a (parts_turned (rows P) w) in
      need-part p n a (subst F (sym e) m)

  -- ---- all

  pub needs-true : (t u : Point) → Among u (needs P l k t (asks k t)) → Needs P (known_facts k) t u
  needs-true t u m = elim (Among-either u (things_at t.path (wanted (rows P) (node_at P t.row))) (rest) m) [
    | inl a ↦
        (let r = Among-from_map (point t.path) u (wanted (rows P) (node_at P t.row)) a in
        let F : Point → Type 0 = λ y. Needs P (known_facts k) t y in
        subst F (sym r.2) (wanted-true t.path t.row r.0 (node_at P t.row) refl r.1))
    | inr a ↦ elim (Among-either u (others P l k t.path t.row (node_at P t.row)) (fillers P k (asks k t)) a) [
      | inl b ↦ others-true t.path t.row u (node_at P t.row) refl b
      | inr b ↦
          (let r = fillers-true (asks k t) u b in
          need-store t u r.0.name r.0.index (asks-true P k h t r.0 r.1) r.2)
    ]
  ]
    where
      rest : List Point
      rest = others P l k t.path t.row (node_at P t.row) ++ fillers P k (asks k t)

  module _ (apart : AreApart (known_facts k)) where
    find-is : (p : Trail) (n i : ℕ) → IsOnBy (known_facts k) i p n → find k.cells p n ≡ Some i
    find-is p n i on =
        let G : RowFact → Type 0 = λ y. Among y (known_facts k) in
        let r = find-all k.cells h.chained p n (subst G on.fact (among-at (known_facts k) i on.within)) in
        let o = find-true k.cells h.chained p n r.0 r.1 in
        r.1 ∙ ap (λ y. Some y) (apart r.0 i o.within on.within (o.fact ∙ sym on.fact))

    -- what others need, by the node that stands there
    by-node : (p : Trail) (n : ℕ) (u : Point) (z : Node) → node_at P n ≡ z → Among u (others P l k p n z)
        → Among u (others P l k p n (node_at P n))
    by-node p n u z e m =
        let F : Node → Type 0 = λ y. Among u (others P l k p n y) in
        subst F (sym e) m

    own : (p : Trail) (n a : ℕ) → Among a (wanted (rows P) (node_at P n))
        → Among (point p a) (needs P l k (point p n) (asks k (point p n)))
    own p n a m =
        Among-left (point p a) (things_at p (wanted (rows P) (node_at P n)))
        (others P l k p n (node_at P n) ++ fillers P k (asks k (point p n)))
        (Among-map (point p) a (wanted (rows P) (node_at P n)) m)

    other : (p : Trail) (n : ℕ) (u : Point) (z : Node) → node_at P n ≡ z → Among u (others P l k p n z)
        → Among u (needs P l k (point p n) (asks k (point p n)))
    other p n u z e m =
        let F : Node → Type 0 = λ y. Among u (others P l k p n y) in
        Among-right u (things_at p (wanted (rows P) (node_at P n)))
        (others P l k p n (node_at P n) ++ fillers P k (asks k (point p n)))
        (Among-left u (others P l k p n (node_at P n)) (fillers P k (asks k (point p n))) (subst F (sym e) m))

    -- the argument of a call
    argument-in : (p : Trail) (n i c v : ℕ) → fact_at (known_facts k) i ≡ On p c → (a : IsArgument P c n v)
        → Among (point p v) (passed_by P l n (fact_at (known_facts k) i))
    argument-in p n i c v q a =
        let F : RowFact → Type 0 = λ f. Among (point p v) (passed_by P l n f) in
        let G : Node → Type 0 = λ z. Among (point p v) (passed_at P l p n z) in
        let H : Node → Type 0 = λ z. Among (point p v) (arguments_of P l p n a.enter (head_in z)) in
        let led : Leads l.args a.enter a.arg =
        args.all a.arg a.enter (arg-within P a.arg a.enter a.index v a.argument) a.within
        (ap (asker_of (at (rows P) a.arg).block) a.argument) in
        subst F (sym q) (subst G (sym a.call) (subst H (sym a.callee)
        (arguments-all P p n a.enter a.head (targets l.args.rows.items a.enter) a.arg a.index v led a.argument
        a.behind)))

    -- what the name of a variable means outside
    first-in : (p : Trail) (i c o b : ℕ) → fact_at (known_facts k) i ≡ On p c → binder P o ≡ Some b
        → Among (point (out_of (known_facts k) (far_from P c (Some b)) p) b)
        (first_by P (known_facts k) o (fact_at (known_facts k) i))
    first-in p i c o b q s =
        let u = point (out_of (known_facts k) (far_from P c (Some b)) p) b in
        let F : RowFact → Type 0 = λ f. Among u (first_by P (known_facts k) o f) in
        let G : Option ℕ → Type 0 = λ d. Among u (seen_at (out_of (known_facts k) (far_from P c d) p) d) in
        subst F (sym q) (subst G (sym s) (inl refl))

    -- in a later iteration
    next-in : (i j o v : ℕ) → Among (point (Below i j) v) (before P (known_facts k) o v (Below i (suc j)))
    next-in i j o v =
        let un : nat_eq (suc j) 0 ≡ false = ne_eqb (suc j) 0 (λ e. absurd (omega arith)) in
        let back : j ≡ suc j - 1 = omega arith in
        let F : Truth → Type 0 = λ b. Among (point (Below i j) v)
        (if b then first_by P (known_facts k) o (fact_at (known_facts k) i) else point (Below i (suc j - 1)) v ∷ []) in
        subst F (sym un) (inl (ap (λ y. point (Below i y) v) back))

    pub needs-all : (t u : Point) → Needs P (known_facts k) t u → Among u (needs P l k t (asks k t))
    needs-all t u (need-part p n a m) = own p n a (wanted-parts P (node_at P n) a m)
    needs-all t u (need-binding p n x a e) =
        let F : Node → Type 0 = λ y. Among a (wanted (rows P) y) in
        own p n a (subst F (sym e) (inl refl))
    needs-all t u (need-name p n x b e q) =
        let w = point (out_of (known_facts k) (far_from P n (Some b)) p) b in
        let F : Option ℕ → Type 0 = λ o. Among w (seen_at (out_of (known_facts k) (far_from P n o) p) o) in
        other p n w (node.Name x) e (subst F (sym q) (inl refl))
    needs-all t u (need-arm p n s x y a b e q m) =
        let w = point p (arm_of b x y) in
        let F : Option ℕ → Type 0 = λ o. Among w (arms p x y (tested k p o)) in
        other p n w (node.If s x y) e
        (subst F (sym q) (arms-all p x y (values k p a) b (values-all P k h p a (Bool b) m)))
    needs-all t u (need-body p n i e c x g b z s on q) =
        let w = point (Below i 0) b in
        let G : Option ℕ → Type 0 = λ o. Among w (body_by o (body_in (callee_of P e))) in
        let H : Node → Type 0 = λ d. Among w (body_by (Some i) (body_in d)) in
        other p n w (node.Call e c) s (subst G (sym (find-is p n i on)) (subst H (sym q) (inl refl)))
    needs-all t u (need-argument p n i c x v z e q a) =
        other (Below i 0) n (point p v) (node.Param x z) e (argument-in p n i c v q a)
    needs-all t u (need-turn p n i g w d j m e on f q) =
        let o = test_of_loop (rows P) (node_at P w) in
        let v = point (Below i j) m in
        let G : Option ℕ → Type 0 = λ y. Among v (turns_at k d o y) in
        let r = index-of (On (Below i j) m) (known_facts k) f in
        let led : Leads k.turns i r.0 = h.turns r.0 i r.1 on.within (ap spot_by r.2) in
        other p n v (node.Loop g w d) e (subst G (sym (find-is p n i on))
        (told-all (turn_by i d o) (known_facts k) (targets k.turns.rows.items i) r.0 v led (ap (turn_by i d o) r.2
        ∙ turn-is i d o j m q)))
    needs-all t u (need-first p n i c x y o v b e q s) =
        other (Below i 0) n (point (out_of (known_facts k) (far_from P c (Some b)) p) b) (node.Next x y o v) e
        (first-in p i c o b q s)
    needs-all t u (need-next n i x y o v j e) =
        other (Below i (suc j)) n (point (Below i j) v) (node.Next x y o v) e (next-in i j o v)
    needs-all t u (need-store _ _ s j m f) =
        Among-right u (things_at t.path (wanted (rows P) (node_at P t.row)))
        (others P l k t.path t.row (node_at P t.row) ++ fillers P k (asks k t))
        (Among-right u (others P l k t.path t.row (node_at P t.row)) (fillers P k (asks k t))
        (fillers-all (asks k t) u (record { name = s; index = j }) (asks-all P k h t (record { name = s; index = j }) m)
        f))
