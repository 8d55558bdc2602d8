-- Where the binder that a name has stands: round the name, or round the loop that has its first value by the name.
use Rattle.std.proofs.Common.{◌≡◌, ◌⊎◌, inl, inr, ◌+◌, ◌-◌, ◌<◌, ◌≤◌, ℕ, zero, suc, Bool as Truth, true, false, List}
use Rattle.std.proofs.Common.{Some, None, length, refl, ap, sym, ◌∙◌, subst, arith}
use Rattle.std.specs.Prelude.{◌&&◌, ◌||◌}
use Rattle.std.proofs.lemmas.Bool.{cases_eq, cases_lt, false≢true}
use Rattle.std.proofs.lemmas.Bool.Decides.{nat_tests}
use Rattle.id_value.specs.declared.Kind.{Kind}
use Rattle.id_table.specs.declared.row.Region.{Region}
use Rattle.id_table.specs.declared.row.Row.{Row}
use Rattle.id_table.specs.declared.row.Node.{Node}
use Rattle.id_table.specs.declared.row.Node.TheVariants.{Head, Param, Name, Block, Binding, Def, Start, LoopHead}
use Rattle.id_table.specs.declared.row.Node.TheVariants.{Count, Index, NextUse, Next, Body, Span, Loop}
use Rattle.id_table.specs.Rows.{arm_at, at, top}
use Rattle.id_table.specs.Tables.{around, has_statements, is_head, is_index, is_next, is_param, is_split, is_statement}
use Rattle.id_table.specs.Tables.{is_switches, is_top}
use Rattle.id_table.specs.Loops.{InSide, IsBody, IsLoop, IsLoopOf, IsTurn, StandsInSide, behind_count, index_row, right}
use Rattle.id_table.specs.Regions.{Lies, StandsInArm, here, in_arm, in_loop, in_side}
use Rattle.id_table.specs.Turns.{AreParamsOf, IsTable, in_block}
use Rattle.id_table.proofs.BlocksLemmas.{not_last}
use Rattle.id_table.proofs.RegionLemmas.{InArm-within, Lies-trans}
use Rattle.id_check.specs.Scopes.{bound_name, closes, confines, held, looks, sees_own, takes}

-- the home of a binder's value is where the binder stands, and for a loop's variable the beginning of the loop
abbrev pub home_in : ℕ → Region → Node → Region
home_in b r (Next x k o v) = top b
home_in b r n = r

abbrev pub home : List Row → ℕ → Region
home R b = home_in (at R b).block (at R b).region (at R b).node

-- ---- tests

or_left : (a b : Truth) → a ≡ true → (a || b) ≡ true
or_left true b e = refl
or_left false b e = absurd (false≢true e)

or_right : (a b : Truth) → b ≡ true → (a || b) ≡ true
or_right true b e = refl
or_right false b e = e

and_first : (a b : Truth) → (a && b) ≡ true → a ≡ true
and_first true b e = refl
and_first false b e = e

and_second : (a b : Truth) → (a && b) ≡ true → b ≡ true
and_second true b e = e
and_second false b e = cc

around_is : (R : List Row) (s i : ℕ) → (at R s).first ≤ i → i < s → around R s i ≡ true
around_is R s i e f = grind (arith, nat_tests)

around_from : (R : List Row) (s i : ℕ) → around R s i ≡ true → (at R s).first ≤ i
around_from R s i e = grind (arith, nat_tests)

around_below : (R : List Row) (s i : ℕ) → around R s i ≡ true → i < s
around_below R s i e = grind (arith, nat_tests)

-- ---- what is held

-- a row is held from the scope on that is its outermost
held_from : (R : List Row) (b n s : ℕ) → n < s → confines R n b ≡ true → held R b s ≡ true
held_from R b n zero less e = absurd (omega arith)
held_from R b n (suc s) less e = by (cases_lt n s) (λ c. held_from R b n s c e)
  where
    by : (n < s) ⊎ (s ≤ n) → (n < s → held R b s ≡ true) → held R b (suc s) ≡ true
    by (inl c) r = or_left (held R b s) (confines R s b) (r c)
    by (inr c) r =
        let same : n ≡ s =
        omega arith in or_right (held R b s) (confines R s b) (subst (λ k. confines R k b ≡ true) same e)

-- what is held has such a scope
held_by : (R : List Row) (b s : ℕ) → held R b s ≡ true → (n : ℕ) × (n < s) × (confines R n b ≡ true)
held_by R b zero e = absurd (false≢true e)
held_by R b (suc s) e = by (held R b s) refl e (held_by R b s)
  where
    by : (t : Truth) → held R b s ≡ t → (t || confines R s b) ≡ true
        → (held R b s ≡ true → (n : ℕ) × (n < s) × (confines R n b ≡ true))
        → (n : ℕ) × (n < suc s) × (confines R n b ≡ true)
    by true f g r = let w = r f in let c = w.1 in (w.0, omega arith, w.2)
    by false f g r = (s, omega arith, g)

-- of a binding these are blocks and bodies
closes_binding : (m : Node) (y a : ℕ) → closes m (Binding y a) ≡ has_statements m
closes_binding (Block b) y a = refl
closes_binding Body y a = refl
closes_binding Span y a = refl
closes_binding _ y a = refl

pub held_binding : (R : List Row) (b n y a : ℕ) → (at R b).node ≡ Binding y a → held R b n ≡ in_block R b n
held_binding R b zero y a e = refl
held_binding R b (suc s) y a e =
    ap (λ z. z || confines R s b) (held_binding R b s y a e)
    ∙ ap (λ z. in_block R b s || (z && around R s b)) (ap (closes (at R s).node) e ∙ closes_binding (at R s).node y a)

-- ---- loops

-- the `Turn` and the body of a loop stand behind its switches
turn_low : {R : List Row} {w v c : ℕ} → IsTurn R w v c → w < v
turn_low (right e) = omega arith
turn_low (behind_count e f g) = omega arith

pub body_low : {R : List Row} {h w v b c : ℕ} → IsBody R h w v b c → w < b
body_low z = let l = turn_low z.turns in omega (arith, z.low)

-- a row in a side of switches stands behind them
side_low : (w b n i : ℕ) (c : Truth) → w < b → InSide w b n c i → w < i
side_low w b n i true low h = h.0
side_low w b n i false low h = omega (arith, low, h.0)

-- behind the switches of a loop with an index stand what counts and the `Turn`
counted : {R : List Row} {w v c : ℕ} → IsTurn R w v c → c ≡ 3 → (v ≡ w + 2) × ((at R (w + 1)).node ≡ Count)
counted (right f) g = absurd (omega arith)
counted (behind_count f g h) k = (f, g)

abbrev start_or : ℕ → Node → ℕ
start_or d (LoopHead s) = s
start_or d _ = d

abbrev switches_or : ℕ → Node → ℕ
switches_or d (Loop h w l) = w
switches_or d _ = d

module _ (R : List Row) (t : IsTable R) where
  -- the rows of a loop from its head on, before its `Span`, lie in its beginning
  pub inside_loop : (n h : ℕ) → IsLoopOf R n h → (i : ℕ) → h ≤ i → i + 1 < n → Lies R (top h) (at R i).region
  inside_loop n h c i low high = by (cases_lt c.switches i) (cases_lt l.body i)
    where
      l : IsLoop R n h c.switches c.last
      l = t.loop_is n h c

      side : (b : Truth) → Lies R (top h) (arm_at c.switches b)
      side b =
          let e = body_low (l.body_is) in
          let f = (l.last_is).low in
          let g = (l.last_is).ends in
          let k = c.within in
          in_side (omega arith) (ap is_switches (l.test).node) (subst (Lies R (top h)) (sym (l.test).region) here)

      by : (c.switches < i) ⊎ (i ≤ c.switches) → (l.body < i) ⊎ (i ≤ l.body) → Lies R (top h) (at R i).region
      by (inr e) f = (l.test).each i low e
      by (inl e) (inr f) = Lies-trans R (side true) ((l.body_is).each i e f)
      by (inl e) (inl f) = Lies-trans R (side false) ((l.last_is).each i f high)

  -- where a loop's `Span` stands, behind the last expression and the `Reset`
  abbrev span_of : (n h : ℕ) → IsLoopOf R n h → ℕ
  span_of n h c = c.last + 2

  span_is : (n h : ℕ) (c : IsLoopOf R n h) → (at R (span_of n h c)).node ≡ Span
  span_is n h c = (t.loop_is n h c).last_is.span

  span_first : (n h : ℕ) (c : IsLoopOf R n h) → (at R (span_of n h c)).first ≡ (t.loop_is n h c).start
  span_first n h c = (t.loop_is n h c).last_is.span_first

  span_ends : (n h : ℕ) (c : IsLoopOf R n h) → span_of n h c + 1 ≡ n
  span_ends n h c = let e = (t.loop_is n h c).last_is.ends in omega arith

  span_start : (m n h : ℕ) (c : IsLoopOf R n h) → m + 1 ≡ n → (at R m).first ≡ (t.loop_is n h c).start
  span_start m n h c e =
      let f = span_ends n h c in
      let same : span_of n h c ≡ m = omega arith in
      ap (λ k. (at R k).first) (sym same) ∙ span_first n h c

  -- a row behind a loop's `Start` stands behind its head, or is that
  head_before : (n h : ℕ) (c : IsLoopOf R n h) (i : ℕ) → (t.loop_is n h c).start ≤ i → ((at R i).node ≡ Start → ⊥)
      → h ≤ i
  head_before n h c i low other = by (cases_lt (t.loop_is n h c).start i)
    where
      by : ((t.loop_is n h c).start < i) ⊎ (i ≤ (t.loop_is n h c).start) → h ≤ i
      by (inl g) = let e = (t.loop_is n h c).begins in omega arith
      by (inr g) =
          let same : i ≡ (t.loop_is n h c).start = omega arith in
          absurd (other (ap (λ k. (at R k).node) same ∙ ((t.loop_is n h c).start_of).node))

  and_is : (a b : Truth) → a ≡ true → b ≡ true → (a && b) ≡ true
  and_is true b f g = g
  and_is false b f g = f

  -- a scope that takes what another one closes is not behind that
  not_before : (n s b : ℕ) → held R b s ≡ false → confines R n b ≡ true → s ≤ n
  not_before n s b f g = elim (cases_lt n s) [
    | inl h ↦ absurd (false≢true (sym f ∙ held_from R b n s h g))
    | inr h ↦ h
  ]

  -- and where it stands in that, so do its rows
  outside : (n s : ℕ) → n < length R → (at R n).first ≤ s → s ≤ n → (at R n).first ≤ (at R s).first
  outside n s f g h = elim (cases_lt s n) [
    | inl j ↦ (t.nested).each s n j f g
    | inr j ↦ let same : s ≡ n = omega arith in let z = ap (λ k. (at R k).first) same in omega arith
  ]

  -- what is seen where a loop's variable is stands in the loop
  next_inside : (s b i x k o v : ℕ) → (at R b).node ≡ Next x k o v → b < length R → s < length R → around R s b ≡ true
      → held R b s ≡ false → around R s i ≡ true → ((at R i).node ≡ Start → ⊥)
      → Lies R (top (at R b).block) (at R i).region
  next_inside s b i x k o v e less within inside bare round other =
      let q = t.next_in b (at R b).block k x (record { outer = o; value = v; within = less; block = refl; node = e }) in
      let n = q.0 in
      let c = q.1 in
      let d = c.within in
      let m = span_of n (at R b).block c in
      let ends : m + 1 ≡ n = span_ends n (at R b).block c in
      let node : (at R m).node ≡ Span = span_is n (at R b).block c in
      let first = span_first n (at R b).block c in
      let begins = (t.loop_is n (at R b).block c).begins in
      let behind = (q.2).behind in
      let below : b < m = before m behind ends node in
      let low : (at R b).block ≤ b = (t.block b (omega arith)).0 in
      let shuts : closes (at R m).node (at R b).node ≡ true =
      ap (λ z. closes z (at R b).node) node ∙ ap (closes Span) e in
      let own : confines R m b ≡ true =
      and_is (closes (at R m).node (at R b).node) (around R m b) shuts (around_is R m b (omega arith) below) in
      let outer : s ≤ m = not_before m s b bare own in
      let j = around_below R s b inside in
      let out : (at R m).first ≤ (at R s).first = outside m s (omega arith) (omega arith) outer in
      let p = around_from R s i round in
      let r = around_below R s i round in
      inside_loop n (at R b).block c i (head_before n (at R b).block c i (omega arith) other) (omega arith)
    where
      before : (m : ℕ) {n : ℕ} → b < n → m + 1 ≡ n → (at R m).node ≡ Span → b < m
      before m l f g = elim (cases_lt b m) [
        | inl h ↦ h
        | inr h ↦ let same : b ≡ m = omega arith in
            absurd (false≢true (sym (ap is_next (sym e ∙ ap (λ k. (at R k).node) same ∙ g))))
      ]

  -- a loop with the use of a first value in it is the one whose variable has that, or round it
  own_loop_first : (o x n m h : ℕ) → (at R o).node ≡ NextUse x → o + 1 < length R → IsLoopOf R n (at R o).block → o < n
      → (d : IsLoopOf R m h) → (t.loop_is m h d).start ≤ o → o + 1 < m → n ≤ m
  own_loop_first o x n m h e less c below d round inside = elim (cases_lt m n) [
    | inl f ↦ absurd (never f)
    | inr f ↦ f
  ]
    where
      no_start : (at R o).node ≡ Start → ⊥
      no_start f = let z : NextUse x ≡ Start = sym e ∙ f in absurd (false≢true (sym (ap is_start z)))
        where
          is_start : Node → Truth
          is_start Start = false
          is_start _ = true

      never : m < n → ⊥
      never f =
          let k = t.loop_is n (at R o).block c in
          let l = t.loop_is m h d in
          let a = k.begins in
          let p = l.begins in
          let low = (t.block o less).0 in
          let in_rows = c.within in
          let g = span_ends n (at R o).block c in
          let j = span_ends m h d in
          let q = span_first n (at R o).block c in
          let r = span_first m h d in
          let head = head_before m h d o round no_start in
          let up : h ≤ (at R o).block = l.blocks o head inside in
          let down : (at R (span_of n (at R o).block c)).first ≤ (at R (span_of m h d)).first =
          (t.nested).each (span_of m h d) (span_of n (at R o).block c) (omega arith) (omega arith) (omega arith) in
          let same : h ≡ (at R o).block = omega arith in
          let one = t.one_loop m n (at R o).block (subst (IsLoopOf R m) same d) c in
          omega arith

  -- a scope that the use of a first value sees is round its loop
  pub seen_outside : (o x n s : ℕ) → (at R o).node ≡ NextUse x → o + 1 < length R → IsLoopOf R n (at R o).block → o < n
      → s < length R → looks (at R s).node (NextUse x) ≡ true → around R s o ≡ true
      → (sees_own (NextUse x) || held R o s) ≡ true → around R s n ≡ true
  seen_outside o x n s e less c below in_rows look round out =
      let w = held_by R o s out in
      let m = w.0 in
      let before = w.1 in
      let span =
      closing_span (at R m).node x (sym (ap (closes (at R m).node) e)
      ∙ and_first (closes (at R m).node (at R o).node) (around R m o) w.2) in
      let inside = and_second (closes (at R m).node (at R o).node) (around R m o) w.2 in
      let from = around_from R m o inside in
      let to = around_below R m o inside in
      let z = t.span_of_loop m (omega arith) span in
      let ends : m + 1 ≡ z.0 = z.3 in
      let start = span_start m z.0 z.1 z.2 ends in
      let first = around_from R s o round in
      let low = own_loop_first o x n z.0 z.1 e less c below z.2 (omega arith) (omega arith) in
      around_is R s n (omega arith) (no_loop (omega arith))
    where
      closing_span : (m : Node) (x : ℕ) → closes m (NextUse x) ≡ true → m ≡ Span
      closing_span Span x f = refl
      closing_span _ x f = absurd (false≢true f)

      no_loop : n ≤ s → n < s
      no_loop f = elim (cases_lt n s) [
        | inl g ↦ g
        | inr g ↦ let same : s ≡ n = omega arith in
            absurd (false≢true
            (sym (ap (λ k. looks (at R k).node (NextUse x)) same ∙ ap (λ m. looks m (NextUse x)) c.node) ∙ look))
      ]

  -- ---- where an index stands

  -- the head of the region of a row is no later row
  head_low : (i : ℕ) → i + 1 < length R → ((at R i).region).head ≤ i
  head_low i l = elim (t.region i l) [
    | inl k ↦ let e = ap (λ (r : Region). r.head) k in let low = (t.block i l).0 in omega (arith, e, low)
    | inr (inl k) ↦
        let e = ap (λ (r : Region). r.head) k.region in
        let a = InArm-within R t k.row k.split i k.side k.conditional k.among in
        omega (arith, e, a.0)
    | inr (inr k) ↦
        let e = ap (λ (r : Region). r.head) k.region in
        let a = side_low k.loop.switches k.body k.row i k.side (body_low k.body_is) k.among in
        omega (arith, e, a)
  ]

  -- the head of a region that lies in another stands behind that one's, or is it
  heads_rise : {q r : Region} → Lies R q r → q.head ≤ r.head
  heads_rise here = omega arith
  heads_rise (in_arm {s = s} w k l) =
      let low = heads_rise l in
      let e = head_low s (not_last R t is_split refl s w k) in
      omega (arith, low, e)
  heads_rise (in_loop {h = h} {s = s} w k l) =
      let low = heads_rise l in
      let d = t.has_loop h s w k in
      let x = t.loop_is d.0 h d.1 in
      let same : s ≡ h - 1 = ap (start_or 0) (sym k ∙ x.before_test.head) in
      let e = head_low s (omega (arith, same, x.begins, w)) in
      omega (arith, low, e, same)
  heads_rise (in_side {w = w} l k m) =
      let low = heads_rise m in
      let e = head_low w (not_last R t is_switches refl w l k) in
      omega (arith, low, e)

  -- an index stands right in the body of its loop
  module _ (b x : ℕ) (e : (at R b).node ≡ Index x) (less : b < length R) where
    abbrev index_loop : (n : ℕ) × (c : IsLoopOf R n (at R b).block) × ((t.loop_is n (at R b).block c).carried ≡ 3)
        × (index_row c.switches ≡ b)
    index_loop = t.index_of b x less e

    abbrev h : ℕ
    h = (at R b).block

    abbrev n : ℕ
    n = index_loop.0

    abbrev c : IsLoopOf R n h
    c = index_loop.1

    abbrev l : IsLoop R n h c.switches c.last
    l = t.loop_is n h c

    index_is : c.switches + 3 ≡ b
    index_is = index_loop.3

    counts : (l.turn ≡ c.switches + 2) × ((at R (c.switches + 1)).node ≡ Count)
    counts = counted (l.body_is).turns index_loop.2

    index_low : b < l.body
    index_low = elim (cases_lt b l.body) [
      | inl f ↦ f
      | inr f ↦ let g = (l.body_is).low in
          let same : b ≡ l.body = omega (arith, f, g, counts.0, index_is) in
          absurd (false≢true (sym (ap is_index (sym e ∙ ap (λ k. (at R k).node) same ∙ (l.body_is).node))))
    ]

    index_first : (at R l.body).first ≡ b
    index_first = let f = (l.body_is).first in omega (arith, f, counts.0, index_is)

    index_lies : Lies R (arm_at c.switches true) (at R b).region
    index_lies = (l.body_is).each b (omega (arith, index_is)) (omega (arith, index_low))

    index_region : (at R b).region ≡ arm_at c.switches true
    index_region = elim (t.region b (not_last R t is_index refl b less (ap is_index e))) [
      | inl k ↦
          let f = heads_rise (subst (Lies R (arm_at c.switches true)) k index_lies) in
          let g = (l.before_test).low in
          let j = (l.test).low in
          let m = (l.test).behind in
          absurd (omega (arith, f, g, j, m))
      | inr (inl k) ↦ absurd (in_no_arm k)
      | inr (inr k) ↦ in_body k k.side refl
    ]
      where
        at_split : {m : Node} {s : ℕ} (k : StandsInArm R b) → k.split ≡ s → (at R s).node ≡ m → is_split m ≡ false → ⊥
        at_split k f g j =
            false≢true
            (sym (sym (ap is_split ((t.split_of k.row k.split k.conditional).node)) ∙ ap (λ z. is_split (at R z).node) f
            ∙ ap is_split g ∙ j))

        in_no_arm : StandsInArm R b → ⊥
        in_no_arm k =
            let f = heads_rise (subst (Lies R (arm_at c.switches true)) k.region index_lies) in
            let g = (InArm-within R t k.row k.split b k.side k.conditional k.among).0 in
            elim (cases_eq k.split c.switches) [
              | inl j ↦ at_split k j (l.test).node refl
              | inr j ↦ elim (cases_eq k.split (c.switches + 1)) [
                | inl m ↦ at_split k m counts.1 refl
                | inr m ↦ at_split k (omega (arith, f, g, j, m, index_is, counts.0)) (l.body_is).turn refl
              ]
            ]

        in_body : (k : StandsInSide R b) (a : Truth) → k.side ≡ a → (at R b).region ≡ arm_at c.switches true
        in_body k a f = of a f k.region k.among
          where
            same_row : k.row ≡ n
            same_row = t.one_loop k.row n h k.loop c

            same : (k.loop).switches ≡ c.switches
            same = ap (switches_or 0) (sym (k.loop).node ∙ ap (λ z. (at R z).node) same_row ∙ c.node)

            of : (a : Truth) → k.side ≡ a → (at R b).region ≡ arm_at (k.loop).switches k.side
                → InSide (k.loop).switches k.body k.row k.side b → (at R b).region ≡ arm_at c.switches true
            of true g j m = j ∙ ap (λ z. arm_at z k.side) same ∙ ap (arm_at c.switches) g
            of false g j m =
                let behind : k.body < b = (subst (λ z. InSide (k.loop).switches k.body k.row z b) g m).0 in
                let low = (k.body_is).low in
                let turn = turn_low (k.body_is).turns in
                let at_turn : k.body ≡ l.turn = omega (arith, behind, low, turn, same, counts.0, index_is) in
                absurd (false≢true
                (ap has_statements (sym (l.body_is).turn ∙ ap (λ z. (at R z).node) (sym at_turn) ∙ (k.body_is).node)))

    -- what is seen where an index is stands in the body
    index_inside : (s i : ℕ) → s < length R → around R s b ≡ true → held R b s ≡ false → around R s i ≡ true
        → Lies R (at R b).region (at R i).region
    index_inside s i within inside bare round =
        let d = l.body in
        let first = index_first in
        let below = index_low in
        let in_rows = c.within in
        let behind = (l.last_is).low in
        let ends = (l.last_is).ends in
        let shuts : closes (at R d).node (at R b).node ≡ true =
        ap (λ z. closes z (at R b).node) (l.body_is).node ∙ ap (closes Body) e in
        let own : confines R d b ≡ true =
        and_is (closes (at R d).node (at R b).node) (around R d b) shuts (around_is R d b (omega arith) below) in
        let outer : s ≤ d = not_before d s b bare own in
        let j = around_below R s b inside in
        let out : (at R d).first ≤ (at R s).first = outside d s (omega arith) (omega arith) outer in
        let p = around_from R s i round in
        let r = around_below R s i round in
        let at_index = index_is in
        subst (λ q. Lies R q (at R i).region) (sym index_region) ((l.body_is).each i (omega arith) (omega arith))

  -- ---- definitions

  -- what lies in the region of a procedure's body is that
  lies_head : (h : ℕ) (q : Region) → (at R h).node ≡ Head → Lies R q (top h) → q ≡ top h
  lies_head h q e l = from (top h) l refl
    where
      no_split : (s : ℕ) → is_split (at R s).node ≡ true → s ≡ h → ⊥
      no_split s f g = false≢true (sym (ap is_split (ap (λ k. (at R k).node) g ∙ e)) ∙ f)

      no_loop : (s k : ℕ) → (at R s).node ≡ LoopHead k → s ≡ h → ⊥
      no_loop s k f g = false≢true (ap is_head (sym f ∙ ap (λ k. (at R k).node) g ∙ e))

      no_side : (s : ℕ) → is_switches (at R s).node ≡ true → s ≡ h → ⊥
      no_side s f g = false≢true (sym (ap is_switches (ap (λ k. (at R k).node) g ∙ e)) ∙ f)

      from : (r : Region) → Lies R q r → r ≡ top h → q ≡ r
      from r here g = refl
      from r (in_arm {s} w f m) g = absurd (no_split s f (ap (λ (z : Region). z.head) g))
      from r (in_loop {h = k} {s} w f m) g = absurd (no_loop k s f (ap (λ (z : Region). z.head) g))
      from r (in_side {w = s} w f m) g = absurd (no_side s f (ap (λ (z : Region). z.head) g))

  -- a parameter in a definition stands where that does
  param_home : (s b y h c z : ℕ) (q k : Kind) → (at R s).node ≡ Def y h q c → (at R b).node ≡ Param z k → s < length R
      → b < length R → around R s b ≡ true → s + 1 < length R
      → (at R s).region ≡ (at R b).region
  param_home s b y h c z q k f g less within inside inner =
      let d = t.head_is s y h c q less f in
      let ps = t.params s h (record { name = y; result = q; body = c; within = less; node = f }) in
      let low = around_from R s b inside in
      let high = around_below R s b inside in
      let first = d.1 in
      let behind : h < b = strictly (omega arith) d.0 in
      let block : (at R b).block ≡ h = own ps behind high in
      let top_b : (at R b).region ≡ top h = t.at_top b within (ap is_top g) ∙ ap top block in
      lies_head h (at R s).region d.0 (subst (Lies R (at R s).region) top_b (t.inside s b inner inside)) ∙ sym top_b
    where
      strictly : h ≤ b → (at R h).node ≡ Head → h < b
      strictly l e = elim (cases_lt h b) [
        | inl m ↦ m
        | inr m ↦ let same : b ≡ h =
            omega arith in absurd (false≢true (sym (ap is_param (ap (λ k. (at R k).node) same ∙ e)) ∙ ap is_param g))
      ]

      own : (p : AreParamsOf R h s) → h < b → b < s → (at R b).block ≡ h
      own p l m = elim (cases_lt (h + p.count) b) [
        | inl n ↦ absurd (false≢true (sym (p.rest b n m) ∙ ap is_param g))
        | inr n ↦ p.block b l n
      ]

  -- ---- what a scope binds is at home round what stands in the scope

  statement_home : (s b i y a : ℕ) → s < length R → has_statements (at R s).node ≡ true → (at R b).node ≡ Binding y a
      → around R s b ≡ true → held R b s ≡ false → s + 1 < length R → around R s i ≡ true
      → Lies R (home R b) (at R i).region
  statement_home s b i y a less e f inside bare inner round =
      let w = t.statement_stands s b less (record {
        block = e;
        statement = ap is_statement f;
        inside = inside;
        right = sym (held_binding R b s y a f) ∙ bare;
      }) in
      subst (λ r. Lies R r (at R i).region) (sym (w.1) ∙ sym (ap (home_in (at R b).block (at R b).region) f))
      (t.inside s i inner round)

  pub bound_home : (s b i x : ℕ) → s + 1 < length R → looks (at R s).node (Name 0) ≡ true
      → takes (at R s).node (at R b).node ≡ true → bound_name (at R b).node ≡ Some x
      → around R s b ≡ true → held R b s ≡ false → around R s i ≡ true → ((at R i).node ≡ Start → ⊥)
      → Lies R (home R b) (at R i).region
  bound_home s b i x inner look take name inside bare round other =
      by (at R s).node (at R b).node refl refl look take name
    where
      less : s < length R
      less = omega arith

      within : b < length R
      within = let w = around_below R s b inside in omega arith

      next : (y k o v : ℕ) → (at R b).node ≡ Next y k o v → Lies R (home R b) (at R i).region
      next y k o v f =
          subst (λ r. Lies R r (at R i).region) (sym (ap (home_in (at R b).block (at R b).region) f))
          (next_inside s b i y k o v f within less inside bare round other)

      by : (m n : Node) → (at R s).node ≡ m → (at R b).node ≡ n → looks m (Name 0) ≡ true → takes m n ≡ true
          → bound_name n ≡ Some x → Lies R (home R b) (at R i).region
      by (Block c) (Binding y a) f g l k j =
          statement_home s b i y a less (ap has_statements f) g inside bare inner round
      by Body (Binding y a) f g l k j = statement_home s b i y a less (ap has_statements f) g inside bare inner round
      by Body (Next y k o v) f g l e j = next y k o v g
      by Body (Index y) f g l e j =
          subst (λ r. Lies R r (at R i).region) (sym (ap (home_in (at R b).block (at R b).region) g))
          (index_inside b y g within s i less inside bare round)
      by Span (Next y k o v) f g l e j = next y k o v g
      by (Def y h q c) (Param z k) f g l e j =
          let here =
          param_home s b y h c z q k f g less within inside inner
          ∙ sym (ap (home_in (at R b).block (at R b).region) g) in
          subst (λ r. Lies R r (at R i).region) here (t.inside s i inner round)
      by (Block c) n f g l k j = absurd (false≢true k)
      by Body n f g l k j = absurd (false≢true k)
      by Span (NextUse y) f g l k j = let d : None ≡ Some x = j in cc
      by Span n f g l k j = absurd (false≢true k)
      by (Def y h q c) n f g l k j = absurd (false≢true k)
      by _ n f g l k j = absurd (false≢true l)
