-- Which rows stand in the regions of loops and arms, and how regions lie in one another.
use Rattle.std.proofs.Common.{◌≡◌, ◌⊎◌, inl, inr, ℕ, ◌+◌, ◌-◌, ◌≤◌, ◌<◌, Bool as Truth, true, false, length, refl, sym}
use Rattle.std.proofs.Common.{◌∙◌, ap, subst, arith}
use Rattle.std.proofs.lemmas.Bool.{cases_lt, false≢true}
use Rattle.id_table.specs.declared.row.Region.{Region}
use Rattle.id_table.specs.declared.row.Node.{Node}
use Rattle.id_table.specs.declared.row.Node.TheVariants.{Split, LoopHead, Switches, Program, Turn}
use Rattle.id_table.specs.declared.row.Node.TheVariants.{Count, Index, Body, Span}
use Rattle.id_table.specs.Rows.{arm_at, at, top}
use Rattle.id_table.specs.Tables.{begins_block, is_index, is_loop, is_split, is_switches, is_top}
use Rattle.id_table.specs.Loops.{InSide, IsLoop, IsLoopOf, index_row}
use Rattle.id_table.specs.Regions.{Lies, here, in_arm, in_loop, in_side}
use Rattle.id_table.specs.Turns.{IsTable}
use Rattle.id_table.proofs.RegionLemmas.{InArm-region, InArm-within, if_not_last}
use Rattle.id_check.specs.declared.checked.Checked.{Checked}
use Rattle.id_check.specs.Programs.{region, rows}
use Rattle.id_check.proofs.ProgramsLemmas.{table_of}
use Rattle.id_desugar.specs.Ends.{end_of}
use Rattle.id_build.specs.Rows.{block, node}
use Rattle.id_build.proofs.EndsLemmas.{body_low, if_is, loop_same, not_last}
use Rattle.id_build.proofs.LoopsLemmas.{loop_rows, switches_low, the_loop, turn_nodes}

pub split_is : (m : Node) → is_split m ≡ true → (t : ℕ) × (m ≡ Split t)
split_is (Split t) e = (t, refl)
split_is _ e = absurd (false≢true e)

pub switches_is : (m : Node) → is_switches m ≡ true → (t : ℕ) × (m ≡ Switches t)
switches_is (Switches t) e = (t, refl)
switches_is _ e = absurd (false≢true e)

-- ---- the sides of switches

-- a row in a side of switches stands behind them, and before the loop
side_low : (w b n i : ℕ) (c : Truth) → w < b → InSide w b n c i → w < i
side_low w b n i true low h = h.0
side_low w b n i false low h = omega (arith, low, h.0)

abbrev is_a_body : Node → Truth
is_a_body Body = true
is_a_body _ = false

abbrev start_or : Node → ℕ
start_or (LoopHead s) = s
start_or _ = 0

module _ (P : Checked) where
  pub T : IsTable (rows P)
  T = table_of P

  pub inner : (i : ℕ) (f : Node → Truth) → f Program ≡ false → i < length (rows P) → f (node P i) ≡ true
      → i + 1 < length (rows P)
  inner i f none within is = not_last P T i within (λ e. false≢true (sym none ∙ ap f (sym e) ∙ is))

  -- a row of another node is not the `Span` of a loop
  pub not_span : (n h w l i : ℕ) → IsLoop (rows P) n h w l → (f : Node → Truth) → f Span ≡ false → i < n
      → f (node P i) ≡ true → i + 1 < n
  not_span n h w l i x f none low is = elim (cases_lt (i + 1) n) [
    | inl k ↦ k
    | inr k ↦
        let same : i ≡ l + 2 = omega (arith, k, low, x.last_is.ends) in
        absurd (false≢true (sym none ∙ ap f (sym x.last_is.span) ∙ ap (λ j. f (node P j)) (sym same) ∙ is))
  ]

  -- ---- the `Start` of a loop

  module _ (h s : ℕ) (within : h < length (rows P)) (is : node P h ≡ LoopHead s) where
    pub start_is : s + 1 ≡ h
    start_is =
        let x = loop_rows P h s within is in
        let same : s ≡ h - 1 = ap start_or (sym is ∙ x.before_test.head) in
        omega (arith, same, x.begins)

    pub start_region : region P s ≡ region P (end_of P h)
    start_region =
        let x = loop_rows P h s within is in
        let same : x.start ≡ s = omega (arith, start_is, x.begins) in
        ap (region P) (sym same) ∙ (x.start_of).beside.region

    pub loop_inner : end_of P h + 1 < length (rows P)
    loop_inner =
        inner (end_of P h) is_loop refl (the_loop P h s within is).within (ap is_loop (the_loop P h s within is).node)

  -- ---- the heads of regions

  pub head_low : (i : ℕ) → i + 1 < length (rows P) → (region P i).head ≤ i
  head_low i l = elim (T.region i l) [
    | inl k ↦ let e = ap (λ (r : Region). r.head) k in let low = (T.block i l).0 in omega (arith, e, low)
    | inr (inl k) ↦
        let e = ap (λ (r : Region). r.head) k.region in
        let a = InArm-within (rows P) T k.row k.split i k.side k.conditional k.among in
        omega (arith, e, a.0)
    | inr (inr k) ↦
        let e = ap (λ (r : Region). r.head) k.region in
        let a = side_low k.loop.switches k.body k.row i k.side (body_low k.body_is) k.among in
        omega (arith, e, a)
  ]

  -- a row where no block begins stands behind the head of its region
  pub head_before : (i : ℕ) → i + 1 < length (rows P) → begins_block (node P i) ≡ false → (region P i).head < i
  head_before i l none = elim (T.region i l) [
    | inl k ↦
        let e = ap (λ (r : Region). r.head) k in
        let low = T.block i l in
        elim (cases_lt (block P i) i) [
          | inl m ↦ omega (arith, e, m)
          | inr m ↦
              let same : block P i ≡ i = omega (arith, low.0, m) in
              absurd (false≢true (sym none ∙ ap (λ z. begins_block (node P z)) (sym same) ∙ low.1))
        ]
    | inr (inl k) ↦
        let e = ap (λ (r : Region). r.head) k.region in
        let a = InArm-within (rows P) T k.row k.split i k.side k.conditional k.among in
        omega (arith, e, a.0)
    | inr (inr k) ↦
        let e = ap (λ (r : Region). r.head) k.region in
        let a = side_low k.loop.switches k.body k.row i k.side (body_low k.body_is) k.among in
        omega (arith, e, a)
  ]

  -- the head of a region that lies in another stands behind that one's, or is it
  pub heads_rise : {q r : Region} → Lies (rows P) q r → q.head ≤ r.head
  heads_rise here = omega arith
  heads_rise (in_arm {s = s} w k l) =
      let low = heads_rise l in
      let e = head_low s (inner s is_split refl w k) in
      omega (arith, low, e)
  heads_rise (in_loop {h = h} {s = s} w k l) =
      let low = heads_rise l in
      let at = start_is h s w k in
      let e = head_low s (omega (arith, at, w)) in
      omega (arith, low, e, at)
  heads_rise (in_side {w = u} w k l) =
      let low = heads_rise l in
      let e = head_low u (inner u is_switches refl w k) in
      omega (arith, low, e)

  -- ---- what a region lies in

  pub step_arm : {q : Region} (s t : ℕ) (c : Truth) → node P s ≡ Split t → Lies (rows P) q (arm_at s c)
      → (q ≡ arm_at s c) ⊎ Lies (rows P) q (region P s)
  step_arm {q} s t c is l = go l refl
    where
      go : {r : Region} → Lies (rows P) q r → r ≡ arm_at s c → (q ≡ arm_at s c) ⊎ Lies (rows P) q (region P s)
      go here e = inl e
      go (in_arm {s = u} w k m) e = inr (subst (λ z. Lies (rows P) q (region P z)) (ap (λ (z : Region). z.head) e) m)
      go (in_loop {h = u} w k m) e =
          absurd (false≢true (sym (ap is_split k) ∙ ap (λ (z : Region). is_split (node P z.head)) e ∙ ap is_split is))
      go (in_side {w = u} w k m) e =
          absurd (false≢true (sym (ap is_switches is) ∙ ap (λ (z : Region). is_switches (node P z.head)) (sym e) ∙ k))

  pub step_side : {q : Region} (s t : ℕ) (c : Truth) → node P s ≡ Switches t → Lies (rows P) q (arm_at s c)
      → (q ≡ arm_at s c) ⊎ Lies (rows P) q (region P s)
  step_side {q} s t c is l = go l refl
    where
      go : {r : Region} → Lies (rows P) q r → r ≡ arm_at s c → (q ≡ arm_at s c) ⊎ Lies (rows P) q (region P s)
      go here e = inl e
      go (in_side {w = u} w k m) e = inr (subst (λ z. Lies (rows P) q (region P z)) (ap (λ (z : Region). z.head) e) m)
      go (in_loop {h = u} w k m) e =
          absurd (false≢true (sym (ap is_switches k) ∙ ap (λ (z : Region). is_switches (node P z.head)) e
          ∙ ap is_switches is))
      go (in_arm {s = u} w k m) e =
          absurd (false≢true (sym (ap is_split is) ∙ ap (λ (z : Region). is_split (node P z.head)) (sym e) ∙ k))

  pub step_top : {q : Region} (h s : ℕ) → node P h ≡ LoopHead s → Lies (rows P) q (top h)
      → (q ≡ top h) ⊎ Lies (rows P) q (region P s)
  step_top {q} h s is l = go l refl
    where
      go : {r : Region} → Lies (rows P) q r → r ≡ top h → (q ≡ top h) ⊎ Lies (rows P) q (region P s)
      go here e = inl e
      go (in_loop {h = u} {s = v} w k m) e =
          let same : v ≡ s = ap start_or (sym k ∙ ap (λ (z : Region). node P z.head) e ∙ is) in
          inr (subst (λ z. Lies (rows P) q (region P z)) same m)
      go (in_arm {s = u} w k m) e =
          absurd (false≢true (sym (ap is_split is) ∙ ap (λ (z : Region). is_split (node P z.head)) (sym e) ∙ k))
      go (in_side {w = u} w k m) e =
          absurd (false≢true (sym (ap is_switches is) ∙ ap (λ (z : Region). is_switches (node P z.head)) (sym e) ∙ k))

  -- ---- the rows of a loop's region

  pub top_rows : (g m i : ℕ) → IsLoopOf (rows P) m g → i + 1 < length (rows P) → region P i ≡ top g → i < m
  top_rows g m i c l e = elim (T.region i l) [
    | inl k ↦
        let same : block P i ≡ g = ap (λ (r : Region). r.head) (sym k ∙ e) in
        let x = T.in_loop i (g - 1) l (ap (node P) same ∙ (T.loop_is m g c).before_test.head) in
        let one = T.one_loop x.0 m g (subst (IsLoopOf (rows P) x.0) same x.1) c in
        omega (arith, x.2, one)
    | inr (inl k) ↦
        let z : k.split ≡ g = ap (λ (r : Region). r.head) (sym k.region ∙ e) in
        absurd (false≢true (sym (ap is_split (T.loop_is m g c).before_test.head) ∙ ap (λ j. is_split (node P j)) (sym z)
        ∙ ap is_split (T.split_of k.row k.split k.conditional).node))
    | inr (inr k) ↦
        let z : k.loop.switches ≡ g = ap (λ (r : Region). r.head) (sym k.region ∙ e) in
        absurd (false≢true (sym (ap is_switches (T.loop_is m g c).before_test.head)
        ∙ ap (λ j. is_switches (node P j)) (sym z)
        ∙ ap is_switches (T.loop_is k.row (block P i) k.loop).test.node))
  ]

  pub side_rows : (u t i : ℕ) (a : Truth) → node P u ≡ Switches t → i + 1 < length (rows P) → region P i ≡ arm_at u a
      → i < end_of P (block P u)
  side_rows u t i a is l e = elim (T.region i l) [
    | inl k ↦
        let same : block P i ≡ u = ap (λ (r : Region). r.head) (sym k ∙ e) in
        absurd (false≢true (sym (ap begins_block is) ∙ ap (λ j. begins_block (node P j)) (sym same) ∙ (T.block i l).1))
    | inr (inl k) ↦
        let z : k.split ≡ u = ap (λ (r : Region). r.head) (sym k.region ∙ e) in
        absurd (false≢true (sym (ap is_split is) ∙ ap (λ j. is_split (node P j)) (sym z)
        ∙ ap is_split (T.split_of k.row k.split k.conditional).node))
    | inr (inr k) ↦
        let z : k.loop.switches ≡ u = ap (λ (r : Region). r.head) (sym k.region ∙ e) in
        let x = T.loop_is k.row (block P i) k.loop in
        let same : block P i ≡ block P u = sym x.test.block ∙ ap (block P) z in
        let ends : end_of P (block P u) ≡ k.row = ap (end_of P) (sym same) ∙ loop_same P T k.row (block P i) k.loop in
        let y = T.in_loop i (block P i - 1) l x.before_test.head in
        let one = T.one_loop y.0 k.row (block P i) y.1 k.loop in
        omega (arith, ends, y.2, one)
  ]

  -- the switches of a loop
  module _ (u t : ℕ) (within : u < length (rows P)) (is : node P u ≡ Switches t) where
    pub switches_of : (n : ℕ) × (c : IsLoopOf (rows P) n (block P u)) × (c.switches ≡ u)
    switches_of = T.switches_of u t within is

    pub switches_top : region P u ≡ top (block P u)
    switches_top = T.at_top u within (ap is_top is)

    pub switches_head : (block P u < length (rows P)) × (node P (block P u) ≡ LoopHead (block P u - 1))
    switches_head =
        let x = T.loop_is (switches_of.0) (block P u) (switches_of.1) in
        let low = (T.block u (inner u is_switches refl within (ap is_switches is))).0 in
        (omega (arith, low, within), x.before_test.head)

  -- a row whose region lies in that of a loop stands before the loop's end
  module _ (h s : ℕ) (within : h < length (rows P)) (is : node P h ≡ LoopHead s) where
    mutual
      rows_below : {r : Region} → Lies (rows P) (top h) r → (i : ℕ) → i + 1 < length (rows P) → region P i ≡ r
          → i < end_of P h
      rows_below here i l e = top_rows h (end_of P h) i (the_loop P h s within is) l e
      rows_below (in_arm {s = u} {b = a} w k m) i l e =
          let z = split_is (node P u) k in
          let d = if_is P T u z.0 w z.1 in
          let low = InArm-within (rows P) T (end_of P u) u i a d (InArm-region (rows P) T (end_of P u) u i a d l e) in
          let to = rows_below m (end_of P u) (if_not_last (rows P) T (end_of P u) u d)
          (sym (T.split_of (end_of P u) u d).region) in
          omega (arith, low.1, to)
      rows_below (in_loop {h = g} {s = u} w k m) i l e =
          let low = top_rows g (end_of P g) i (the_loop P g u w k) l e in
          let to = rows_below m (end_of P g) (loop_inner g u w k) (sym (start_region g u w k)) in
          omega (arith, low, to)
      rows_below (in_side {w = u} {b = a} w k m) i l e =
          let z = switches_is (node P u) k in
          let low = side_rows u z.0 i a z.1 l e in
          let g = switches_head u z.0 w z.1 in
          let to = loops_below m (block P u) (block P u - 1) g.0 g.1 (switches_top u z.0 w z.1) in
          omega (arith, low, to)

      -- and a loop whose region lies there ends no later
      loops_below : {r : Region} → Lies (rows P) (top h) r → (g v : ℕ) → g < length (rows P) → node P g ≡ LoopHead v
          → r ≡ top g → end_of P g ≤ end_of P h
      loops_below here g v low at e =
          let same : h ≡ g = ap (λ (z : Region). z.head) e in
          let ends = ap (end_of P) same in
          omega (arith, ends)
      loops_below (in_arm {s = u} w k l) g v low at e =
          absurd (false≢true (sym (ap is_split at) ∙ ap (λ (z : Region). is_split (node P z.head)) (sym e) ∙ k))
      loops_below (in_side {w = u} w k l) g v low at e =
          absurd (false≢true (sym (ap is_switches at) ∙ ap (λ (z : Region). is_switches (node P z.head))
          (sym e) ∙ k))
      loops_below (in_loop {h = u} {s = y} w k l) g v low at e =
          let same : u ≡ g = ap (λ (z : Region). z.head) e in
          let ends = ap (end_of P) same in
          let to = rows_below l (end_of P u) (loop_inner u y w k) (sym (start_region u y w k)) in
          omega (arith, ends, to)

    -- what lies in a loop's region stands behind its head and before its end
    pub in_rows : (i : ℕ) → i + 1 < length (rows P) → begins_block (node P i) ≡ false
        → Lies (rows P) (top h) (region P i) → (h < i) × (i < end_of P h)
    in_rows i l none m =
        let rise = heads_rise m in
        let low = head_before i l none in
        (omega (arith, rise, low), rows_below m i l refl)

  -- ---- the index of a loop

  -- an index stands right in the body of its loop
  module _ (i x : ℕ) (within : i < length (rows P)) (is : node P i ≡ Index x) where
    pub index_loop : (n : ℕ) × (c : IsLoopOf (rows P) n (block P i)) × ((T.loop_is n (block P i) c).carried ≡ 3)
        × (index_row c.switches ≡ i)
    index_loop = T.index_of i x within is

    abbrev pub index_rows : IsLoop (rows P) index_loop.0 (block P i) (index_loop.1).switches (index_loop.1).last
    index_rows = T.loop_is index_loop.0 (block P i) index_loop.1

    -- no other row of the body can be a region's head before it
    only_switches : (j : ℕ) → (index_loop.1).switches ≤ j → j < i → (f : Node → Truth) → f Count ≡ false
        → f Turn ≡ false → f (node P j) ≡ true → j ≡ (index_loop.1).switches
    only_switches j low high f count turn so =
        let w = (index_loop.1).switches in
        let z = turn_nodes index_rows.body_is.turns index_loop.2 in
        elim (cases_lt w j) [
          | inr l ↦ omega (arith, l, low)
          | inl l ↦ elim (cases_lt (w + 1) j) [
            | inl m ↦
                let same : j ≡ index_rows.turn = omega (arith, m, high, z.0, index_loop.3) in
                absurd (false≢true (sym turn ∙ sym (ap f (ap (node P) same ∙ index_rows.body_is.turn)) ∙ so))
            | inr m ↦
                let same : j ≡ w + 1 = omega (arith, l, m) in
                absurd (false≢true (sym count ∙ sym (ap f (ap (node P) same ∙ z.1)) ∙ so))
          ]
        ]

    pub index_region : region P i ≡ arm_at (index_loop.1).switches true
    index_region = elim (T.region i l) [
      | inl k ↦
          let e = ap (λ (r : Region). r.head) k in
          let low = switches_low index_rows in
          absurd (omega (arith, rise, e, low))
      | inr (inl k) ↦
          let e = ap (λ (r : Region). r.head) k.region in
          let z = (T.split_of k.row k.split k.conditional).node in
          let at = only_switches k.split (omega (arith, rise, e)) (omega (arith, before, e)) is_split refl refl
          (ap is_split z) in
          absurd (false≢true (sym (ap is_split (ap (node P) at ∙ index_rows.test.node)) ∙ ap is_split z))
      | inr (inr k) ↦
          let e = ap (λ (r : Region). r.head) k.region in
          let z = (T.loop_is k.row (block P i) k.loop).test.node in
          let at = only_switches k.loop.switches (omega (arith, rise, e)) (omega (arith, before, e)) is_switches refl
          refl (ap is_switches z) in
          k.region ∙ ap (λ w. arm_at w k.side) at
          ∙ ap (arm_at w) (on k.side k.body k.row at k.body_is.node (body_low k.body_is) k.among)
    ]
      where
        w : ℕ
        w = (index_loop.1).switches

        l : i + 1 < length (rows P)
        l = inner i is_index refl within (ap is_index is)

        rise : w ≤ (region P i).head
        rise = heads_rise (index_rows.body_is.each i (omega (arith, index_loop.3)) (omega (
          arith,
          index_loop.3,
          index_rows.body_is.low,
          (turn_nodes index_rows.body_is.turns index_loop.2).0,
        )))

        before : (region P i).head < i
        before = head_before i l (ap begins_block is)

        on : (c : Truth) (b n : ℕ) {u : ℕ} → u ≡ w → node P b ≡ Body → u < b → InSide u b n c i → c ≡ true
        on true b n at body low among = refl
        on false b n at body low among =
            let bad = only_switches b (omega (arith, at, low)) among.0 is_a_body refl refl (ap is_a_body body) in
            absurd (omega (arith, at, low, bad))
