-- Which first values are a loop's own: none that stands in a construct within the loop.
use Rattle.std.proofs.Common.{◌≡◌, ◌≢◌, inl, inr, ℕ, ◌+◌, ◌-◌, ◌<◌, ◌≤◌, Bool, true, false, List, Some, None, refl, ap}
use Rattle.std.proofs.Common.{sym, ◌∙◌, arith, length}
use Rattle.std.specs.Prelude.{◌&&◌, ◌||◌, nat_eq}
use Rattle.std.proofs.lemmas.Bool.{cases_lt, eqb-true, false≢true}
use Rattle.id_table.specs.declared.row.Region.{Region}
use Rattle.id_table.specs.declared.row.Row.{Row}
use Rattle.id_table.specs.declared.row.Node.{Node}
use Rattle.id_table.specs.declared.row.Node.TheVariants.{Head, Name, Split, If, Enter, Call, Def, LoopHead, Switches}
use Rattle.id_table.specs.declared.row.Node.TheVariants.{NextUse, Loop}
use Rattle.id_table.specs.Rows.{arm_at, at, top}
use Rattle.id_table.specs.Tables.{begins_block, is_split, is_switches, is_top}
use Rattle.id_table.specs.Loops.{InSide, IsLoop, IsLoopOf, IsTurn, right, behind_count}
use Rattle.id_table.specs.Regions.{Lies, here, in_arm, in_loop, in_side, IsIfOf}
use Rattle.id_table.specs.Turns.{IsTable}
use Rattle.id_table.proofs.RegionLemmas.{InArm-either, InArm-within}
use Rattle.id_check.specs.Scopes.{is_next_use}
use Rattle.id_check.specs.declared.checked.Checked.{Checked}
use Rattle.id_check.specs.Programs.{binder, rows}
use Rattle.id_check.proofs.ProgramsLemmas.{table_of}
use Rattle.id_desugar.specs.Ends.{begun_at}
use Rattle.id_desugar.specs.Regions.{is_loop_head, is_right_in, used, used_by}
use Rattle.id_desugar.specs.Gathering.{AllCount, IsInner, used_in}
use Rattle.id_desugar.proofs.EndsLemmas.{end_begins, row_inside}

and_first : (a b : Bool) → (a && b) ≡ true → a ≡ true
and_first true b e = refl
and_first false b e = e

and_second : (a b : Bool) → (a && b) ≡ true → b ≡ true
and_second true b e = e
and_second false b e = absurd (false≢true e)

-- the row stands right in a side of the switches at the row w of the loop with the head g
record IsRightIn (R : List Row) (g i w : ℕ) : Type 0 where
  pub head : (at R i).region.head ≡ w
  pub within : w < length R
  pub switches : is_switches (at R w).node ≡ true
  pub block : (at R w).block ≡ g

split_apart : (n : Node) → is_split n ≡ true → (is_switches n ≡ false) × (begins_block n ≡ false)
split_apart (Split t) e = (refl, refl)
split_apart _ e = absurd (false≢true e)

switches_apart : (n : Node) → is_switches n ≡ true → begins_block n ≡ false
switches_apart (Switches t) e = refl
switches_apart _ e = absurd (false≢true e)

switches_top : (n : Node) → is_switches n ≡ true → is_top n ≡ true
switches_top (Switches t) e = refl
switches_top _ e = absurd (false≢true e)

-- the `Turn` is behind the switches
turn_behind : {R : List Row} {w t c : ℕ} → IsTurn R w t c → w < t
turn_behind (right e) = omega (arith, e)
turn_behind (behind_count e f g) = omega (arith, e)

module _ (R : List Row) (t : IsTable R) where
  -- switches of a loop are no last row
  inner_switches : (w : ℕ) → w < length R → is_switches (at R w).node ≡ true → w + 1 < length R
  inner_switches w l e = elim (cases_lt (w + 1) (length R)) [
    | inl m ↦ m
    | inr m ↦ let last : w ≡ length R - 1 = omega (arith, l, m) in
        absurd (false≢true (sym (ap is_switches (ap (λ z. (at R z).node) last ∙ t.ends)) ∙ e))
  ]

  -- they stand in a block, right in its region
  block_begins : (w : ℕ) → w < length R → is_switches (at R w).node ≡ true
      → begins_block (at R (at R w).block).node ≡ true
  block_begins w l e = (t.block w (inner_switches w l e)).1

  -- the loop of a head
  start_low : (h s : ℕ) → h < length R → (at R h).node ≡ LoopHead s → s < h
  start_low h s l e =
      let w = t.has_loop h s l e in
      let d = t.loop_is w.0 h w.1 in
      let same : LoopHead s ≡ LoopHead (h - 1) = sym e ∙ d.before_test.head in
      let start : s ≡ h - 1 = cc in
      omega (arith, start, d.begins)

  -- a row stands behind the head of its region
  head_low : (i : ℕ) → i + 1 < length R → (at R i).region.head ≤ i
  head_low i l = elim (t.region i l) [
    | inl e ↦ let is : (at R i).region.head ≡ (at R i).block =
        ap (λ (r : Region). r.head) e in omega (arith, is, (t.block i l).0)
    | inr (inl a) ↦
        let is : (at R i).region.head ≡ a.split = ap (λ (r : Region). r.head) a.region in
        let low = (InArm-within R t a.row a.split i a.side a.conditional a.among).0 in
        omega (arith, is, low)
    | inr (inr a) ↦
        let is : (at R i).region.head ≡ a.loop.switches = ap (λ (r : Region). r.head) a.region in
        let low =
        side a.loop.switches a.body a.row i a.side (omega (arith, turn_behind a.body_is.turns, a.body_is.low))
        a.among in
        omega (arith, is, low)
  ]
    where
      side : (w b n i : ℕ) (c : Bool) → w < b → InSide w b n c i → w < i
      side w b n i true l m = m.0
      side w b n i false l m = omega (arith, l, m.0)

  -- and behind the head of each region that its own lies in
  lies_low : {q r : Region} → Lies R q r → (i : ℕ) → i + 1 < length R → (at R i).region ≡ r → q.head ≤ i
  lies_low here i l e = omega (arith, ap (λ (r : Region). r.head) e, head_low i l)
  lies_low (in_arm {s} {b} within split lies) i l e =
      let is : (at R i).region.head ≡ s = ap (λ (r : Region). r.head) e in
      let low : s ≤ i = omega (arith, is, head_low i l) in
      let rest = lies_low lies s (omega (arith, low, l)) refl in
      omega (arith, low, rest)
  lies_low (in_side {w} {b} within switches lies) i l e =
      let is : (at R i).region.head ≡ w = ap (λ (r : Region). r.head) e in
      let low : w ≤ i = omega (arith, is, head_low i l) in
      let rest = lies_low lies w (omega (arith, low, l)) refl in
      omega (arith, low, rest)
  lies_low (in_loop {h} {s} within node lies) i l e =
      let is : (at R i).region.head ≡ h = ap (λ (r : Region). r.head) e in
      let low : h ≤ i = omega (arith, is, head_low i l) in
      let start = start_low h s within node in
      let rest = lies_low lies s (omega (arith, low, start, l)) refl in
      omega (arith, low, start, rest)

  module _ (g i w : ℕ) (own : IsRightIn R g i w) (q : Region) (behind : g < q.head) where
    begins : begins_block (at R g).node ≡ true
    begins = ap (λ z. begins_block (at R z).node) (sym own.block) ∙ block_begins w own.within own.switches

    -- a region whose head is behind that of a loop is none that the loop's lies in
    not_in_top : {r : Region} → Lies R q r → r.head ≡ g → ⊥
    not_in_top here e = omega (arith, e, behind)
    not_in_top (in_arm {s} {b} within split lies) e =
        absurd (false≢true (sym (split_apart (at R s).node split).1 ∙ ap (λ z. begins_block (at R z).node) e ∙ begins))
    not_in_top (in_side {w = v} within switches lies) e =
        absurd (false≢true (sym (switches_apart (at R v).node switches) ∙ ap (λ z. begins_block (at R z).node) e
        ∙ begins))
    not_in_top (in_loop {h} {s} within node lies) e =
        let start = start_low h s within node in
        let low = lies_low lies s (omega (arith, start, within)) refl in
        omega (arith, e, start, low, behind)

    -- nor one that the sides of its switches lie in, save those
    not_in : q.head ≢ w → {r : Region} → Lies R q r → r.head ≡ w → ⊥
    not_in apart here e = apart e
    not_in apart (in_arm {s} {b} within split lies) e =
        absurd (false≢true (sym (split_apart (at R s).node split).0 ∙ ap (λ z. is_switches (at R z).node) e
        ∙ own.switches))
    not_in apart (in_loop {h} {s} within node lies) e =
        absurd (false≢true (sym (ap is_switches node) ∙ ap (λ z. is_switches (at R z).node) e ∙ own.switches))
    not_in apart (in_side {w = v} within switches lies) e =
        not_in_top lies (ap (λ (r : Region). r.head) (t.at_top v within (switches_top (at R v).node switches))
        ∙ ap (λ z. (at R z).block) e ∙ own.block)

  -- what ends at a row is what begins at its head
  ends_if : (s e : ℕ) → e < length R → begun_at (at R e).node ≡ Some s → is_split (at R s).node ≡ true → IsIfOf R e s
  ends_if s e l b f = by (at R e).node refl b
    where
      no : (n : Node) → is_split n ≡ false → (at R s).node ≡ n → ⊥
      no n g is = absurd (false≢true (sym g ∙ sym (ap is_split is) ∙ f))

      by : (n : Node) → (at R e).node ≡ n → begun_at n ≡ Some s → IsIfOf R e s
      by (If h x y) is g =
          let same : h ≡ s = cc in record { then = x; otherwise = y; within = l; node = is ∙ ap (λ z. If z x y) same }
      by (Def x h k c) is g =
          let same : h ≡ s =
          cc in absurd (no Head refl (ap (λ z. (at R z).node) (sym same) ∙ (t.head_is e x h c k l is).0))
      by (Call h c) is g =
          let same : h ≡ s = cc in
          let w = t.enter_of e h (record { count = c; within = l; node = is }) in
          absurd (no (Enter w.name) refl (ap (λ z. (at R z).node) (sym same) ∙ w.node))
      by (Loop h w m) is g =
          let same : h ≡ s = cc in
          let d = t.loop_is e h (record { switches = w; last = m; within = l; node = is }) in
          absurd (no (LoopHead (h - 1)) refl (ap (λ z. (at R z).node) (sym same) ∙ d.before_test.head))
      by _ is g = absurd (none g)
        where
          none : None ≡ Some s → ⊥
          none j = cc

  ends_loop : (s e : ℕ) → e < length R → begun_at (at R e).node ≡ Some s → is_loop_head (at R s).node ≡ true
      → IsLoopOf R e s
  ends_loop s e l b f = by (at R e).node refl b
    where
      no : (n : Node) → is_loop_head n ≡ false → (at R s).node ≡ n → ⊥
      no n g is = absurd (false≢true (sym g ∙ sym (ap is_loop_head is) ∙ f))

      by : (n : Node) → (at R e).node ≡ n → begun_at n ≡ Some s → IsLoopOf R e s
      by (Loop h w m) is g =
          let same : h ≡ s = cc in record { switches = w; last = m; within = l; node = is ∙ ap (λ z. Loop z w m) same }
      by (Def x h k c) is g =
          let same : h ≡ s =
          cc in absurd (no Head refl (ap (λ z. (at R z).node) (sym same) ∙ (t.head_is e x h c k l is).0))
      by (Call h c) is g =
          let same : h ≡ s = cc in
          let w = t.enter_of e h (record { count = c; within = l; node = is }) in
          absurd (no (Enter w.name) refl (ap (λ z. (at R z).node) (sym same) ∙ w.node))
      by (If h x y) is g =
          let same : h ≡ s = cc in
          let d = t.split_of e h (record { then = x; otherwise = y; within = l; node = is }) in
          absurd (no (Split d.test) refl (ap (λ z. (at R z).node) (sym same) ∙ d.node))
      by _ is g = absurd (none g)
        where
          none : None ≡ Some s → ⊥
          none j = cc

  -- no first value of a loop is its own within a conditional in it
  not_in_if : (g s e i w : ℕ) → IsIfOf R e s → g < s → s < i → i < e → IsRightIn R g i w → ⊥
  not_in_if g s e i w c behind low high own =
      let d = t.split_of e s c in
      let a = InArm-either R t e s i c low high in
      not_in g i w own (arm_at s a.0) behind
      (λ z. false≢true (sym (ap is_switches d.node) ∙ ap (λ y. is_switches (at R y).node) z ∙ own.switches))
      ((t.arms e s c).each a.0 i a.1) own.head

  -- nor within a loop in it, where only the `Span` stands outside
  not_in_loop : (g s e i w : ℕ) → IsLoopOf R e s → g < s → s < i → i < e → IsRightIn R g i w
      → is_next_use (at R i).node ≡ false
  not_in_loop g s e i w c behind low high own = elim (cases_lt (i + 1) e) [
    | inl l ↦ elim (cases_lt d.body i) [
      | inl m ↦ absurd (not_in g i w own (arm_at c.switches false) after apart (d.last_is.each i m l) own.head)
      | inr m ↦ elim (cases_lt c.switches i) [
        | inl k ↦ absurd (not_in g i w own (arm_at c.switches true) after apart (d.body_is.each i k m) own.head)
        | inr k ↦ absurd (not_in g i w own (top s) behind head_apart (d.test.each i (omega (arith, low)) k) own.head)
      ]
    ]
    | inr l ↦
        let is : i ≡ c.last + 2 = omega (arith, l, high, d.last_is.ends) in
        ap is_next_use (ap (λ z. (at R z).node) is ∙ d.last_is.span)
  ]
    where
      d : IsLoop R e s c.switches c.last
      d = t.loop_is e s c

      after : g < c.switches
      after = omega (arith, behind, d.before_test.low, d.test.low, d.test.behind)

      apart : c.switches ≢ w
      apart z = omega (arith, sym own.block ∙ ap (λ y. (at R y).block) (sym z) ∙ d.test.block, behind)

      head_apart : s ≢ w
      head_apart z =
          false≢true (sym (ap is_switches d.before_test.head) ∙ ap (λ y. is_switches (at R y).node) z ∙ own.switches)

-- the switches of a loop stand behind its head, in its block
pub switches_head : (P : Checked) (w : ℕ) → is_switches (at (rows P) w).node ≡ true
    → ((at (rows P) w).block < w) × (is_loop_head (at (rows P) (at (rows P) w).block).node ≡ true)
switches_head P w e = by (at (rows P) w).node refl e
  where
    by : (n : Node) → (at (rows P) w).node ≡ n → is_switches n ≡ true → ((at (rows P) w).block < w)
        × (is_loop_head (at (rows P) (at (rows P) w).block).node ≡ true)
    by (Switches t) is f =
        let T = table_of P in
        let v = T.switches_of w t (row_inside (rows P) w is_switches refl e) is in
        let d = T.loop_is v.0 (at (rows P) w).block v.1 in
        (omega (arith, d.before_test.low, d.test.low, d.test.behind, v.2), ap is_loop_head d.before_test.head)
    by _ is f = absurd (false≢true f)

-- a row that stands right in a side of a loop's switches
right_in : (P : Checked) (g i : ℕ) → is_right_in P g i ≡ true → IsRightIn (rows P) g i (at (rows P) i).region.head
right_in P g i e =
    let w = (at (rows P) i).region.head in
    let switches = and_first (is_switches (at (rows P) w).node) (nat_eq (at (rows P) w).block g) e in
    record {
      head = refl;
      within = row_inside (rows P) w is_switches refl switches;
      switches = switches;
      block = eqb-true (at (rows P) w).block g
          (and_second (is_switches (at (rows P) w).node) (nat_eq (at (rows P) w).block g) e);
    }

-- a use counts where the row stands right in no side, or is no first value
counts : (P : Checked) (g i : ℕ) → (is_right_in P g i ≡ true → is_next_use (at (rows P) i).node ≡ false)
    → used P g i ≡ used_in P None i
counts P g i never = by (is_right_in P g i) refl (at (rows P) i).node refl
  where
    by : (z : Bool) → is_right_in P g i ≡ z → (n : Node) → (at (rows P) i).node ≡ n
        → used_by z (binder P i) n ≡ used_by false (binder P i) n
    by false e n is = refl
    by true e (NextUse x) is = absurd (false≢true (sym (never e) ∙ ap is_next_use is))
    by true e (Name x) is = refl
    by true e _ is = refl

-- for a conditional each use counts
pub split_counts : (P : Checked) (s t i : ℕ) → (at (rows P) s).node ≡ Split t → used P s i ≡ used_in P None i
split_counts P s t i is = counts P s i (λ e.
    let own = right_in P s i e in
    let begins = block_begins (rows P) (table_of P) (at (rows P) i).region.head own.within own.switches in
    absurd (false≢true (sym (ap begins_block is) ∙ ap (λ z. begins_block (at (rows P) z).node) (sym own.block)
    ∙ begins)))

-- and for a loop each in the constructs in it
pub loop_counts : (P : Checked) (g hi : ℕ) → AllCount P (Some g) (g + 1) hi
loop_counts P g hi = record { each = λ s e i n low high. counts P g i (λ f. by s e i n low high (right_in P g i f)) }
  where
    by : (s e i : ℕ) → IsInner P (g + 1) hi s e → s < i → i < e → IsRightIn (rows P) g i (at (rows P) i).region.head
        → is_next_use (at (rows P) i).node ≡ false
    by s e i n low high own =
        opens (is_split (at (rows P) s).node) refl (is_loop_head (at (rows P) s).node) refl n.opening
      where
        opens : (a : Bool) → is_split (at (rows P) s).node ≡ a → (b : Bool) → is_loop_head (at (rows P) s).node ≡ b
            → (a || b) ≡ true → is_next_use (at (rows P) i).node ≡ false
        opens true f b h o =
            let w = end_begins P s e n.ends in
            absurd (not_in_if (rows P) (table_of P) g s e i (at (rows P) i).region.head
            (ends_if (rows P) (table_of P) s e w.0 w.1 f)
            (omega (arith, n.low)) low high own)
        opens false f true h o =
            let w = end_begins P s e n.ends in
            not_in_loop (rows P) (table_of P) g s e i (at (rows P) i).region.head
            (ends_loop (rows P) (table_of P) s e w.0 w.1 h)
            (omega (arith, n.low)) low high own
        opens false f false h o = absurd (false≢true o)
