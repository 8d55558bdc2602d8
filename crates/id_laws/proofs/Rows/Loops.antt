-- What stands where in a loop.
use Rattle.std.proofs.Common.{◌≡◌, inl, inr, ℕ, zero, suc, ◌+◌, ◌-◌, ◌<◌, ◌≤◌, true, false, length, refl, sym, ◌∙◌, ap}
use Rattle.std.proofs.Common.{subst, arith, if◌then◌else◌}
use Rattle.std.proofs.lemmas.Bool.{cases_lt}
use Rattle.id_table.specs.declared.row.Node.{Node}
use Rattle.id_value.specs.declared.Kind.{Kind}
use Rattle.id_value.specs.declared.Kind.TheVariants as kinds
use Rattle.id_table.specs.declared.row.Node.TheVariants.{Start, LoopHead, Variable, Switches, Turn, NextUse, Next, Body}
use Rattle.id_table.specs.declared.row.Node.TheVariants.{Reset, Loop}
use Rattle.id_table.specs.declared.row.Node.TheVariants.{Bounds, Carried, Within, Count, Index}
use Rattle.id_table.specs.Rows.{arm_at, at, top}
use Rattle.id_table.specs.Tables.{HasPart, begins_block, is_carried, is_expression, is_in_loop, is_variable, is_within}
use Rattle.id_table.specs.Loops.{AreBounds, AreCarried, nothing, an_index, AreEntries, Begins, plainly, with_bounds}
use Rattle.id_table.specs.Loops.{IsLoop, IsLoopOf, IsTest, predicate, flag}
use Rattle.id_table.specs.Loops.{IsTurn, right, behind_count, bounds_row, index_row}
use Rattle.id_check.specs.declared.checked.Checked.{Checked}
use Rattle.id_check.specs.Programs.{Stands, place, region, rows}
use Rattle.id_desugar.specs.Ends.{end_of, next_of}
use Rattle.id_desugar.specs.Regions.{has_index}
use Rattle.id_build.specs.Rows.{block, node, switches_at, turn_row}
use Rattle.id_build.proofs.EndsLemmas.{loop_is, loop_same}
use Rattle.id_build.proofs.RegionsLemmas.{index_loop as arcs_loop, index_region as arcs_region}
use Rattle.id_build.proofs.LoopsLemmas.{next_is}
use Rattle.id_source.specs.Facts.{ForStands, LoopStands, NextStands}
use Rattle.id_laws.specs.Activations.{switches_of}
use Rattle.id_laws.specs.Topics.{result_at, result_of}
use Rattle.id_laws.proofs.Rows.Assumed.{IsKnown}

-- of a loop with an index: where its bounds, the entries of what it carries on, what counts and the index stand
pub record IsCounted (P : Checked) {n h w l : ℕ} (x : IsLoop (rows P) n h w l) : Type 0 where
  pub three : x.carried ≡ 3
  pub has : has_index P h ≡ true
  pub entry : node P (h + 1) ≡ Carried kinds.Int
  pub bound : node P (h + 2) ≡ Carried kinds.Int
  pub flag : node P (h + 3) ≡ Carried kinds.Bool
  pub few : h + 3 < x.entries
  pub test : node P (x.test).test ≡ Within (h + 3)
  pub turn : x.turn ≡ w + 2
  pub count : node P (w + 1) ≡ Count
  pub name : ℕ
  pub index : node P (index_row w) ≡ Index name
  pub row : ℕ
  pub before : row + 1 ≡ x.start
  pub bounds : AreBounds (rows P) row n

-- a loop goes by a predicate, or has an index
pub data LoopKind (P : Checked) {n h w l : ℕ} (x : IsLoop (rows P) n h w l) : Type 0 where
  plain : has_index P h ≡ false → is_expression (node P (x.test).test) ≡ true → x.turn ≡ w + 1
      → (at (rows P) n).first ≡ x.start → LoopKind P x
  counted : IsCounted P x → LoopKind P x

no_carried : (m : Node) → is_variable m ≡ true → is_carried m ≡ false
no_carried Variable e = refl
no_carried _ e = let bad : true ≡ false = sym e in cc

-- a loop that carries nothing on has no index
none_carried : (P : Checked) (h e : ℕ) → AreEntries (rows P) h e 0 → has_index P h ≡ false
none_carried P h e x = elim (cases_lt (h + 1) e) [
  | inl less ↦ no_carried (node P (h + 1)) (x.variable (h + 1) (omega arith) less)
  | inr past ↦ let same : h + 1 ≡ e =
      omega (arith, past, x.low) in ap (λ i. is_carried (node P i)) same ∙ ap is_carried x.entries
]

pub kind_of : (P : Checked) {n h w l : ℕ} (x : IsLoop (rows P) n h w l) → LoopKind P x
kind_of P {n} {h} {w} x =
    go x.carried refl (x.before_test).carried x.before_test (x.test).test_is (x.body_is).turns x.from
  where
    go : (c : ℕ) → x.carried ≡ c → AreCarried (rows P) h c → AreEntries (rows P) h x.entries c
        → IsTest (rows P) h (x.test).test c → IsTurn (rows P) w x.turn c
        → Begins (rows P) x.start n c → LoopKind P x
    go c same nothing entries (predicate is) (right t) (plainly first) =
        plain (none_carried P h x.entries entries) is t first
    go c same (an_index i b f) entries (flag is) (behind_count {x = y} t count index)
        (with_bounds {c = d} before bounds) = counted (record {
          three = same;
          has = ap is_carried i;
          entry = i;
          bound = b;
          flag = f;
          few = entries.low;
          test = is;
          turn = t;
          count = count;
          name = y;
          index = index;
          row = d;
          before = before;
          bounds = bounds;
        })

-- what hands on stands behind its switches, or behind what counts
turn_by : (P : Checked) {n h w l : ℕ} (x : IsLoop (rows P) n h w l) → x.turn ≡ w + (if has_index P h then 2 else 1)
turn_by P {h = h} {w = w} x = by (kind_of P x)
  where
    by : LoopKind P x → x.turn ≡ w + (if has_index P h then 2 else 1)
    by (plain none is t first) = t ∙ ap (λ b. w + (if b then 2 else 1)) (sym none)
    by (counted c) = c.turn ∙ ap (λ b. w + (if b then 2 else 1)) (sym c.has)

behind_switches : (P : Checked) {n h w l : ℕ} (x : IsLoop (rows P) n h w l) → w < x.turn
behind_switches P {h = h} {w = w} x = by (kind_of P x)
  where
    by : LoopKind P x → w < x.turn
    by (plain none is t first) = omega (arith, t)
    by (counted c) = omega (arith, c.turn)

-- one that carries three on has an index
pub has_three : (P : Checked) {n h w l : ℕ} (x : IsLoop (rows P) n h w l) → x.carried ≡ 3 → has_index P h ≡ true
has_three P {h = h} x three = go x.carried three (x.before_test).carried
  where
    go : (c : ℕ) → c ≡ 3 → AreCarried (rows P) h c → has_index P h ≡ true
    go c e nothing = absurd (omega (arith, e))
    go c e (an_index i b f) = ap is_carried i

-- and then all that belongs to it
pub counted_of : (P : Checked) {n h w l : ℕ} (x : IsLoop (rows P) n h w l) → has_index P h ≡ true → IsCounted P x
counted_of P {h = h} x has = by (kind_of P x)
  where
    by : LoopKind P x → IsCounted P x
    by (plain none is t first) = let bad : true ≡ false = sym has ∙ none in cc
    by (counted c) = c

-- the loop with the head h, which ends where its head does
pub record LoopOf (P : Checked) (h : ℕ) : Type 0 where
  pub the : IsLoopOf (rows P) (end_of P h) h
  pub all : IsLoop (rows P) (end_of P h) h the.switches the.last
  pub within : h < length (rows P)
  pub head : node P h ≡ LoopHead (h - 1)

pub loop_by : {P : Checked} (known : IsKnown P) {n h : ℕ} → IsLoopOf (rows P) n h → LoopOf P h
loop_by {P} known {n} {h} c =
    let the = subst (λ m. IsLoopOf (rows P) m h) (sym (loop_same P known.table n h c)) c in
    let all = (known.table).loop_is (end_of P h) h the in
    let part = (((known.table).formed).each n c.within).parts h (subst (λ m. HasPart m h) (sym c.node) (inl refl)) in
    record { the = the; all = all; within = omega (arith, part.1, c.within); head = (all.before_test).head }

-- of its head, of its `Start`, and of a row of its block
pub loop_of_head : {P : Checked} (known : IsKnown P) {h s : ℕ} → h < length (rows P) → node P h ≡ LoopHead s
    → LoopOf P h
loop_of_head {P} known {h} {s} within is = loop_by known (loop_is P known.table h s within is)

pub loop_of_start : {P : Checked} (known : IsKnown P) {s : ℕ} → s < length (rows P) → node P s ≡ Start
    → LoopOf P (s + 1)
loop_of_start {P} known {s} within is = loop_by known ((known.table).start_of_loop s within is).1

pub loop_of_row : {P : Checked} (known : IsKnown P) {i : ℕ} (m : Node) → i < length (rows P) → node P i ≡ m
    → is_in_loop m ≡ true → LoopOf P (block P i)
loop_of_row {P} known {i} m within is e =
    let z = (known.table).loop_of i within (ap is_in_loop is ∙ e) in loop_by known z.1

-- each loop of the head is that one
pub record SameLoop (P : Checked) (n h w l : ℕ) (x : LoopOf P h) : Type 0 where
  pub row : n ≡ end_of P h
  pub switches : w ≡ (x.the).switches
  pub last : l ≡ (x.the).last

pub same_loop : {P : Checked} (known : IsKnown P) {n h : ℕ} (c : IsLoopOf (rows P) n h) (x : LoopOf P h)
    → SameLoop P n h c.switches c.last x
same_loop {P} known {n} {h} c x =
    let row = sym (loop_same P known.table n h c) in
    let both : Loop h c.switches c.last ≡ Loop h (x.the).switches (x.the).last =
    sym c.node ∙ ap (node P) row ∙ (x.the).node in
    record { row = row; switches = cc; last = cc }

module _ (P : Checked) (known : IsKnown P) (h : ℕ) (x : LoopOf P h) where
  abbrev pub loop_row : ℕ
  loop_row = end_of P h

  abbrev pub switches_row : ℕ
  switches_row = (x.the).switches

  abbrev pub last_row : ℕ
  last_row = (x.the).last

  pub start_is : (x.all).start ≡ h - 1
  start_is = omega (arith, (x.all).begins)

  -- its `Start` stands where the loop does
  pub start_node : node P (h - 1) ≡ Start
  start_node = ap (node P) (sym start_is) ∙ ((x.all).start_of).node

  pub start_place : place P (h - 1) ≡ place P loop_row
  start_place = ap (place P) (sym start_is) ∙ (((x.all).start_of).beside).place

  pub start_region : region P (h - 1) ≡ region P loop_row
  start_region = ap (region P) (sym start_is) ∙ (((x.all).start_of).beside).region

  pub start_block : block P (h - 1) ≡ block P loop_row
  start_block = ap (block P) (sym start_is) ∙ (((x.all).start_of).beside).block

  pub start_before : (h - 1) + 1 ≡ h
  start_before = omega (arith, (x.all).begins)

  pub start_within : h - 1 < length (rows P)
  start_within = omega (arith, x.within)

  -- its switches
  pub switches_within : switches_row < length (rows P)
  switches_within =
      let part = (((known.table).formed).each loop_row (x.the).within).parts switches_row
      (subst (λ m. HasPart m switches_row) (sym (x.the).node) (inr (inl refl))) in
      omega (arith, part.1, (x.the).within)

  abbrev pub test_row : ℕ
  test_row = ((x.all).test).test

  pub switches_node : node P switches_row ≡ Switches test_row
  switches_node = ((x.all).test).node

  pub switches_region : region P switches_row ≡ top h
  switches_region = ((x.all).test).region

  -- its last expression
  pub last_within : last_row < length (rows P)
  last_within =
      let part =
      (((known.table).formed).each loop_row (x.the).within).parts last_row
      (subst (λ m. HasPart m last_row) (sym (x.the).node) (inr (inr refl))) in
      omega (arith, part.1, (x.the).within)

  pub last_region : region P last_row ≡ arm_at switches_row false
  last_region = ((x.all).last_is).region

  pub reset_node : node P (loop_row - 2) ≡ Reset last_row
  reset_node =
      let e : last_row + 1 ≡ loop_row - 2 = omega (arith, ((x.all).last_is).ends) in
      ap (node P) (sym e) ∙ ((x.all).last_is).node

  -- what hands on
  pub kind_is : LoopKind P x.all
  kind_is = kind_of P x.all

  pub turn_is : turn_row P h ≡ (x.all).turn
  turn_is = ap (λ m. switches_at m + (if has_index P h then 2 else 1)) (x.the).node ∙ sym (turn_by P x.all)

  pub turn_node : node P (turn_row P h) ≡ Turn
  turn_node = ap (node P) turn_is ∙ ((x.all).body_is).turn

  turn_behind : switches_row < (x.all).turn
  turn_behind = behind_switches P x.all

  pub turn_within : turn_row P h < length (rows P)
  turn_within =
      omega (arith, turn_is, ((x.all).body_is).low, ((x.all).last_is).low, ((x.all).last_is).ends, (x.the).within)

  pub turn_in : block P (turn_row P h) ≡ h
  turn_in = ap (block P) turn_is ∙ (((x.all).body_is).begins (x.all).turn turn_behind (omega arith)).0

  pub turn_region : region P (turn_row P h) ≡ arm_at switches_row true
  turn_region = ap (region P) turn_is ∙ (((x.all).body_is).begins (x.all).turn turn_behind (omega arith)).1

  pub reset_within : loop_row - 2 < length (rows P)
  reset_within = omega (arith, (x.the).within)

  pub reset_in : block P (loop_row - 2) ≡ h
  reset_in =
      let z = (known.table).reset_of (loop_row - 2) last_row reset_within reset_node in
      let row : z.0 ≡ loop_row = omega (arith, z.3, ((x.all).last_is).ends) in
      let both : Loop (block P (loop_row - 2)) (z.1).switches (z.1).last ≡ Loop h (x.the).switches (x.the).last =
      sym (z.1).node ∙ ap (node P) row ∙
      (x.the).node in
      cc

  -- the loop's rules: of any, of one with a predicate, and of one with an index
  pub stands_loop : Stands P loop_row (Loop h switches_row last_row)
  stands_loop = record { within = (x.the).within; node = (x.the).node }

  pub loop_stands : is_within (node P test_row) ≡ false → LoopStands P loop_row h switches_row test_row last_row
  loop_stands other =
      record {
        loop = stands_loop;
        switches = record { within = switches_within; node = switches_node };
        predicate =
            other;
      }

  pub result_is : result_of P h ≡ last_row
  result_is = ap result_at (x.the).node

  pub switches_same : switches_of P h ≡ switches_row
  switches_same = ap switches_at (x.the).node

  pub head_block : block P h ≡ h
  head_block = (known.table).head_block h x.within (ap begins_block x.head)

  pub head_place : place P h ≡ place P loop_row
  head_place = ((x.all).place).head

-- in a loop with an index
module _ (P : Checked) (known : IsKnown P) (h : ℕ) (x : LoopOf P h) (c : IsCounted P x.all) where
  -- its entries stand in its block, at its top
  pub carried_stands : (i : ℕ) → h ≤ i → i ≤ h + 3 → (block P i ≡ h) × (region P i ≡ top h)
  carried_stands i low high = ((x.all).before_test).stands i low (omega (arith, high, c.few))

  pub carried_within : (i : ℕ) → i ≤ h + 3 → i < length (rows P)
  carried_within i high = omega (
    arith,
    high,
    c.few,
    ((x.all).test).low,
    ((x.all).test).behind,
    switches_within P known h x,
  )

  -- what counts and the index stand in its body
  pub counts_stands : (i : ℕ) → switches_row P known h x < i → i ≤ switches_row P known h x + 2
      → (block P i ≡ h) × (region P i ≡ arm_at (switches_row P known h x) true)
  counts_stands i low high = ((x.all).body_is).begins i low (omega (arith, high, c.turn))

  pub counts_within : (i : ℕ) → i ≤ switches_row P known h x + 3 → i < length (rows P)
  counts_within i high =
      omega (arith, high, c.turn, ((x.all).body_is).low, ((x.all).last_is).low, ((x.all).last_is).ends, (x.the).within)

  -- its bounds stand right before its `Start`
  pub bounds_at : bounds_row h ≡ c.row
  bounds_at = omega (arith, (x.all).begins, c.before)

  pub bounds_node : node P (bounds_row h) ≡ Bounds (c.bounds).lower (c.bounds).upper
  bounds_node = ap (node P) bounds_at ∙ (c.bounds).node

  pub bounds_within : bounds_row h < length (rows P)
  bounds_within = omega (arith, x.within)

  pub bounds_before : bounds_row h + 1 ≡ h - 1
  bounds_before = omega (arith, (x.all).begins, c.before)

  -- where they stand the loop does, and its `Start`
  pub bounds_region : region P (bounds_row h) ≡ region P (h - 1)
  bounds_region = ap (region P) bounds_at ∙ ((c.bounds).beside).region ∙ sym (start_region P known h x)

  pub bounds_place : place P (bounds_row h) ≡ place P (loop_row P known h x)
  bounds_place = ap (place P) bounds_at ∙ ((c.bounds).beside).place

  pub index_within : index_row (switches_row P known h x) < length (rows P)
  index_within = counts_within (index_row (switches_row P known h x)) (omega arith)

  -- the rule
  pub for_stands : ForStands P (loop_row P known h x) (switches_row P known h x) (index_row (switches_row P known h x))
      (c.bounds).lower (c.bounds).upper
      (last_row P known h x)
  for_stands = record {
    head = h;
    name = c.name;
    loop = stands_loop P known h x;
    bounds = record { within = bounds_within; node = bounds_node };
    index = record { within = index_within; node = c.index };
    behind = refl;
  }

-- the rows of what it carries on
pub carried_node : (P : Checked) (known : IsKnown P) (h : ℕ) (x : LoopOf P h) → IsCounted P x.all → (k : ℕ) → k < 3
    → (kind : Kind) × (node P (h + 1 + k) ≡ Carried kind)
carried_node P known h x c zero few = let e : h + 1 + 0 ≡ h + 1 = omega arith in (kinds.Int, ap (node P) e ∙ c.entry)
carried_node P known h x c (suc zero) few =
    let e : h + 1 + 1 ≡ h + 2 = omega arith in (kinds.Int, ap (node P) e ∙ c.bound)
carried_node P known h x c (suc (suc zero)) few =
    let e : h + 1 + 2 ≡ h + 3 = omega arith in (kinds.Bool, ap (node P) e ∙ c.flag)
carried_node P known h x c (suc (suc (suc k))) few = absurd (omega (arith, few))

-- where bounds stand two rows before the head of a loop, it has an index
pub bounds_mean : {P : Checked} (known : IsKnown P) {h a b : ℕ} (x : LoopOf P h) → node P (bounds_row h) ≡ Bounds a b
    → has_index P h ≡ true
bounds_mean {P} known {h} {a} {b} x is = elim (cases_lt 1 h) [
  | inl less ↦
      let z = (known.table).bounds_of (bounds_row h) a b (omega (arith, x.within)) is in
      let head : bounds_row h + 2 ≡ h = omega (arith, less) in
      ap (has_index P) (sym head) ∙ has_three P ((known.table).loop_is z.0 (bounds_row h + 2) z.1) z.2
  | inr few ↦
      let same : bounds_row h ≡ h - 1 = omega (arith, few) in
      let bad : Start ≡ Bounds a b = sym (start_node P known h x) ∙ ap (node P) (sym same) ∙ is in
      cc
]

-- the rule of a loop with bounds there
pub for_at : {P : Checked} (known : IsKnown P) {n h w l a b : ℕ} → n < length (rows P) → node P n ≡ Loop h w l
    → node P (bounds_row h) ≡ Bounds a b → ForStands P n w (index_row w) a b l
for_at {P} known {n} {h} {w} {l} within is at =
    let c : IsLoopOf (rows P) n h = record { switches = w; last = l; within = within; node = is } in
    let x = loop_by known c in
    let same = same_loop known c x in
    let k = counted_of P x.all (bounds_mean known x at) in
    record {
      head = h;
      name = k.name;
      loop = record { within = within; node = is };
      bounds = record { within = bounds_within P known h x k; node = at };
      index = record {
        within = subst (λ v. index_row v < length (rows P)) (sym same.switches) (index_within P known h x k);
        node = ap (λ v. node P (index_row v)) same.switches ∙ k.index;
      };
      behind = refl;
    }

-- what goes by no predicate has an index
pub within_counted : {P : Checked} {h : ℕ} → {t : ℕ} → is_within (node P t) ≡ true → (x : LoopOf P h)
    → t ≡ ((x.all).test).test → IsCounted P x.all
within_counted {P} {h} {t} e x same = by (kind_of P x.all)
  where
    no_expression : (m : Node) → is_within m ≡ true → is_expression m ≡ true → ⊥
    no_expression (Within f) e i = let bad : true ≡ false = sym i in cc
    no_expression _ e i = let bad : true ≡ false = sym e in cc

    by : LoopKind P x.all → IsCounted P x.all
    by (plain none is turn first) = absurd (no_expression (node P t) e (ap (λ i. is_expression (node P i)) same ∙ is))
    by (counted c) = c

-- the entry of what a loop carries on
pub record CarriedIn (P : Checked) (n : ℕ) : Type 0 where
  pub loop : LoopOf P (block P n)
  pub counted : IsCounted P loop.all
  pub low : block P n < n
  pub high : n ≤ block P n + 3

pub carried_loop : {P : Checked} (known : IsKnown P) {n : ℕ} {k : Kind} → n < length (rows P) → node P n ≡ Carried k
    → CarriedIn P n
carried_loop {P} known {n} {k} within is =
    let l = loop_of_row known (Carried k) within is refl in
    let z = (known.table).carried_of n within (ap is_carried is) in
    let c = counted_of P l.all (has_three P ((known.table).loop_is z.0 (block P n) z.1) z.2) in
    record {
      loop = l;
      counted = c;
      low = above l;
      high = z.3;
    }
  where
    above : LoopOf P (block P n) → block P n < n
    above l = elim (cases_lt (block P n) n) [
      | inl less ↦ less
      | inr past ↦
          let low =
          ((known.table).block n
          (omega (arith, (l.the).within, (known.table).loop_of n within (ap is_in_loop is)))).0 in
          let same : block P n ≡ n = omega (arith, past, low) in
          let bad : LoopHead (block P n - 1) ≡ Carried k = sym l.head ∙ ap (node P) same ∙ is in
          cc
    ]

-- what counts
pub count_loop : {P : Checked} (known : IsKnown P) {n : ℕ} → n < length (rows P) → node P n ≡ Count
    → (l : LoopOf P (block P n)) × IsCounted P l.all
count_loop {P} known {n} within is =
    let z = (known.table).count_of n within is in
    let l = loop_of_row known Count within is refl in
    (l, counted_of P l.all (has_three P ((known.table).loop_is z.0 (block P n) z.1) z.2))

pub count_at : {P : Checked} (known : IsKnown P) {n : ℕ} → n < length (rows P) → node P n ≡ Count
    → (l : LoopOf P (block P n)) → n ≡ (l.the).switches + 1
count_at {P} known {n} within is l =
    let z = (known.table).count_of n within is in
    sym z.3 ∙ ap (λ w. w + 1) (same_loop known z.1 l).switches

pub count_region : {P : Checked} (known : IsKnown P) {n : ℕ} → n < length (rows P) → node P n ≡ Count
    → (l : LoopOf P (block P n)) → IsCounted P l.all → region P n ≡ arm_at (l.the).switches true
count_region {P} known {n} within is l c =
    let at = count_at known within is l in
    ap (region P) at ∙ (counts_stands P known (block P n) l c ((l.the).switches + 1) (omega arith) (omega arith)).1

-- and the index
pub index_at : {P : Checked} (known : IsKnown P) {n x : ℕ} → n < length (rows P) → node P n ≡ Index x
    → (l : LoopOf P (block P n)) → n ≡ index_row (l.the).switches
index_at {P} known {n} {x} within is l =
    let z = (known.table).index_of n x within is in
    sym z.3 ∙ ap index_row (same_loop known z.1 l).switches

pub index_region : {P : Checked} (known : IsKnown P) {n x : ℕ} → n < length (rows P) → node P n ≡ Index x
    → (l : LoopOf P (block P n)) → IsCounted P l.all → region P n ≡ arm_at (l.the).switches true
index_region {P} known {n} {x} within is l c =
    arcs_region P n x within is ∙ ap (λ w. arm_at w true) (same_loop known (arcs_loop P n x within is).1 l).switches

-- what hands on stands behind the switches
pub turn_at : {P : Checked} (known : IsKnown P) {n : ℕ} → n < length (rows P) → node P n ≡ Turn
    → (x : LoopOf P (block P n)) → n ≡ turn_row P (block P n)
turn_at {P} known {n} within is x =
    let z = (known.table).turn_of n within is in
    let same = same_loop known z.1 x in
    let h = block P n in
    sym z.2 ∙ turn_by P ((known.table).loop_is z.0 h z.1) ∙ ap (λ w. w + (if has_index P h then 2 else 1)) same.switches
    ∙ sym (turn_by P x.all) ∙ sym (turn_is P known h x)

pub turn_region_at : {P : Checked} (known : IsKnown P) {n : ℕ} → n < length (rows P) → node P n ≡ Turn
    → (x : LoopOf P (block P n)) → region P n ≡ arm_at (x.the).switches true
turn_region_at {P} known {n} within is x = ap (region P) (turn_at known within is x) ∙ turn_region P known (block P n) x

-- the last expression of a loop's `Reset`
pub reset_last : {P : Checked} (known : IsKnown P) {n v : ℕ} → n < length (rows P) → node P n ≡ Reset v
    → (x : LoopOf P (block P n)) → v ≡ (x.the).last
reset_last {P} known {n} {v} within is x =
    let z = (known.table).reset_of n v within is in
    sym z.2 ∙ (same_loop known z.1 x).last

-- a `next` statement in its loop
pub record NextOf (P : Checked) (m x k o v : ℕ) (l : LoopOf P (block P m)) : Type 0 where
  pub region : region P m ≡ arm_at (l.the).switches true
  pub stands : NextStands P m (block P m) o v
  pub outer : node P o ≡ NextUse x

pub next_at : {P : Checked} (known : IsKnown P) {m x k o v : ℕ} (within : m < length (rows P))
    (is : node P m ≡ Next x k o v) (l : LoopOf P (block P m)) →
    NextOf P m x k o v l
next_at {P} known {m} {x} {k} {o} {v} within is l =
    let z = (known.table).next_in m (block P m) k x (record {
      outer = o;
      value = v;
      within = within;
      block = refl;
      node = is;
    }) in
    record {
      region = (z.2).region ∙ ap (λ w. arm_at w true) (same_loop known z.1 l).switches;
      stands = record { name = x; index = k; next = record { within = within; node = is }; block = refl };
      outer = (z.2).outer;
    }

-- the body's end, and its switches
pub body_at : {P : Checked} (known : IsKnown P) {n : ℕ} → n < length (rows P) → node P n ≡ Body
    → (x : LoopOf P (block P n)) →
    region P n ≡ arm_at (x.the).switches true
body_at {P} known {n} within is x =
    let z = (known.table).body_of n within is in
    let same = same_loop known z.1 x in
    let body = (((known.table).loop_is z.0 (block P n) z.1).body_is).region in
    ap (region P) (sym z.2) ∙ body ∙ ap (λ w. arm_at w true) same.switches

-- the `next` of a variable stands in its block
pub next_block : (P : Checked) (known : IsKnown P) (v : ℕ) → v < length (rows P) → node P v ≡ Variable
    → block P (next_of P v) ≡ block P v
next_block P known v within is =
    let n = next_is P v within is in
    let m = next_of P v in
    let there = ((known.table).next_in m (block P m) n.index n.name
    (record { outer = n.outer; value = n.value; within = n.within; block = refl; node = n.node })).2 in
    sym there.variable_block ∙ ap (block P) n.is

-- a loop has one pair of switches
pub one_switches : (P : Checked) (known : IsKnown P) (n w e t : ℕ) → n < length (rows P) → node P n ≡ Switches e
    → w < length (rows P) → node P w ≡ Switches t → block P n ≡ block P w → n ≡ w
one_switches P known n w e t within is within' is' same =
    let z = (known.table).switches_of n e within is in
    let y = (known.table).switches_of w t within' is' in
    let l = loop_of_row known (Switches t) within' is' refl in
    let c = z.1 in
    let c' : IsLoopOf (rows P) z.0 (block P w) = record {
      switches = c.switches;
      last = c.last;
      within = c.within;
      node = c.node ∙ ap (λ h. Loop h c.switches c.last) same;
    } in
    sym z.2 ∙ (same_loop known c' l).switches ∙ sym (same_loop known y.1 l).switches ∙ y.2

-- and those are the loop's
pub own_switches : (P : Checked) (known : IsKnown P) (w t : ℕ) → w < length (rows P) → node P w ≡ Switches t
    → (l : LoopOf P (block P w)) → (l.the).switches ≡ w
own_switches P known w t within is l =
    let z = (known.table).switches_of w t within is in
    sym (same_loop known z.1 l).switches ∙ z.2
