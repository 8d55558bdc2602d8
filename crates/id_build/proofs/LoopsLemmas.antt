-- The rows of a loop as the builder names them: its entries, its switches and what hands on.
use Rattle.std.proofs.Common.{◌≡◌, inl, inr, ℕ, zero, suc, ◌+◌, ◌-◌, ◌^◌, ◌<◌, ◌≤◌, Bool as Truth, true, false, cond}
use Rattle.std.proofs.Common.{List, [], ◌∷◌, ◌++◌, Option, Some, None, length, take, drop, get_or, refl}
use Rattle.std.proofs.Common.{sym, ◌∙◌, ap, subst, arith, length-append}
use Rattle.std.specs.Prelude.{unwrap_or}
use Rattle.std.proofs.Math.ListN.{get_or-eq_default}
use Rattle.std.proofs.lemmas.Bool.{cases_lt, eqb-true, false≢true}
use Rattle.id_table.specs.declared.row.Node.{Node}
use Rattle.id_table.specs.declared.row.Node.TheVariants.{Head, LoopHead, Variable, Entries, Next, Reset, Start}
use Rattle.id_table.specs.declared.row.Node.TheVariants.{Switches, Turn, Loop}
use Rattle.id_table.specs.declared.row.Node.TheVariants.{Carried, Count}
use Rattle.id_table.specs.declared.row.Row.{Row}
use Rattle.id_table.specs.Rows.{at, no_row, top}
use Rattle.id_table.specs.Tables.{HasPart, is_carried, is_variable}
use Rattle.id_table.specs.Loops.{AreBounds, AreCarried, AreEntries, Begins, IsLoop, IsLoopOf, IsTurn}
use Rattle.id_table.specs.Loops.{an_index, behind_count, nothing, plainly, right, with_bounds}
use Rattle.id_value.specs.declared.Kind.TheVariants as kind
use Rattle.id_check.specs.declared.checked.Checked.{Checked}
use Rattle.id_check.specs.Programs.{region, rows}
use Rattle.id_check.proofs.ProgramsLemmas.{table_of}
use Rattle.id_desugar.specs.Ends.{end_of, is_row, next_of, variable_of}
use Rattle.id_desugar.proofs.EndsLemmas.{row_inside, stands_inside}
use Rattle.id_desugar.specs.Regions.{bound_of, carried, first_variable, handed, has_index, imports_of, is_loop_head}
use Rattle.id_desugar.specs.Regions.{nexts_from, nexts_of, taken}
use Rattle.id_build.specs.Rows.{block, entries_row, node, switches_at, turn_row}
use Rattle.id_build.proofs.EndsLemmas.{body_low, first_answers, itself_eq, loop_is, some_answer, tested, turn_low}

-- what passes for the head of a loop is one
pub loop_head_is : (m : Node) → is_loop_head m ≡ true → (s : ℕ) × (m ≡ LoopHead s)
loop_head_is (LoopHead s) e = (s, refl)
loop_head_is _ e = absurd (false≢true e)

-- ---- the rows of a loop, in order

module _ {R : List Row} where
  -- the switches stand behind the head and the test, and before the last rows
  pub switches_low : {n h w l : ℕ} → (x : IsLoop R n h w l) → h + x.carried + 1 < w
  switches_low x = omega (arith, x.before_test.low, x.test.low, x.test.behind)

  pub switches_high : {n h w l : ℕ} → (x : IsLoop R n h w l) → w + 4 < n
  switches_high x = let b = body_low x.body_is in omega (arith, b, x.last_is.low, x.last_is.ends)

  -- what hands on stands before them too
  pub turn_high : {n h w l : ℕ} → (x : IsLoop R n h w l) → x.turn + 4 < n
  turn_high x = omega (arith, x.body_is.low, x.last_is.low, x.last_is.ends)

  -- ---- what a loop with an index has

  pub carried_nodes : {h c : ℕ} → AreCarried R h c → c ≡ 3
      → ((at R (h + 1)).node ≡ Carried kind.Int) × ((at R (h + 2)).node ≡ Carried kind.Int)
      × ((at R (h + 3)).node ≡ Carried kind.Bool)
  carried_nodes nothing e = absurd (omega (arith, e))
  carried_nodes (an_index a b d) e = (a, b, d)

  pub turn_nodes : {w t c : ℕ} → IsTurn R w t c → c ≡ 3 → (t ≡ w + 2) × ((at R (w + 1)).node ≡ Count)
  turn_nodes (right k) e = absurd (omega (arith, e))
  turn_nodes (behind_count k n x) e = (k, n)

  pub bounds_there : {s n c : ℕ} → Begins R s n c → c ≡ 3 → (d : ℕ) × (d + 1 ≡ s) × AreBounds R d n
  bounds_there (plainly k) e = absurd (omega (arith, e))
  bounds_there (with_bounds {c = d} k b) e = (d, k, b)

  -- where the `Turn` stands behind the switches
  pub turn_at : {w t c : ℕ} → IsTurn R w t c → (b : Truth) → (b ≡ true → c ≡ 3) → (c ≡ 3 → b ≡ true)
      → t ≡ w + cond b 2 1
  turn_at (right k) true index none = absurd (omega (arith, index refl))
  turn_at (right k) false index none = k
  turn_at (behind_count k n x) true index none = k
  turn_at (behind_count k n x) false index none = absurd (false≢true (none refl))

-- ---- what a loop carries on

module _ (P : Checked) (h e c : ℕ) (x : AreEntries (rows P) h e c) where
  -- how many that are
  abbrev many : Truth → ℕ
  many t = length (cond t ((h + 1) ∷ (h + 2) ∷ (h + 3) ∷ []) [])

  variable_bare : (m : Node) → is_variable m ≡ true → is_carried m ≡ false
  variable_bare Variable k = refl
  variable_bare _ k = absurd (false≢true k)

  pub carried_is : length (carried P h) ≡ c
  carried_is = go x.carried refl
    where
      go : {d : ℕ} → AreCarried (rows P) h d → d ≡ c → length (carried P h) ≡ c
      go nothing k = ap many none ∙ k
        where
          none : has_index P h ≡ false
          none = elim (cases_lt (h + 1) e) [
            | inl l ↦ variable_bare (node P (h + 1)) (x.variable (h + 1) (omega (arith, k)) l)
            | inr l ↦ (let same : h + 1 ≡ e = omega (arith, l, x.low) in
                ap (λ i. is_carried (node P i)) same ∙ ap is_carried x.entries)
          ]
      go (an_index a b d) k = ap many (ap is_carried a) ∙ k

  -- a loop has an index where it carries on three
  pub index_carried : has_index P h ≡ true → c ≡ 3
  index_carried is = sym carried_is ∙ ap many is

  pub carried_index : c ≡ 3 → has_index P h ≡ true
  carried_index is = ap is_carried (carried_nodes x.carried is).0

module _ (P : Checked) (h s : ℕ) (within : h < length (rows P)) (is : node P h ≡ LoopHead s) where
  -- the loop of a head
  pub the_loop : IsLoopOf (rows P) (end_of P h) h
  the_loop = loop_is P (table_of P) h s within is

  -- its rows
  pub loop_rows : IsLoop (rows P) (end_of P h) h the_loop.switches the_loop.last
  loop_rows = (table_of P).loop_is (end_of P h) h the_loop

  -- its switches
  pub the_switches : switches_at (node P (end_of P h)) ≡ the_loop.switches
  the_switches = ap switches_at the_loop.node

  pub switches_are : (t : ℕ) × (node P the_loop.switches ≡ Switches t)
  switches_are = (loop_rows.test.test, loop_rows.test.node)

  pub switches_within : the_loop.switches < length (rows P)
  switches_within = let z = switches_high loop_rows in omega (arith, z, the_loop.within)

  -- they hand on the upper bound of its index, its variables, and then its imports
  pub switches_hand : imports_of P the_loop.switches ≡ bound_of P h ++ (nexts_of P h ++ imports_of P h)
  switches_hand =
      ap (handed P the_loop.switches) loop_rows.test.node
      ∙ ap (λ g. bound_of P g ++ (nexts_of P g ++ taken P g)) loop_rows.test.block
      ∙ ap (λ z. bound_of P h ++ (nexts_of P h ++ z)) (sym (ap (handed P h) is))

  -- how many entries it carries on beside
  pub the_carried : length (carried P h) ≡ loop_rows.carried
  the_carried = carried_is P h loop_rows.entries loop_rows.carried loop_rows.before_test

  -- behind them stands what hands on
  pub turn_row_is : turn_row P h ≡ loop_rows.turn
  turn_row_is =
      ap (λ w. w + cond (has_index P h) 2 1) the_switches
      ∙ sym (turn_at loop_rows.body_is.turns (has_index P h)
      (index_carried P h loop_rows.entries loop_rows.carried loop_rows.before_test)
      (carried_index P h loop_rows.entries loop_rows.carried loop_rows.before_test))

  pub turn_is : node P (turn_row P h) ≡ Turn
  turn_is = ap (node P) turn_row_is ∙ loop_rows.body_is.turn

  -- its entries stand behind those of its variables
  entries_at : (v n : ℕ) → h + loop_rows.carried < v → v ≤ loop_rows.entries → loop_rows.entries < v + n
      → length (nexts_from P v n) + v ≡ loop_rows.entries
  entries_at v zero low l m = absurd (omega (arith, l, m))
  entries_at v (suc n) low l m = elim (cases_lt v loop_rows.entries) [
    | inl k ↦
        let yes = loop_rows.before_test.variable v low k in
        let rest = entries_at (suc v) n (omega (arith, low)) (omega (arith, k)) (omega (arith, m)) in
        omega (arith, rest, ap (λ (b : Truth). length (cond b (next_of P v ∷ nexts_from P (suc v) n) [])) yes)
    | inr k ↦
        let here : v ≡ loop_rows.entries = omega (arith, k, l) in
        let no : is_variable (node P v) ≡ false =
        ap (λ z. is_variable (node P z)) here ∙ ap is_variable loop_rows.before_test.entries in
        omega (arith, here, ap (λ (b : Truth). length (cond b (next_of P v ∷ nexts_from P (suc v) n) [])) no)
  ]

  pub entries_are : entries_row P h ≡ loop_rows.entries
  entries_are =
      let v = first_variable P h in
      let low : loop_rows.entries < v + length (rows P) =
      omega (arith, loop_rows.test.low, loop_rows.test.behind, switches_within) in
      let rest =
      entries_at v (length (rows P)) (omega (arith, the_carried))
      (omega (arith, the_carried, loop_rows.before_test.low)) low in
      omega (arith, rest)

  pub entries_within : entries_row P h < length (rows P)
  entries_within = omega (arith, entries_are, loop_rows.test.low, loop_rows.test.behind, switches_within)

  pub entries_node : node P (entries_row P h) ≡ Entries
  entries_node = ap (node P) entries_are ∙ loop_rows.before_test.entries

  -- they and the variables stand right in the loop
  pub entries_stand : (i : ℕ) → h ≤ i → i ≤ entries_row P h → (block P i ≡ h) × (region P i ≡ top h)
  entries_stand i l m = loop_rows.before_test.stands i l (omega (arith, m, entries_are))

  pub variables_are : (i : ℕ) → h + length (carried P h) < i → i < entries_row P h → is_variable (node P i) ≡ true
  variables_are i l m = loop_rows.before_test.variable i (omega (arith, l, the_carried)) (omega (arith, m, entries_are))

-- what a `Start` begins is the loop whose head is the next row
pub start_head : (P : Checked) (s : ℕ) → s < length (rows P) → node P s ≡ Start
    → (s + 1 < length (rows P)) × (node P (s + 1) ≡ LoopHead s)
start_head P s within is =
    let c = (table_of P).start_of_loop s within is in
    let rows = (table_of P).loop_is c.0 (s + 1) c.1 in
    let same : (s + 1) - 1 ≡ s = omega arith in (
      let low = switches_low rows in let high = switches_high rows in omega (arith, low, high, (c.1).within),
      rows.before_test.head ∙ ap (λ k. LoopHead k) same,
    )

-- ---- the `next` of a variable

-- the row of the variable of the `next` at the row m is v
pub record IsNextFor (P : Checked) (v m : ℕ) : Type 0 where
  pub name : ℕ
  pub index : ℕ
  pub outer : ℕ
  pub value : ℕ
  pub within : m < length (rows P)
  pub node : node P m ≡ Next name index outer value
  pub is : block P m + 1 + index ≡ v

variable_next : (P : Checked) (v m : ℕ) (n : Node) → m < length (rows P) → node P m ≡ n
    → is_row v (variable_of (block P m) n) ≡ true → IsNextFor P v m
variable_next P v m (Next x k o a) l e t =
    record { name = x; index = k; outer = o; value = a; within = l; node = e; is = eqb-true (block P m + 1 + k) v t }
variable_next P v m _ l e t = absurd (false≢true t)

pub next_is : (P : Checked) (v : ℕ) → v < length (rows P) → node P v ≡ Variable → IsNextFor P v (next_of P v)
next_is P v l e =
    let z = (table_of P).has_next v l (ap is_variable e) in
    let s = z.3 in
    let f : ℕ → Option ℕ = λ m. cond (is_row v (variable_of (block P m) (node P m))) (Some m) None in
    let same : block P z.0 + 1 + z.1 ≡ v = omega (arith, s.block, z.4) in
    let yes : is_row v (variable_of (block P z.0) (node P z.0)) ≡ true =
    ap (λ n. is_row v (variable_of (block P z.0) n)) s.node ∙ ap (λ k. is_row v (Some k)) same ∙ itself_eq v in
    let here : f z.0 ≡ Some z.0 = ap (λ b. cond b (Some z.0) None) yes in
    let found = some_answer f (length (rows P)) z.0 z.0 s.within here in
    let answers = first_answers f (length (rows P)) found.0 found.1 in
    let test = tested (is_row v (variable_of (block P answers.0) (node P answers.0))) answers.0 found.0 answers.2 in
    let end : next_of P v ≡ answers.0 = ap (λ o. unwrap_or o 0) found.1 ∙ sym test.1 in
    subst (IsNextFor P v) (sym end) (variable_next P v answers.0 (node P answers.0) answers.1 refl test.0)

-- ---- the `Reset` and what hands on

-- before a loop and its `Span` stands its `Reset`
pub reset_is : (P : Checked) (h s : ℕ) (within : h < length (rows P)) (is : node P h ≡ LoopHead s)
    → (end_of P h - 2 < length (rows P)) × (node P (end_of P h - 2) ≡ Reset (the_loop P h s within is).last)
reset_is P h s within is =
    let last = (loop_rows P h s within is).last_is in
    let z : end_of P h - 2 ≡ (the_loop P h s within is).last + 1 = omega (arith, last.ends) in
    (omega (arith, (the_loop P h s within is).within, last.ends), ap (node P) z ∙ last.node)

-- what hands on stands in the loop's block
pub turn_block : (P : Checked) (h s : ℕ) → h < length (rows P) → node P h ≡ LoopHead s
    → (turn_row P h < length (rows P)) × (block P (turn_row P h) ≡ h)
turn_block P h s within is =
    let r = loop_rows P h s within is in
    let z = turn_row_is P h s within is in
    let low = turn_low r.body_is.turns in
    let high = turn_high r in (
      omega (arith, z, high, (the_loop P h s within is).within),
      ap (block P) z ∙ (r.body_is.begins r.turn low (omega arith)).0,
    )

-- ---- rows and machine words

-- there are not too many rows to count
pub rows_few : (P : Checked) → length (rows P) < 2 ^ 64
rows_few P = omega (arith, P.table.rows.ok.0)

pub rows_half : (P : Checked) → length (rows P) < 2 ^ 63
rows_half P = let rows = P.table.rows in omega (arith, rows.ok.0, rows.ok.1, rows.small)

-- a `Start` stands at a row
pub start_inside : (P : Checked) (n : ℕ) → node P n ≡ Start → n < length (rows P)
start_inside P n e = stands_inside P n Start e (λ bad. cc)

-- what a loop carries on stands at rows
pub carried_inside : (P : Checked) (h i : ℕ) → i < length (carried P h) → h + 1 < length (rows P)
carried_inside P h i l = by (has_index P h) refl l
  where
    by : (t : Truth) → has_index P h ≡ t → i < length (cond t ((h + 1) ∷ (h + 2) ∷ (h + 3) ∷ []) [])
        → h + 1 < length (rows P)
    by true e k = row_inside (rows P) (h + 1) is_carried refl e
    by false e k = absurd (omega (arith, k))

-- what past the end of the table stands is no `next`
next_inside : (P : Checked) (m : ℕ) (x k o v : ℕ) → node P m ≡ Next x k o v → m < length (rows P)
next_inside P m x k o v e = stands_inside P m (Next x k o v) e (λ bad. cc)

-- the label of the variable of a `next` is a row
pub label_inside : (P : Checked) (m x k o v : ℕ) → node P m ≡ Next x k o v
    → (block P m + 1 + k < length (rows P)) × (node P (block P m + 1 + k) ≡ Variable)
label_inside P m x k o v e =
    let z = (table_of P).next_in m (block P m) k x (record {
      outer = o;
      value = v;
      within = next_inside P m x k o v e;
      block = refl;
      node = e;
    }) in
    let is = z.2.variable in
    elim (cases_lt (block P m + 1 + k) (length (rows P))) [
      | inl l ↦ (l, is)
      | inr l ↦ (let bad : Variable ≡ Head = sym is ∙ ap (λ (r : Row). r.node) (get_or-eq_default (rows P) no_row l) in
          cc)
    ]

-- what a loop carries on beside its variables are no more than three
pub carried_few : (P : Checked) (h : ℕ) → length (carried P h) ≤ 3
carried_few P h = by (has_index P h)
  where
    by : (b : Truth) → length {A = ℕ} (cond b ((h + 1) ∷ (h + 2) ∷ (h + 3) ∷ []) []) ≤ 3
    by true = omega arith
    by false = omega arith

-- nor the head of a loop
pub head_inside : (P : Checked) (h : ℕ) → is_loop_head (node P h) ≡ true → h < length (rows P)
head_inside P h e = row_inside (rows P) h is_loop_head refl e

-- the switches that a row names are a row
pub switches_inside : (P : Checked) (n : ℕ) (m : Node) → 0 < length (rows P) → node P n ≡ m
    → switches_at m < length (rows P)
switches_inside P n (Loop h w l) some e = elim (cases_lt n (length (rows P))) [
  | inl k ↦
      let z = ((table_of P).formed.each n k).parts w (subst (λ m. HasPart m w) (sym e) (inr (inl refl))) in
      omega (arith, z.1, k)
  | inr k ↦ (let bad : Loop h w l ≡ Head = sym e ∙ ap (λ (r : Row). r.node) (get_or-eq_default (rows P) no_row k) in cc)
]
switches_inside P n _ some e = some

-- those of what begins at any number are no more than rows
pub switches_few : (P : Checked) (h : ℕ) → switches_at (node P (end_of P h)) ≤ length (rows P)
switches_few P h = elim (cases_lt 0 (length (rows P))) [
  | inl k ↦ let l = switches_inside P (end_of P h) (node P (end_of P h)) k refl in omega (arith, l)
  | inr k ↦
      let past : length (rows P) ≤ end_of P h = omega (arith, k) in
      let none : switches_at (node P (end_of P h)) ≡ 0 =
      ap (λ (r : Row). switches_at r.node) (get_or-eq_default (rows P) no_row past) in
      omega (arith, none)
]

-- what the switches of a loop hand on begins with the upper bound of its index and its variables
pub nexts_first : (P : Checked) (h : ℕ) → is_loop_head (node P h) ≡ true
    → imports_of P (switches_at (node P (end_of P h))) ≡ bound_of P h ++ (nexts_of P h ++ imports_of P h)
nexts_first P h e =
    let z = loop_head_is (node P h) e in
    let l = head_inside P h e in
    ap (imports_of P) (the_switches P h z.0 l z.1) ∙ switches_hand P h z.0 l z.1

-- the first of two lists, by its length
pub take_front : (xs ys : List ℕ) (n : ℕ) → n ≡ length xs → take n (xs ++ ys) ≡ xs
take_front xs ys n e = ap (λ k. take k (xs ++ ys)) e ∙ go xs
  where
    go : (xs : List ℕ) → take (length xs) (xs ++ ys) ≡ xs
    go [] = take_none ys
      where
        take_none : (ys : List ℕ) → take 0 ys ≡ []
        take_none [] = refl
        take_none (y ∷ ys) = refl
    go (x ∷ xs) = ap (λ l. x ∷ l) (go xs)

-- what is behind the first of two lists, by its length
drop_front : (xs ys : List ℕ) (n : ℕ) → n ≡ length xs → drop n (xs ++ ys) ≡ ys
drop_front xs ys n e = ap (λ k. drop k (xs ++ ys)) e ∙ go xs
  where
    go : (xs : List ℕ) → drop (length xs) (xs ++ ys) ≡ ys
    go [] = refl
    go (x ∷ xs) = go xs

-- the second of three lists, by the lengths of the others
pub middle_is : (first : ℕ) (bs ns is xs ys : List ℕ) → xs ≡ bs ++ (ns ++ is) → ys ≡ is → first ≡ length bs
    → (length ys ≤ length xs) × (first ≤ length xs - length ys)
    × (take (length xs - length ys - first) (drop first xs) ≡ ns)
middle_is first bs ns is xs ys all inner e =
    let whole : length xs ≡ length bs + (length ns + length is) =
    ap length all ∙ length-append bs (ns ++ is) ∙ ap (λ k. length bs + k) (length-append ns is) in
    let last : length ys ≡ length is = ap length inner in
    let count : length xs - length ys - first ≡ length ns = omega (arith, whole, last, e) in (
      omega (arith, whole, last),
      omega (arith, whole, last, e),
      ap (take (length xs - length ys - first)) (ap (drop first) all ∙ drop_front bs (ns ++ is) first e)
          ∙ take_front ns is _ count,
    )

-- how many bounds a loop hands on
pub bound_count : (P : Checked) (h : ℕ) (b : Truth) → has_index P h ≡ b → length (bound_of P h) ≡ cond b 1 0
bound_count P h true e = ap (λ (b : Truth). length (cond b ((h + 2) ∷ []) [])) e
bound_count P h false e = ap (λ (b : Truth). length (cond b ((h + 2) ∷ []) [])) e

-- the entries of what a loop carries on stand one behind another
pub carried_at : (P : Checked) (h i : ℕ) → i < length (carried P h) → get_or (carried P h) i 0 ≡ h + 1 + i
carried_at P h i l = by (has_index P h) i l
  where
    by : (b : Truth) (i : ℕ) → i < length {A = ℕ} (cond b ((h + 1) ∷ (h + 2) ∷ (h + 3) ∷ []) [])
        → get_or (cond b ((h + 1) ∷ (h + 2) ∷ (h + 3) ∷ []) []) i 0 ≡ h + 1 + i
    by true zero l = omega arith
    by true (suc zero) l = omega arith
    by true (suc (suc zero)) l = omega arith
    by true (suc (suc (suc i))) l = absurd (omega (arith, l))
    by false i l = absurd (omega (arith, l))
