-- What goes to each entry of a loop.
use Rattle.std.proofs.Common.{◌≡◌, ℕ, zero, suc, ◌+◌, ◌<◌, Bool as Truth, true, false, cond, Some, List, [], ◌∷◌}
use Rattle.std.proofs.Common.{◌++◌, map, length, slice_get, get_or, refl, sym, ◌∙◌, ap, subst, arith}
use Rattle.id_table.specs.declared.row.Node.{Node}
use Rattle.id_table.specs.declared.row.Node.TheVariants.{Variable}
use Rattle.id_table.specs.Tables.{is_variable}
use Rattle.id_check.specs.declared.checked.Checked.{Checked}
use Rattle.id_check.specs.Programs.{rows}
use Rattle.id_desugar.specs.Ends.{next_of}
use Rattle.id_desugar.specs.Regions.{carried, first_variable, has_index, imports_of, nexts_from, nexts_of}
use Rattle.id_build.specs.Rows.{Entry, entering, entries_row, first_binder, import_entries, loop_entries, node}
use Rattle.id_build.specs.Rows.{param_entry, variable_entries}
use Rattle.id_laws.proofs.Rows.Arcs.{carries_on, three_carried}
use Rattle.id_laws.proofs.Rows.LoopRows.{variable_within}

true_false : true ≡ false → ⊥
true_false h = cc

some_is : {A : Type 0} {x y : A} → Some x ≡ Some y → x ≡ y
some_is h = cc

variable_is : (m : Node) → is_variable m ≡ true → m ≡ Variable
variable_is Variable e = refl
variable_is _ e = absurd (true_false (sym e))

-- the entry of an import of this number
record ImportSlot (e j : ℕ) (bs : List ℕ) (k : ℕ) (q : Entry) : Type 0 where
  less : k < length bs
  is : q ≡ record { binder = get_or bs k 0; row = e; part = j + k }

import_slot : (e j : ℕ) (bs : List ℕ) (k : ℕ) (q : Entry) → slice_get (import_entries e j bs) k ≡ Some q
    → ImportSlot e j bs k q
import_slot e j [] k q h = cc
import_slot e j (b ∷ bs) zero q h =
    let here : j ≡ j + 0 = omega arith in
    record { less = omega arith; is = sym (some_is h) ∙ ap (λ z. record { binder = b; row = e; part = z }) here }
import_slot e j (b ∷ bs) (suc k) q h =
    let z = import_slot e (j + 1) bs k q h in
    let up : j + 1 + k ≡ j + suc k = omega arith in
    record {
      less = omega (arith, z.less);
      is =
          z.is ∙ ap (λ y. record { binder = get_or bs k 0; row = e; part = y }) up;
    }

-- the entry of this number is that of a variable, or of an import
data Slot (P : Checked) (v e : ℕ) (ms bs : List ℕ) (k : ℕ) (q : Entry) : Type 0 where
  at_next : (w : ℕ) → k < length ms → w ≡ v + k → is_variable (node P w) ≡ true
      → q ≡ record { binder = next_of P w; row = w; part = 0 }
      → get_or (map (first_binder P) ms ++ bs) k 0 ≡ first_binder P (next_of P w) → Slot P v e ms bs k q
  past_nexts : (j : ℕ) → j < length bs → k ≡ length ms + j → q ≡ record { binder = get_or bs j 0; row = e; part = j }
      → get_or (map (first_binder P) ms ++ bs) k 0 ≡ get_or bs j 0 → Slot P v e ms bs k q

none_slot : (P : Checked) (v e : ℕ) (bs : List ℕ) (k : ℕ) (q : Entry) → slice_get (import_entries e 0 bs) k ≡ Some q
    → Slot P v e [] bs k q
none_slot P v e bs k q h =
    let z = import_slot e 0 bs k q h in
    let first : 0 + k ≡ k = omega arith in
    past_nexts k z.less (omega arith) (z.is ∙ ap (λ y. record { binder = get_or bs k 0; row = e; part = y }) first) refl

slot_at : (P : Checked) (v n e : ℕ) (bs : List ℕ) (k : ℕ) (q : Entry)
    → slice_get (variable_entries v (nexts_from P v n) ++ import_entries e 0 bs) k ≡ Some q
    → Slot P v e (nexts_from P v n) bs k q
slot_at P v zero e bs k q h = none_slot P v e bs k q h
slot_at P v (suc n) e bs k q h = go (is_variable (node P v)) refl k h (slot_at P (suc v) n e bs)
  where
    go : (t : Truth) → is_variable (node P v) ≡ t → (k : ℕ) →
        slice_get (variable_entries v (cond t (next_of P v ∷ nexts_from P (suc v) n) []) ++ import_entries e 0 bs) k
        ≡ Some q
        → ((j : ℕ) (p : Entry)
        → slice_get (variable_entries (suc v) (nexts_from P (suc v) n) ++ import_entries e 0 bs) j ≡ Some p →
        Slot P (suc v) e (nexts_from P (suc v) n) bs j p)
        → Slot P v e (cond t (next_of P v ∷ nexts_from P (suc v) n) []) bs k q
    go true is zero at rest = at_next v (omega arith) (omega arith) is (sym (some_is at)) refl
    go true is (suc k) at rest =
        let up : v + 1 ≡ suc v = omega arith in
        by (rest k q
        (subst (λ z. slice_get (variable_entries z (nexts_from P (suc v) n) ++ import_entries e 0 bs) k ≡ Some q) up
        at))
      where
        by : Slot P (suc v) e (nexts_from P (suc v) n) bs k q
            → Slot P v e (next_of P v ∷ nexts_from P (suc v) n) bs (suc k) q
        by (at_next w less here variable entry first) =
            at_next w (omega (arith, less)) (omega (arith, here)) variable entry first
        by (past_nexts j less here entry there) = past_nexts j less (omega (arith, here)) entry there
    go false is k at rest = none_slot P v e bs k q at

-- the entry of this number is one of what is carried on, or it is behind them
data Before (cs : List ℕ) (qs : List Entry) (k : ℕ) (q : Entry) : Type 0 where
  at_one : k < length cs → q ≡ param_entry (get_or cs k 0) → Before cs qs k q
  past_all : (j : ℕ) → k ≡ length cs + j → slice_get qs j ≡ Some q → Before cs qs k q

before_at : (cs : List ℕ) (qs : List Entry) (k : ℕ) (q : Entry) → slice_get (map param_entry cs ++ qs) k ≡ Some q
    → Before cs qs k q
before_at [] qs k q h = past_all k (omega arith) h
before_at (c ∷ cs) qs zero q h = at_one (omega arith) (sym (some_is h))
before_at (c ∷ cs) qs (suc k) q h = by (before_at cs qs k q h)
  where
    by : Before cs qs k q → Before (c ∷ cs) qs (suc k) q
    by (at_one less is) = at_one (omega (arith, less)) is
    by (past_all j here there) = past_all j (omega (arith, here)) there

-- an entry of what a loop carries on takes that, a variable the value of its first binder, and another entry that of
-- its import
pub data GivenAs (P : Checked) (h k : ℕ) (q : Entry) : Type 0 where
  as_carried : has_index P h ≡ true → k < 3 → q ≡ param_entry (h + 1 + k) → GivenAs P h k q
  as_first : (v j : ℕ) → v < length (rows P) → node P v ≡ Variable → h < v → v < entries_row P h → v ≡ h + 1 + k
      → k ≡ carries_on P h + j →
      q ≡ record { binder = next_of P v; row = v; part = 0 }
      → get_or (entering P h) j 0 ≡ first_binder P (next_of P v) → GivenAs P h k q
  as_import : (j : ℕ) → j < length (imports_of P h) → k ≡ carries_on P h + (length (nexts_of P h) + j) →
      q ≡ record { binder = get_or (imports_of P h) j 0; row = entries_row P h; part = j }
      → get_or (entering P h) (length (nexts_of P h) + j) 0 ≡ get_or (imports_of P h) j 0 → GivenAs P h k q

carried_given : (P : Checked) (h k : ℕ) (q : Entry) → k < length (carried P h)
    → q ≡ param_entry (get_or (carried P h) k 0) → GivenAs P h k q
carried_given P h k q less is = go (has_index P h) refl k less is
  where
    go : (t : Truth) → has_index P h ≡ t → (k : ℕ) → k < length (cond t ((h + 1) ∷ (h + 2) ∷ (h + 3) ∷ []) [])
        → q ≡ param_entry (get_or (cond t ((h + 1) ∷ (h + 2) ∷ (h + 3) ∷ []) []) k 0) → GivenAs P h k q
    go false has k less is = absurd (omega (arith, less))
    go true has zero less is =
        let at : h + 1 ≡ h + 1 + 0 = omega arith in as_carried has (omega arith) (is ∙ ap param_entry at)
    go true has (suc zero) less is =
        let at : h + 2 ≡ h + 1 + 1 = omega arith in as_carried has (omega arith) (is ∙ ap param_entry at)
    go true has (suc (suc zero)) less is =
        let at : h + 3 ≡ h + 1 + 2 = omega arith in as_carried has (omega arith) (is ∙ ap param_entry at)
    go true has (suc (suc (suc k))) less is = absurd (omega (arith, less))

pub given_as : (P : Checked) (h k : ℕ) (q : Entry) → slice_get (loop_entries P h) k ≡ Some q → GivenAs P h k q
given_as P h k q at =
    by (before_at (carried P h)
    (variable_entries first (nexts_of P h) ++ import_entries (entries_row P h) 0 (imports_of P h)) k q at)
  where
    first : ℕ
    first = first_variable P h

    behind : (j : ℕ) → k ≡ carries_on P h + j → Slot P first (entries_row P h) (nexts_of P h) (imports_of P h) j q
        → GivenAs P h k q
    behind j here (at_next w less there variable entry name) =
        as_first w j (variable_within P w variable) (variable_is (node P w) variable) (omega (arith, there))
        (omega (arith, there, less))
        (omega (arith, there, here)) here entry name
    behind j here (past_nexts i less there entry name) =
        as_import i less (omega (arith, here, there)) entry (ap (λ m. get_or (entering P h) m 0) (sym there) ∙ name)

    by : Before (carried P h)
        (variable_entries first (nexts_of P h) ++ import_entries (entries_row P h) 0 (imports_of P h)) k q
        → GivenAs P h k q
    by (at_one less is) = carried_given P h k q less is
    by (past_all j here there) =
        behind j here (slot_at P first (length (rows P)) (entries_row P h) (imports_of P h) j q there)

-- no two entries of a loop are one part of one row
pub one_entry : (P : Checked) (h h' k k' : ℕ) (q q' : Entry) → slice_get (loop_entries P h) k ≡ Some q
    → slice_get (loop_entries P h') k' ≡ Some q' → h ≡ h' → q.row ≡ q'.row → q.part ≡ q'.part → k ≡ k'
one_entry P h h' k k' q q' at at' same to there = by (given_as P h k q at) (given_as P h' k' q' at')
  where
    past : entries_row P h ≡ entries_row P h'
    past = ap (entries_row P) same

    count : length (nexts_of P h) ≡ length (nexts_of P h')
    count = ap (λ z. length (nexts_of P z)) same

    own : carries_on P h ≡ carries_on P h'
    own = ap (carries_on P) same

    -- what is carried on comes before the entries of imports
    low_by : (g k : ℕ) → has_index P g ≡ true → k < 3 → g + 1 + k < entries_row P g
    low_by g k has less =
        let three : carries_on P g ≡ 3 = ap length (three_carried P g has) in omega (arith, three, less)

    by : GivenAs P h k q → GivenAs P h' k' q' → k ≡ k'
    by (as_carried has less entry) (as_carried has' less' entry') =
        let row : h + 1 + k ≡ h' + 1 + k' =
        sym (ap (λ (z : Entry). z.row) entry) ∙ to ∙ ap (λ (z : Entry). z.row) entry' in
        omega (arith, row, same)
    by (as_carried has less entry) (as_first w _ _ _ low' high' here' _ entry' _) =
        let row : h + 1 + k ≡ w = sym (ap (λ (z : Entry). z.row) entry) ∙ to ∙ ap (λ (z : Entry). z.row) entry' in
        omega (arith, row, here', same)
    by (as_carried has less entry) (as_import j _ here' entry' _) =
        let row : h + 1 + k ≡ entries_row P h' =
        sym (ap (λ (z : Entry). z.row) entry) ∙ to ∙ ap (λ (z : Entry). z.row) entry' in
        absurd (omega (arith, row, low_by h k has less, past))
    by (as_first v _ _ _ low high here _ entry _) (as_carried has' less' entry') =
        let row : v ≡ h' + 1 + k' = sym (ap (λ (z : Entry). z.row) entry) ∙ to ∙ ap (λ (z : Entry). z.row) entry' in
        omega (arith, row, here, same)
    by (as_import j _ here entry _) (as_carried has' less' entry') =
        let row : entries_row P h ≡ h' + 1 + k' =
        sym (ap (λ (z : Entry). z.row) entry) ∙ to ∙ ap (λ (z : Entry). z.row) entry' in
        absurd (omega (arith, row, low_by h' k' has' less', past))
    by (as_first v _ _ _ low high here _ entry _) (as_first w _ _ _ low' high' here' _ entry' _) =
        let row : v ≡ w = sym (ap (λ (z : Entry). z.row) entry) ∙ to ∙ ap (λ (z : Entry). z.row) entry' in
        omega (arith, row, here, here', same)
    by (as_first v _ _ _ low high here _ entry _) (as_import j _ here' entry' _) =
        let row : v ≡ entries_row P h' =
        sym (ap (λ (z : Entry). z.row) entry) ∙ to ∙ ap (λ (z : Entry). z.row) entry' in
        absurd (omega (arith, row, high, past))
    by (as_import j _ here entry _) (as_first w _ _ _ low' high' here' _ entry' _) =
        let row : entries_row P h ≡ w = sym (ap (λ (z : Entry). z.row) entry) ∙ to ∙ ap (λ (z : Entry). z.row) entry' in
        absurd (omega (arith, row, high', past))
    by (as_import j _ here entry _) (as_import i _ here' entry' _) =
        let part : j ≡ i = sym (ap (λ (z : Entry). z.part) entry) ∙ there ∙ ap (λ (z : Entry). z.part) entry' in
        omega (arith, part, here, here', count, own)
