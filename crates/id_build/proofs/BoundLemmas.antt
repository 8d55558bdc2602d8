-- A row makes no more instructions than by the number of rows in what begins at it.
use Rattle.std.proofs.Common.{◌≡◌, ℕ, zero, suc, ◌+◌, ◌-◌, ◌*◌, ◌≤◌, ◌<◌, Bool, true, false, List, [], ◌∷◌, ◌++◌}
use Rattle.std.proofs.Common.{Option, Some, None, length, ap, arith, refl}
use Rattle.std.specs.Prelude.{if◌then◌else◌, unwrap_or}
use Rattle.std.specs.Option.{option_or}
use Rattle.std.proofs.lemmas.List.{length_push, length-append}
use Rattle.id_table.specs.declared.row.Node.TheVariants.{Entries, LoopHead, Split, Start, Switches, Turn}
use Rattle.id_table.specs.Rows.{at}
use Rattle.id_table.specs.Tables.{is_in_loop}
use Rattle.id_check.specs.declared.checked.Checked.{Checked}
use Rattle.id_check.specs.Programs.{place, rows}
use Rattle.id_check.specs.Scopes.{first_of}
use Rattle.id_check.proofs.ProgramsLemmas.{table_of}
use Rattle.id_desugar.specs.Ends.{end_at, end_of, ends_what}
use Rattle.id_desugar.specs.Regions.{bound_of, carried, first_variable, handed, has, has_index, imports_by, imports_of}
use Rattle.id_desugar.specs.Regions.{is_loop_head, is_outside, nexts_of, taken, used, with_use}
use Rattle.id_build.specs.Rows.{block, made, made_of, node}
use Rattle.id_build.proofs.LoopsLemmas.{entries_are, head_inside, loop_rows, start_head, start_inside, switches_high}
use Rattle.id_desugar.proofs.EndsLemmas.{row_inside}
use Rattle.id_build.proofs.SizeLemmas.{length-entries, length-split, length-start, length-switches, length-turn}

-- what begins at a row ends at one of the rows
pub end_of-within : (P : Checked) (h : ℕ) → end_of P h ≤ length (rows P)
end_of-within P h = below (length (rows P))
  where
    by : (n : ℕ) (o : Option ℕ) (t : Bool) → unwrap_or o 0 ≤ n
        → unwrap_or (option_or o (if t then Some n else None)) 0 ≤ suc n
    by n (Some m) t l = omega (arith, l)
    by n None true l = omega arith
    by n None false l = omega arith

    below : (n : ℕ) → unwrap_or (first_of (end_at P h) n) 0 ≤ n
    below zero = omega arith
    below (suc n) = by n (first_of (end_at P h) n) (ends_what h (at (rows P) n).node) (below n)

-- one more use is one more import at most
with_use-length : (lo hi : ℕ) (bs : List ℕ) (o : Option ℕ) → length (with_use lo hi bs o) ≤ suc (length bs)
with_use-length lo hi bs None = omega arith
with_use-length lo hi bs (Some b) = by (is_outside lo hi b) (has bs b)
  where
    by : (out there : Bool) → length (if out then (if there then bs else bs ++ b ∷ []) else bs) ≤ suc (length bs)
    by true true = omega arith
    by true false = let e = length_push bs b in omega arith
    by false there = omega arith

imports_by-length : (f : ℕ → Option ℕ) (lo hi k : ℕ) → length (imports_by f lo hi k) ≤ k
imports_by-length f lo hi zero = omega arith
imports_by-length f lo hi (suc k) =
    let one = with_use-length lo hi (imports_by f lo hi k) (f (lo + k)) in
    let rest = imports_by-length f lo hi k in
    omega (arith, one, rest)

-- there are no more imports than rows
taken-length : (P : Checked) (h : ℕ) → length (taken P h) ≤ end_of P h - (h + 1)
taken-length P h = imports_by-length (used P h) (h + 1) (end_of P h) (end_of P h - (h + 1))

-- nor more variables of a loop
nexts-length : (P : Checked) (h s : ℕ) → h < length (rows P) → node P h ≡ LoopHead s
    → length (nexts_of P h) ≤ end_of P h - (h + 1)
nexts-length P h s within is =
    let z = loop_rows P h s within is in
    let count : first_variable P h + length (nexts_of P h) ≡ z.entries = entries_are P h s within is in
    let high = switches_high z in
    omega (arith, count, z.test.low, z.test.behind, high)

-- what it carries on beside is no more than an index, its upper bound and a flag
carried-length : (P : Checked) (h : ℕ) → length (carried P h) ≤ 3
carried-length P h = by (has_index P h)
  where
    by : (t : Bool) → length (if t then ((h + 1) ∷ (h + 2) ∷ (h + 3) ∷ []) else []) ≤ 3
    by true = omega arith
    by false = omega arith

bound-length : (P : Checked) (h : ℕ) → length (bound_of P h) ≤ 1
bound-length P h = by (has_index P h)
  where
    by : (t : Bool) → length (if t then ((h + 2) ∷ []) else []) ≤ 1
    by true = omega arith
    by false = omega arith

-- the marker of a loop stands in the block of its head
block_head : (P : Checked) (n : ℕ) → is_in_loop (node P n) ≡ true
    → (block P n < length (rows P)) × (node P (block P n) ≡ LoopHead (block P n - 1))
block_head P n is =
    let c = (table_of P).loop_of n (row_inside (rows P) n is_in_loop refl is) is in
    let head = ((table_of P).loop_is c.0 (block P n) c.1).before_test.head in
    (head_inside P (block P n) (ap is_loop_head head), head)

-- what the head of a loop imports
head-length : (P : Checked) (h s : ℕ) → node P h ≡ LoopHead s → length (imports_of P h) ≤ end_of P h - (h + 1)
head-length P h s is =
    let same : length (imports_of P h) ≡ length (taken P h) = ap (λ m. length (handed P h m)) is in
    omega (arith, same, taken-length P h)

pub split-most : (P : Checked) (n t : ℕ) → node P n ≡ Split t → length (made P n) ≤ (end_of P n - (n + 1)) + 1
split-most P n t is =
    let same : length (made P n) ≡ length (made_of P n (place P n) (Split t)) =
    ap (λ m. length (made_of P n (place P n) m)) is in
    let imported : length (imports_of P n) ≡ length (taken P n) = ap (λ m. length (handed P n m)) is in
    omega (arith, same, imported, length-split P n (place P n) t, taken-length P n)

pub switches-most : (P : Checked) (n t : ℕ) → node P n ≡ Switches t
    → length (made P n) ≤ 2 * (end_of P (block P n) - (block P n + 1)) + 2
switches-most P n t is =
    let g = block P n in
    let head = block_head P n (ap is_in_loop is) in
    let same : length (made P n) ≡ length (made_of P n (place P n) (Switches t)) =
    ap (λ m. length (made_of P n (place P n) m)) is in
    let imported : length (imports_of P n) ≡ length (bound_of P g ++ (nexts_of P g ++ taken P g)) =
    ap (λ m. length (handed P n m)) is in
    let variables = nexts-length P g (g - 1) head.0 head.1 in
    omega (
      arith,
      same,
      imported,
      length-append (bound_of P g) (nexts_of P g ++ taken P g),
      bound-length P g,
      length-append (nexts_of P g) (taken P g),
      length-switches P n (place P n) t,
      taken-length P g,
      variables,
    )

pub start-most : (P : Checked) (n : ℕ) → node P n ≡ Start → length (made P n) ≤ 2 * (end_of P (n + 1) - (n + 1 + 1)) + 4
start-most P n is =
    let head = start_head P n (start_inside P n is) is in
    let same : length (made P n) ≡ length (made_of P n (place P n) Start) =
    ap (λ m. length (made_of P n (place P n) m)) is in
    omega (
      arith,
      same,
      length-start P n (place P n),
      head-length P (n + 1) n head.1,
      nexts-length P (n + 1) n head.0 head.1,
      carried-length P (n + 1),
    )

pub entries-most : (P : Checked) (n : ℕ) → node P n ≡ Entries
    → length (made P n) ≤ end_of P (block P n) - (block P n + 1)
entries-most P n is =
    let g = block P n in
    let head = block_head P n (ap is_in_loop is) in
    let same : length (made P n) ≡ length (made_of P n (place P n) Entries) =
    ap (λ m. length (made_of P n (place P n) m)) is in
    omega (arith, same, length-entries P n (place P n), head-length P g (g - 1) head.1)

pub turn-most : (P : Checked) (n : ℕ) → node P n ≡ Turn
    → length (made P n) ≤ (end_of P (block P n) - (block P n + 1)) + 4
turn-most P n is =
    let g = block P n in
    let head = block_head P n (ap is_in_loop is) in
    let same : length (made P n) ≡ length (made_of P n (place P n) Turn) =
    ap (λ m. length (made_of P n (place P n) m)) is in
    omega (arith, same, length-turn P n (place P n), head-length P g (g - 1) head.1, carried-length P g)
