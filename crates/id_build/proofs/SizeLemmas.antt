-- How many instructions rows make.
use Rattle.std.proofs.Common.{◌≡◌, ℕ, zero, suc, ◌+◌, ◌-◌, ◌≤◌, ◌<◌, List, [], ◌∷◌, ◌++◌, length, length-append, refl}
use Rattle.std.proofs.Common.{ap, arith, subst}
use Rattle.std.proofs.lemmas.List.{length-map}
use Rattle.id_table.specs.declared.row.Node.TheVariants.{Entries, Split, Start, Switches, Turn}
use Rattle.id_check.specs.declared.checked.Checked.{Checked}
use Rattle.id_check.specs.Programs.{rows}
use Rattle.id_desugar.specs.Regions.{carried, imports_of, nexts_of}
use Rattle.id_instr.specs.declared.instr.Op.{Op}
use Rattle.id_instr.specs.declared.instr.Op.TheVariants.{Merge, Switch, Next as NextOp}
use Rattle.id_instr.specs.declared.instr.PortKind.{PortKind}
use Rattle.id_build.specs.Rows.{block, for_each, loop_entries, made, made_of, send_to, size, size_below}
use Rattle.id_build.proofs.RowLemmas.{length-loop_entries}

-- each of these binders has one instruction
pub length-for_each : (P : Checked) (op : PortKind → Op) (e : ℕ) (bs : List ℕ) → length (for_each P op e bs) ≡ length bs
length-for_each P op e [] = refl
length-for_each P op e (b ∷ bs) = ap suc (length-for_each P op e bs)

-- the trigger has one switch, too
pub length-split : (P : Checked) (n e t : ℕ) → length (made_of P n e (Split t)) ≡ length (imports_of P n) + 1
length-split P n e t = omega (arith, length-for_each P Switch e (imports_of P n))

pub length-switches : (P : Checked) (n e t : ℕ) → length (made_of P n e (Switches t)) ≡ length (imports_of P n) + 1
length-switches P n e t = omega (arith, length-for_each P Switch e (imports_of P n))

pub length-turn : (P : Checked) (n e : ℕ)
    → length (made_of P n e Turn) ≡ length (imports_of P (block P n)) + length (carried P (block P n)) + 1
length-turn P n e =
    let h = block P n in
    omega (
      arith,
      length-for_each P NextOp e (carried P h ++ imports_of P h),
      length-append (carried P h) (imports_of P h),
    )

pub length-entries : (P : Checked) (n e : ℕ) → length (made_of P n e Entries) ≡ length (imports_of P (block P n))
length-entries P n e = length-for_each P Merge e (imports_of P (block P n))

-- a loop's `Start` has one for the loop, and one for each entry
pub length-start : (P : Checked) (n e : ℕ)
    → length (made_of P n e Start) ≡ length (nexts_of P (n + 1)) + length (imports_of P (n + 1))
    + length (carried P (n + 1)) + 1
length-start P n e =
    omega (arith, length-map (loop_entries P (n + 1)) (send_to P e), length-loop_entries P (n + 1))

-- what one more row makes
pub size_below-next : (P : Checked) (n : ℕ) → size_below P (n + 1) ≡ size_below P n + length (made P n)
size_below-next P n =
    let next : n + 1 ≡ suc n = omega arith in
    ap (size_below P) next

-- more rows make no fewer
size_below-rises : (P : Checked) (n k : ℕ) → size_below P n ≤ size_below P (k + n)
size_below-rises P n zero =
    let same : zero + n ≡ n = omega arith in
    omega (arith, ap (size_below P) same)
size_below-rises P n (suc k) =
    let next : suc k + n ≡ suc (k + n) = omega arith in
    omega (arith, ap (size_below P) next, size_below-rises P n k)

-- the rows up to one of them, and it, make no more than all
pub size_below-within : (P : Checked) (n : ℕ) → n < length (rows P) → size_below P n + length (made P n) ≤ size P
size_below-within P n h =
    let all : (length (rows P) - suc n) + suc n ≡ length (rows P) = omega (arith, h) in
    subst (λ m. size_below P (suc n) ≤ size_below P m) all (size_below-rises P (suc n) (length (rows P) - suc n))
