-- What a call names in a program: its `Enter`, and the parameters of a procedure.
use Rattle.std.proofs.Common.{◌≡◌, ℕ, ◌<◌, ◌+◌, true, cond, length, ap, arith}
use Rattle.id_table.specs.declared.row.Node.TheVariants.{Enter, Arg}
use Rattle.id_table.specs.Tables.{is_param}
use Rattle.id_table.specs.Turns.{IsDefOf}
use Rattle.id_check.specs.declared.checked.Checked.{Checked}
use Rattle.id_check.specs.Programs.{rows}
use Rattle.id_check.proofs.ProgramsLemmas.{table_of}
use Rattle.id_build.specs.Rows.{node, param_at}

-- what an argument names as its `Enter` is one
pub enter_of_arg : (P : Checked) (m e k v : ℕ) → m < length (rows P) → node P m ≡ Arg e k v
    → (x : ℕ) × (node P e ≡ Enter x)
enter_of_arg P m e k v within is =
    let a = (table_of P).arg_of m e k (record { value = v; within = within; node = is }) in
    let z = (table_of P).enter_of a.row e a.call in
    (z.name, z.node)

-- how many parameters the definition at the row n has, whose head is h
abbrev pub params_of : (P : Checked) (n h : ℕ) → IsDefOf (rows P) n h → ℕ
params_of P n h d = ((table_of P).params n h d).count

-- a parameter stands at each index below that
pub param_there : (P : Checked) (n h i : ℕ) (d : IsDefOf (rows P) n h) → i < params_of P n h d
    → (is_param (node P (h + 1 + i)) ≡ true) × (param_at P (h + 1 + i) ≡ h + 1 + i)
param_there P n h i d less =
    let there = ((table_of P).params n h d).param (h + 1 + i) (omega arith) (omega (arith, less)) in
    (there, ap (λ t. cond t (h + 1 + i) 0) there)
