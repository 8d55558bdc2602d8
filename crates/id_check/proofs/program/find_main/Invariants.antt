use Rattle.std.proofs.Common.{◌≡◌, ◌<◌, ℕ, false}
use Rattle.id_table.specs.Rows.{at}
use Rattle.id_check.specs.Causes.{defines_main}
use Rattle.id_check.proofs.program.find_main.Given as goal

abbrev pub invariant-loop-n : goal.invariant-loop-n
invariant-loop-n l = (i : ℕ) → i < l.n → defines_main (at l.rows i).node ≡ false
