-- The head of a loop is a row.
use Rattle.std.proofs.Common.{arith, refl}
use Rattle.id_check.specs.Programs.{rows}
use Rattle.id_desugar.specs.Regions.{is_loop_head}
use Rattle.id_desugar.proofs.EndsLemmas.{row_inside}
use Rattle.id_desugar.proofs.access.first_variable.Goals as goal

pub overflow_add-result : goal.overflow_add-result
overflow_add-result c =
    let P = c.args.checked.now in
    omega (arith, row_inside (rows P) c.args.head is_loop_head refl c.requires, P.table.rows.ok.0)
