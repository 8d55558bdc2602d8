-- What a row names as its switches is a row.
use Rattle.std.proofs.Common.{arith}
use Rattle.id_build.proofs.LoopsLemmas.{rows_half, switches_few}
use Rattle.id_build.proofs.loops.turn_row.Goals as goal

pub overflow_add-result : goal.overflow_add-result
overflow_add-result c =
    let P = c.args.kernel.now.checked.now in
    omega (arith, c.switches_row.ensures, switches_few P c.args.head, rows_half P)
