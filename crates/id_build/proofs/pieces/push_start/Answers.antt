-- A `Start` begins the loop whose head is the next row.
use Rattle.std.proofs.Common.{ap, arith}
use Rattle.id_desugar.specs.Regions.{is_loop_head}
use Rattle.id_build.proofs.LoopsLemmas.{rows_few, start_head, start_inside}
use Rattle.id_build.proofs.pieces.push_start.Goals as goal

pub push_sends-requires : goal.push_sends-requires
push_sends-requires c =
    let P = c.args.kernel.now.checked.now in
    ap is_loop_head (start_head P c.args.n (start_inside P c.args.n c.requires) c.requires).1

pub overflow_add-head : goal.overflow_add-head
overflow_add-head c =
    let P = c.args.kernel.now.checked.now in
    omega (arith, start_inside P c.args.n c.requires, rows_few P)
