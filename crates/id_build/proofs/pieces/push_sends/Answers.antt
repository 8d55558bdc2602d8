-- The variables of a loop are rows.
use Rattle.std.proofs.Common.{arith}
use Rattle.id_build.specs.Rows.{node}
use Rattle.id_build.proofs.LoopsLemmas.{entries_within, head_inside, loop_head_is}
use Rattle.id_build.proofs.pieces.push_sends.Goals as goal

pub push_variable_sends-requires : goal.push_variable_sends-requires
push_variable_sends-requires c =
    let P = c.args.kernel.now.checked.now in
    let h = c.args.head in
    let rows = P.table.rows in
    let z = loop_head_is (node P h) c.requires in
    let low = entries_within P h z.0 (head_inside P h c.requires) z.1 in
    record { few = omega (arith, low, rows.ok.0, rows.ok.1, rows.small, c.first_variable-first.ensures) }
