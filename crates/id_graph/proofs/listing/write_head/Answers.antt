use Rattle.std.proofs.Common.{codes}
use Rattle.std.specs.Fmt.{decimal}
use Rattle.std.proofs.lemmas.Result.{on_ok_weaker}
use Rattle.id_graph.specs.Listing.{op_text, place_text}
use Rattle.id_graph.proofs.PieceLemmas.{four_by_one}
use Rattle.id_graph.proofs.listing.write_head.Goals as goal

pub returns : goal.returns
returns c =
    let i = c.args.instr.now in
    on_ok_weaker c.write_place.result
    (four_by_one _ _ _ _ _ (decimal c.args.number) (codes " ") (op_text i.op) (place_text c.args.lines.now i.place)
    c.in_ok-write_number.ensures c.in_ok-put.ensures c.in_ok-write_op.ensures) c.write_place.ensures
