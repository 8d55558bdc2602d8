use Rattle.std.proofs.Common.{true, codes}
use Rattle.std.proofs.lemmas.Result.{on_ok_weaker}
use Rattle.id_instr.specs.Graph.{arcs_on}
use Rattle.id_graph.specs.Listing.{dests_text, false_text, head_text}
use Rattle.id_graph.proofs.PieceLemmas.{one_and_four}
use Rattle.id_graph.proofs.listing.write_line.Goals as goal

pub returns : goal.returns
returns c =
    let i = c.args.instr.now in
    on_ok_weaker c.write_arcs.result
    (one_and_four _ _ _ (head_text c.args.lines.now c.args.number i) (codes " ->") (dests_text (arcs_on true i)) (false_text i) (codes "\n")
    c.in_ok-write_head.ensures) c.write_arcs.ensures
