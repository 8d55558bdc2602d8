use Rattle.std.proofs.Common.{codes}
use Rattle.std.proofs.lemmas.Result.{on_ok_weaker}
use Rattle.id_graph.specs.Dot.{links_text, nodes_text, opening}
use Rattle.id_graph.proofs.PieceLemmas.{five_by_one}
use Rattle.id_graph.proofs.dot.write_all.Goals as goal

pub returns : goal.returns
returns c =
    let g = c.args.graph.now in
    let links = rw c.instrs.ensures.value at c.in_ok-write_links.ensures in
    on_ok_weaker c.put-3.result
    (five_by_one _ _ _ _ _ _ opening (nodes_text c.args.lines.now g.blocks 0 g.instrs) (codes "}\n") (links_text 0 g.instrs) (codes "}\n")
    c.in_ok-put.ensures c.in_ok-write_nodes.ensures c.in_ok-put-2.ensures links) c.put-3.ensures
