use Rattle.std.proofs.Common.{codes}
use Rattle.std.specs.Fmt.{decimal}
use Rattle.std.proofs.lemmas.Result.{on_ok_weaker}
use Rattle.id_graph.specs.Dot.{shape_text}
use Rattle.id_graph.specs.Listing.{head_text}
use Rattle.id_graph.specs.Looks.{look}
use Rattle.id_graph.proofs.DotLemmas.{node_joined}
use Rattle.id_graph.proofs.dot.write_node.Goals as goal

pub returns : goal.returns
returns c =
    let text = c.args.lines.now in
    let n = c.args.number in
    let i = c.args.instr.now in
    on_ok_weaker c.writeln.result
    (node_joined _ _ _ _ _ _ (decimal n) (codes " [label=\"") (shape_text text n i) (codes ", tooltip=\"") (head_text text n i) (codes "\"") (look i.op)
    (codes "];\n") c.in_ok-write.ensures.bytes c.in_ok-write_shape.ensures c.in_ok-put.ensures c.in_ok-write_head.ensures)
    (rw c.look.ensures at c.writeln.ensures.bytes)
