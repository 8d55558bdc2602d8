use Rattle.std.proofs.Common.{codes}
use Rattle.std.specs.Fmt.{decimal}
use Rattle.std.proofs.lemmas.Result.{on_ok_weaker}
use Rattle.id_graph.specs.Dot.{frame_text}
use Rattle.id_graph.proofs.DotLemmas.{three_and_two}
use Rattle.id_graph.proofs.dot.write_cluster.Goals as goal

pub returns : goal.returns
returns c =
    let a = c.args in
    on_ok_weaker c.put.result
    (three_and_two _ _ _ _ (codes "}\nsubgraph cluster_") (decimal a.number) (codes " {\nlabel=\"") (frame_text a.lines.now a.place) (codes "\";\n")
    c.in_ok-write.ensures.bytes c.in_ok-write_frame.ensures) c.put.ensures
