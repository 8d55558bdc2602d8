use Rattle.std.proofs.Common.{codes}
use Rattle.std.specs.Fmt.{decimal}
use Rattle.std.proofs.lemmas.Result.{on_ok_weaker}
use Rattle.id_graph.specs.Dot.{ports_text, sides_text}
use Rattle.id_graph.specs.Listing.{op_text, place_text}
use Rattle.id_graph.specs.Looks.{name_text}
use Rattle.id_graph.proofs.DotLemmas.{box_joined}
use Rattle.id_graph.proofs.dot.write_box.Goals as goal

pub returns : goal.returns
returns c =
    let text = c.args.lines.now in
    let i = c.args.instr.now in
    on_ok_weaker c.write-3.result
    (box_joined _ _ _ _ _ _ (codes "{") (ports_text i.op) (decimal c.args.number) (codes " ") (op_text i.op) (codes "\\n") (name_text text i)
    (place_text text i.place) (sides_text i.op) (codes "}\"") (rw c.ports_text.ensures at c.in_ok-write.ensures.bytes) c.in_ok-write_op.ensures
    (rw c.requires.named at c.in_ok-write-2.ensures.bytes) c.in_ok-write_place.ensures) (rw c.sides_text.ensures at c.write-3.ensures.bytes)
