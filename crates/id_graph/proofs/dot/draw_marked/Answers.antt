use Rattle.id_graph.proofs.PieceLemmas.{alone}
use Rattle.id_graph.proofs.dot.draw_marked.Goals as goal

pub returns : goal.returns
returns c = alone _ _ _ c.new-out.ensures.bytes c.in_ok-write_all.ensures
