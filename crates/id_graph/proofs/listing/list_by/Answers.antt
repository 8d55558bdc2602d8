use Rattle.id_graph.proofs.PieceLemmas.{alone}
use Rattle.id_graph.proofs.listing.list_by.Goals as goal

pub returns : goal.returns
returns c = alone _ _ _ c.in_ok-out.ensures.bytes c.in_ok-write_lines.ensures
