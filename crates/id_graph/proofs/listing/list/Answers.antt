use Rattle.id_graph.proofs.listing.list.Goals as goal

pub returns : goal.returns
returns c = rw (c.instrs.ensures.value, c.in_ok-lines.ensures) at c.list_by.ensures
