-- The edge from the row that is read.
use Rattle.id_source.proofs.EdgesLemmas.{gains-to}
use Rattle.id_source.proofs.links.add_read.Goals as goal

pub returns-in_ok-add-in-Some : goal.returns-in_ok-add-in-Some
returns-in_ok-add-in-Some c = rw c.in-Some.is (gains-to _ _ c.in-Some.row c.args.n c.in_ok-add-in-Some.ensures.gains)
