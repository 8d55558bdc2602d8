-- The edges from the bounds of an index.
use Rattle.std.proofs.lemmas.Result.{on_ok_weaker}
use Rattle.id_source.proofs.EdgesLemmas.{gains_to-bounds}
use Rattle.id_source.proofs.links.add_bounds_reads.Goals as goal

pub returns : goal.returns
returns c =
    on_ok_weaker c.add_read-2.result
    (λ g. gains_to-bounds _ _ _ c.args.n c.lower_at.result c.upper_at.result _ _ c.lower_at.ensures c.upper_at.ensures
    c.in_ok-add_read.ensures g)
    c.add_read-2.ensures
