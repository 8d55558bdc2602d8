-- The edges to the bounds of an index.
use Rattle.std.proofs.lemmas.Result.{on_ok_weaker}
use Rattle.id_source.proofs.EdgesLemmas.{gains-bounds}
use Rattle.id_source.proofs.links.add_bounds.Goals as goal

pub returns : goal.returns
returns c =
    on_ok_weaker c.add_some-2.result
    (λ g. gains-bounds _ _ _ c.args.n c.lower_at.result c.upper_at.result _ _ c.lower_at.ensures c.upper_at.ensures
    c.in_ok-add_some.ensures g)
    c.add_some-2.ensures
