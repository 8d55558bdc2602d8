-- The edges to the parts of a store.
use Rattle.std.proofs.lemmas.Result.{on_ok_weaker}
use Rattle.id_source.proofs.EdgesLemmas.{gains-store}
use Rattle.id_source.proofs.links.add_store_parts.Goals as goal

pub returns : goal.returns
returns c =
    on_ok_weaker c.add.result
    (λ g. gains-store _ _ _ _ c.args.n c.args.value c.target_at.result c.index_at.result _ _ c.target_at.ensures
    c.index_at.ensures
    c.in_ok-add_some.ensures c.in_ok-add_some-2.ensures g) c.add.ensures.gains
