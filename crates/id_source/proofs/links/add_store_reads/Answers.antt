-- The edges from the parts of a store.
use Rattle.std.proofs.lemmas.Result.{on_ok_weaker}
use Rattle.id_source.proofs.EdgesLemmas.{gains_to-store}
use Rattle.id_source.proofs.links.add_store_reads.Goals as goal

pub returns : goal.returns
returns c =
    on_ok_weaker c.add_read-3.result
    (λ g. gains_to-store _ _ _ _ c.args.n c.args.value c.target_at.result c.index_at.result _ _ c.target_at.ensures
    c.index_at.ensures
    c.in_ok-add_read.ensures c.in_ok-add_read-2.ensures g) c.add_read-3.ensures
