-- The edges from both rows.
use Rattle.std.proofs.Common.{◌∷◌, []}
use Rattle.std.proofs.lemmas.Result.{on_ok_weaker}
use Rattle.id_source.proofs.EdgesLemmas.{gains_to-both}
use Rattle.id_source.proofs.links.add_both.Goals as goal

pub returns : goal.returns
returns c =
    on_ok_weaker c.add_read-2.result
    (λ g. gains_to-both _ _ _ (c.args.left ∷ []) (c.args.right ∷ []) c.args.n c.in_ok-add_read.ensures g)
    c.add_read-2.ensures
