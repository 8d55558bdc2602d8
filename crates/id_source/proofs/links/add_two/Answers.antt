-- The edges to both rows.
use Rattle.std.proofs.Common.{◌∷◌, []}
use Rattle.std.proofs.lemmas.Result.{on_ok_weaker}
use Rattle.id_source.proofs.EdgesLemmas.{gains-both}
use Rattle.id_source.proofs.links.add_two.Goals as goal

pub returns : goal.returns
returns c =
    on_ok_weaker c.add-2.result
    (λ g. gains-both _ _ _ c.args.n (c.args.first ∷ []) (c.args.second ∷ []) c.in_ok-add.ensures.gains g)
    c.add-2.ensures.gains
