-- The edges from the predicate, and then from both arms.
use Rattle.std.proofs.Common.{◌∷◌, []}
use Rattle.std.proofs.lemmas.Result.{on_ok_weaker}
use Rattle.id_source.specs.Links.{some_row}
use Rattle.id_source.proofs.EdgesLemmas.{gains_to-both}
use Rattle.id_source.proofs.links.add_if_reads.Goals as goal

pub returns : goal.returns
returns c =
    on_ok_weaker c.add_both.result
    (λ g. gains_to-both _ _ _ (some_row c.args.test) (c.args.then ∷ c.args.otherwise ∷ []) c.args.n
    c.in_ok-add_read.ensures g) c.add_both.ensures
