-- What they give so far, and what the rest do.
use Rattle.std.proofs.Common.{[], ◌∷◌, refl}
use Rattle.id_facts.specs.declared.facts.RowFact.TheVariants.{Has}
use Rattle.id_facts.specs.Firsts.{haves}
use Rattle.id_source.proofs.TurnsLemmas.{gathered-all, gathered-more, on_ok}
use Rattle.id_facts.proofs.found.add_values.Goals as goal

pub loop-value-init : goal.loop-value-init
loop-value-init c = refl

pub loop-value-preserved : goal.loop-value-preserved
loop-value-preserved c =
    gathered-more (haves c.args.path c.args.row) (λ v. Has c.args.path c.args.row v ∷ []) (λ _ _. refl)
    c.args.values.now c.loop-value.value-index _ _ _ _
    c.loop-value-test.true c.in_ok-add_has.ensures c.loop-value.invariant

pub returns-in_err-add_has : goal.returns-in_err-add_has
returns-in_err-add_has c = on_ok _ c.from_residual.result c.from_residual.ensures.0

pub returns : goal.returns
returns c =
    gathered-all (haves c.args.path c.args.row) refl c.args.values.now c.loop-value.value-index _ _
    c.loop-value-test.false c.loop-value.invariant
