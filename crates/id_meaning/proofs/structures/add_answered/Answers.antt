-- What they give so far, and what the rest do.
use Rattle.std.proofs.Common.{[], ◌∷◌, refl}
use Rattle.id_facts.specs.declared.facts.RowFact.TheVariants.{Has}
use Rattle.id_meaning.specs.Given.{answered}
use Rattle.id_source.proofs.TurnsLemmas.{gathered-all, gathered-more, on_ok}
use Rattle.id_meaning.proofs.structures.add_answered.Goals as goal

pub loop-ask-init : goal.loop-ask-init
loop-ask-init c = refl

pub loop-ask-preserved : goal.loop-ask-preserved
loop-ask-preserved c =
    gathered-more (answered c.args.value) (λ q. Has q.path q.row c.args.value ∷ []) (λ _ _. refl) c.args.asks.now
    c.loop-ask.ask-index _ _ _ _
    c.loop-ask-test.true c.in_ok-add_has.ensures c.loop-ask.invariant

pub returns-in_err-add_has : goal.returns-in_err-add_has
returns-in_err-add_has c = on_ok _ c.from_residual.result c.from_residual.ensures.0

pub returns : goal.returns
returns c =
    gathered-all (answered c.args.value) refl c.args.asks.now c.loop-ask.ask-index _ _ c.loop-ask-test.false
    c.loop-ask.invariant
