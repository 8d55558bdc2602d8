-- What they give so far, and what the rest do.
use Rattle.std.proofs.Common.{refl}
use Rattle.id_meaning.specs.Effects.{counted, counted_with}
use Rattle.id_source.proofs.TurnsLemmas.{gathered-all, gathered-more, on_ok}
use Rattle.id_meaning.proofs.counts.add_counted.Goals as goal

pub loop-value-init : goal.loop-value-init
loop-value-init c = refl

pub loop-value-preserved : goal.loop-value-preserved
loop-value-preserved c =
    gathered-more (λ vs. counted c.args.links.now c.args.counting vs c.args.uppers.now)
    (λ v. counted_with c.args.links.now c.args.counting v c.args.uppers.now) (λ _ _. refl) c.args.values.now
    c.loop-value.value-index _ _ _ _
    c.loop-value-test.true c.in_ok-add_counted_with.ensures c.loop-value.invariant

pub returns-in_err-add_counted_with : goal.returns-in_err-add_counted_with
returns-in_err-add_counted_with c = on_ok _ c.from_residual.result c.from_residual.ensures.0

pub returns : goal.returns
returns c =
    gathered-all (λ vs. counted c.args.links.now c.args.counting vs c.args.uppers.now) refl c.args.values.now
    c.loop-value.value-index _ _
    c.loop-value-test.false c.loop-value.invariant
