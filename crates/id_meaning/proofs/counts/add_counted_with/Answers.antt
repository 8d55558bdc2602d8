-- What they give so far, and what the rest do.
use Rattle.std.proofs.Common.{refl}
use Rattle.id_meaning.specs.Effects.{counted_by, counted_with}
use Rattle.id_source.proofs.TurnsLemmas.{gathered-all, gathered-more, on_ok}
use Rattle.id_meaning.proofs.counts.add_counted_with.Goals as goal

pub loop-upper-init : goal.loop-upper-init
loop-upper-init c = refl

pub loop-upper-preserved : goal.loop-upper-preserved
loop-upper-preserved c =
    gathered-more (counted_with c.args.links.now c.args.counting c.args.value)
    (counted_by c.args.links.now c.args.counting c.args.value) (λ _ _. refl)
    c.args.uppers.now c.loop-upper.upper-index _ _ _ _ c.loop-upper-test.true c.in_ok-add_counted_by.ensures
    c.loop-upper.invariant

pub returns-in_err-add_counted_by : goal.returns-in_err-add_counted_by
returns-in_err-add_counted_by c = on_ok _ c.from_residual.result c.from_residual.ensures.0

pub returns : goal.returns
returns c =
    gathered-all (counted_with c.args.links.now c.args.counting c.args.value) refl c.args.uppers.now
    c.loop-upper.upper-index _ _ c.loop-upper-test.false
    c.loop-upper.invariant
