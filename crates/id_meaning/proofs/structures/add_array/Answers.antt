-- What they give so far, and what the rest do.
use Rattle.std.proofs.Common.{refl}
use Rattle.id_meaning.specs.Given.{array_by, arrays}
use Rattle.id_source.proofs.TurnsLemmas.{gathered-all, gathered-more, on_ok}
use Rattle.id_meaning.proofs.structures.add_array.Goals as goal

pub loop-low-init : goal.loop-low-init
loop-low-init c = refl

pub loop-low-preserved : goal.loop-low-preserved
loop-low-preserved c =
    gathered-more (λ vs. arrays c.args.point.path c.args.point.row c.args.spot vs c.args.highs.now)
    (λ v. array_by c.args.point.path c.args.point.row c.args.spot v c.args.highs.now) (λ _ _. refl) c.args.lows.now
    c.loop-low.low-index _ _ _ _ c.loop-low-test.true
    c.in_ok-add_array_by.ensures c.loop-low.invariant

pub returns-in_err-add_array_by : goal.returns-in_err-add_array_by
returns-in_err-add_array_by c = on_ok _ c.from_residual.result c.from_residual.ensures.0

pub returns : goal.returns
returns c =
    gathered-all (λ vs. arrays c.args.point.path c.args.point.row c.args.spot vs c.args.highs.now) refl c.args.lows.now
    c.loop-low.low-index _ _ c.loop-low-test.false
    c.loop-low.invariant
