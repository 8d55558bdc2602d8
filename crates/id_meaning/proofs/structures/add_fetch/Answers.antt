-- What they give so far, and what the rest do.
use Rattle.std.proofs.Common.{refl}
use Rattle.id_meaning.specs.Given.{fetch_by, fetches}
use Rattle.id_source.proofs.TurnsLemmas.{gathered-all, gathered-more, on_ok}
use Rattle.id_meaning.proofs.structures.add_fetch.Goals as goal

pub loop-target-init : goal.loop-target-init
loop-target-init c = refl

pub loop-target-preserved : goal.loop-target-preserved
loop-target-preserved c =
    gathered-more (λ vs. fetches c.args.lookup.now.cells.now c.args.point.path c.args.point.row vs c.args.indices.now)
    (λ v. fetch_by c.args.lookup.now.cells.now c.args.point.path c.args.point.row v c.args.indices.now) (λ _ _. refl)
    c.args.targets.now
    c.loop-target.target-index _ _ _ _
    c.loop-target-test.true c.in_ok-add_fetch_by.ensures c.loop-target.invariant

pub returns-in_err-add_fetch_by : goal.returns-in_err-add_fetch_by
returns-in_err-add_fetch_by c = on_ok _ c.from_residual.result c.from_residual.ensures.0

pub returns : goal.returns
returns c =
    gathered-all (λ vs. fetches c.args.lookup.now.cells.now c.args.point.path c.args.point.row vs c.args.indices.now)
    refl c.args.targets.now
    c.loop-target.target-index _ _
    c.loop-target-test.false c.loop-target.invariant
