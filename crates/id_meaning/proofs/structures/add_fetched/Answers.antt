-- What they give so far, and what the rest do.
use Rattle.std.proofs.Common.{refl}
use Rattle.id_meaning.specs.Given.{asked, asked_by}
use Rattle.id_source.proofs.TurnsLemmas.{gathered-all, gathered-more, on_ok}
use Rattle.id_meaning.proofs.structures.add_fetched.Goals as goal

pub loop-index-init : goal.loop-index-init
loop-index-init c = refl

pub loop-index-preserved : goal.loop-index-preserved
loop-index-preserved c =
    gathered-more (asked c.args.point.path c.args.point.row c.args.name c.args.shapes.now)
    (asked_by c.args.point.path c.args.point.row c.args.name c.args.shapes.now) (λ _ _. refl)
    c.args.indices.now c.loop-index.index-index _ _ _ _ c.loop-index-test.true c.in_ok-add_fetched_by.ensures
    c.loop-index.invariant

pub returns-in_err-add_fetched_by : goal.returns-in_err-add_fetched_by
returns-in_err-add_fetched_by c = on_ok _ c.from_residual.result c.from_residual.ensures.0

pub returns : goal.returns
returns c =
    gathered-all (asked c.args.point.path c.args.point.row c.args.name c.args.shapes.now) refl c.args.indices.now
    c.loop-index.index-index _ _ c.loop-index-test.false
    c.loop-index.invariant
