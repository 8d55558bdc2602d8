-- What they give so far, and what the rest do.
use Rattle.std.proofs.Common.{refl}
use Rattle.id_meaning.specs.Given.{arm_by, arms}
use Rattle.id_source.proofs.TurnsLemmas.{gathered-all, gathered-more, on_ok}
use Rattle.id_meaning.proofs.given.add_arms.Goals as goal

pub loop-test-init : goal.loop-test-init
loop-test-init c = refl

pub loop-test-preserved : goal.loop-test-preserved
loop-test-preserved c =
    gathered-more
    (arms c.args.lookup.now.cells.now c.args.lookup.now.followed c.args.point.path c.args.point.row c.args.then
    c.args.otherwise)
    (arm_by c.args.lookup.now.cells.now c.args.lookup.now.followed c.args.point.path c.args.point.row c.args.then
    c.args.otherwise) (λ _ _. refl)
    c.args.tests.now c.loop-test.test-index
    _ _ _ _ c.loop-test-test.true c.in_ok-add_arm.ensures c.loop-test.invariant

pub returns-in_err-add_arm : goal.returns-in_err-add_arm
returns-in_err-add_arm c = on_ok _ c.from_residual.result c.from_residual.ensures.0

pub returns : goal.returns
returns c =
    gathered-all
    (arms c.args.lookup.now.cells.now c.args.lookup.now.followed c.args.point.path c.args.point.row c.args.then
    c.args.otherwise) refl
    c.args.tests.now c.loop-test.test-index
    _ _ c.loop-test-test.false c.loop-test.invariant
