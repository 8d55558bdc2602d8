-- What they give so far, and what the rest do.
use Rattle.std.proofs.Common.{refl}
use Rattle.id_meaning.specs.Given.{constant_of, unaries, unary_by}
use Rattle.id_source.proofs.TurnsLemmas.{gathered-all, gathered-more, on_ok}
use Rattle.id_meaning.proofs.operators.add_unary.Goals as goal

pub loop-operand-init : goal.loop-operand-init
loop-operand-init c = refl

pub loop-operand-preserved : goal.loop-operand-preserved
loop-operand-preserved c =
    gathered-more (unaries c.args.point.path c.args.point.row c.args.op)
    (λ v. unary_by c.args.point.path c.args.point.row c.args.op (constant_of v)) (λ _ _. refl)
    c.args.operands.now c.loop-operand.operand-index _ _ _ _ c.loop-operand-test.true
    (rw c.constant_of.ensures at c.in_ok-add_unary_by.ensures)
    c.loop-operand.invariant

pub returns-in_err-add_unary_by : goal.returns-in_err-add_unary_by
returns-in_err-add_unary_by c = on_ok _ c.from_residual.result c.from_residual.ensures.0

pub returns : goal.returns
returns c =
    gathered-all (unaries c.args.point.path c.args.point.row c.args.op) refl c.args.operands.now
    c.loop-operand.operand-index _ _
    c.loop-operand-test.false
    c.loop-operand.invariant
