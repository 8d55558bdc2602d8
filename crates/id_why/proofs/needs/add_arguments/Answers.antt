-- What they give so far, and what the rest do.
use Rattle.std.proofs.Common.{refl}
use Rattle.id_why.specs.Found.{argument_by, arguments}
use Rattle.id_why.specs.Needs.{node_at}
use Rattle.id_source.proofs.TurnsLemmas.{gathered-all, gathered-more, on_ok}
use Rattle.id_why.proofs.needs.add_arguments.Goals as goal

pub loop-arg-init : goal.loop-arg-init
loop-arg-init c = refl

pub loop-arg-preserved : goal.loop-arg-preserved
loop-arg-preserved c =
    gathered-more (arguments c.args.checked.now c.args.point.path c.args.point.row c.args.enter c.args.head)
    (λ m. argument_by c.args.point.path c.args.point.row c.args.enter c.args.head (node_at c.args.checked.now m)) (λ _ _. refl)
    c.args.args.now c.loop-arg.arg-index _ _ _ _ c.loop-arg-test.true
    (rw c.node_of.ensures at c.in_ok-add_argument.ensures) c.loop-arg.invariant

pub returns-in_err-add_argument : goal.returns-in_err-add_argument
returns-in_err-add_argument c = on_ok _ c.from_residual.result c.from_residual.ensures.0

pub returns : goal.returns
returns c =
    gathered-all (arguments c.args.checked.now c.args.point.path c.args.point.row c.args.enter c.args.head) refl c.args.args.now
    c.loop-arg.arg-index _ _
    c.loop-arg-test.false c.loop-arg.invariant
