-- What they give so far, and what the rest do.
use Rattle.std.proofs.Common.{refl}
use Rattle.id_meaning.specs.Given.{all_rights, binary_by, constant_of}
use Rattle.id_source.proofs.TurnsLemmas.{gathered-all, gathered-more, on_ok}
use Rattle.id_meaning.proofs.operators.add_rights.Goals as goal

pub loop-right-init : goal.loop-right-init
loop-right-init c = refl

pub loop-right-preserved : goal.loop-right-preserved
loop-right-preserved c =
    gathered-more (all_rights c.args.point.path c.args.point.row c.args.op c.args.left)
    (λ v. binary_by c.args.point.path c.args.point.row c.args.op c.args.left (constant_of v))
    (λ _ _. refl) c.args.rights.now c.loop-right.right-index _ _ _ _ c.loop-right-test.true
    (rw c.constant_of.ensures at c.in_ok-add_binary_by.ensures)
    c.loop-right.invariant

pub returns-in_err-add_binary_by : goal.returns-in_err-add_binary_by
returns-in_err-add_binary_by c = on_ok _ c.from_residual.result c.from_residual.ensures.0

pub returns : goal.returns
returns c =
    gathered-all (all_rights c.args.point.path c.args.point.row c.args.op c.args.left) refl c.args.rights.now
    c.loop-right.right-index _ _ c.loop-right-test.false
    c.loop-right.invariant
