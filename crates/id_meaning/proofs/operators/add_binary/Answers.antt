-- What they give so far, and what the rest do.
use Rattle.std.proofs.Common.{refl}
use Rattle.id_meaning.specs.Given.{binaries, constant_of, rights_of}
use Rattle.id_source.proofs.TurnsLemmas.{gathered-all, gathered-more, on_ok}
use Rattle.id_meaning.proofs.operators.add_binary.Goals as goal

pub loop-left-init : goal.loop-left-init
loop-left-init c = refl

pub loop-left-preserved : goal.loop-left-preserved
loop-left-preserved c =
    gathered-more (λ vs. binaries c.args.point.path c.args.point.row c.args.op vs c.args.rights.now)
    (λ v. rights_of c.args.point.path c.args.point.row c.args.op (constant_of v) c.args.rights.now) (λ _ _. refl)
    c.args.lefts.now
    c.loop-left.left-index _ _ _ _
    c.loop-left-test.true (rw c.constant_of.ensures at c.in_ok-add_rights_of.ensures) c.loop-left.invariant

pub returns-in_err-add_rights_of : goal.returns-in_err-add_rights_of
returns-in_err-add_rights_of c = on_ok _ c.from_residual.result c.from_residual.ensures.0

pub returns : goal.returns
returns c =
    gathered-all (λ vs. binaries c.args.point.path c.args.point.row c.args.op vs c.args.rights.now) refl
    c.args.lefts.now
    c.loop-left.left-index _ _
    c.loop-left-test.false c.loop-left.invariant
