-- The first that lacks is told; else all are there.
use Rattle.std.proofs.Common.{arith, None, refl, sym}
use Rattle.std.proofs.lemmas.Option.{slice_get_read}
use Rattle.std.proofs.lemmas.Grind.{common_steps}
use Rattle.id_source.proofs.TurnsLemmas.{if_err}
use Rattle.id_source.proofs.inputs.all_of.Goals as goal

pub returns-in_err-given-clause-same : goal.returns-in_err-given-clause-same
returns-in_err-given-clause-same c = if_err _ c.from_residual.result c.from_residual.ensures.0

pub loop-n-init : goal.loop-n-init
loop-n-init c = grind (arith, common_steps)

pub returns-in-None-clause-same : goal.returns-in-None-clause-same
returns-in-None-clause-same c = tt

pub returns-in-None-clause-lack : goal.returns-in-None-clause-lack
returns-in-None-clause-lack c = (
  slice_get_read c.args.values.now _ c.loop-n.n None refl c.loop-n-test.true (sym c.in-None.is),
  c.loop-n.invariant.there,
)

pub returns-in_err-push-in-Some-clause-same : goal.returns-in_err-push-in-Some-clause-same
returns-in_err-push-in-Some-clause-same c =
    if_err _ c.from_residual-in_err-push-in-Some.result c.from_residual-in_err-push-in-Some.ensures.0

pub loop-n-preserved : goal.loop-n-preserved
loop-n-preserved c = grind (arith, common_steps)

pub returns-clause-same : goal.returns-clause-same
returns-clause-same c = grind (arith, common_steps)

pub returns-clause-lack : goal.returns-clause-lack
returns-clause-lack c = tt
