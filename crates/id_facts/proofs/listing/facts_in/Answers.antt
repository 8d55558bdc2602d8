-- The facts so far, and those that are left.
use Rattle.std.proofs.Common.{arith}
use Rattle.std.proofs.lemmas.Grind.{common_steps}
use Rattle.id_source.proofs.TurnsLemmas.{if_err}
use Rattle.id_facts.proofs.listing.facts_in.Goals as goal

pub loop-fact-init : goal.loop-fact-init
loop-fact-init c = grind (arith, common_steps)

pub returns-in_err-one : goal.returns-in_err-one
returns-in_err-one c = if_err _ c.from_residual.result c.from_residual.ensures.0

pub returns-in_err-push : goal.returns-in_err-push
returns-in_err-push c = if_err _ c.from_residual-in_err-push.result c.from_residual-in_err-push.ensures.0

pub loop-fact-preserved : goal.loop-fact-preserved
loop-fact-preserved c = grind (arith, common_steps)

pub returns : goal.returns
returns c = grind (arith, common_steps)
