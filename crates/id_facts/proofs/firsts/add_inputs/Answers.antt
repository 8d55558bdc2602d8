-- What the inputs give so far, and what the rest do.
use Rattle.std.proofs.Common.{arith, refl}
use Rattle.std.proofs.lemmas.Grind.{common_steps}
use Rattle.id_source.proofs.TurnsLemmas.{on_ok}
use Rattle.id_facts.proofs.firsts.add_inputs.Goals as goal

pub loop-number-init : goal.loop-number-init
loop-number-init c = refl

pub returns-in_err-add_input : goal.returns-in_err-add_input
returns-in_err-add_input c = on_ok _ c.from_residual.result c.from_residual.ensures.0

pub loop-number-preserved : goal.loop-number-preserved
loop-number-preserved c = grind (arith, common_steps)

pub returns : goal.returns
returns c = grind (arith, common_steps)
