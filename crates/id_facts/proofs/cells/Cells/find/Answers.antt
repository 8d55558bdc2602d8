-- The first of the rest is the first of all.
use Rattle.std.proofs.Common.{arith}
use Rattle.std.proofs.lemmas.Grind.{common_steps}
use Rattle.id_facts.proofs.cells.Cells.find.Goals as goal

pub loop-number-init : goal.loop-number-init
loop-number-init c = grind (arith, common_steps)

pub returns-then-is_on : goal.returns-then-is_on
returns-then-is_on c = grind (arith, common_steps)

pub loop-number-preserved : goal.loop-number-preserved
loop-number-preserved c = grind (arith, common_steps)

pub returns : goal.returns
returns c = grind (arith, common_steps)
