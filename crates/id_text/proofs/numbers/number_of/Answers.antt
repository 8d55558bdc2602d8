use Rattle.std.proofs.Common.{arith}
use Rattle.std.proofs.lemmas.Grind.{common_steps}
use Rattle.id_text.proofs.numbers.number_of.Goals as goal

pub loop-digit-preserved : goal.loop-digit-preserved
loop-digit-preserved c = grind (arith, common_steps)

pub returns-then-value-lt-LIMIT : goal.returns-then-value-lt-LIMIT
returns-then-value-lt-LIMIT c = grind (arith, common_steps)

pub returns-else-value-lt-LIMIT : goal.returns-else-value-lt-LIMIT
returns-else-value-lt-LIMIT c = grind (arith, common_steps)
