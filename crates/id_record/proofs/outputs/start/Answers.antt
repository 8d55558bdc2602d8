-- One tactic finds each of these, without a search before it.
use Rattle.std.proofs.Common.{arith}
use Rattle.std.proofs.lemmas.Grind.{common_steps}
use Rattle.id_record.proofs.outputs.start.Goals as goal

pub returns-then-number-eq0 : goal.returns-then-number-eq0
returns-then-number-eq0 c = grind (arith, common_steps)

pub returns-else-number-eq0 : goal.returns-else-number-eq0
returns-else-number-eq0 c = grind (arith, common_steps)
