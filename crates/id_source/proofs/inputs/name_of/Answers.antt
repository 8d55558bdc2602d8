-- The name at the number, or none past the last.
use Rattle.std.proofs.Common.{arith}
use Rattle.std.proofs.lemmas.Grind.{common_steps}
use Rattle.id_source.proofs.inputs.name_of.Goals as goal

pub returns-then-number-len : goal.returns-then-number-len
returns-then-number-len c = grind (arith, common_steps)

pub returns : goal.returns
returns c = grind (arith, common_steps)
