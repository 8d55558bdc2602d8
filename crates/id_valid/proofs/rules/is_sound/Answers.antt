use Rattle.std.proofs.Common.{arith}
use Rattle.std.proofs.lemmas.Grind.{common_steps}
use Rattle.id_valid.proofs.rules.is_sound.Goals as goal

pub returns-then-not-is_answer : goal.returns-then-not-is_answer
returns-then-not-is_answer c = grind (arith, common_steps)
