-- What comes where the row is an argument, and where it is none.
use Rattle.std.proofs.Common.{arith, rules}
use Rattle.std.proofs.lemmas.Grind.{common_steps}
use Rattle.id_meaning.proofs.rules.Rules.add_pass.Goals as goal

pub returns-in-Arg : goal.returns-in-Arg
returns-in-Arg c = grind (arith, common_steps)

pub returns-in_default : goal.returns-in_default
returns-in_default c = search rules

pub returns-in_default-2 : goal.returns-in_default-2
returns-in_default-2 c = search rules
