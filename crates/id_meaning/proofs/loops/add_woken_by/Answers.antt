-- What comes where a name or a loop gets the value, and where nothing does.
use Rattle.std.proofs.Common.{arith, rules}
use Rattle.std.proofs.lemmas.Grind.{common_steps}
use Rattle.id_meaning.proofs.loops.add_woken_by.Goals as goal

pub returns-in-Some-Name-default : goal.returns-in-Some-Name-default
returns-in-Some-Name-default c = grind (arith, common_steps)

pub returns-in-Some-Loop-Next : goal.returns-in-Some-Loop-Next
returns-in-Some-Loop-Next c = grind (arith, common_steps)

pub returns-in_default : goal.returns-in_default
returns-in_default c = search rules

pub returns-in_default-2 : goal.returns-in_default-2
returns-in_default-2 c = search rules

pub returns-in_default-3 : goal.returns-in_default-3
returns-in_default-3 c = search rules

pub returns-in_default-4 : goal.returns-in_default-4
returns-in_default-4 c = search rules

pub returns-in_default-5 : goal.returns-in_default-5
returns-in_default-5 c = search rules
