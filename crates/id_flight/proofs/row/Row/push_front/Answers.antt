-- The others stay, after an error too.
use Rattle.std.proofs.Common.{arith}
use Rattle.std.proofs.lemmas.Grind.{common_steps}
use Rattle.id_flight.proofs.row.Row.push_front.Goals as goal

pub same-self : goal.same-self
same-self c = grind (arith, common_steps)

pub returns-in_err-self-inside-clause-items : goal.returns-in_err-self-inside-clause-items
returns-in_err-self-inside-clause-items c = grind (arith, common_steps)

pub returns-in_err-self-inside-clause-err : goal.returns-in_err-self-inside-clause-err
returns-in_err-self-inside-clause-err c = grind (arith, common_steps)
