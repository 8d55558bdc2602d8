-- The narrowed numbers are the message's.
use Rattle.std.proofs.Common.{arith}
use Rattle.std.proofs.lemmas.Grind.{common_steps}
use Rattle.id_flight.proofs.parcel.narrowed.Goals as goal

pub returns-clause-what : goal.returns-clause-what
returns-clause-what c = grind (arith, common_steps)

pub returns-clause-port : goal.returns-clause-port
returns-clause-port c = grind (arith, common_steps)

pub returns-clause-tag : goal.returns-clause-tag
returns-clause-tag c = grind (arith, common_steps)

pub returns-clause-message : goal.returns-clause-message
returns-clause-message c = grind (arith, common_steps)
