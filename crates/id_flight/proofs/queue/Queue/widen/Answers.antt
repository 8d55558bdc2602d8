-- More room changes no message, and as many as both lists have room for are told.
use Rattle.std.proofs.Common.{arith}
use Rattle.std.proofs.lemmas.Grind.{common_steps}
use Rattle.id_flight.proofs.queue.Queue.widen.Goals as goal

pub invariant_of-self : goal.invariant_of-self
invariant_of-self c = grind (arith, common_steps)

pub returns-in_err-reserve-clause-messages : goal.returns-in_err-reserve-clause-messages
returns-in_err-reserve-clause-messages c = grind (arith, common_steps)

pub returns-in_err-reserve-clause-room : goal.returns-in_err-reserve-clause-room
returns-in_err-reserve-clause-room c = grind (arith, common_steps)

pub invariant_of-self-in_err-reserve-2 : goal.invariant_of-self-in_err-reserve-2
invariant_of-self-in_err-reserve-2 c = grind (arith, common_steps)

pub returns-in_err-reserve-2-clause-messages : goal.returns-in_err-reserve-2-clause-messages
returns-in_err-reserve-2-clause-messages c = grind (arith, common_steps)

pub returns-in_err-reserve-2-clause-room : goal.returns-in_err-reserve-2-clause-room
returns-in_err-reserve-2-clause-room c = grind (arith, common_steps)

pub overflow_sub-capacity : goal.overflow_sub-capacity
overflow_sub-capacity c = grind (arith, common_steps)

pub invariant_of-self-2 : goal.invariant_of-self-2
invariant_of-self-2 c = grind (arith, common_steps)

pub returns-clause-messages : goal.returns-clause-messages
returns-clause-messages c = grind (arith, common_steps)

pub returns-clause-room : goal.returns-clause-room
returns-clause-room c = grind (arith, common_steps)
