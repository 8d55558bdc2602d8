-- One tactic finds each of these, without a search before it.
use Rattle.std.proofs.Common.{arith}
use Rattle.std.proofs.lemmas.Grind.{common_steps}
use Rattle.id_record.proofs.outputs.payload.Goals as goal

pub returns-in-Moved : goal.returns-in-Moved
returns-in-Moved c = grind (arith, common_steps)

pub returns-in-Entered : goal.returns-in-Entered
returns-in-Entered c = grind (arith, common_steps)

pub returns-in-Sent : goal.returns-in-Sent
returns-in-Sent c = grind (arith, common_steps)

pub returns-in-Asked : goal.returns-in-Asked
returns-in-Asked c = grind (arith, common_steps)

pub returns-in-Stored : goal.returns-in-Stored
returns-in-Stored c = grind (arith, common_steps)

pub returns-in-Out : goal.returns-in-Out
returns-in-Out c = grind (arith, common_steps)

pub moved_to-requires : goal.moved_to-requires
moved_to-requires c = grind (arith, common_steps)

pub going_out-requires : goal.going_out-requires
going_out-requires c = grind (arith, common_steps)

pub entering-requires-clause-second : goal.entering-requires-clause-second
entering-requires-clause-second c = grind (arith, common_steps)

pub entering-requires-clause-number : goal.entering-requires-clause-number
entering-requires-clause-number c = grind (arith, common_steps)

pub token_at-requires : goal.token_at-requires
token_at-requires c = grind (arith, common_steps)

pub unreachable-requires : goal.unreachable-requires
unreachable-requires c = grind (arith, common_steps)

pub going_out-requires-in-Out : goal.going_out-requires-in-Out
going_out-requires-in-Out c = grind (arith, common_steps)
