-- One tactic finds each of these, without a search before it.
use Rattle.std.proofs.Common.{arith}
use Rattle.std.proofs.lemmas.Grind.{common_steps}
use Rattle.id_record.proofs.outputs.entering.Goals as goal

pub offset_bounds-dests-number : goal.offset_bounds-dests-number
offset_bounds-dests-number c = grind (arith, common_steps)

pub bounds-dests-number : goal.bounds-dests-number
bounds-dests-number c = grind (arith, common_steps)

pub token_to-requires : goal.token_to-requires
token_to-requires c = grind (arith, common_steps)

pub overflow_sub-number : goal.overflow_sub-number
overflow_sub-number c = grind (arith, common_steps)

pub start-requires-clause-second : goal.start-requires-clause-second
start-requires-clause-second c = grind (arith, common_steps)

pub start-requires-clause-number : goal.start-requires-clause-number
start-requires-clause-number c = grind (arith, common_steps)
