-- The parcels stand behind the fillers.
use Rattle.std.proofs.Common.{arith}
use Rattle.std.proofs.lemmas.Grind.{common_steps}
use Rattle.id_flight.proofs.row.widened.Goals as goal

pub returns-in_err-resize-clause-behind : goal.returns-in_err-resize-clause-behind
returns-in_err-resize-clause-behind c = grind (arith, common_steps)

pub returns-in_err-resize-clause-len : goal.returns-in_err-resize-clause-len
returns-in_err-resize-clause-len c = grind (arith, common_steps)

pub returns-in_err-extend_from_slice-clause-behind : goal.returns-in_err-extend_from_slice-clause-behind
returns-in_err-extend_from_slice-clause-behind c = grind (arith, common_steps)

pub returns-in_err-extend_from_slice-clause-len : goal.returns-in_err-extend_from_slice-clause-len
returns-in_err-extend_from_slice-clause-len c = grind (arith, common_steps)

pub returns-clause-behind : goal.returns-clause-behind
returns-clause-behind c = grind (arith, common_steps)

pub returns-clause-len : goal.returns-clause-len
returns-clause-len c = grind (arith, common_steps)
