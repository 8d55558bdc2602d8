-- The parcel leaves on its side of the gap.
use Rattle.std.proofs.Common.{arith}
use Rattle.std.proofs.lemmas.Grind.{common_steps}
use Rattle.std.proofs.lemmas.List.Edits.{remove-append_left, remove-append_right}
use Rattle.id_flight.proofs.buffer.Buffer.remove.Goals as goal

pub returns-then-is_last-clause-items : goal.returns-then-is_last-clause-items
returns-then-is_last-clause-items c = grind (arith, common_steps, remove-append_left, remove-append_right)

pub returns-else-is_last-clause-items : goal.returns-else-is_last-clause-items
returns-else-is_last-clause-items c = grind (arith, common_steps, remove-append_left, remove-append_right)
