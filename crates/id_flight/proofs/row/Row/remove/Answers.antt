-- Those that have left stay, and one of the others leaves.
use Rattle.std.proofs.Common.{arith}
use Rattle.std.proofs.lemmas.Grind.{common_steps}
use Rattle.id_flight.proofs.RowsLemmas.{one-removed}
use Rattle.id_flight.proofs.row.Row.remove.Goals as goal

pub returns-clause-items : goal.returns-clause-items
returns-clause-items c = grind (arith, common_steps, one-removed)
