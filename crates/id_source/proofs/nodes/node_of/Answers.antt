-- What stands at the row, or a head past the last.
use Rattle.std.proofs.Common.{arith}
use Rattle.std.proofs.lemmas.Grind.{common_steps}
use Rattle.id_source.proofs.nodes.node_of.Goals as goal

pub returns-then-row-len : goal.returns-then-row-len
returns-then-row-len c = grind (arith, common_steps)

pub returns-else-row-len : goal.returns-else-row-len
returns-else-row-len c = grind (arith, common_steps)
