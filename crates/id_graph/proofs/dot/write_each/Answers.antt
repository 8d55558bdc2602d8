use Rattle.std.proofs.Common.{arith}
use Rattle.std.proofs.lemmas.Grind.{common_steps}
use Rattle.id_graph.proofs.dot.write_each.Goals as goal

pub loop-dest-init : goal.loop-dest-init
loop-dest-init c = grind (arith, common_steps)

pub loop-dest-preserved : goal.loop-dest-preserved
loop-dest-preserved c = grind (arith, common_steps)

pub returns : goal.returns
returns c = grind (arith, common_steps)
