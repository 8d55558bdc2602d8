use Rattle.std.proofs.Common.{arith}
use Rattle.std.proofs.lemmas.Grind.{common_steps}
use Rattle.id_observe.proofs.shown.counts_by_place.Goals as goal

pub loop-instr-preserved : goal.loop-instr-preserved
loop-instr-preserved c = grind (arith, common_steps)
