-- The entries so far take their inputs.
use Rattle.std.proofs.Common.{take}
use Rattle.id_core.specs.Machines.{AreTaken}
use Rattle.id_core.proofs.entering.are_taken.Given as goal

abbrev pub invariant-loop-index : goal.invariant-loop-index
invariant-loop-index l = AreTaken l.graph (take l.index l.entries) (take l.index l.inputs)
