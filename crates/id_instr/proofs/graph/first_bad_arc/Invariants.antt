use Rattle.std.proofs.Common.{take, All}
use Rattle.id_instr.specs.Graph.{ArcsExist}
use Rattle.id_instr.proofs.graph.first_bad_arc.Given as goal

-- the instructions so far have only destinations that are ports
abbrev pub invariant-loop-number : goal.invariant-loop-number
invariant-loop-number l = All (ArcsExist l.instrs) (take l.number l.instrs)
