use Rattle.std.proofs.Common.{count_by, sum_by, take}
use Rattle.id_instr.specs.Graph.{arcs}
use Rattle.id_valid.specs.Roles.{is_dest}
use Rattle.id_valid.specs.Survey.{Adds}
use Rattle.id_valid.proofs.survey.arcs_into.Given as goal

-- the arcs of the instructions so far are added
abbrev pub invariant-loop-instr : goal.invariant-loop-instr
invariant-loop-instr l = Adds l.initial.counts.items l.counts.items (λ k. sum_by (λ i. count_by (is_dest k l.port) (arcs i)) (take l.instr-index l.instrs))
