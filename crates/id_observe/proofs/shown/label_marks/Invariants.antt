-- The instructions so far are marked.
use Rattle.std.proofs.Common.{◌≡◌, Some, map, take}
use Rattle.id_observe.specs.Observed.{is_label_of}
use Rattle.id_observe.proofs.shown.label_marks.Given as goal

abbrev pub invariant-loop-instr : goal.invariant-loop-instr
invariant-loop-instr l = l.marks.items ≡ map (λ i. is_label_of l.graph (Some i)) (take l.instr-index l.instr-items)
