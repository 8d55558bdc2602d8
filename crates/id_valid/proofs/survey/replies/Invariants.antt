use Rattle.std.proofs.Common.{take}
use Rattle.std.specs.List.{list_any}
use Rattle.id_valid.specs.Roles.{replies_to}
use Rattle.id_valid.specs.Survey.{Marks}
use Rattle.id_valid.proofs.survey.replies.Given as goal

-- the replies of the instructions so far are marked
abbrev pub invariant-loop-instr : goal.invariant-loop-instr
invariant-loop-instr l = Marks l.initial.marks.items l.marks.items (λ k. list_any (λ i. replies_to i.op k) (take l.instr-index l.instr-items))
