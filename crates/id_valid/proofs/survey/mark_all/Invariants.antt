use Rattle.std.proofs.Common.{◌==◌, take}
use Rattle.std.specs.List.{list_any}
use Rattle.id_valid.specs.Survey.{Marks}
use Rattle.id_valid.proofs.survey.mark_all.Given as goal

-- the numbers so far are marked
abbrev pub invariant-loop-number : goal.invariant-loop-number
invariant-loop-number l = Marks l.initial.marks l.marks (λ k. list_any (λ e. e == k) (take l.number-index l.numbers))
