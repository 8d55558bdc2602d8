use Rattle.std.proofs.Common.{◌==◌, take}
use Rattle.std.specs.List.{list_any}
use Rattle.id_valid.specs.Survey.{Marks}
use Rattle.id_valid.proofs.survey.entries.Given as goal

-- the entries of the blocks so far are marked
abbrev pub invariant-loop-block : goal.invariant-loop-block
invariant-loop-block l = Marks l.initial.marks.items l.marks.items (λ k. list_any (λ b. list_any (λ e. e == k) b.entries) (take l.block-index l.block-items))
