use Rattle.std.proofs.Common.{◌==◌, take}
use Rattle.std.specs.List.{list_any}
use Rattle.id_valid.specs.Survey.{Marks}
use Rattle.id_valid.proofs.survey.firsts.Given as goal

-- the first instructions of the blocks so far are marked
abbrev pub invariant-loop-block : goal.invariant-loop-block
invariant-loop-block l = Marks l.initial.marks.items l.marks.items (λ k. list_any (λ b. b.first == k) (take l.block-index l.block-items))
