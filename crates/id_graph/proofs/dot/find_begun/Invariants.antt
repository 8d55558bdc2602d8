use Rattle.std.proofs.Common.{◌==◌, take}
use Rattle.std.specs.List.{list_any}
use Rattle.id_graph.specs.Begun.{Marks}
use Rattle.id_graph.proofs.dot.find_begun.Given as goal

-- the numbers where the blocks so far begin are marked
abbrev pub invariant-loop-block : goal.invariant-loop-block
invariant-loop-block l = Marks l.initial.marks.items l.marks.items (λ k. list_any (λ b. b.first == k) (take l.block-index l.blocks))
