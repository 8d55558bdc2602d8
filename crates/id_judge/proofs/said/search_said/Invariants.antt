use Rattle.std.proofs.Common.{◌≡◌, ◌<◌, ℕ, List, Some, slice_get}
use Rattle.id_tag.specs.declared.Message.{Message}
use Rattle.id_judge.specs.Lines.{IsSaid}
use Rattle.id_judge.proofs.said.search_said.Given as goal

-- none of the first messages is said
abbrev pub invariant-loop-position : goal.invariant-loop-position
invariant-loop-position l =
    (j : ℕ) (m : Message) (past : List ℕ) → j < l.position → slice_get l.flight j ≡ Some m → IsSaid l.body m past → ⊥
