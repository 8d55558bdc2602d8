use Rattle.std.proofs.Common.{◌≡◌, ℕ, ◌+◌, vec_len}
use Rattle.std.specs.List.{sum_by}
use Rattle.id_tag.specs.declared.Message.{Message}
use Rattle.id_inbox.specs.Hands.{weight_in}
use Rattle.id_elements.proofs.running.keep_all.Given as goal

abbrev pub invariant-loop-letter : goal.invariant-loop-letter
invariant-loop-letter l = (f : Message → ℕ)
    → sum_by f l.left.messages + weight_in f l.letters.items ≡ sum_by f l.fn.left.messages
    + weight_in f l.fn.letters.items

abbrev pub decreases-loop-letter : goal.decreases-loop-letter
decreases-loop-letter l = vec_len l.letters
