use Rattle.std.proofs.Common.{◌≡◌, ℕ, ◌+◌, ◌≤◌, length}
use Rattle.std.specs.List.{sum_by}
use Rattle.id_tag.specs.declared.Message.{Message}
use Rattle.id_elements.proofs.doors.keep_rest.Given as goal

abbrev pub invariant-loop-message : goal.invariant-loop-message
invariant-loop-message l = record {
  room : length l.rest.messages ≤ l.left.room;
  weight : (f : Message → ℕ) → sum_by f l.left.messages + sum_by f l.rest.messages
      ≡ sum_by f l.fn.left.messages + sum_by f l.fn.rest.messages;
}

abbrev pub decreases-loop-message : goal.decreases-loop-message
decreases-loop-message l = length l.rest.messages
