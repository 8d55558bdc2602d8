-- What is its own is still for the element, and no message is lost.
use Rattle.std.proofs.Common.{◌≡◌, ◌+◌, ℕ, length}
use Rattle.std.specs.List.{sum_by}
use Rattle.id_tag.specs.declared.Message.{Message}
use Rattle.id_elements.specs.Passing.{AreFor}
use Rattle.id_elements.proofs.passing.sort.Given as goal

abbrev pub invariant-loop-home : goal.invariant-loop-home
invariant-loop-home l = record {
  own : AreFor l.element l.fn.own.messages → AreFor l.element l.own.messages;
  weight : (f : Message → ℕ) → sum_by f l.own.messages + sum_by f l.stray.messages + sum_by f l.letter.messages
      ≡ sum_by f l.fn.own.messages + sum_by f l.fn.stray.messages + sum_by f l.fn.letter.messages;
}

abbrev pub decreases-loop-home : goal.decreases-loop-home
decreases-loop-home l = length l.letter.messages
