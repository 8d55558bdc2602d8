-- What is left, the last one first, belongs behind what is there.
use Rattle.std.proofs.Common.{◌≡◌, ◌≤◌, ◌++◌, length, reverse}
use Rattle.id_elements.proofs.passing.take_back.Given as goal

abbrev pub invariant-loop-back : goal.invariant-loop-back
invariant-loop-back l = record {
  room : length l.back.messages ≤ l.own.room;
  all : l.own.messages ++ reverse l.back.messages ≡ l.fn.own.messages ++ reverse l.fn.back.messages;
}

abbrev pub decreases-loop-back : goal.decreases-loop-back
decreases-loop-back l = length l.back.messages
