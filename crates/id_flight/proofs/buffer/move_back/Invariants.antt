-- So many have moved, and the two lists together are as they were.
use Rattle.std.proofs.Common.{◌≡◌, ◌+◌, ◌++◌, length}
use Rattle.id_flight.proofs.buffer.move_back.Given as goal

abbrev pub invariant-loop : goal.invariant-loop
invariant-loop l =
    (length l.before.items + l.counter ≡ length l.fn.before.items)
    × (l.before.items ++ l.after.items ≡ l.fn.before.items ++ l.fn.after.items)
