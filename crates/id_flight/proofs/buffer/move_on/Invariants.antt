-- So many have moved, there is room for the rest, and the two lists together are as they were.
use Rattle.std.proofs.Common.{◌≡◌, ◌+◌, ◌≤◌, ◌++◌, length}
use Rattle.id_flight.proofs.buffer.move_on.Given as goal

abbrev pub invariant-loop : goal.invariant-loop
invariant-loop l =
    (length l.before.items ≡ length l.fn.before.items + l.counter) × (length l.after.items + l.counter ≡ length l.fn.after.items)
    × (l.fn.before.room ≤ l.before.room + l.counter)
    × (l.before.items ++ l.after.items ≡ l.fn.before.items ++ l.fn.after.items)
