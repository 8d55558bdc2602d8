-- So many stamps are 0, and there is room for the rest.
use Rattle.std.proofs.Common.{◌≡◌, ◌≤◌, replicate, vec_capacity, vec_len}
use Rattle.id_judge.proofs.lines.first_stamps.Given as goal

abbrev pub invariant-loop-number : goal.invariant-loop-number
invariant-loop-number l =
    (l.stamps.items ≡ replicate l.number 0) × (vec_len l.stamps ≡ l.number)
    × (l.fn.count.number ≤ vec_capacity l.stamps)
