use Rattle.std.proofs.Common.{◌≡◌, ◌≤◌, ◌*◌, length, take}
use Rattle.id_match.specs.Front.{front_entries}
use Rattle.id_match.proofs.front.count.Given as goal

abbrev pub invariant-loop-i : goal.invariant-loop-i
invariant-loop-i l = record { exact : l.count ≡ length (front_entries (take l.i l.front)); most : l.count ≤ 2 * l.i }
