use Rattle.std.proofs.Common.{◌≡◌, map, take}
use Rattle.id_match.specs.Waiting.{entry_at}
use Rattle.id_match.specs.Front.{front_entries}
use Rattle.id_match.proofs.front.in_front.Given as goal

abbrev pub invariant-loop-i : goal.invariant-loop-i
invariant-loop-i l = l.entries.items ≡ map entry_at (front_entries (take l.i l.front))
