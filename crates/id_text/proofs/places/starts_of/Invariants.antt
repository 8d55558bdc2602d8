use Rattle.std.proofs.Common.{◌≡◌, ◌++◌, drop}
use Rattle.id_text.specs.Places.{starts_after, line_starts}
use Rattle.id_text.proofs.places.starts_of.Given as goal

abbrev pub invariant-loop-i : goal.invariant-loop-i
invariant-loop-i l = l.starts.items ++ starts_after l.i (drop l.i l.text) ≡ line_starts l.text
