-- None of the facts so far gives the thing a value.
use Rattle.std.proofs.Common.{◌≡◌, drop}
use Rattle.id_why.specs.Known.{any_gives, is_given, known_facts, numbers_of}
use Rattle.id_why.proofs.known.Known.is_given.Given as goal

abbrev pub invariant-loop-number : goal.invariant-loop-number
invariant-loop-number l =
    any_gives (known_facts l.self) l.point (drop l.number-index (numbers_of l.self l.point)) ≡ is_given l.self l.point
