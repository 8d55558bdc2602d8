-- The facts so far, and those of the rest.
use Rattle.std.proofs.Common.{◌≡◌, ◌++◌, drop}
use Rattle.id_meaning.specs.Given.{made}
use Rattle.id_meaning.proofs.structures.add_made.Given as goal

abbrev pub invariant-loop-high : goal.invariant-loop-high
invariant-loop-high l =
    l.found.items ++ made l.point.path l.point.row l.spot l.low (drop l.high-index l.highs) ≡ l.initial.found.items
    ++ made l.point.path l.point.row l.spot l.low l.highs
