-- The facts so far, and those of the rest.
use Rattle.std.proofs.Common.{◌≡◌, ◌++◌, drop}
use Rattle.id_meaning.specs.Given.{arrays}
use Rattle.id_meaning.proofs.structures.add_array.Given as goal

abbrev pub invariant-loop-low : goal.invariant-loop-low
invariant-loop-low l =
    l.found.items ++ arrays l.point.path l.point.row l.spot (drop l.low-index l.lows) l.highs ≡ l.initial.found.items
    ++ arrays l.point.path l.point.row l.spot l.lows l.highs
