-- The things so far, and those of the rest.
use Rattle.std.proofs.Common.{◌≡◌, ◌++◌, drop}
use Rattle.id_why.specs.Found.{lacking}
use Rattle.id_why.proofs.needs.add_lacking.Given as goal

abbrev pub invariant-loop-point : goal.invariant-loop-point
invariant-loop-point l =
    l.found.items ++ lacking l.known (drop l.point-index l.points) ≡ l.initial.found.items ++ lacking l.known l.points
