-- The values so far, and those of the rest.
use Rattle.std.proofs.Common.{◌≡◌, ◌++◌, drop}
use Rattle.id_why.specs.Walks.{values_of}
use Rattle.id_why.proofs.lines.values_of.Given as goal

abbrev pub invariant-loop-point : goal.invariant-loop-point
invariant-loop-point l = l.found.items ++ values_of l.known (drop l.point-index l.points) ≡ values_of l.known l.points
