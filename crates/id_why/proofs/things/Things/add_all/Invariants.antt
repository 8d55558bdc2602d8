-- What is left to add gives what was to be added.
use Rattle.std.proofs.Common.{◌≡◌, drop}
use Rattle.id_why.specs.Things.{with_all}
use Rattle.id_why.proofs.things.Things.add_all.Given as goal

abbrev pub invariant-loop-point : goal.invariant-loop-point
invariant-loop-point l = with_all l.self (drop l.point-index l.points) ≡ with_all l.initial.self l.points
