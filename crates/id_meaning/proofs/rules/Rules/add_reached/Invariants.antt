-- The facts so far, and those of the rest.
use Rattle.std.proofs.Common.{◌≡◌, ◌++◌, drop}
use Rattle.id_meaning.specs.Effects.{reached}
use Rattle.id_meaning.proofs.rules.Rules.add_reached.Given as goal

abbrev pub invariant-loop-point : goal.invariant-loop-point
invariant-loop-point l =
    l.found.items ++ reached l.self.checked.now l.self.links.now l.self.cells.now l.name (drop l.point-index l.points) ≡
    l.initial.found.items ++
    reached l.self.checked.now l.self.links.now l.self.cells.now l.name l.points
