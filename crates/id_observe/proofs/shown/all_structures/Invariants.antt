-- The structures so far are there.
use Rattle.std.proofs.Common.{◌≡◌, map, take}
use Rattle.id_observe.specs.Observed.{shape_at}
use Rattle.id_observe.specs.Paths.{path_by}
use Rattle.id_observe.proofs.shown.all_structures.Given as goal

abbrev pub invariant-loop-making : goal.invariant-loop-making
invariant-loop-making l =
    l.shapes.items ≡ map (shape_at l.paths.graph.now (path_by l.paths)) (take l.making-index l.making-items)
