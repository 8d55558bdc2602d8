-- The faults of the records so far are there.
use Rattle.std.proofs.Common.{◌≡◌, map, take}
use Rattle.id_observe.specs.Paths.{events_of, structure_by}
use Rattle.id_observe.specs.Sourced.{faults_of}
use Rattle.id_observe.specs.Paths.{path_by}
use Rattle.id_observe.proofs.faults.all_faults.Given as goal

abbrev pub invariant-loop-element : goal.invariant-loop-element
invariant-loop-element l =
    l.faults.items ≡ faults_of l.whole.paths.graph.now (path_by l.whole.paths) (structure_by l.whole.paths)
    (events_of (map (λ e. e.state) (take l.element-index l.whole.paths.elements.now)))
