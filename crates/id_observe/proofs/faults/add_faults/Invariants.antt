-- The faults of the events so far are there.
use Rattle.std.proofs.Common.{◌≡◌, ◌++◌, take}
use Rattle.id_observe.specs.Sourced.{faults_of}
use Rattle.id_observe.specs.Paths.{structure_by}
use Rattle.id_observe.specs.Paths.{path_by}
use Rattle.id_observe.proofs.faults.add_faults.Given as goal

abbrev pub invariant-loop-position : goal.invariant-loop-position
invariant-loop-position l = l.faults.items ≡ l.fn.faults.items ++
    faults_of l.paths.graph.now (path_by l.paths) (structure_by l.paths) (take l.position l.events)
