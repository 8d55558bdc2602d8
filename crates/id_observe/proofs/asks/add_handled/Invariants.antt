-- What the fetches of the events so far ask for is there.
use Rattle.std.proofs.Common.{◌≡◌, ◌++◌, take}
use Rattle.id_observe.specs.Paths.{path_by, structure_by}
use Rattle.id_observe.specs.Observed.{asks_of}
use Rattle.id_observe.proofs.asks.add_handled.Given as goal

abbrev pub invariant-loop-position : goal.invariant-loop-position
invariant-loop-position l = l.asks.items ≡ l.fn.asks.items ++
    asks_of l.paths.graph.now (path_by l.paths) (structure_by l.paths) (take l.position l.events)
