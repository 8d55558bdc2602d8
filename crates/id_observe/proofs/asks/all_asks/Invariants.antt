-- What the fetches of the records so far ask for is there.
use Rattle.std.proofs.Common.{◌≡◌, map, take}
use Rattle.id_observe.specs.Paths.{events_of, path_by, structure_by}
use Rattle.id_observe.specs.Observed.{asks_of}
use Rattle.id_observe.proofs.asks.all_asks.Given as goal

abbrev pub invariant-loop-element : goal.invariant-loop-element
invariant-loop-element l =
    l.asks.items ≡ asks_of l.whole.paths.graph.now (path_by l.whole.paths) (structure_by l.whole.paths)
    (events_of (map (λ e. e.state) (take l.element-index l.whole.paths.elements.now)))
