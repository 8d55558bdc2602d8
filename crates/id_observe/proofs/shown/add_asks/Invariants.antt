-- The fetches of the replies so far are there.
use Rattle.std.proofs.Common.{◌≡◌, ◌++◌, map, take}
use Rattle.id_observe.specs.Observed.{ask_of}
use Rattle.id_observe.specs.Paths.{structure_by}
use Rattle.id_observe.specs.Paths.{path_by}
use Rattle.id_observe.proofs.shown.add_asks.Given as goal

abbrev pub invariant-loop-reader : goal.invariant-loop-reader
invariant-loop-reader l = l.asks.items ≡ l.fn.asks.items ++
    map (ask_of l.paths.graph.now (path_by l.paths) (structure_by l.paths)) (take l.reader-index l.readers)
