-- The fetches that wait of the elements so far are there.
use Rattle.std.proofs.Common.{◌≡◌, map, take}
use Rattle.std.specs.List.{flat_map}
use Rattle.id_bank.specs.Cells.{deferred_of}
use Rattle.id_observe.specs.Observed.{ask_of}
use Rattle.id_observe.specs.Paths.{structure_by}
use Rattle.id_observe.specs.Paths.{path_by}
use Rattle.id_observe.proofs.shown.all_waiting.Given as goal

abbrev pub invariant-loop-element : goal.invariant-loop-element
invariant-loop-element l = l.asks.items ≡ map (ask_of l.paths.graph.now (path_by l.paths) (structure_by l.paths))
    (flat_map (λ e. deferred_of e.cells) (map (λ e. e.state) (take l.element-index l.paths.elements.now)))
