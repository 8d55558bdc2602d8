-- What the cells of the elements so far hold is there.
use Rattle.std.proofs.Common.{◌≡◌, map, take}
use Rattle.std.specs.List.{filter_map, flat_map}
use Rattle.id_bank.specs.Cells.{cells_of}
use Rattle.id_observe.specs.Observed.{cell_value_of}
use Rattle.id_observe.specs.Paths.{structure_by}
use Rattle.id_observe.proofs.holdings.all_cell_values.Given as goal

abbrev pub invariant-loop-element : goal.invariant-loop-element
invariant-loop-element l = l.values.items ≡ filter_map (cell_value_of (structure_by l.paths))
    (flat_map (λ e. cells_of e.cells) (map (λ e. e.state) (take l.element-index l.paths.elements.now)))
