-- What the cells hold is there, or they are still to come, and the structure at hand has its name.
use Rattle.std.proofs.Common.{◌≡◌, ◌++◌, length}
use Rattle.std.specs.List.{filter_map}
use Rattle.id_observe.specs.Observed.{IsNamed, cell_value_of}
use Rattle.id_observe.specs.Paths.{structure_by}
use Rattle.id_observe.proofs.holdings.add_each_named.Given as goal

abbrev pub invariant-loop-cell : goal.invariant-loop-cell
invariant-loop-cell l = record {
  named : IsNamed l.paths l.at_hand;
  values : l.values.items ++ filter_map (cell_value_of (structure_by l.paths)) l.cells ≡ l.fn.values.items ++
      filter_map (cell_value_of (structure_by l.paths)) l.fn.cells;
}

abbrev pub decreases-loop-cell : goal.decreases-loop-cell
decreases-loop-cell l = length l.cells
