-- What the cells hold is there, or they are still to come.
use Rattle.std.proofs.Common.{◌≡◌, ◌++◌, length}
use Rattle.std.specs.List.{filter_map}
use Rattle.id_observe.specs.Observed.{put_of}
use Rattle.id_observe.specs.Paths.{structure_by}
use Rattle.id_observe.specs.Paths.{path_by}
use Rattle.id_observe.proofs.shown.add_puts.Given as goal

abbrev pub invariant-loop-cell : goal.invariant-loop-cell
invariant-loop-cell l =
    l.puts.items ++ filter_map (put_of l.paths.graph.now (path_by l.paths) (structure_by l.paths)) l.cells
    ≡ l.fn.puts.items ++ filter_map (put_of l.paths.graph.now (path_by l.paths) (structure_by l.paths)) l.fn.cells

abbrev pub decreases-loop-cell : goal.decreases-loop-cell
decreases-loop-cell l = length l.cells
