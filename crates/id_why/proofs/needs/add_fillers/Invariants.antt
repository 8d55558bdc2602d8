-- The things so far, and those of the rest.
use Rattle.std.proofs.Common.{◌≡◌, ◌++◌, drop}
use Rattle.id_why.specs.Found.{fillers}
use Rattle.id_why.proofs.needs.add_fillers.Given as goal

abbrev pub invariant-loop-cell : goal.invariant-loop-cell
invariant-loop-cell l =
    l.found.items ++ fillers l.checked l.known (drop l.cell-index l.cells) ≡ l.initial.found.items
    ++ fillers l.checked l.known l.cells
