use Rattle.std.proofs.Common.{◌≡◌, map, take}
use Rattle.std.specs.List.{flat_map}
use Rattle.id_bank.specs.Slots.{held_in, page_cells}
use Rattle.id_bank.proofs.spread.Given as goal

-- the cells of the pages so far are listed
abbrev pub invariant-loop-entry : goal.invariant-loop-entry
invariant-loop-entry l =
    map (λ e. (e.0, held_in e.1.now)) l.cells.items
    ≡ flat_map (λ e. page_cells (e.0, e.1.now)) (take l.entry-index l.pages)
