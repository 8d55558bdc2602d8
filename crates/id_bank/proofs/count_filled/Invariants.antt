use Rattle.std.proofs.Common.{◌≡◌, length, take}
use Rattle.std.specs.List.{flat_map}
use Rattle.id_bank.specs.Cells.{filled_at}
use Rattle.id_bank.specs.Slots.{page_cells}
use Rattle.id_bank.proofs.count_filled.Given as goal

-- the cells of the pages so far are counted
abbrev pub invariant-loop-entry : goal.invariant-loop-entry
invariant-loop-entry l =
    l.count ≡ length (flat_map filled_at (flat_map (λ e. page_cells (e.0, e.1.now)) (take l.entry-index l.pages)))
