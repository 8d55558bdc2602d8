use Rattle.std.proofs.Common.{◌≡◌, ◌++◌, map}
use Rattle.id_bank.specs.Slots.{held_in, cells_below}
use Rattle.id_bank.proofs.add_cells.Given as goal

-- the cells at the places so far are listed
abbrev pub invariant-loop-offset : goal.invariant-loop-offset
invariant-loop-offset l =
    map (λ e. (e.0, held_in e.1.now)) l.cells.items ≡ map (λ e. (e.0, held_in e.1.now)) l.initial.cells.items
    ++ cells_below l.offset l.page l.slots
