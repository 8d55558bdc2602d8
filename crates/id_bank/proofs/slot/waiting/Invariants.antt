use Rattle.std.proofs.Common.{◌≡◌, take}
use Rattle.std.specs.List.{flat_map}
use Rattle.id_bank.specs.Cells.{readers_at}
use Rattle.id_bank.specs.Slots.{held_in}
use Rattle.id_bank.proofs.slot.waiting.Given as goal

-- the replies at the cells so far are listed
abbrev pub invariant-loop-entry : goal.invariant-loop-entry
invariant-loop-entry l =
    l.readers.items ≡ flat_map (λ e. readers_at (e.0, held_in e.1.now)) (take l.entry-index l.slots)
