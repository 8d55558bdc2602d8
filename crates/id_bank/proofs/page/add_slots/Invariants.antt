use Rattle.std.proofs.Common.{◌≡◌, ℕ, ◌+◌, ◌-◌}
use Rattle.id_bank.specs.Slots.{state_in}
use Rattle.id_bank.proofs.page.add_slots.Given as goal

-- new slots hold nothing
abbrev pub invariant-loop-slots : goal.invariant-loop-slots
invariant-loop-slots l = (k : ℕ) → state_in l.slots.items k ≡ state_in l.initial.slots.items k

abbrev pub decreases-loop-slots : goal.decreases-loop-slots
decreases-loop-slots l = l.offset + 1 - l.slots.len
