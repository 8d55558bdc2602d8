use Rattle.std.proofs.Common.{◌≡◌, ◌<◌, ℕ, None}
use Rattle.id_bank.specs.Slots.{state_in}
use Rattle.id_bank.proofs.page.has_none.Given as goal

-- the cells so far hold nothing
abbrev pub invariant-loop-offset : goal.invariant-loop-offset
invariant-loop-offset l = (k : ℕ) → k < l.offset → state_in l.slots k ≡ None
