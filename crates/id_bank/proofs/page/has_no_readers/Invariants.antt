use Rattle.std.proofs.Common.{◌≡◌, ◌<◌, ℕ}
use Rattle.id_bank.specs.Cells.{count_readers}
use Rattle.id_bank.specs.Slots.{state_in}
use Rattle.id_bank.proofs.page.has_no_readers.Given as goal

-- no reply waits at the cells so far
abbrev pub invariant-loop-offset : goal.invariant-loop-offset
invariant-loop-offset l = (k : ℕ) → k < l.offset → count_readers (state_in l.slots k) ≡ 0
