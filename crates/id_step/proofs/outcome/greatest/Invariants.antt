-- No instruction so far sends more than the most.
use Rattle.std.proofs.Common.{ℕ, ◌<◌, ◌≤◌, slice_index_or}
use Rattle.id_instr.specs.declared.instr.Instr.{Instr}
use Rattle.id_step.specs.Firings.{most_sent}
use Rattle.id_step.proofs.outcome.greatest.Given as goal

abbrev pub invariant-loop-i : goal.invariant-loop-i
invariant-loop-i l = (k : ℕ) (d : Instr) → k < l.i → most_sent (slice_index_or l.instrs k d) ≤ l.most
