use Rattle.std.proofs.Common.{◌≡◌, ◌++◌, false, length}
use Rattle.std.specs.Prelude.{All}
use Rattle.id_instr.specs.Graph.{Parts}
use Rattle.id_step.specs.Fits.{Fits}
use Rattle.id_judge.proofs.bench.send.Given as goal

-- unless something was lost, what is in flight and what is still to be sent are together as before; and all fits, if it
-- did
abbrev pub invariant-loop-message : goal.invariant-loop-message
invariant-loop-message l = record {
  same : l.is_lost ≡ false → l.flight ++ l.sent.messages ≡ l.fn.flight ++ l.fn.sent.messages;
  fit : (g : Parts) → All (Fits g) l.fn.flight → All (Fits g) l.fn.sent.messages
      → All (Fits g) l.flight × All (Fits g) l.sent.messages;
}

abbrev pub decreases-loop-message : goal.decreases-loop-message
decreases-loop-message l = length l.sent.messages
