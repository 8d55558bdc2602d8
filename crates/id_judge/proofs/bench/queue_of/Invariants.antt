use Rattle.std.proofs.Common.{◌≡◌, take}
use Rattle.id_judge.proofs.bench.queue_of.Given as goal

-- the first messages stand in the queue
abbrev pub invariant-loop-position : goal.invariant-loop-position
invariant-loop-position l = l.queue.messages ≡ take l.position l.flight
