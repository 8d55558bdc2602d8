-- So many queues so far.
use Rattle.std.proofs.Common.{◌≡◌, length}
use Rattle.id_facts.proofs.queues.Queues.new.Given as goal

abbrev pub invariant-loop-queue : goal.invariant-loop-queue
invariant-loop-queue l = length l.queues.items ≡ l._queue
