-- None so far is of the context.
use Rattle.std.proofs.Common.{Some}
use Rattle.id_flight.specs.Queues.{AreOthers}
use Rattle.id_flight.proofs.queue.Queue.first_behind.Given as goal

abbrev pub invariant-loop-position : goal.invariant-loop-position
invariant-loop-position l = AreOthers l.self.messages l.from l.position (Some l.context)
