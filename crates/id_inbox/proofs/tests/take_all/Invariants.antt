use Rattle.std.proofs.Common.{◌<◌}
use Rattle.id_inbox.proofs.tests.take_all.Given as goal

abbrev pub invariant-loop : goal.invariant-loop
invariant-loop g l = 0 < l.door.hand.parts
