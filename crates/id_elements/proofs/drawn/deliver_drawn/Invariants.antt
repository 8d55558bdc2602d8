use Rattle.std.proofs.Common.{◌*◌, ◌-◌, ◌≤◌, length}
use Rattle.id_elements.specs.Runs.{AreHeldBefore, GoesOn, HasWent, IsDelivered}
use Rattle.id_elements.proofs.DrawnLemmas.{handled}
use Rattle.id_elements.proofs.drawn.deliver_drawn.Given as goal

-- the machine has gone on by deliveries, every event went well, and all messages before this position are held back
abbrev pub invariant-loop-from : goal.invariant-loop-from
invariant-loop-from l = record {
  on : GoesOn l.steps l.fn.machine l.machine;
  delivered : IsDelivered l.fn.machine.graph l.fn.machine.count l.fn.machine.world l.machine.world;
  went : HasWent l.machine.world;
  within : l.from ≤ length l.machine.world.flight;
  held : AreHeldBefore l.machine.count l.steps l.machine.world l.from;
}

-- how many messages the elements may handle yet
abbrev pub decreases-loop-from : goal.decreases-loop-from
decreases-loop-from l = length l.machine.world.elements * l.steps - handled l.machine.world
