use Rattle.std.proofs.Common.{◌≤◌, length}
use Rattle.id_elements.specs.Runs.{AreHeldBefore, GoesOn, HasWent}
use Rattle.id_elements.proofs.finish.finish.Given as goal

-- the machine has gone on, every event went well, and all messages before this position are held back
abbrev pub invariant-loop : goal.invariant-loop
invariant-loop g l = record {
  on : GoesOn l.steps l.fn.machine l.machine;
  went : HasWent l.machine.world;
  within : l.position ≤ length l.machine.world.flight;
  held : AreHeldBefore l.machine.count l.steps l.machine.world l.position;
}
