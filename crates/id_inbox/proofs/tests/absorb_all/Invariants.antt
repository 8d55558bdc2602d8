use Rattle.std.proofs.Common.{◌≡◌, ◌<◌, All}
use Rattle.id_inbox.specs.Doors.{DoorView}
use Rattle.id_inbox.proofs.tests.absorb_all.Given as goal

abbrev pub invariant-loop-other : goal.invariant-loop-other
invariant-loop-other l = record {
  parts : 0 < l.door.hand.parts;
  queues : All (λ (d : DoorView). d.queue ≡ l.door.queue) l.others.items;
}

abbrev pub decreases-loop-other : goal.decreases-loop-other
decreases-loop-other l = goal.left-loop-other l
