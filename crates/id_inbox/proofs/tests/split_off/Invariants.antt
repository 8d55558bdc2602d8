use Rattle.std.proofs.Common.{◌≡◌, ◌+◌, ◌<◌, All, vec_len}
use Rattle.id_inbox.specs.Doors.{DoorView}
use Rattle.id_inbox.proofs.tests.split_off.Given as goal

abbrev pub invariant-loop-number : goal.invariant-loop-number
invariant-loop-number l = record {
  len : vec_len l.others ≡ l._number;
  parts : l.door.hand.parts + l._number ≡ l.fn.door.hand.parts;
  queues : All (λ (d : DoorView). d.queue ≡ l.door.queue) l.others.items;
  others : All (λ (d : DoorView). 0 < d.hand.parts) l.others.items;
}
