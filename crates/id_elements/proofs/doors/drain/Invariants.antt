use Rattle.std.proofs.Common.{◌≡◌, ℕ, ◌+◌}
use Rattle.std.specs.List.{sum_by}
use Rattle.id_tag.specs.declared.Message.{Message}
use Rattle.id_elements.proofs.doors.drain.Given as goal

abbrev pub invariant-loop : goal.invariant-loop
invariant-loop g l = record {
  queue : l.door.queue ≡ l.fn.door.queue;
  parts : l.door.hand.parts ≡ l.fn.door.hand.parts;
  sent : l.door.hand.sent ≡ l.fn.door.hand.sent;
  moved : (f : Message → ℕ) → sum_by f l.door.hand.taken + sum_by f l.fn.left.messages
      ≡ sum_by f l.fn.door.hand.taken + sum_by f l.left.messages;
}
