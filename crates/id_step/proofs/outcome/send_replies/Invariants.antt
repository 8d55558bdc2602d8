-- The replies so far have their tokens, in order, and stand in the record, and there is room for the rest.
use Rattle.std.proofs.Common.{◌≡◌, ◌+◌, ◌≤◌, ◌++◌, take}
use Rattle.id_record.specs.Sends.{numbered, replies}
use Rattle.id_step.proofs.outcome.send_replies.Given as goal

abbrev pub invariant-loop-number : goal.invariant-loop-number
invariant-loop-number l = record {
  room : l.fn.outputs.room ≤ l.outputs.room + l.number;
  messages : l.outputs.messages
      ≡ l.fn.outputs.messages
      ++ numbered l.envelope.number l.envelope.position l.envelope.stamp 0 (replies l.value (take l.number l.readers));
  added : l.log.replies ≡ l.fn.log.replies ++ take l.number l.readers;
  left : l.log.room_for_replies + l.number ≡ l.fn.log.room_for_replies;
  events : l.log.events ≡ l.fn.log.events;
  element : l.log.element ≡ l.fn.log.element;
  graph : l.log.graph ≡ l.fn.log.graph;
  lines : l.log.room ≡ l.fn.log.room;
  keeps : l.log.keeps ≡ l.fn.log.keeps;
}
