-- So many events have happened, and a message is at hand, for which there is room.
use Rattle.std.proofs.Common.{◌≡◌, ◌+◌, ◌<◌, ◌≤◌, length}
use Rattle.id_tag.specs.Plains.{message_of}
use Rattle.id_step.specs.Storage.{element_at}
use Rattle.id_step.proofs.StretchesLemmas.{AtHand}
use Rattle.id_step.proofs.stretch.run.Given as goal

abbrev pub invariant-loop-done : goal.invariant-loop-done
invariant-loop-done g l = record {
  hand : AtHand l.done l.most l.position (element_at l.fn.storage) (element_at l.storage) l.fn.list.messages
      (message_of l.token) l.near.messages l.list.messages;
  own : l.graph ≡ l.storage.log.graph;
  room : length l.near.messages + l.most < l.list.room;
  room_near : l.most ≤ l.near.room;
}
