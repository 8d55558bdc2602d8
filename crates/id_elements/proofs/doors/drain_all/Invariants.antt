use Rattle.std.proofs.Common.{◌≡◌, ℕ, ◌<◌, List, vec_len, slice_index_or}
use Rattle.std.specs.List.{sum_by}
use Rattle.id_tag.specs.declared.Message.{Message}
use Rattle.id_inbox.specs.Doors.{DoorView}
use Rattle.id_step.specs.Steps.{State}
use Rattle.id_elements.specs.Doors.{HaveParts}
use Rattle.id_elements.specs.Gathered.{IsWhole}
use Rattle.id_elements.proofs.doors.drain_all.Given as goal

abbrev pub invariant-loop-number : goal.invariant-loop-number
invariant-loop-number g l = record {
  len : vec_len l.doors ≡ vec_len l.fn.doors;
  parts : HaveParts 1024 l.doors.items;
  whole : (start : List Message) (ss : List State) → IsWhole start l.fn.doors.items ss l.fn.left.messages
      → IsWhole start l.doors.items ss l.left.messages;
  empty : (j : ℕ) (d : DoorView) → j < l.number → (f : Message → ℕ)
      → sum_by f (slice_index_or l.doors.items j d).hand.sent ≡ sum_by f (slice_index_or l.doors.items j d).hand.taken;
}
