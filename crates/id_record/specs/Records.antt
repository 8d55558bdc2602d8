-- The events of a record, and what it keeps of them (docs/MACHINE.md, "The record").
use Rattle.std.specs.Prelude.{ℕ, ◌+◌, ◌<◌, Bool, true, List, [], ◌∷◌, ◌++◌, ◌≡◌, drop, length}
use Rattle.std.specs.Prelude.{slice_get, take}
use Rattle.std.specs.List.{AllByRecursion}
use Rattle.std.specs.Option.{option_map_or}
use Rattle.id_instr.specs.declared.dests.Dest.{Dest}
use Rattle.id_instr.specs.Graph.{Parts, arcs_on}
use Rattle.id_tag.specs.declared.Tag.{Tag}
use Rattle.id_tag.specs.declared.Payload.{Payload}
use Rattle.id_ops.specs.declared.Fired.{Fired}
use Rattle.id_ops.specs.Operators.{side_of}
use Rattle.id_record.specs.declared.handled.Handled.{Handled}
use Rattle.id_record.specs.declared.handled.Replies.{Replies}
use Rattle.id_record.specs.declared.kept.Keeps.{Keeps}
use Rattle.id_record.specs.Events.{EventView, full_step, tag_of, value_of}
use Rattle.id_record.specs.Handlings.{HasThere}
use Rattle.id_record.specs.Kept.{KeptView, keeps_all, keeps_names}
use Rattle.id_valid.specs.Roles.{op_at}
use Rattle.id_record.specs.Sends.{numbered, replies, sent}
use Rattle.id_record.specs.Tellings.{any_stuck, first_fault, merged, tellings}

-- the destinations of the instruction of this number on a side
abbrev pub dests_at : Parts → ℕ → Bool → List Dest
dests_at g n b = option_map_or (arcs_on b) (slice_get g.instrs n) []

-- what is sent where the instruction of the tag fires: to the destinations on the side of the firing
abbrev pub sent_by : Parts → Tag → Fired → List Payload
sent_by g t f = sent (op_at g t.instr) (dests_at g t.instr (side_of f)) t f

-- what is sent for a message where this is fired, and where its value goes to these replies
abbrev pub sent_for : Parts → Payload → Fired → List Tag → List Payload
sent_for g x f ts = sent_by g (tag_of x) f ++ replies (value_of x) ts

-- the replies of an event, among all those of its record
abbrev pub replies_in : List Tag → Replies → List Tag
replies_in ts r = take r.count (drop r.from ts)

-- the event of the element n at this position, in a record with these replies
abbrev pub event_of_handled : Parts → ℕ → List Tag → ℕ → Handled → EventView
event_of_handled g n ts position h = record {
  element = n;
  stamp = h.stamp;
  message = h.message;
  fired = h.reaction.fired;
  outputs =
      numbered n position h.stamp 0 (sent_for g h.message.payload h.reaction.fired (replies_in ts h.replies));
  step = full_step h.message.payload h.reaction.verdict;
}

-- the events of these that were handled, from this position on, in a record with these replies
abbrev pub events_from : Parts → ℕ → List Tag → ℕ → List Handled → List EventView
events_from g n ts position [] = []
events_from g n ts position (h ∷ hs) = event_of_handled g n ts position h ∷ events_from g n ts (position + 1) hs

-- what contracts see of a record: how much it keeps, its events, the replies of all of them, and how many more events
-- and replies find room
pub record RecordView : Type 0 where
  pub element : ℕ
  pub graph : Parts
  pub keeps : Keeps
  pub events : List EventView
  pub replies : List Tag
  pub room : ℕ
  pub room_for_replies : ℕ

-- what is kept of these that were handled: what they tell, what came to merges, all of them and their replies, as far
-- as it is to be kept
pub record AreKept (g : Parts) (n : ℕ) (ts : List Tag) (hs : List Handled) (k : KeptView) : Type 0 where
  pub there : AllByRecursion (HasThere ts) hs
  pub len : k.len ≡ length hs
  pub replied : k.replied ≡ length ts
  pub tellings : k.tellings ≡ tellings (events_from g n ts 0 hs)
  pub merged : keeps_names k.keeps ≡ true → k.merged ≡ merged g (events_from g n ts 0 hs)
  pub events : keeps_all k.keeps ≡ true → k.events ≡ hs
  pub replies : keeps_all k.keeps ≡ true → k.replies ≡ ts
  pub fault : k.fault ≡ first_fault (events_from g n ts 0 hs)
  pub stuck : k.stuck ≡ any_stuck (events_from g n ts 0 hs)

-- a record has room for one more event
abbrev pub HasPlace : RecordView → Type 0
HasPlace r = 0 < r.room

-- a record goes on by this event
pub record GoesOn (r : RecordView) (h : Handled) (s : RecordView) : Type 0 where
  pub element : s.element ≡ r.element
  pub graph : s.graph ≡ r.graph
  pub keeps : s.keeps ≡ r.keeps
  pub events : s.events ≡ r.events ++ event_of_handled r.graph r.element r.replies (length r.events) h ∷ []
