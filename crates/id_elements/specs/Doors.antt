-- What doors to inboxes have sent and taken, in weights: however messages are weighed (docs/THREADS.md, "Accounts").
use Rattle.std.specs.Prelude.{◌≡◌, ℕ, ◌+◌, ◌-◌, List, All, map}
use Rattle.std.specs.List.{sum_by}
use Rattle.std.specs.Global.{Global}
use Rattle.crossbeam_queue.specs.SegTies.{SegId}
use Rattle.id_tag.specs.declared.Message.{Message}
use Rattle.id_inbox.specs.Doors.{DoorView}

-- what was sent by these doors
abbrev pub sent_by : (Message → ℕ) → List DoorView → ℕ
sent_by f ds = sum_by (λ (d : DoorView). sum_by f d.hand.sent) ds

-- what was taken by these doors
abbrev pub taken_by : (Message → ℕ) → List DoorView → ℕ
taken_by f ds = sum_by (λ (d : DoorView). sum_by f d.hand.taken) ds

-- the inboxes of these doors
abbrev pub queues_of : List DoorView → List (SegId Global)
queues_of ds = map (λ (d : DoorView). d.queue) ds

-- each of these doors has so many parts
abbrev pub HaveParts : ℕ → List DoorView → Type 0
HaveParts n ds = All (λ (d : DoorView). d.hand.parts ≡ n) ds

-- nothing was sent or taken by these doors
abbrev pub AreUnused : List DoorView → Type 0
AreUnused ds = (f : Message → ℕ) → (sent_by f ds ≡ 0) × (taken_by f ds ≡ 0)

-- a part was taken from each door, and nothing else has changed
pub record IsCut (old new : List DoorView) : Type 0 where
  pub queues : queues_of new ≡ queues_of old
  pub parts : (n : ℕ) → HaveParts n old → HaveParts (n - 1) new
  pub sent : (f : Message → ℕ) → sent_by f new ≡ sent_by f old
  pub taken : (f : Message → ℕ) → taken_by f new ≡ taken_by f old

-- these doors to the same inboxes, with one part each, were taken in
pub record IsMerged (old theirs new : List DoorView) : Type 0 where
  pub queues : queues_of new ≡ queues_of old
  pub parts : (n : ℕ) → HaveParts n old → HaveParts (n + 1) new
  pub sent : (f : Message → ℕ) → sent_by f new ≡ sent_by f old + sent_by f theirs
  pub taken : (f : Message → ℕ) → taken_by f new ≡ taken_by f old + taken_by f theirs

-- what was in an inbox was taken out by its one door, and is left: what was sent there is what was taken
pub record IsDrained (old : DoorView) (before : List Message) (new : DoorView) (after : List Message) : Type 0 where
  pub queue : new.queue ≡ old.queue
  pub parts : new.hand.parts ≡ old.hand.parts
  pub sent : new.hand.sent ≡ old.hand.sent
  pub moved : (f : Message → ℕ)
      → sum_by f new.hand.taken + sum_by f before ≡ sum_by f old.hand.taken + sum_by f after
  pub empty : (f : Message → ℕ) → sum_by f new.hand.sent ≡ sum_by f new.hand.taken
