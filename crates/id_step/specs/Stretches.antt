-- A stretch of an element's events: those of a message of a list and of what follows from it (docs/MACHINE.md, "Element
-- step").
use Rattle.std.specs.Prelude.{◌≡◌, ◌≢◌, ◌<◌, ◌≤◌, ◌+◌, ◌-◌, ◌++◌, ◌∷◌, [], ℕ, All, Bool, List, OnOk, Result, Ok, Err}
use Rattle.std.specs.Prelude.{◌^◌, Some, true, false, length, slice_get, take}
use Rattle.std.specs.List.{flat_map, remove, sum_by}
use Rattle.id_instr.specs.Graph.{IsGraph, Parts, arcs_on}
use Rattle.id_instr.specs.declared.instr.Instr.{Instr}
use Rattle.id_valid.specs.Validator.{IsValid}
use Rattle.id_tag.specs.declared.Message.{Message}
use Rattle.id_tag.specs.Routes.{route_of}
use Rattle.id_ops.specs.declared.plain_fired.PlainFired.{PlainFired}
use Rattle.id_ops.specs.declared.plain_fired.PlainFired.TheVariants.{Nothing, Out, Side, Moved}
use Rattle.id_ops.specs.declared.plain_fired.PlainFired.TheVariants.{Sent, Addressed, Asked, Stored}
use Rattle.id_record.specs.declared.step.Step.{Step}
use Rattle.id_record.specs.Events.{AllWent, EventView}
use Rattle.id_step.specs.declared.step.TakeError.{TakeError}
use Rattle.id_step.specs.declared.stretch.Ran.{Ran}
use Rattle.id_step.specs.declared.stretch.Ran.TheVariants as ran
use Rattle.id_step.specs.declared.step.PlainOperands.{PlainOperands}
use Rattle.id_step.specs.declared.step.Taken.{Taken}
use Rattle.id_step.specs.declared.step.Taken.TheVariants as taken
use Rattle.id_step.specs.declared.storage.Storage.{Storage}
use Rattle.id_flight.specs.Queues.{QueueView}
use Rattle.id_tag.specs.declared.plain.PlainToken.{PlainToken}
use Rattle.id_tag.specs.Plains.{cell_of, message_of, whole}
use Rattle.id_tag.specs.declared.plain.Plain.{Plain}
use Rattle.id_tag.specs.declared.Value.TheVariants.{Address}
use Rattle.id_instr.specs.declared.dests.Dest.{Dest}
use Rattle.id_match.specs.Waiting.{Store}
use Rattle.id_record.specs.declared.step.Step.TheVariants.{Went}
use Rattle.id_step.specs.Firings.{IsBound, IsFiring, IsPlainFiring, most_sent}
use Rattle.id_step.specs.Fits.{Fits}
use Rattle.id_step.specs.Steps.{next_stamp}
use Rattle.id_step.specs.Storage.{IsShort, element_at, state_of}
use Rattle.id_step.specs.Replays.{ElementView}
use Rattle.id_step.specs.Takes.{IsForAt, Takes}

-- what these events say that was sent
abbrev pub sent_by : List EventView → List Message
sent_by es = flat_map (λ v. v.outputs) es

-- what they say that was taken, in weight
abbrev pub taken_by : (Message → ℕ) → List EventView → ℕ
taken_by f es = sum_by (λ v. f v.message) es

-- the element has gone on by n events, each of which went well but the last, which did if `well`: what it had in a list
-- and what it sent is what it took, what is near, and what the list has now; and what it sent fits
pub record Stretch (n : ℕ) (e e' : ElementView) (list near list' : List Message) (well : Bool) : Type 0 where
  pub ran : List EventView
  pub element : e' ≡ record e { state = e'.state }
  pub events : e'.state.events ≡ e.state.events ++ ran
  pub count : length ran ≡ n
  pub before : AllWent (take (n - 1) ran)
  pub went : well ≡ true → AllWent ran
  pub fits : All (Fits e.graph) (sent_by ran)
  pub fit : All (Fits e.graph) list → All (Fits e.graph) list'
  pub weight : (f : Message → ℕ) → sum_by f list' + sum_by f near + taken_by f ran
      ≡ sum_by f list + sum_by f (sent_by ran)

-- the message at a position has left the list, the others stand where they stood, and what came stands behind them
abbrev pub IsBehind : ℕ → List Message → List Message → Type 0
IsBehind k list list' = take (length list - 1) list' ≡ remove list k

-- that is so unless the element is the only one: there a stretch that turns takes some of the others, too
abbrev pub OthersStay : ElementView → ℕ → List Message → List Message → Type 0
OthersStay e k list list' = (e.count ≡ 1 → ⊥) → IsBehind k list list'

-- whether all went well, where nothing failed
abbrev pub is_well : Result Bool TakeError → Bool
is_well (Ok b) = b
is_well (Err x) = true

-- the element has handled the message at a position of a list, and what follows from it, at most so many: the answer is
-- whether that went well; or no stamp is left for one of them, or a growth was refused, and that one has not been
-- handled
pub record GoesOn (most k : ℕ) (e e' : ElementView) (list list' : List Message)
    (r : Result Bool TakeError) : Type 0 where
  pub n : ℕ
  pub few : n ≤ most
  pub some : OnOk r (0 < n)
  pub stretch : Stretch n e e' list [] list' (is_well r)
  pub others : OnOk r (OthersStay e k list list')

-- ---- inside

-- what is sent for a message has come to what is near or to the end of the list: near is only what goes where the
-- message went, by its context and iteration
pub record Spreads (m : Message) (near near' list list' sent : List Message) : Type 0 where
  pub more : List Message
  pub behind : list' ≡ list ++ more
  pub weight : (f : Message → ℕ) → sum_by f near' + sum_by f list' ≡ sum_by f near + sum_by f list + sum_by f sent
  pub fit_near : (g : Parts) → All (Fits g) near → All (Fits g) sent → All (Fits g) near'
  pub fit : (g : Parts) → All (Fits g) near → All (Fits g) list → All (Fits g) sent → All (Fits g) list'
  pub routed : (count : ℕ) → All (λ x. route_of x.payload count ≡ route_of m.payload count) near
      → All (λ x. route_of x.payload count ≡ route_of m.payload count) near'

-- the element has taken the message by its step, which came to this
pub record TakesNear (e e' : ElementView) (m : Message) (near near' list list' : List Message) (s : Step) : Type 0 where
  pub sent : List Message
  pub takes : Takes e e' m [] sent s
  pub spreads : Spreads m near near' list list' sent

-- nothing has changed
pub record LeavesNear (e e' : ElementView) (near near' list list' : List Message) : Type 0 where
  pub element : e' ≡ e
  pub near_same : near' ≡ near
  pub same : list' ≡ list

-- a storage may take a plain token, of which no instruction sends more than the most, with room for that
pub record MayGoOn (d : Storage) (most : ℕ) (t : PlainToken) (near list : QueueView) : Type 0 where
  pub valid : IsValid d.log.graph
  pub bound : IsBound d.log.graph d.log.element most
  pub counted : d.contexts ≤ d.stamp
  pub numbered : d.structures ≤ d.stamp
  pub fits : Fits d.log.graph (message_of t)
  pub few : most ≤ 256
  pub room : length near.messages + most < list.room
  pub room_near : most ≤ near.room

-- a storage is ready for the event of a plain token at its instruction and at this stamp, which is the next: all its
-- numbers are small, and there is room for it and for what it sends
pub record IsReady (d : Storage) (i : Instr) (t : PlainToken) (stamp : ℕ) (near list : QueueView) : Type 0 where
  pub room : 0 < d.log.room
  pub own : slice_get d.log.graph.instrs t.instr ≡ Some i
  pub next : stamp ≡ next_stamp (state_of d) (message_of t)
  pub short : IsShort d (most_sent i) t stamp
  pub room_in_list : length near.messages + most_sent i < list.room
  pub room_near : most_sent i ≤ near.room

-- after a step there is room in the list for what is near, and where it goes on, for one more
abbrev pub LeavesRoom : Taken → QueueView → QueueView → Type 0
LeavesRoom a near list = (length near.messages ≤ list.room)
    × (a ≢ taken.Failed → a ≢ taken.Went → length near.messages < list.room)

-- what is near with what stands in the token's place, if something does
abbrev pub with_next : Bool → List Message → PlainToken → List Message
with_next true near t = near ++ message_of t ∷ []
with_next false near t = near

-- what became of the token at hand
abbrev pub Became : Taken → ElementView → ElementView → List Message → List Message → List Message → List Message
    → PlainToken → PlainToken → Type 0
Became taken.Next e e' near near' list list' t t' =
    TakesNear e e' (message_of t) near (near' ++ message_of t' ∷ []) list list' Went
Became taken.Went e e' near near' list list' t t' = TakesNear e e' (message_of t) near near' list list' Went
Became taken.Failed e e' near near' list list' t t' = (s : Step) × TakesNear e e' (message_of t) near near' list list' s
Became taken.Apart e e' near near' list list' t t' = LeavesNear e e' near near' list list' × (t' ≡ t)
Became taken.Memory e e' near near' list list' t t' = LeavesNear e e' near near' list list' × (t' ≡ t)

-- what is near, where this is sent of what was fired: it comes there where it stays under the tag
abbrev pub near_after : PlainFired → List Message → List Message → List Message
near_after Nothing near sent = near
near_after (Out v) near sent = near ++ sent
near_after (Side b v) near sent = near ++ sent
near_after (Moved i v) near sent = near
near_after (Sent t v) near sent = near
near_after (Addressed c) near sent = near ++ sent
near_after (Asked c i) near sent = near
near_after (Stored c v) near sent = near

-- and the list, to whose end all else comes
abbrev pub far_after : PlainFired → List Message → List Message → List Message
far_after Nothing list sent = list
far_after (Out v) list sent = list
far_after (Side b v) list sent = list
far_after (Moved i v) list sent = list ++ sent
far_after (Sent t v) list sent = list ++ sent
far_after (Addressed c) list sent = list
far_after (Asked c i) list sent = list ++ sent
far_after (Stored c v) list sent = list ++ sent

-- the element at a storage where these waited before
abbrev pub element_with : Storage → Store → ElementView
element_with d w = record (element_at d) { state = record (state_of d) { waiting = w } }

-- the token at hand fires this in small numbers, where what waits has changed before
abbrev pub HasFired : Storage → Instr → PlainToken → PlainFired → Type 0
HasFired d i t p = (w : Store) × IsPlainFiring i.op w d.waiting t p

-- what became of it
abbrev pub Shoots : Taken → PlainFired → Storage → Storage → Instr → List Message → List Message → List Message
    → List Message → PlainToken → PlainToken → Type 0
Shoots a p d d' i near near' list list' t t' = (w : Store) → IsPlainFiring i.op w d.waiting t p
    → Became a (element_with d w) (element_at d') near near' list list' t t'

-- it fires its instruction with these operands, where what waits has changed before
abbrev pub HasMet : Storage → Instr → PlainToken → PlainOperands → Type 0
HasMet d i t o = (w : Store) × IsFiring i.op w d.waiting t o

-- what became of it
abbrev pub ShootsFull : Taken → PlainOperands → Storage → Storage → Instr → List Message → List Message → List Message
    → List Message → PlainToken → PlainToken → Type 0
ShootsFull a o d d' i near near' list list' t t' = (w : Store) → IsFiring i.op w d.waiting t o
    → Became a (element_with d w) (element_at d') near near' list list' t t'

-- of what was fired this value goes under the tag to these destinations
abbrev pub PutsTo : PlainFired → Instr → List Dest → Plain → Type 0
PutsTo (Out v) i ds u = (ds ≡ i.dests) × (u ≡ v)
PutsTo (Side b v) i ds u = (ds ≡ arcs_on b i) × (u ≡ v)
PutsTo (Addressed c) i ds u = (ds ≡ i.dests) × (whole u ≡ Address (cell_of c))
PutsTo p i ds u = ⊥

-- so many events at the most, and one at least
pub record Ends (most : ℕ) (e e' : ElementView) (list list' : List Message) (well : Bool) : Type 0 where
  pub n : ℕ
  pub some : 0 < n
  pub few : n ≤ most
  pub stretch : Stretch n e e' list [] list' well

-- fewer, and what stands at the end of the list is for the element
pub record IsCut (most : ℕ) (e e' : ElementView) (list list' : List Message) : Type 0 where
  pub n : ℕ
  pub few : n < most
  pub stretch : Stretch n e e' list [] list' true
  pub last : IsForAt e' list' (length list' - 1)
  pub some : 0 < length list'

-- how a stretch ended: all went well; the last event did not; what stands at the end of the list is to be handled in
-- full; or no stamp is left for that, or a growth was refused
abbrev pub RanSo : ℕ → ℕ → ElementView → ElementView → List Message → List Message → Ran → Type 0
RanSo most k e e' list list' ran.Went = Ends most e e' list list' true × OthersStay e k list list'
RanSo most k e e' list list' ran.Failed = Ends most e e' list list' false × OthersStay e k list list'
RanSo most k e e' list list' ran.Apart =
    IsCut most e e' list list' × OthersStay e k list (remove list' (length list' - 1))
RanSo most k e e' list list' (ran.Refused x) = IsCut most e e' list list'
