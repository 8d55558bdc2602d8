-- A machine whose messages in flight stand in no order.
use Rattle.std.specs.Prelude.{◌≡◌, ◌≢◌, ℕ, ◌-◌, IsTrue, Option, None, Some, List, ◌∷◌}
use Rattle.std.specs.Prelude.{◌++◌, length, slice_get}
use Rattle.id_instr.specs.Graph.{Parts}
use Rattle.id_tag.specs.declared.Message.{Message}
use Rattle.id_tag.specs.Routes.{route_of}
use Rattle.id_record.specs.declared.kept.Keeps.{Keeps}
use Rattle.id_record.specs.declared.step.Step.{Step}
use Rattle.id_core.specs.Events.{EventView}
use Rattle.id_core.specs.Replays.{ElementView}
use Rattle.id_core.specs.Steps.{is_ended}
use Rattle.id_core.specs.Machines.{World, world_of}
use Rattle.id_runs.specs.Legal.{InSomeOrder}
use Rattle.id_judge.specs.declared.verdict.Cause.{Cause}
use Rattle.id_judge.specs.declared.verdict.Cause.TheVariants.{NotInFlight, OtherElement, NoStamp, OtherStamp}
use Rattle.id_judge.specs.declared.verdict.Cause.TheVariants.{OtherOutcome, NoLine}
use Rattle.id_judge.specs.Verdicts.{Follows}

-- the graph, how much the elements keep of their events, the elements, and what is in flight
pub record BenchView : Type 0 where
  pub graph : Parts
  pub keeps : Keeps
  pub elements : List ElementView
  pub flight : List Message

-- its state
abbrev pub world_in : BenchView → World
world_in b = world_of b.elements b.flight

-- the number of the element that a message is for
abbrev pub number_for : BenchView → Message → ℕ
number_for b m = route_of m.payload (length b.elements)

-- no stamp is left for the message
abbrev pub IsEnded : BenchView → Message → Type 0
IsEnded b m = (e : ElementView) × (slice_get b.elements (number_for b m) ≡ Some e) × IsTrue (is_ended e.state m)

-- the message left what is in flight, where what was sent stands behind the others
pub record Replaces (m : Message) (old sent new : List Message) : Type 0 where
  pub others : List Message
  pub out : InSomeOrder old (m ∷ others)
  pub flight : new ≡ others ++ sent

-- this is the last event that the element of a message has recorded
pub record IsLast (b : BenchView) (m : Message) (v : EventView) : Type 0 where
  pub element : ElementView
  pub there : slice_get b.elements (number_for b m) ≡ Some element
  pub last : slice_get element.state.events (length element.state.events - 1) ≡ Some v

-- the message was delivered, and came to this: an event of it followed, which is the last one that its element has
-- recorded
pub record Delivers (b : BenchView) (m : Message) (s : Step) (c : BenchView) : Type 0 where
  pub event : EventView
  pub of : event.message ≡ m
  pub came : event.step ≡ s
  pub follows : Follows b.graph (length b.elements) (world_in b) event (world_in c)
  pub same_graph : c.graph ≡ b.graph
  pub same_keeps : c.keeps ≡ b.keeps
  pub same_count : length c.elements ≡ length b.elements
  pub recorded : IsLast c m event

-- in what the event that came of a message differs from the one that is given
abbrev pub Differs : EventView → EventView → Option Cause → Type 0
Differs v given None = v ≡ given
Differs v given (Some OtherStamp) = v.stamp ≢ given.stamp
Differs v given (Some OtherOutcome) = (v.stamp ≡ given.stamp) × (v ≢ given)
Differs v given (Some NotInFlight) = ⊥
Differs v given (Some OtherElement) = ⊥
Differs v given (Some NoStamp) = ⊥
Differs v given (Some NoLine) = ⊥
