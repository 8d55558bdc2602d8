-- Runs on worker threads, and what they come to (docs/PROMISES.md, "The run").
use Rattle.std.specs.Prelude.{◌≡◌, ◌≢◌, ◌<◌, ◌≤◌, ◌⊎◌, ℕ, IsTrue, IsFalse, List, All}
use Rattle.std.specs.Prelude.{length, slice_get, Some}
use Rattle.id_instr.specs.Graph.{Parts}
use Rattle.id_tag.specs.declared.Message.{Message}
use Rattle.id_tag.specs.Routes.{route_of}
use Rattle.id_value.specs.declared.Constant.{Constant}
use Rattle.id_value.specs.List.{Among}
use Rattle.id_record.specs.declared.step.Step.TheVariants.{Stuck}
use Rattle.id_core.specs.Events.{AllWent, EventView}
use Rattle.id_observe.specs.Firsts.{AreMergedOf}
use Rattle.id_core.specs.Machines.{MachineView, World, start}
use Rattle.id_core.specs.Machines as machines
use Rattle.id_core.specs.Observed.{events_of}
use Rattle.id_core.specs.Steps.{State, is_ended}
use Rattle.id_runs.specs.Legal.{IsRunOf}
use Rattle.id_runs.specs.Accounts.{IsAccounted}
use Rattle.id_runs.specs.Orders.{IsLegalOrder}
use Rattle.id_elements.specs.Workers.{StopsAtFault}
use Rattle.id_elements.specs.declared.settings.RunError.{RunError}
use Rattle.id_elements.specs.declared.settings.RunError.TheVariants.{BadElements, BadSteps, Memory}
use Rattle.id_elements.specs.declared.settings.RunError.TheVariants as error

-- the message is held back: the element that it is for has handled so many messages, or no stamp is left for it there
pub record IsHeldBack (count steps : ℕ) (w : World) (m : Message) : Type 0 where
  pub state : State
  pub element : slice_get w.elements (route_of m.payload count) ≡ Some state
  pub held : (length state.events ≡ steps) ⊎ IsTrue (is_ended state m)

-- every event went well
abbrev pub HasWent : World → Type 0
HasWent w = All (λ s. AllWent s.events) w.elements

-- no element has handled a message behind a fault of its own
abbrev pub StopAtFaults : World → Type 0
StopAtFaults w = All (λ s. StopsAtFault s.events) w.elements

-- a run on worker threads has come to this: its elements are so many of the graph, of which each has handled so many
-- messages at most, none of them behind a fault; all events, by stamp and at one stamp by element, are a legal list
-- from the start messages that ends in these elements, with what is left in flight; and where every event went well,
-- each message left is held back
pub record IsRun (g : Parts) (vs : List Constant) (count steps : ℕ) (m : MachineView) : Type 0 where
  pub graph_is : m.graph ≡ g
  pub count_is : m.count ≡ count
  pub few : All (λ s. length s.events ≤ steps) m.world.elements
  pub stops : StopAtFaults m.world
  pub order : (es : List EventView) × AreMergedOf m.world.elements es
  pub legal : (es : List EventView) → AreMergedOf m.world.elements es → IsLegalOrder g vs count es m.world
  pub runs : (es : List EventView) → AreMergedOf m.world.elements es → IsRunOf g vs count es m.world
  pub honest : HasWent m.world → All (IsHeldBack count steps m.world) m.world.flight

-- it is the machine after deliveries at some positions, one after another, from its start on
pub record IsByPositions (g : Parts) (vs : List Constant) (count : ℕ) (w : World) : Type 0 where
  pub positions : List ℕ
  pub is : w ≡ machines.run g count positions (start g vs count)

-- none of these events was `Stuck`
abbrev pub AllMove : List EventView → Type 0
AllMove es = All (λ v. v.step ≢ Stuck) es

-- no event was `Stuck`
abbrev pub MovesOn : World → Type 0
MovesOn w = (v : EventView) → Among v (events_of w.elements) → v.step ≢ Stuck

-- such a run has come to this, and some event was `Stuck`
pub record IsStuckRun (g : Parts) (vs : List Constant) (count steps : ℕ) : Type 0 where
  pub machine : MachineView
  pub run : IsRun g vs count steps machine
  pub stuck : ¬ MovesOn machine.world

-- the steps are none or too many, where the number of elements is good
abbrev pub AreBadSteps : ℕ → ℕ → Type 0
AreBadSteps count steps = (0 < count) × (count ≤ 64) × ((steps ≡ 0) ⊎ (100000000 < steps))

-- why there is no run on so many elements with so many steps for each
abbrev pub IsRefusedRun : Parts → List Constant → ℕ → ℕ → RunError → Type 0
IsRefusedRun g vs count steps BadElements = (count ≡ 0) ⊎ (64 < count)
IsRefusedRun g vs count steps BadSteps = AreBadSteps count steps
IsRefusedRun g vs count steps error.Stuck = IsStuckRun g vs count steps
IsRefusedRun g vs count steps Memory = Unit {0}

-- for use inside

-- the message at this position is not held back: the element that it is for has handled another number of messages, and
-- a stamp is left for it there
pub record IsFree (count steps : ℕ) (w : World) (k : ℕ) : Type 0 where
  pub message : Message
  pub at : slice_get w.flight k ≡ Some message
  pub state : State
  pub element : slice_get w.elements (route_of message.payload count) ≡ Some state
  pub some : length state.events ≢ steps
  pub stamp : IsFalse (is_ended state message)

-- all messages before this position are held back
abbrev pub AreHeldBefore : ℕ → ℕ → World → ℕ → Type 0
AreHeldBefore count steps w k =
    (j : ℕ) (m : Message) → j < k → slice_get w.flight j ≡ Some m → IsHeldBack count steps w m

-- the machine has gone on: it is of the same graph and of as many elements, which keep as much, none of which has
-- handled more than so many messages, and its records account for each message for which they did before
pub record GoesOn (steps : ℕ) (old new : MachineView) : Type 0 where
  pub same_graph : new.graph ≡ old.graph
  pub same_count : new.count ≡ old.count
  pub same_keeps : new.keeps ≡ old.keeps
  pub few : All (λ s. length s.events ≤ steps) new.world.elements
  pub accounted : (start : List Message) → IsAccounted start old.world.elements old.world.flight
      → IsAccounted start new.world.elements new.world.flight

-- and it has come to an end: no element has handled a message behind a fault, where none had, and where every event
-- went well, each message left is held back
pub record IsFinished (steps : ℕ) (old new : MachineView) : Type 0 where
  pub on : GoesOn steps old new
  pub stops : StopAtFaults old.world → StopAtFaults new.world
  pub honest : HasWent new.world → All (IsHeldBack new.count steps new.world) new.world.flight

-- the machine has gone on from there by deliveries at some positions, one after another
pub record IsDelivered (g : Parts) (count : ℕ) (old new : World) : Type 0 where
  pub positions : List ℕ
  pub is : new ≡ machines.run g count positions old
