-- All events of elements in order, as runs (docs/MACHINE.md, "Runs").
use Rattle.std.specs.Prelude.{◌≡◌, ◌⊎◌, ℕ, Some, List, All, length, slice_get}
use Rattle.std.specs.List.{flat_map}
use Rattle.id_instr.specs.Graph.{Parts}
use Rattle.id_tag.specs.declared.Message.{Message}
use Rattle.id_value.specs.declared.Constant.{Constant}
use Rattle.id_value.specs.List.{Among}
use Rattle.id_core.specs.Events.{EventView}
use Rattle.id_core.specs.Steps.{State}
use Rattle.id_core.specs.Machines.{World, start, start_messages}
use Rattle.id_step.specs.Replays.{IsLegal, IsReplayed}
use Rattle.id_observe.specs.Paths.{events_of}
use Rattle.id_observe.specs.Firsts.{AreMergedOf}
use Rattle.id_runs.specs.Legal.{InSomeOrder, LeadTo, IsRunOf}
use Rattle.id_runs.specs.Accounts.{IsAccounted}

-- the states are those of so many elements of the graph, in order of their numbers, each of which its record leads to,
-- by legal events
pub record AreReplayed (g : Parts) (count : ℕ) (ss : List State) : Type 0 where
  pub len : length ss ≡ count
  pub replayed : (n : ℕ) (s : State) → slice_get ss n ≡ Some s → IsReplayed g n s
  pub legal : (n : ℕ) (s : State) → slice_get ss n ≡ Some s → All (IsLegal g count n) s.events

-- these events are a legal list from the start, which ends in these states with these messages in flight, in some order
pub record IsLegalOrder (g : Parts) (vs : List Constant) (count : ℕ) (es : List EventView) (w : World) : Type 0 where
  pub flight : List Message
  pub lead : LeadTo g count (start g vs count) es (record { elements = w.elements; flight = flight })
  pub in_flight : InSomeOrder flight w.flight

-- a message is one of the start, or one that an event of these elements sent
abbrev pub IsOfRecords : Parts → List Constant → List State → Message → Type 0
IsOfRecords g vs ss m = Among m (start_messages g vs) ⊎ Among m (flat_map (λ v. v.outputs) (events_of ss))

-- *Orders are runs*: where each record leads to its state and the records account for every message, all events by
-- stamp, and at one stamp by element, are a legal list that ends in these states with what is left in flight, and it is
-- the list of a run of deliveries; there is such an order; and what is left was there at the start or was sent
pub record OrdersAreRuns : Type 0 where
  pub legal : (g : Parts) (vs : List Constant) (count : ℕ) (w : World) → AreReplayed g count w.elements
      → IsAccounted (start_messages g vs) w.elements w.flight
      → (es : List EventView) → AreMergedOf w.elements es → IsLegalOrder g vs count es w
  pub runs : (g : Parts) (vs : List Constant) (count : ℕ) (w : World) → AreReplayed g count w.elements
      → IsAccounted (start_messages g vs) w.elements w.flight
      → (es : List EventView) → AreMergedOf w.elements es → IsRunOf g vs count es w
  pub order : (g : Parts) (count : ℕ) (ss : List State) → AreReplayed g count ss
      → (es : List EventView) × AreMergedOf ss es
  pub left_among : (g : Parts) (vs : List Constant) (w : World)
      → IsAccounted (start_messages g vs) w.elements w.flight
      → (m : Message) → Among m w.flight → IsOfRecords g vs w.elements m
