-- What a judge says of a list of events (docs/MACHINE.md, "Judges").
use Rattle.std.specs.Prelude.{◌≡◌, ◌≢◌, ℕ, ◌+◌, IsTrue, IsFalse, Some, List, length, slice_get, take}
use Rattle.id_instr.specs.Graph.{Parts}
use Rattle.id_tag.specs.Routes.{route_of}
use Rattle.id_value.specs.declared.Constant.{Constant}
use Rattle.id_value.specs.List.{Among}
use Rattle.id_record.specs.declared.history.Event.{Event}
use Rattle.id_record.specs.declared.kept.Keeps.TheVariants as keeps
use Rattle.id_core.specs.Events.{EventView}
use Rattle.id_core.specs.Steps.{State, event_of, is_ended, next_stamp}
use Rattle.id_core.specs.Machines.{World, start}
use Rattle.id_runs.specs.Legal.{CanFollow, IsLegalList, LeadTo, after_event}
use Rattle.id_runs.specs.Orders.{IsLegalOrder}
use Rattle.id_judge.specs.declared.verdict.Cause.{Cause}
use Rattle.id_judge.specs.declared.verdict.Cause.TheVariants.{NotInFlight, OtherElement, NoStamp, OtherStamp}
use Rattle.id_judge.specs.declared.verdict.Cause.TheVariants.{OtherOutcome, NoLine}
use Rattle.id_judge.specs.declared.verdict.Verdict.{Verdict}
use Rattle.id_judge.specs.declared.verdict.Verdict.TheVariants.{Legal, CannotFollow}

-- the element that the event's message is for, of so many
abbrev pub goal_of : ℕ → EventView → ℕ
goal_of count v = route_of v.message.payload count

-- the event's message is in flight, and the event is of the element that it is for, which is in this state
pub record IsAt (count : ℕ) (w : World) (v : EventView) (s : State) : Type 0 where
  pub flying : Among v.message w.flight
  pub own : v.element ≡ goal_of count v
  pub element : slice_get w.elements (goal_of count v) ≡ Some s

-- why the event cannot come next: the first of these causes that there is
abbrev pub IsCause : Parts → ℕ → World → EventView → Cause → Type 0
IsCause g count w v NotInFlight = ¬ Among v.message w.flight
IsCause g count w v OtherElement = Among v.message w.flight × (v.element ≢ goal_of count v)
IsCause g count w v NoStamp = (s : State) × IsAt count w v s × IsTrue (is_ended s v.message)
IsCause g count w v OtherStamp =
    (s : State) × IsAt count w v s × IsFalse (is_ended s v.message) × (v.stamp ≢ next_stamp s v.message)
IsCause g count w v OtherOutcome =
    (s : State) × IsAt count w v s × IsFalse (is_ended s v.message) × (v.stamp ≡ next_stamp s v.message)
    × (event_of g (goal_of count v) s v.message ≢ v)
IsCause g count w v NoLine = ⊥

-- the first k events are a legal list, and the next one cannot follow them, for this cause
pub record IsFirst (g : Parts) (vs : List Constant) (count : ℕ) (es : List EventView) (k : ℕ) (cause : Cause)
    : Type 0 where
  pub event : EventView
  pub at : slice_get es k ≡ Some event
  pub end : World
  pub before : LeadTo g count (start g vs count) (take k es) end
  pub why : IsCause g count end event cause
  pub never : IsLegalList g vs count (take (k + 1) es) → ⊥

-- what a judge says of these events on so many elements of the graph, from its start with these inputs: a legal list of
-- so many, which ends in this machine, whose elements keep all events; or the first event that cannot follow
abbrev pub IsVerdict : Parts → List Constant → ℕ → List EventView → Verdict → Type 0
IsVerdict g vs count es (Legal m n) =
    (m.graph ≡ g) × (m.count ≡ count) × (m.keeps ≡ keeps.All) × (n ≡ length es)
    × IsLegalOrder g vs count es m.world
IsVerdict g vs count es (CannotFollow k cause) = IsFirst g vs count es k cause

-- for use inside

-- the event can come next, and leads to this
pub record Follows (g : Parts) (count : ℕ) (w : World) (v : EventView) (x : World) : Type 0 where
  pub can : CanFollow g count w v
  pub after : after_event g count w v can ≡ x

-- an event as contracts see it
abbrev pub told : Event → EventView
told e = record {
  element = e.element;
  stamp = e.stamp;
  message = e.message;
  fired = e.fired;
  outputs = e.outputs;
  step = e.step;
}
