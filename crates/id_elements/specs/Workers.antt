-- A worker as contracts see it, and what every worker keeps (docs/THREADS.md, "A worker").
use Rattle.std.specs.Prelude.{◌≡◌, ◌<◌, ◌≤◌, ℕ, ◌+◌, ◌-◌, Bool, true, IsTrue, List, [], All}
use Rattle.std.specs.Prelude.{length, replicate, slice_index_or, take}
use Rattle.std.specs.List.{flat_map, sum_by}
use Rattle.std.specs.Global.{Global}
use Rattle.crossbeam_queue.specs.SegTies.{SegId}
use Rattle.id_instr.specs.Graph.{Parts}
use Rattle.id_tag.specs.declared.Message.{Message}
use Rattle.id_inbox.specs.Doors.{DoorView}
use Rattle.id_record.specs.declared.kept.Keeps.{Keeps}
use Rattle.id_record.specs.Events.{AllWent, EventView}
use Rattle.id_step.specs.Fits.{Fits}
use Rattle.id_step.specs.Steps.{State, fresh}
use Rattle.id_step.specs.Replays.{ElementView}
use Rattle.id_core.specs.Machines.{IsElement}
use Rattle.id_elements.specs.Doors.{HaveParts, queues_of, sent_by, taken_by}
use Rattle.id_elements.specs.Passing.{AreFor}

-- all that the record of a state says that was sent
abbrev pub sent_in : State → List Message
sent_in s = flat_map (λ v. v.outputs) s.events

-- what its record says that was taken, in weight
abbrev pub weight_taken : (Message → ℕ) → State → ℕ
weight_taken f s = sum_by (λ v. f v.message) s.events

-- every event but the last one, at the most, went well: none came behind a fault
abbrev pub StopsAtFault : List EventView → Type 0
StopsAtFault es = AllWent (take (length es - 1) es)

-- a worker: whether it may handle more, its doors, its element, what is for that, what is left of the letter that came
-- last, what is moved from its own and back, what came and is not for the element, and what is to be sent to each
-- element
pub record WorkerView : Type 0 where
  pub goes : Bool
  pub doors : List DoorView
  pub element : ElementView
  pub own : List Message
  pub came : List Message
  pub back : List Message
  pub stray : List Message
  pub letters : List (List Message)

-- what the worker has at hand
abbrev pub weight_held : (Message → ℕ) → WorkerView → ℕ
weight_held f w =
    sum_by f w.own + sum_by f w.came + sum_by f w.back + sum_by f w.stray + sum_by (sum_by f) w.letters

-- what was taken out of inboxes and what the element sent is what was put into inboxes, what the element took, and what
-- is at hand
abbrev pub IsSquare : WorkerView → Type 0
IsSquare w = (f : Message → ℕ) → taken_by f w.doors + sum_by f (sent_in w.element.state)
    ≡ sent_by f w.doors + weight_taken f w.element.state + weight_held f w

-- what every worker keeps: it has a door with one part to each element's inbox, and a letter for each; where it may
-- handle more, what is its own is for its element, and each event went well; what the element sent fits the graph, and
-- the accounts are square
pub record IsKept (w : WorkerView) : Type 0 where
  pub parts : HaveParts 1 w.doors
  pub count : w.element.count ≡ length w.doors
  pub number : w.element.number < length w.doors
  pub letters : length w.letters ≡ length w.doors
  pub own : IsTrue w.goes → AreFor w.element w.own
  pub back : IsTrue w.goes → w.back ≡ []
  pub went : IsTrue w.goes → AllWent w.element.state.events
  pub stops : StopsAtFault w.element.state.events
  pub sent : All (Fits w.element.graph) (sent_in w.element.state)
  pub square : IsSquare w

-- the worker has the same inboxes, and its element is the same one
pub record IsSame (old new : WorkerView) : Type 0 where
  pub queues : queues_of new.doors ≡ queues_of old.doors
  pub number : new.element.number ≡ old.element.number
  pub count : new.element.count ≡ old.element.count
  pub graph : new.element.graph ≡ old.element.graph
  pub keeps : new.element.keeps ≡ old.element.keeps

-- and its element has handled so many messages at most
pub record IsSameWithin (most : ℕ) (old new : WorkerView) : Type 0 where
  pub same : IsSame old new
  pub few : length new.element.state.events ≤ most

-- the worker of an element that has handled nothing, with these doors
abbrev pub fresh_worker : Parts → ℕ → Keeps → ℕ → List DoorView → WorkerView
fresh_worker g count keeps number doors = record {
  goes = true;
  doors = doors;
  element = record { number = number; count = count; graph = g; keeps = keeps; state = fresh };
  own = [];
  came = [];
  back = [];
  stray = [];
  letters = replicate count [];
}

-- the worker has these inboxes, is that of the element of this number, which keeps so much of its events, and the
-- element has handled so many messages at most
pub record IsWorker (g : Parts) (count most : ℕ) (k : Keeps) (qs : List (SegId Global)) (i : ℕ) (w : WorkerView) :
    Type 0 where
  pub queues : queues_of w.doors ≡ qs
  pub element : IsElement g count i w.element
  pub kept : w.element.keeps ≡ k
  pub few : length w.element.state.events ≤ most

-- these are the workers of the elements of the graph, in order of their numbers
abbrev pub AreWorkers : Parts → ℕ → ℕ → Keeps → List (SegId Global) → List WorkerView → Type 0
AreWorkers g count most k qs ws = (i : ℕ) (d : WorkerView) → i < length ws
    → IsWorker g count most k qs i (slice_index_or ws i d)
