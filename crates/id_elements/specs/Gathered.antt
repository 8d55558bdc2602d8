-- What is gathered from workers that have stopped (docs/THREADS.md, "After the joins").
use Rattle.std.specs.Prelude.{◌≡◌, ◌<◌, ◌≤◌, ℕ, ◌+◌, List, All, length, map, slice_index_or}
use Rattle.std.specs.List.{sum_by}
use Rattle.id_instr.specs.Graph.{Parts}
use Rattle.id_tag.specs.declared.Message.{Message}
use Rattle.id_inbox.specs.Doors.{DoorView}
use Rattle.id_record.specs.declared.kept.Keeps.{Keeps}
use Rattle.id_step.specs.Fits.{Fits}
use Rattle.id_step.specs.Steps.{State}
use Rattle.id_step.specs.Replays.{ElementView}
use Rattle.id_core.specs.Machines.{IsElement}
use Rattle.id_runs.specs.Accounts.{sent_of, taken_of}
use Rattle.id_elements.specs.Doors.{sent_by, taken_by}
use Rattle.id_elements.specs.Workers.{StopsAtFault, sent_in}

-- the states of these elements
abbrev pub states_of : List ElementView → List State
states_of es = map (λ e. e.state) es

-- what the doors took, what was there at the start and what the elements sent is what the doors sent, what the elements
-- took, and what is left
abbrev pub IsWhole : List Message → List DoorView → List State → List Message → Type 0
IsWhole start ds ss left = (f : Message → ℕ)
    → taken_by f ds + sum_by f start + sent_of f ss ≡ sent_by f ds + taken_of f ss + sum_by f left

-- the element is the one of this number, it keeps so much of its events, it has handled so many messages at most, none
-- behind a fault, and what it sent fits the graph
pub record IsGathered (g : Parts) (count most : ℕ) (k : Keeps) (n : ℕ) (e : ElementView) : Type 0 where
  pub element : IsElement g count n e
  pub kept : e.keeps ≡ k
  pub few : length e.state.events ≤ most
  pub stops : StopsAtFault e.state.events
  pub sent : All (Fits g) (sent_in e.state)

-- so are these elements, whose numbers begin with this one
abbrev pub AreGathered : Parts → ℕ → ℕ → Keeps → ℕ → List ElementView → Type 0
AreGathered g count most k from es = (i : ℕ) (d : ElementView) → i < length es
    → IsGathered g count most k (from + i) (slice_index_or es i d)
