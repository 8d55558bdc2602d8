-- The record of an element leads to its state (docs/MACHINE.md, "The record").
use Rattle.std.specs.Prelude.{◌≡◌, ◌<◌, ◌≤◌, ◌-◌, ◌^◌, ℕ, Some, List}
use Rattle.std.specs.Prelude.{[], ◌∷◌, map, All}
use Rattle.id_instr.specs.declared.dests.Port.{Port}
use Rattle.std.specs.FinMap.{get}
use Rattle.id_tag.specs.declared.Tag.{Tag}
use Rattle.id_tag.specs.declared.Cell.{Cell}
use Rattle.id_tag.specs.Kinds.{kind_of}
use Rattle.id_tag.specs.declared.Value.{Value}
use Rattle.id_tag.specs.declared.Message.{Message}
use Rattle.id_match.specs.Waiting.{waits}
use Rattle.id_bank.specs.Cells.{CellState, Present, Deferred}
use Rattle.id_instr.specs.Graph.{Parts}
use Rattle.id_record.specs.declared.kept.Keeps.{Keeps}
use Rattle.id_record.specs.Events.{EventView}
use Rattle.id_step.specs.Fits.{TokenFits, ReplyFits, IsFor, held_in}
use Rattle.id_step.specs.Steps.{State, fresh, state_after}

-- the state of the element n after these messages, one after another
abbrev pub after_all : Parts → ℕ → State → List Message → State
after_all g n s [] = s
after_all g n s (m ∷ ms) = after_all g n (state_after g n s m) ms

-- the messages of a record, in order
abbrev pub messages : List EventView → List Message
messages es = map (λ e. e.message) es

-- the messages of the record lead from the fresh state to this state
abbrev pub IsReplayed : Parts → ℕ → State → Type 0
IsReplayed g n s = s ≡ after_all g n fresh (messages s.events)

-- the event's message was for the element n of so many, and a stamp was left above the message's and the element's
-- last: the event's own is below 2^64
pub record IsLegal (g : Parts) (count n : ℕ) (e : EventView) : Type 0 where
  pub for_it : IsFor g count n e.message
  pub stamp_left : e.message.stamp < 2 ^ 64 - 1
  pub stamp : e.stamp < 2 ^ 64

-- an element as contracts see it: its number of so many, the graph, how much it keeps of its events, and its state
pub record ElementView : Type 0 where
  pub number : ℕ
  pub count : ℕ
  pub graph : Parts
  pub keeps : Keeps
  pub state : State

-- whatever waits fits the graph at the last stamp
abbrev pub WaitingFits : Parts → State → Type 0
WaitingFits g s = (t : Tag) (p : Port) (v : Value) → waits s.waiting t p ≡ Some v → TokenFits g s.stamp t p v

-- what a cell has fits it at the stamp: its value is of the kind that it holds, and so is what each of the replies that
-- wait for one merges
abbrev pub CellFits : Parts → ℕ → Cell → CellState → Type 0
CellFits g stamp c (Present v w) = kind_of v ≡ held_in c
CellFits g stamp c (Deferred ts) = All (ReplyFits g stamp c) ts

-- whatever the cells hold fits the graph at the last stamp
abbrev pub CellsFit : Parts → State → Type 0
CellsFit g s = (c : Cell) (x : CellState) → get s.cells c ≡ Some x → CellFits g s.stamp c x

-- what every element keeps: its record leads to its state, by legal events, what waits and what the cells hold fits the
-- graph, and as it makes at most one context or structure in an event, the stamp runs out before their numbers do
pub record Replays (e : ElementView) : Type 0 where
  pub state : IsReplayed e.graph e.number e.state
  pub legal : All (IsLegal e.graph e.count e.number) e.state.events
  pub waiting : WaitingFits e.graph e.state
  pub cells : CellsFit e.graph e.state
  pub counted : e.state.contexts ≤ e.state.stamp
  pub numbered : e.state.structures ≤ e.state.stamp
