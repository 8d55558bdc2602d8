-- The state of an element, as its storage holds it, and which events are small.
use Rattle.std.specs.Prelude.{◌≡◌, ◌+◌, ◌-◌, ◌<◌, ◌^◌, ◌≤◌, ℕ, List, Option, Some, length, slice_get}
use Rattle.id_instr.specs.Graph.{IsGraph}
use Rattle.id_valid.specs.Validator.{IsValid}
use Rattle.id_instr.specs.declared.instr.Instr.{Instr}
use Rattle.id_tag.specs.declared.plain.PlainToken.{PlainToken}
use Rattle.id_tag.specs.Plains.{tag_in}
use Rattle.id_tag.specs.declared.Message.{Message}
use Rattle.id_tag.specs.declared.Payload.{Payload}
use Rattle.id_tag.specs.declared.Payload.TheVariants.{Token}
use Rattle.id_step.specs.declared.storage.Storage.{Storage}
use Rattle.id_ops.specs.declared.Fired.{Fired}
use Rattle.id_ops.specs.Operators.{fired}
use Rattle.id_step.specs.declared.step.PlainOperands.{PlainOperands}
use Rattle.id_step.specs.Firings.{operands_in}
use Rattle.id_match.specs.Waiting.{Store}
use Rattle.id_record.specs.declared.step.Step.{Step}
use Rattle.id_step.specs.Replays.{ElementView}
use Rattle.id_step.specs.Steps.{State, fresh_numbers}
use Rattle.id_step.specs.Takes.{Becomes}

-- what waits, the cells, the last stamp, how many contexts and structures were made, and the record
abbrev pub state_of : Storage → State
state_of d = record {
  waiting = d.waiting;
  cells = d.cells;
  stamp = d.stamp;
  contexts = d.contexts;
  structures = d.structures;
  events = d.log.events;
}

-- the element that works there
abbrev pub element_at : Storage → ElementView
element_at d = record {
  number = d.log.element;
  count = d.count;
  graph = d.log.graph;
  keeps = d.log.keeps;
  state = state_of d;
}

-- what became of a message at an element's storage, and of the list that its messages go to: it was taken and came to
-- this, or else nothing has changed
abbrev pub Treats : Storage → Storage → Message → List Message → List Message → Option Step → Type 0
Treats d d' m list list' s = Becomes (element_at d) (element_at d') m list list list' s

-- the same, where what waits has changed before
abbrev pub TreatsFrom : Store → Storage → Storage → Message → List Message → List Message → Option Step
    → Type 0
TreatsFrom w d d' m list list' s =
    Becomes (record (element_at d) { state = record (state_of d) { waiting = w } }) (element_at d') m list list list' s

-- what is said is a token
abbrev pub IsToken : Payload → Type 0
IsToken (Token t p v) = Unit {0}
IsToken x = ⊥

-- all numbers of the event of a plain token are small, and so is this bound on what is sent for it
pub record IsShort (d : Storage) (most : ℕ) (t : PlainToken) (stamp : ℕ) : Type 0 where
  pub stamp_is : stamp < 2 ^ 32
  pub position : length d.log.events < 2 ^ 32
  pub element : d.log.element < 256
  pub iteration : t.iteration < 2 ^ 32 - 1
  pub few : most ≤ 256

-- what the instruction fires on these operands under the tag of a plain token
abbrev pub fired_by : Storage → Instr → PlainToken → PlainOperands → Fired
fired_by d i t o =
    fired i.op (tag_in t) (operands_in o) (fresh_numbers d.log.element d.contexts d.structures)

-- its graph is valid, and it may make one more context and one more structure
pub record MayMake (d : Storage) : Type 0 where
  pub graph : IsGraph d.log.graph
  pub valid : IsValid d.log.graph
  pub counted : d.contexts + 1 < 2 ^ 64
  pub numbered : d.structures + 1 < 2 ^ 64

-- it may record an event of the instruction of this number, for which there is room
pub record MayRecord (d : Storage) (i : Instr) (n : ℕ) : Type 0 where
  pub room : 0 < d.log.room
  pub own : slice_get d.log.graph.instrs n ≡ Some i
  pub graph : IsGraph d.log.graph
  pub valid : IsValid d.log.graph
  pub counted : d.contexts + 1 < 2 ^ 64
  pub numbered : d.structures + 1 < 2 ^ 64
