-- What it is that a storage handled a message: what is recorded, and what is sent.
use Rattle.std.specs.Prelude.{◌≡◌, ◌+◌, ◌++◌, ◌∷◌, [], ℕ, List, Some, length}
use Rattle.id_instr.specs.declared.instr.Instr.{Instr}
use Rattle.id_instr.specs.Graph.{arcs_on}
use Rattle.id_tag.specs.declared.Tag.{Tag}
use Rattle.id_tag.specs.declared.Message.{Message}
use Rattle.id_tag.specs.declared.Payload.{Payload}
use Rattle.id_ops.specs.declared.Fired.{Fired}
use Rattle.id_ops.specs.Operators.{side_of}
use Rattle.id_record.specs.declared.step.Step.{Step}
use Rattle.id_record.specs.Sends.{numbered, sent}
use Rattle.id_step.specs.Steps.{Outcome, allocated_by, made_by}
use Rattle.id_step.specs.declared.storage.Storage.{Storage}
use Rattle.id_step.specs.Storage.{element_at}
use Rattle.id_step.specs.Replays.{ElementView}

-- the messages that a storage sends at this stamp, for what its next event sends
abbrev pub outputs_at : Storage → ℕ → List Payload → List Message
outputs_at d stamp xs = numbered d.log.element (length d.log.events) stamp 0 xs

-- the element that has handled this message at this stamp with this outcome: its event is the last in the record, and
-- what it made is counted
abbrev pub recorded : ElementView → Message → ℕ → Outcome → ElementView
recorded e m stamp o = record e {
  state = record {
    waiting = o.waiting;
    cells = o.cells;
    stamp = stamp;
    contexts = e.state.contexts + o.made;
    structures = e.state.structures + o.allocated;
    events = e.state.events ++ record {
      element = e.number;
      stamp = stamp;
      message = m;
      fired = o.fired;
      outputs = numbered e.number (length e.state.events) stamp 0 o.sends;
      step = o.step;
    } ∷ [];
  };
}

-- that is the element at the storage now
pub record IsRecorded (old new : Storage) (m : Message) (stamp : ℕ) (o : Outcome) : Type 0 where
  pub element : element_at new ≡ recorded (element_at old) m stamp o

-- what its event at this stamp sends was put behind the messages before
abbrev pub IsSent : Storage → List Message → List Message → ℕ → List Payload → Type 0
IsSent old before after stamp xs = after ≡ before ++ outputs_at old stamp xs

-- what a token under this tag sends, for which its instruction fires this
abbrev pub token_sends : Instr → Tag → Fired → List Payload
token_sends i t f = sent (Some i.op) (arcs_on (side_of f) i) t f

-- the outcome of it, where it comes to this step: what waits and the cells are as at the storage
abbrev pub token_outcome : Storage → Instr → Tag → Fired → Step → Outcome
token_outcome d i t f s = record {
  fired = f;
  sends = token_sends i t f;
  step = s;
  waiting = d.waiting;
  cells = d.cells;
  made = made_by f;
  allocated = allocated_by i.op f;
}
