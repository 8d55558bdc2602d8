-- The events of a run: which element handled which message, and what came of it (docs/MACHINE.md, "Element step").
use Rattle.std.specs.Prelude.{◌≡◌, ℕ, Bool, true, Option, Some, List, []}
use Rattle.id_instr.specs.declared.dests.Dest.{Dest}
use Rattle.id_instr.specs.declared.dests.Port.{Port}
use Rattle.id_instr.specs.declared.instr.Op.{Op}
use Rattle.id_instr.specs.declared.instr.Op.TheVariants.{Alloc}
use Rattle.id_instr.specs.Graph.{Parts}
use Rattle.id_tag.specs.declared.Tag.{Tag}
use Rattle.id_tag.specs.declared.Context.{Context}
use Rattle.id_tag.specs.declared.Structure.{Structure}
use Rattle.id_tag.specs.declared.Cell.{Cell}
use Rattle.id_tag.specs.declared.Value.{Value}
use Rattle.id_tag.specs.declared.Value.TheVariants as value
use Rattle.id_valid.specs.Roles.{op_at}
use Rattle.id_tag.specs.declared.Payload.{Payload}
use Rattle.id_tag.specs.declared.Payload.TheVariants.{Token, Read, Write}
use Rattle.id_bank.specs.declared.cell.ReadAnswer.{ReadAnswer}
use Rattle.id_bank.specs.declared.cell.WriteAnswer.{WriteAnswer}
use Rattle.id_ops.specs.declared.Operands.{Operands}
use Rattle.id_ops.specs.declared.Fired.{Fired}
use Rattle.id_ops.specs.declared.Fired.TheVariants.{Out, Side, Moved, Entered, Sent, Asked, Stored, Failed, Nothing}
use Rattle.id_ops.specs.Operators.{side_of}
use Rattle.id_record.specs.declared.step.Step.{Step}
use Rattle.id_record.specs.declared.step.Step.TheVariants as steps
use Rattle.id_record.specs.Events.{full_step}
use Rattle.id_record.specs.Records.{dests_at}
use Rattle.id_core.specs.Steps.{sent, fired_step}
use Rattle.id_step.specs.Steps.{answer_fired, answer_sends, fill_sends, fill_verdict}
use Rattle.id_value.specs.List.{Among}

-- what came of a token: it waits for its partner, its port was filled already, or its instruction fired
pub data Arrival : Type 0 where
  Waits : Arrival
  Blocked : Arrival
  Fires : Operands → Fired → Arrival

-- an event: an element took a token to a port under a tag, looked at a cell for a fetch with this reply, or was to
-- store a value into a cell for the store of this tag
pub data Event : Type 0 where
  Took : ℕ → Tag → Port → Value → Arrival → Event
  Looked : ℕ → Cell → Tag → ReadAnswer → Event
  Wrote : ℕ → Cell → Value → Tag → WriteAnswer → Event

-- what the handled message said
abbrev pub payload_of : Event → Payload
payload_of (Took n t p v a) = Token t p v
payload_of (Looked n c t a) = Read c t
payload_of (Wrote n c v w a) = Write c v w

-- what an instruction with this operator and these destinations on each side sends under a tag
abbrev pub sent_on : Option Op → (Bool → List Dest) → Tag → Arrival → List Payload
sent_on o ds t Waits = []
sent_on o ds t Blocked = []
sent_on o ds t (Fires ops f) = sent o (ds (side_of f)) t f

-- what an event sends
abbrev pub sends_of : Parts → Event → List Payload
sends_of g (Took n t p v a) = sent_on (op_at g t.instr) (dests_at g t.instr) t a
sends_of g (Looked n c t a) = answer_sends t a
sends_of g (Wrote n c v w a) = fill_sends v a

-- what becomes of a token fires this
abbrev pub fired_on : Arrival → Fired
fired_on Waits = Nothing
fired_on Blocked = Nothing
fired_on (Fires ops f) = f

-- what an event fires: a read that is answered fires its value to its reply
abbrev pub fired_in : Event → Fired
fired_in (Took n t p v a) = fired_on a
fired_in (Looked n c t a) = answer_fired t a
fired_in (Wrote n c v w a) = Nothing

-- what becomes of a token, as its record says it
abbrev pub step_on : Tag → Arrival → Step
step_on t Waits = steps.Went
step_on t Blocked = steps.Stuck
step_on t (Fires ops f) = fired_step t f

-- what an event came to
abbrev pub came_to : Event → Step
came_to (Took n t p v a) = step_on t a
came_to (Looked n c t a) = steps.Went
came_to (Wrote n c v w a) = full_step (Write c v w) (fill_verdict w a)

-- in the run the instruction at the tag has fired so
pub record FiresAs (run : List Event) (t : Tag) (f : Fired) : Type 0 where
  pub element : ℕ
  pub port : Port
  pub value : Value
  pub operands : Operands
  pub among : Among (Took element t port value (Fires operands f)) run

-- a firing gives the value on a side, under its own tag: a switch on the side that it chose, another on the true side;
-- one that enters a block gives the context; one that moves to another iteration, or sends to a tag or a cell, gives
-- nothing under its own tag
abbrev pub GivesOn : Fired → Bool → Value → Type 0
GivesOn (Out w) b v = (b ≡ true) × (v ≡ w)
GivesOn (Side c w) b v = (b ≡ c) × (v ≡ w)
GivesOn (Moved i w) b v = ⊥
GivesOn (Entered c) b v = (b ≡ true) × (v ≡ value.Context c)
GivesOn (Sent u w) b v = ⊥
GivesOn (Asked c u) b v = ⊥
GivesOn (Stored c w u) b v = ⊥
GivesOn (Failed k) b v = ⊥
GivesOn Nothing b v = ⊥

-- the event enters a block in the context
abbrev pub Enters : Event → Context → Type 0
Enters (Took n t p v Waits) c = ⊥
Enters (Took n t p v Blocked) c = ⊥
Enters (Took n t p v (Fires ops f)) c = f ≡ Entered c
Enters (Looked n d t a) c = ⊥
Enters (Wrote n d v w a) c = ⊥

-- the event makes the structure: an `alloc` fires it
abbrev pub Makes : Parts → Event → Structure → Type 0
Makes g (Took n t p v Waits) s = ⊥
Makes g (Took n t p v Blocked) s = ⊥
Makes g (Took n t p v (Fires ops f)) s = (op_at g t.instr ≡ Some (Alloc s.nested)) × (f ≡ Out (value.Structure s))
Makes g (Looked n c t a) s = ⊥
Makes g (Wrote n c v w a) s = ⊥

-- the event of a firing
abbrev pub fired_event : {run : List Event} {t : Tag} {f : Fired} → FiresAs run t f → Event
fired_event {t = t} {f = f} x = Took x.element t x.port x.value (Fires x.operands f)

-- two firings under one tag are one event
abbrev pub FiresOnce : List Event → Type 0
FiresOnce run = (t : Tag) (f f' : Fired) (x : FiresAs run t f) (y : FiresAs run t f')
    → fired_event x ≡ fired_event y
