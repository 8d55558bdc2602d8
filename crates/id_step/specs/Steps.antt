-- The element step (docs/MACHINE.md, "Element step"), what is sent aside (`id_record/specs/Sends.antt`).
use Rattle.std.specs.Prelude.{ℕ, ◌+◌, ◌-◌, ◌^◌, Bool, Option, None, Some, List, [], ◌∷◌, ◌++◌}
use Rattle.std.specs.Prelude.{length, max, slice_get}
use Rattle.std.specs.Prelude.{◌==◌, ◌||◌, if◌then◌else◌}
use Rattle.std.specs.FinMap.{empty, get}
use Rattle.id_instr.specs.declared.dests.Port.{Port}
use Rattle.id_instr.specs.declared.instr.Op.{Op}
use Rattle.id_instr.specs.declared.instr.Op.TheVariants.{Alloc}
use Rattle.id_instr.specs.declared.instr.Instr.{Instr}
use Rattle.id_instr.specs.Ports.{two_ports}
use Rattle.id_instr.specs.Graph.{Parts, arcs_on}
use Rattle.id_tag.specs.declared.Tag.{Tag}
use Rattle.id_tag.specs.declared.Value.{Value}
use Rattle.id_tag.specs.declared.Payload.{Payload}
use Rattle.id_tag.specs.declared.Payload.TheVariants.{Token, Read, Write}
use Rattle.id_tag.specs.Tags.{same_tag}
use Rattle.id_tag.specs.declared.Message.{Message}
use Rattle.id_match.specs.declared.meeting.Offered.{Offered}
use Rattle.id_match.specs.declared.meeting.Offered.TheVariants.{Kept, Pair, Taken}
use Rattle.id_match.specs.Waiting.{Store, offer_answer, offer_after}
use Rattle.id_bank.specs.declared.cell.ReadAnswer.{ReadAnswer}
use Rattle.id_bank.specs.declared.cell.ReadAnswer.TheVariants.{Now, Deferred}
use Rattle.id_bank.specs.declared.cell.WriteAnswer.{WriteAnswer}
use Rattle.id_bank.specs.declared.cell.WriteAnswer.TheVariants.{Readers, Second}
use Rattle.id_bank.specs.Cells.{Cells, read_answer, read_after, write_answer, write_after}
use Rattle.id_ops.specs.declared.Operands.TheVariants.{One, Two}
use Rattle.id_ops.specs.declared.Fresh.{Fresh}
use Rattle.id_ops.specs.declared.Fired.{Fired}
use Rattle.id_ops.specs.declared.Fired.TheVariants.{Out, Side, Moved, Entered, Sent, Asked, Stored, Failed}
use Rattle.id_ops.specs.declared.Fired.TheVariants.{Nothing}
use Rattle.id_ops.specs.Operators.{fired, side_of}
use Rattle.id_record.specs.declared.step.Step.{Step}
use Rattle.id_record.specs.declared.step.Step.TheVariants.{Went, Stuck, Fault}
use Rattle.id_record.specs.declared.step.Fault.TheVariants.{Operator}
use Rattle.id_record.specs.declared.step.Verdict.{Verdict}
use Rattle.id_record.specs.declared.step.Verdict.TheVariants as verdict
use Rattle.id_step.specs.declared.step.Arrival.{Arrival}
use Rattle.id_step.specs.declared.step.Arrival.TheVariants.{Fires, Waits, Blocked}
use Rattle.id_record.specs.Events.{EventView, full_step}
use Rattle.id_record.specs.Sends.{sent, numbered, replies}

-- an element's state: what waits for its partner, its cells, the last stamp, how many contexts and how many structures
-- it has made, and the record
pub record State : Type 0 where
  pub waiting : Store
  pub cells : Cells
  pub stamp : ℕ
  pub contexts : ℕ
  pub structures : ℕ
  pub events : List EventView

-- nothing waits, no cell has anything, and nothing was handled
abbrev pub fresh : State
fresh = record { waiting = empty; cells = empty; stamp = 0; contexts = 0; structures = 0; events = [] }

-- the numbers that the element n gives next, where it has made so many contexts and so many structures: both are
-- numbered from 1
abbrev pub fresh_numbers : ℕ → ℕ → ℕ → Fresh
fresh_numbers n contexts structures =
    record { context = record { element = n; serial = contexts + 1 }; element = n; structure = structures + 1 }

-- the numbers that the element n gives next in this state
abbrev pub next_numbers : ℕ → State → Fresh
next_numbers n s = fresh_numbers n s.contexts s.structures

-- what becomes of a token that was offered
abbrev pub arrival_of : Offered → Arrival
arrival_of Kept = Waits
arrival_of (Pair v w) = Fires (Two v w)
arrival_of Taken = Blocked

-- a token for an operator of one port fires it, one for an operator of two ports is offered
abbrev pub arrival : Op → Store → Tag → Port → Value → Arrival
arrival op w t p v = if two_ports op then arrival_of (offer_answer w t p v) else Fires (One v)

-- what waits afterwards
abbrev pub waiting_after : Op → Store → Tag → Port → Value → Store
waiting_after op w t p v = if two_ports op then offer_after w t p v else w

-- what a firing comes to: a fault where the operator has no result
abbrev pub fired_step : Tag → Fired → Step
fired_step t (Out v) = Went
fired_step t (Side b v) = Went
fired_step t (Moved i v) = Went
fired_step t (Entered c) = Went
fired_step t (Sent u v) = Went
fired_step t (Asked c r) = Went
fired_step t (Stored c v w) = Went
fired_step t (Failed f) = Fault (Operator f t)
fired_step t Nothing = Went

-- what the record keeps of what a firing comes to
abbrev pub fired_verdict : Fired → Verdict
fired_verdict (Out v) = verdict.Went
fired_verdict (Side b v) = verdict.Went
fired_verdict (Moved i v) = verdict.Went
fired_verdict (Entered c) = verdict.Went
fired_verdict (Sent u v) = verdict.Went
fired_verdict (Asked c r) = verdict.Went
fired_verdict (Stored c v w) = verdict.Went
fired_verdict (Failed f) = verdict.Failed f
fired_verdict Nothing = verdict.Went

-- how many contexts a firing takes
abbrev pub made_by : Fired → ℕ
made_by (Out v) = 0
made_by (Side b v) = 0
made_by (Moved i v) = 0
made_by (Entered c) = 1
made_by (Sent u v) = 0
made_by (Asked c r) = 0
made_by (Stored c v w) = 0
made_by (Failed f) = 0
made_by Nothing = 0

-- how many structures a firing of the operator takes
abbrev pub allocated_by : Op → Fired → ℕ
allocated_by (Alloc nested) (Out v) = 1
allocated_by _ _ = 0

-- what is fired and sent and what the event comes to, what waits and what the cells have afterwards, and how many
-- contexts and structures were made
pub record Outcome : Type 0 where
  pub fired : Fired
  pub sends : List Payload
  pub step : Step
  pub waiting : Store
  pub cells : Cells
  pub made : ℕ
  pub allocated : ℕ

-- an outcome that makes nothing
abbrev pub making_none : Fired → List Payload → Step → Store → Cells → Outcome
making_none f xs s w b =
    record { fired = f; sends = xs; step = s; waiting = w; cells = b; made = 0; allocated = 0 }

-- the outcome of a firing: what it sends goes to the destinations on its side
abbrev pub firing : Instr → Tag → Store → Cells → Fired → Outcome
firing i t w b f = record {
  fired = f;
  sends = sent (Some i.op) (arcs_on (side_of f) i) t f;
  step = fired_step t f;
  waiting = w;
  cells = b;
  made = made_by f;
  allocated = allocated_by i.op f;
}

-- the outcome of what becomes of a token, with the element's next numbers
abbrev pub arriving : Fresh → Instr → Tag → Store → Cells → Arrival → Outcome
arriving next i t w b (Fires operands) = firing i t w b (fired i.op t operands next)
arriving next i t w b Waits = making_none Nothing [] Went w b
arriving next i t w b Blocked = making_none Nothing [] Stuck w b

-- the outcome of a token at its instruction: no instruction, no effect
abbrev pub at_instr : Fresh → Store → Cells → Tag → Port → Value → Option Instr → Outcome
at_instr next w b t p v None = making_none Nothing [] Went w b
at_instr next w b t p v (Some i) = arriving next i t (waiting_after i.op w t p v) b (arrival i.op w t p v)

-- what the answer to a read fires: the value goes to the reply
abbrev pub answer_fired : Tag → ReadAnswer → Fired
answer_fired t (Now v) = Sent t v
answer_fired t Deferred = Nothing

-- what the answer to a read sends
abbrev pub answer_sends : Tag → ReadAnswer → List Payload
answer_sends t (Now v) = replies v (t ∷ [])
answer_sends t Deferred = []

-- the replies that a write releases: those of all reads that were put off, in the order in which they came
abbrev pub readers_of : WriteAnswer → List Tag
readers_of (Readers ts) = ts
readers_of (Second first) = []

-- what a write sends: its value to each of these
abbrev pub fill_sends : Value → WriteAnswer → List Payload
fill_sends v a = replies v (readers_of a)

-- what a write of this origin to a cell comes to: a second one is a fault, and a write never comes twice
abbrev pub fill_verdict : Tag → WriteAnswer → Verdict
fill_verdict t (Readers ts) = verdict.Went
fill_verdict t (Second first) = if same_tag first t then verdict.Stuck else verdict.Second first

-- the outcome of a message, with the element's next numbers, where this waits and the cells have this
abbrev pub outcome : Parts → Fresh → Store → Cells → Payload → Outcome
outcome g next w b (Token t p v) = at_instr next w b t p v (slice_get g.instrs t.instr)
outcome g next w b (Read c t) =
    making_none (answer_fired t (read_answer (get b c))) (answer_sends t (read_answer (get b c))) Went w
    (read_after b c t)
outcome g next w b (Write c v t) =
    making_none Nothing (fill_sends v (write_answer (get b c)))
    (full_step (Write c v t) (fill_verdict t (write_answer (get b c)))) w (write_after b c v t)

-- one more than the larger of the last stamp and the message's
abbrev pub next_stamp : State → Message → ℕ
next_stamp s m = max s.stamp m.stamp + 1

-- whether no stamp is left: the last one or the message's is 2^64 - 1
abbrev pub is_ended : State → Message → Bool
is_ended s m = (s.stamp == 2 ^ 64 - 1) || (m.stamp == 2 ^ 64 - 1)

-- what the element n makes of the message
abbrev pub outcome_of : Parts → ℕ → State → Message → Outcome
outcome_of g n s m = outcome g (next_numbers n s) s.waiting s.cells m.payload

-- what the element n does with the message
abbrev pub step_of : Parts → ℕ → State → Message → Step
step_of g n s m = (outcome_of g n s m).step

-- what the element n sends on the message
abbrev pub outputs_of : Parts → ℕ → State → Message → List Message
outputs_of g n s m = numbered n (length s.events) (next_stamp s m) 0 (outcome_of g n s m).sends

-- the event of the element n on the message
abbrev pub event_of : Parts → ℕ → State → Message → EventView
event_of g n s m = record {
  element = n;
  stamp = next_stamp s m;
  message = m;
  fired = (outcome_of g n s m).fired;
  outputs = outputs_of g n s m;
  step = step_of g n s m;
}

-- the state of the element n after the message
abbrev pub state_after : Parts → ℕ → State → Message → State
state_after g n s m = record {
  waiting = (outcome_of g n s m).waiting;
  cells = (outcome_of g n s m).cells;
  stamp = next_stamp s m;
  contexts = s.contexts + (outcome_of g n s m).made;
  structures = s.structures + (outcome_of g n s m).allocated;
  events = s.events ++ event_of g n s m ∷ [];
}
