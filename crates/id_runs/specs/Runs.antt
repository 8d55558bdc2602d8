-- Runs, with the events of all elements in the order in which they came, the newest first (docs/MACHINE.md, "Runs").
use Rattle.std.specs.Prelude.{◌≡◌, ◌⊎◌, ℕ, if◌then◌else◌, Option, Some, None, List, [], ◌∷◌}
use Rattle.std.specs.Prelude.{map, slice_get}
use Rattle.std.specs.FinMap.{get}
use Rattle.id_instr.specs.declared.dests.Port.{Port}
use Rattle.id_instr.specs.declared.instr.Instr.{Instr}
use Rattle.id_instr.specs.Graph.{Parts}
use Rattle.id_instr.specs.Ports.{two_ports}
use Rattle.id_tag.specs.declared.Tag.{Tag}
use Rattle.id_tag.specs.declared.Value.{Value}
use Rattle.id_tag.specs.declared.Payload.{Payload}
use Rattle.id_tag.specs.declared.Payload.TheVariants.{Token, Read, Write}
use Rattle.id_tag.specs.declared.Message.{Message}
use Rattle.id_tag.specs.Routes.{route_of}
use Rattle.id_match.specs.declared.meeting.Offered.{Offered}
use Rattle.id_match.specs.declared.meeting.Offered.TheVariants.{Kept, Pair, Taken}
use Rattle.id_match.specs.Waiting.{Store, offer_answer}
use Rattle.id_bank.specs.Cells.{read_answer, write_answer}
use Rattle.id_ops.specs.declared.Operands.{Operands}
use Rattle.id_ops.specs.declared.Operands.TheVariants.{One, Two}
use Rattle.id_ops.specs.declared.Fresh.{Fresh}
use Rattle.id_ops.specs.Operators.{fired}
use Rattle.id_core.specs.Steps.{State, next_numbers}
use Rattle.id_core.specs.Machines.{World, start, start_messages, taken_from}
use Rattle.id_value.specs.declared.Constant.{Constant}
use Rattle.id_value.specs.List.{Among}
use Rattle.id_runs.specs.Events.{Arrival, Waits, Blocked, Fires, Event, Took, Looked, Wrote, payload_of}
use Rattle.id_runs.specs.Events.{sends_of}

-- the instruction fires under the tag on these operands
abbrev pub fires_on : Fresh → Instr → Tag → Operands → Arrival
fires_on fresh i t ops = Fires ops (fired i.op t ops fresh)

-- what comes of a token that was offered to the store
abbrev pub offered_to : Fresh → Instr → Tag → Offered → Arrival
offered_to fresh i t Kept = Waits
offered_to fresh i t (Pair v w) = fires_on fresh i t (Two v w)
offered_to fresh i t Taken = Blocked

-- what comes of a token for an instruction, if there is one
abbrev pub arrival_at : Fresh → Option Instr → Store → Tag → Port → Value → Arrival
arrival_at fresh None w t p v = Waits
arrival_at fresh (Some i) w t p v =
    if two_ports i.op then offered_to fresh i t (offer_answer w t p v) else fires_on fresh i t (One v)

-- the event of the element n in a state, on a message
abbrev pub happens : Parts → ℕ → State → Payload → Event
happens g n e (Token t p v) = Took n t p v (arrival_at (next_numbers n e) (slice_get g.instrs t.instr) e.waiting t p v)
happens g n e (Read c t) = Looked n c t (read_answer (get e.cells c))
happens g n e (Write c v w) = Wrote n c v w (write_answer (get e.cells c))

-- the machine comes to this state by these events
pub data Reach (g : Parts) (vs : List Constant) (count : ℕ) : World → List Event → Type 0 where
  begin : Reach g vs count (start g vs count) []
  deliver : {s : World} {run : List Event} (k : ℕ) (m : Message) (e : State) → Reach g vs count s run
      → slice_get s.flight k ≡ Some m → slice_get s.elements (route_of m.payload count) ≡ Some e
      → Reach g vs count (taken_from g k s m (route_of m.payload count) e)
      (happens g (route_of m.payload count) e m.payload ∷ run)

-- some events lead there
pub record Reached (g : Parts) (vs : List Constant) (count : ℕ) (s : World) : Type 0 where
  pub events : List Event
  pub reach : Reach g vs count s events

-- what was handled
abbrev pub handled : List Event → List Payload
handled run = map payload_of run

-- what is in flight
abbrev pub flying : World → List Payload
flying s = map (λ m. m.payload) s.flight

-- what is there at the start
abbrev pub starting : Parts → List Constant → List Payload
starting g vs = map (λ m. m.payload) (start_messages g vs)

-- an event of the run sent the message
pub record SentBy (g : Parts) (run : List Event) (x : Payload) : Type 0 where
  pub event : Event
  pub among : Among event run
  pub sends : Among x (sends_of g event)

-- the message was there at the start, or was sent
abbrev pub Origin : Parts → List Constant → List Event → Payload → Type 0
Origin g vs run x = Among x (starting g vs) ⊎ SentBy g run x

-- the message is in flight, or was handled
abbrev pub Moving : World → List Event → Payload → Type 0
Moving s run x = Among x (flying s) ⊎ Among x (handled run)
