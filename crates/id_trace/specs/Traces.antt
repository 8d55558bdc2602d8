-- The text of a trace (docs/LANGUAGE.md, "Output"). Bytes are those of ASCII text.
use Rattle.std.specs.Prelude.{ℕ, List, [], ◌∷◌, ◌++◌, codes, decimal}
use Rattle.std.specs.Fmt.{signed_decimal}
use Rattle.id_sink.specs.Texts.{truth_text}
use Rattle.id_instr.specs.declared.dests.Port.{Port}
use Rattle.id_instr.specs.declared.dests.Port.TheVariants.{Zero, One}
use Rattle.id_tag.specs.declared.Context.{Context}
use Rattle.id_tag.specs.declared.Tag.{Tag}
use Rattle.id_tag.specs.declared.Value.{Value}
use Rattle.id_tag.specs.declared.Value.TheVariants as value
use Rattle.id_tag.specs.declared.Payload.{Payload}
use Rattle.id_tag.specs.declared.Payload.TheVariants.{Token, Read, Write}
use Rattle.id_tag.specs.declared.Structure.{Structure}
use Rattle.id_tag.specs.declared.Cell.{Cell}
use Rattle.id_record.specs.Events.{EventView}
use Rattle.id_record.specs.declared.step.Step.{Step}
use Rattle.id_record.specs.declared.step.Step.TheVariants.{Went, Fault, Stuck}

-- a context: its element and its number
abbrev pub context_text : Context → List ℕ
context_text c = decimal c.element ++ (codes "." ++ decimal c.serial)

-- the context and the iteration of a tag
abbrev pub turn_text : Tag → List ℕ
turn_text t = context_text t.context ++ (codes "#" ++ decimal t.iteration)

-- all of a tag
abbrev pub tag_text : Tag → List ℕ
tag_text t = turn_text t ++ (codes ":" ++ decimal t.instr)

-- a continuation
abbrev pub continuation_text : Tag → List ℕ
continuation_text t = codes "k" ++ tag_text t

-- a context that a token carries
abbrev pub opened_text : Context → List ℕ
opened_text c = codes "c" ++ context_text c

-- a structure: its element and its number
abbrev pub structure_text : Structure → List ℕ
structure_text s = codes "s" ++ (decimal s.element ++ (codes "." ++ decimal s.serial))

-- a cell: its structure and its index
abbrev pub cell_text : Cell → List ℕ
cell_text c = structure_text c.structure ++ (codes "[" ++ (signed_decimal c.index ++ codes "]"))

-- a value that a message carries
abbrev pub carried_text : Value → List ℕ
carried_text value.Signal = codes "signal"
carried_text (value.Int n) = signed_decimal n
carried_text (value.Bool b) = truth_text b
carried_text (value.Structure s) = structure_text s
carried_text (value.Address c) = cell_text c
carried_text (value.Context c) = opened_text c
carried_text (value.Continuation t) = continuation_text t

-- the number of a port
abbrev pub port_text : Port → List ℕ
port_text Zero = codes "0"
port_text One = codes "1"

-- an instruction and a port of it
abbrev pub entry_text : ℕ → Port → List ℕ
entry_text instr port = decimal instr ++ (codes "." ++ port_text port)

-- where a token goes: its context and iteration, then its instruction and port
abbrev pub goal_text : Tag → Port → List ℕ
goal_text t port = turn_text t ++ (codes " " ++ entry_text t.instr port)

-- where a token goes, and its value
abbrev pub delivery_text : Tag → Port → Value → List ℕ
delivery_text t port v = goal_text t port ++ (codes " " ++ carried_text v)

-- a token
abbrev pub token_text : Tag → Port → Value → List ℕ
token_text t port v = codes "token c" ++ delivery_text t port v

-- the tag of a fetch's reply or of a store
abbrev pub from_text : Tag → List ℕ
from_text t = codes " c" ++ (turn_text t ++ (codes " " ++ decimal t.instr))

-- a read of a cell
abbrev pub read_text : Cell → Tag → List ℕ
read_text c t = codes "read " ++ (cell_text c ++ from_text t)

-- a write of a value to a cell
abbrev pub write_text : Cell → Value → Tag → List ℕ
write_text c v t = codes "write " ++ (cell_text c ++ (codes " " ++ (carried_text v ++ from_text t)))

-- what a message says
abbrev pub payload_text : Payload → List ℕ
payload_text (Token t port v) = token_text t port v
payload_text (Read c t) = read_text c t
payload_text (Write c v t) = write_text c v t

-- a stamp and an element
abbrev pub moment_text : ℕ → ℕ → List ℕ
moment_text stamp element = decimal stamp ++ (codes " " ++ decimal element)

-- what was handled at this stamp by this element
abbrev pub handled_text : ℕ → ℕ → Payload → List ℕ
handled_text stamp element payload = moment_text stamp element ++ (codes " " ++ payload_text payload)

-- what the event came to, and the end of the line
abbrev pub end_text : Step → List ℕ
end_text Went = codes "\n"
end_text (Fault f) = codes " fault\n"
end_text Stuck = codes " stuck\n"

-- the line of an event
abbrev pub line_text : EventView → List ℕ
line_text e = handled_text e.stamp e.element e.message.payload ++ end_text e.step

-- the lines of the events, one after another
abbrev pub trace_text : List EventView → List ℕ
trace_text [] = []
trace_text (e ∷ es) = line_text e ++ trace_text es
