-- How a queue keeps a message in a parcel.
use Rattle.std.specs.Prelude.{◌≡◌, ℕ, ◌<◌, ℤ, pos, List, Option, None, Some, length}
use Rattle.std.specs.Prelude.{slice_index_or}
use Rattle.id_instr.specs.declared.dests.Port.{Port}
use Rattle.id_tag.specs.declared.Tag.{Tag}
use Rattle.id_tag.specs.declared.Cell.{Cell}
use Rattle.id_tag.specs.declared.Message.{Message}
use Rattle.id_tag.specs.declared.Payload.{Payload}
use Rattle.id_tag.specs.declared.Payload.TheVariants.{Token, Read as Reads, Write as Writes}
use Rattle.id_tag.specs.declared.Value.TheVariants as value
use Rattle.id_flight.specs.declared.parcel.Parcel.{Parcel}
use Rattle.id_flight.specs.declared.parcel.What.{What}
use Rattle.id_flight.specs.declared.parcel.What.TheVariants.{Plain, Structure as Named, Address, Read, Write, Aside}
use Rattle.id_tag.specs.declared.plain.Plain.{Plain as Short}
use Rattle.id_tag.specs.declared.plain.Plain.TheVariants.{Int}
use Rattle.id_tag.specs.Plains.{cell_of, made_by, message_of, tag_in, whole}

-- the cell at this index of the structure that this maker numbered so, with these bounds
abbrev pub cell_in : ℕ → ℕ → ℤ → ℤ → ℤ → Cell
cell_in e s l h i = record { structure = made_by e s l h; index = i }

-- the index that is kept as a token's value
abbrev pub index_in : Short → ℤ
index_in (Int i) = i
index_in v = pos 0

-- what a message says of its token's tag, port and value, unless it stands aside
abbrev pub said : Tag → Port → Short → What → Option Payload
said t q v Plain = Some (Token t q (whole v))
said t q v (Named e s l h) = Some (Token t q (value.Structure (made_by e s l h)))
said t q v (Address e s l h) = Some (Token t q (value.Address (cell_in e s l h (index_in v))))
said t q v (Read e s l h) = Some (Reads (cell_in e s l h (index_in v)) t)
said t q v (Write n p) = Some (Writes (cell_of (record { name = n; place = p })) (whole v) t)
said t q v (Aside i) = None

-- the message of a parcel that says this
abbrev pub own : Parcel → Payload → Message
own p x = record (message_of p.token) { payload = x }

-- at which place of those that stand aside the message is, where it stands there
abbrev pub place_of : What → ℕ
place_of (Aside i) = i
place_of w = 0

-- the message of a parcel that says this, or else the one that stands aside at this place
abbrev pub told : List Message → Parcel → ℕ → Option Payload → Message
told asides p i (Some x) = own p x
told asides p i None = slice_index_or asides i (message_of p.token)

-- the message of a parcel
abbrev pub unpacked : List Message → Parcel → Message
unpacked asides p = told asides p (place_of p.what) (said (tag_in p.token) p.token.port p.token.value p.what)

-- what stands aside is there
abbrev pub IsThere : List Message → What → Type 0
IsThere asides (Aside i) = i < length asides
IsThere asides w = Unit {0}

-- the parcel's message is there
abbrev pub IsWithin : List Message → Parcel → Type 0
IsWithin asides p = IsThere asides p.what

-- the message stands in the parcel, whatever stands aside
pub record IsPacked (m : Message) (p : Parcel) : Type 0 where
  pub is : (asides : List Message) → unpacked asides p ≡ m
  pub within : (asides : List Message) → IsWithin asides p
