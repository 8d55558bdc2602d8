-- Plain values: those of small numbers.
use Rattle.std.specs.Prelude.{Bool as Truth, true, false, not, Option, None, Some, ℕ, ℤ}
use Rattle.std.specs.Prelude.{pos, neg_ℤ, ◌-ℤ◌, ◌≤ℤ◌, ◌<ℤ◌, ◌/◌, ◌%◌, ◌^◌, ◌==◌}
use Rattle.id_tag.specs.declared.Cell.{Cell}
use Rattle.id_tag.specs.declared.Context.{Context as Activation}
use Rattle.id_tag.specs.declared.Structure.{Structure as Array}
use Rattle.id_tag.specs.declared.Tag.{Tag}
use Rattle.id_tag.specs.declared.Value.{Value}
use Rattle.id_tag.specs.declared.Value.TheVariants as value
use Rattle.id_tag.specs.declared.plain.Plain.{Plain}
use Rattle.id_tag.specs.declared.plain.Plain.TheVariants.{Signal, Int, Bool, Context, Continuation, Structure}
use Rattle.id_tag.specs.declared.plain.Plain.TheVariants.{Address}
use Rattle.id_tag.specs.declared.plain.PlainCell.{PlainCell}
use Rattle.id_tag.specs.declared.plain.PlainToken.{PlainToken}
use Rattle.id_tag.specs.declared.Message.{Message}
use Rattle.id_tag.specs.declared.Payload.TheVariants.{Token}
use Rattle.id_tag.specs.declared.Sender.TheVariants.{Element}

-- the element and the serial number in the name of a context, and a structure's maker and serial number in its name
abbrev pub element_of : ℕ → ℕ
element_of n = n % 256

-- the serial number in the name of a context or of a structure
abbrev pub serial_of : ℕ → ℕ
serial_of n = n / 256

-- the context of a name
abbrev pub context_of : ℕ → Activation
context_of n = record { element = element_of n; serial = serial_of n }

-- the structure with this serial number and these bounds, whose element has the lower 7 bits of the maker's number: the
-- eighth tells whether it is nested
abbrev pub made_by : ℕ → ℕ → ℤ → ℤ → Array
made_by m n l h = record { element = m % 128; serial = n; low = l; high = h; nested = not (m / 128 == 0) }

-- the structure of a name, with these bounds
abbrev pub structure_of : ℕ → ℤ → ℤ → Array
structure_of n l h = made_by (element_of n) (serial_of n) l h

-- the bounds and the index in the place of a cell, each above its least
abbrev pub low_of : ℕ → ℤ
low_of p = pos (p / 2 ^ 44) -ℤ pos (2 ^ 19)

-- the upper bound in the place of a cell, which has it as a number above its least
abbrev pub high_of : ℕ → ℤ
high_of p = pos (p / 2 ^ 22 % 2 ^ 22) -ℤ pos (2 ^ 21)

-- the index in the place of a cell, which has it as a number above its least
abbrev pub index_of : ℕ → ℤ
index_of p = pos (p % 2 ^ 22) -ℤ pos (2 ^ 21)

-- the bounds and the index are as small as a place needs: the lower bound has 20 bits, and the others have 22
pub record HasPlace (low high index : ℤ) : Type 0 where
  pub low_from : neg_ℤ (pos (2 ^ 19)) ≤ℤ low
  pub low_below : low <ℤ pos (2 ^ 19)
  pub high_from : neg_ℤ (pos (2 ^ 21)) ≤ℤ high
  pub high_below : high <ℤ pos (2 ^ 21)
  pub index_from : neg_ℤ (pos (2 ^ 21)) ≤ℤ index
  pub index_below : index <ℤ pos (2 ^ 21)

-- a cell in small numbers as any cell
abbrev pub cell_of : PlainCell → Cell
cell_of c = record { structure = structure_of c.name (low_of c.place) (high_of c.place); index = index_of c.place }

-- a plain value as any value
abbrev pub whole : Plain → Value
whole Signal = value.Signal
whole (Bool b) = value.Bool (not (b == 0))
whole (Int n) = value.Int n
whole (Context c) = value.Context (context_of c)
whole (Continuation c k j) = value.Continuation (record { context = context_of c; iteration = k; instr = j })
whole (Structure n l h) = value.Structure (structure_of n l h)
whole (Address n p) = value.Address (cell_of (record { name = n; place = p }))

-- the truth value that a plain value is, if it is one
abbrev pub truth_of : Plain → Option Truth
truth_of Signal = None
truth_of (Bool b) = Some (not (b == 0))
truth_of (Int n) = None
truth_of (Context n) = None
truth_of (Continuation n k j) = None
truth_of (Structure n l h) = None
truth_of (Address n p) = None

-- whether a plain value is a word: a signal, a number or a truth value
abbrev pub is_word : Plain → Truth
is_word Signal = true
is_word (Int n) = true
is_word (Bool b) = true
is_word (Context n) = false
is_word (Continuation n k j) = false
is_word (Structure n l h) = false
is_word (Address n p) = false

-- the word that a value is, if it is one, as a plain value
abbrev pub word_of : Value → Option Plain
word_of value.Signal = Some Signal
word_of (value.Int n) = Some (Int n)
word_of (value.Bool true) = Some (Bool 1)
word_of (value.Bool false) = Some (Bool 0)
word_of (value.Structure s) = None
word_of (value.Address c) = None
word_of (value.Context c) = None
word_of (value.Continuation t) = None

-- the tag of a plain token
abbrev pub tag_in : PlainToken → Tag
tag_in t = record {
  context = record { element = t.element; serial = t.serial };
  iteration = t.iteration;
  instr = t.instr;
}

-- a plain token as any message
abbrev pub message_of : PlainToken → Message
message_of t = record {
  payload = Token (tag_in t) t.port (whole t.value);
  sender = Element t.sender;
  position = t.position;
  output = t.output;
  stamp = t.stamp;
}
