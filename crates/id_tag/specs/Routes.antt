-- The element that a message goes to (docs/MACHINE.md, "Messages").
use Rattle.std.specs.Prelude.{ℕ, ℤ, pos, ◌+◌, ◌%◌, ◌+ℤ◌, ◌-ℤ◌}
use Rattle.std.specs.Int.{int_rem_euclid}
use Rattle.std.specs.Int.RustNames.{unsigned_abs}
use Rattle.id_tag.specs.declared.Tag.{Tag}
use Rattle.id_tag.specs.declared.Cell.{Cell}
use Rattle.id_tag.specs.declared.Payload.{Payload}
use Rattle.id_tag.specs.declared.Payload.TheVariants.{Token, Read, Write}

-- the element that handles a tag, of so many: the sum of its context's two numbers and its iteration, modulo their
-- count
abbrev pub tag_route : Tag → ℕ → ℕ
tag_route t count = (t.context.element + t.context.serial + t.iteration) % count

-- how far a cell is above the lower bound of its structure, which is a number below 0 where it is below that
abbrev pub offset_of : Cell → ℤ
offset_of c = c.index -ℤ c.structure.low

-- the element that handles a cell, of so many: the sum of its structure's two numbers and its offset, modulo their
-- count
abbrev pub cell_route : Cell → ℕ → ℕ
cell_route c count =
    unsigned_abs (int_rem_euclid (pos (c.structure.element + c.structure.serial) +ℤ offset_of c) (pos count))

-- the element that handles what a message says: a token goes where its tag goes, a read or a write where its cell goes
abbrev pub route_of : Payload → ℕ → ℕ
route_of (Token t p v) count = tag_route t count
route_of (Read c t) count = cell_route c count
route_of (Write c v t) count = cell_route c count
