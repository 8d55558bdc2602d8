-- What the cells of a structure hold, and which ports take it, by whether it is nested (docs/GRAPH.md, "Operators").
use Rattle.std.specs.Prelude.{Bool, true, false}
use Rattle.id_instr.specs.declared.instr.PortKind.{PortKind}
use Rattle.id_instr.specs.declared.instr.PortKind.TheVariants.{Int, Structure, Structures, Address, Addresses}

-- the kind of what a cell holds: of a nested structure it is a structure that is not nested, else a number
abbrev pub held_kind : Bool → PortKind
held_kind false = Int
held_kind true = Structure

-- the kind of the ports that take the structure
abbrev pub structure_kind : Bool → PortKind
structure_kind false = Structure
structure_kind true = Structures

-- the kind of the ports that take the address of a cell
abbrev pub address_kind : Bool → PortKind
address_kind false = Address
address_kind true = Addresses
