-- The kind of a value, and when two kinds are one (docs/MACHINE.md, "Messages").
use Rattle.std.specs.Prelude.{Bool, true, false}
use Rattle.id_instr.specs.declared.instr.PortKind.{PortKind}
use Rattle.id_instr.specs.declared.instr.PortKind.TheVariants.{Signal, Int, Bool as Truth, Structure, Structures}
use Rattle.id_instr.specs.declared.instr.PortKind.TheVariants.{Address, Addresses, Context, Continuation}
use Rattle.id_instr.specs.Held.{address_kind, structure_kind}
use Rattle.id_tag.specs.declared.Value.{Value}
use Rattle.id_tag.specs.declared.Value.TheVariants as value

-- the kind of the ports that take the value
abbrev pub kind_of : Value → PortKind
kind_of value.Signal = Signal
kind_of (value.Int _) = Int
kind_of (value.Bool _) = Truth
kind_of (value.Structure s) = structure_kind s.nested
kind_of (value.Address c) = address_kind c.structure.nested
kind_of (value.Context _) = Context
kind_of (value.Continuation _) = Continuation

-- whether two kinds are one
abbrev pub same_kind : PortKind → PortKind → Bool
same_kind Signal Signal = true
same_kind Int Int = true
same_kind Truth Truth = true
same_kind Structure Structure = true
same_kind Structures Structures = true
same_kind Address Address = true
same_kind Addresses Addresses = true
same_kind Context Context = true
same_kind Continuation Continuation = true
same_kind _ _ = false
