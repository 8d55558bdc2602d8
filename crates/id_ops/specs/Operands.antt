-- Operands and results against the ports of the operator (docs/MACHINE.md, "Firing").
use Rattle.std.specs.Prelude.{◌≡◌, IsTrue, Some, None}
use Rattle.id_instr.specs.declared.instr.Op.{Op}
use Rattle.id_instr.specs.declared.instr.Op.TheVariants.{Fetch, Store}
use Rattle.id_instr.specs.declared.instr.PortKind.TheVariants.{Context}
use Rattle.id_instr.specs.Held.{held_kind}
use Rattle.id_instr.specs.declared.dests.Port.TheVariants.{Zero, One as OnePort}
use Rattle.id_instr.specs.Ports.{port_kind, sends, two_sides}
use Rattle.id_tag.specs.Kinds.{kind_of}
use Rattle.id_ops.specs.declared.Operands.{Operands}
use Rattle.id_ops.specs.declared.Operands.TheVariants.{One, Two}
use Rattle.id_ops.specs.declared.Fired.{Fired}
use Rattle.id_ops.specs.declared.Fired.TheVariants.{Out, Side, Moved, Entered, Sent, Asked, Stored, Failed, Nothing}

-- there is one operand for each port of the operator, of the kind that the port takes
abbrev pub Suits : Op → Operands → Type 0
Suits op (One v) = (port_kind op Zero ≡ Some (kind_of v)) × (port_kind op OnePort ≡ None)
Suits op (Two v w) = (port_kind op Zero ≡ Some (kind_of v)) × (port_kind op OnePort ≡ Some (kind_of w))

-- a value that goes out is of the kind that the operator sends, to a side only where it has two; where a context is
-- opened the operator sends contexts, and one that goes to a single tag is of the kind of port 1; only a `fetch` asks,
-- for the instruction that it names, and only a `store` stores, and then what the cell holds: of a nested structure or
-- of one that is not, as the cell is
abbrev pub IsOfKind : Op → Fired → Type 0
IsOfKind op (Out v) = sends op ≡ Some (kind_of v)
IsOfKind op (Side b v) = (sends op ≡ Some (kind_of v)) × IsTrue (two_sides op)
IsOfKind op (Moved i v) = sends op ≡ Some (kind_of v)
IsOfKind op (Entered c) = sends op ≡ Some Context
IsOfKind op (Sent _ v) = port_kind op OnePort ≡ Some (kind_of v)
IsOfKind op (Asked c t) = op ≡ Fetch c.structure.nested t.instr
IsOfKind op (Stored c v t) = (op ≡ Store c.structure.nested) × (kind_of v ≡ held_kind c.structure.nested)
IsOfKind op (Failed _) = Unit {0}
IsOfKind op Nothing = Unit {0}
