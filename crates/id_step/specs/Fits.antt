-- Which messages fit a graph (docs/MACHINE.md, "Element step").
use Rattle.std.specs.Prelude.{◌≡◌, ◌≤◌, ℕ, Some, IsTrue}
use Rattle.id_instr.specs.declared.dests.Port.{Port}
use Rattle.id_instr.specs.declared.dests.Port.TheVariants.{Zero}
use Rattle.id_instr.specs.declared.instr.Op.TheVariants.{Back, Merge, Store}
use Rattle.id_instr.specs.declared.instr.PortKind.{PortKind}
use Rattle.id_instr.specs.Held.{held_kind}
use Rattle.id_instr.specs.Graph.{Parts, kind_at}
use Rattle.id_value.specs.Bounds.{is_inside}
use Rattle.id_tag.specs.declared.Cell.{Cell}
use Rattle.id_tag.specs.declared.Tag.{Tag}
use Rattle.id_tag.specs.declared.Value.{Value}
use Rattle.id_tag.specs.declared.Value.TheVariants as value
use Rattle.id_tag.specs.declared.Payload.{Payload}
use Rattle.id_tag.specs.declared.Payload.TheVariants.{Token, Read, Write}
use Rattle.id_tag.specs.declared.Message.{Message}
use Rattle.id_tag.specs.Kinds.{kind_of}
use Rattle.id_tag.specs.Routes.{route_of}
use Rattle.id_valid.specs.Roles.{op_at, is_second}

-- the instruction n is the `back` of a block with results of kind k, and r is a merge of that kind
pub record TakesReturn (g : Parts) (n r : ℕ) (k : PortKind) : Type 0 where
  pub second : IsTrue (is_second g n)
  pub back : op_at g n ≡ Some (Back k)
  pub merge : op_at g r ≡ Some (Merge k)

-- a continuation comes to port 0 of a block's `back`, names a merge of that block's result kind, and has no iteration
-- above the stamp
abbrev pub ContinuationFits : Parts → ℕ → Tag → Port → Value → Type 0
ContinuationFits g stamp t p (value.Continuation u) = (p ≡ Zero)
    × ((k : PortKind) × TakesReturn g t.instr u.instr k) × (u.iteration ≤ stamp)
ContinuationFits g stamp t p value.Signal = Unit {0}
ContinuationFits g stamp t p (value.Structure s) = Unit {0}
ContinuationFits g stamp t p (value.Address c) = Unit {0}
ContinuationFits g stamp t p (value.Int n) = Unit {0}
ContinuationFits g stamp t p (value.Bool b) = Unit {0}
ContinuationFits g stamp t p (value.Context c) = Unit {0}

-- the cell's index is inside its structure's bounds
abbrev pub IsCell : Cell → Type 0
IsCell c = IsTrue (is_inside c.structure.low c.structure.high c.index)

-- an address is that of a cell
abbrev pub AddressFits : Value → Type 0
AddressFits (value.Address c) = IsCell c
AddressFits value.Signal = Unit {0}
AddressFits (value.Int n) = Unit {0}
AddressFits (value.Bool b) = Unit {0}
AddressFits (value.Structure s) = Unit {0}
AddressFits (value.Context c) = Unit {0}
AddressFits (value.Continuation u) = Unit {0}

-- a token fits: its port exists and takes its kind, neither its tag nor a continuation in it has an iteration above the
-- stamp, and an address in it is that of a cell
pub record TokenFits (g : Parts) (stamp : ℕ) (t : Tag) (p : Port) (v : Value) : Type 0 where
  pub kind : kind_at g.instrs (record { instr = t.instr; port = p }) ≡ Some (kind_of v)
  pub in_time : t.iteration ≤ stamp
  pub continuation : ContinuationFits g stamp t p v
  pub address : AddressFits v

-- the kind of what the cell holds: of one of a nested structure it is a structure that is not nested, else a number
abbrev pub held_in : Cell → PortKind
held_in c = held_kind c.structure.nested

-- a reply fits a cell: it names a merge for what that holds, and has no iteration above the stamp
pub record ReplyFits (g : Parts) (stamp : ℕ) (c : Cell) (t : Tag) : Type 0 where
  pub merge : op_at g t.instr ≡ Some (Merge (held_in c))
  pub in_time : t.iteration ≤ stamp

-- a read fits: it asks for a cell, and its reply fits that
pub record ReadFits (g : Parts) (stamp : ℕ) (c : Cell) (t : Tag) : Type 0 where
  pub cell : IsCell c
  pub reply : ReplyFits g stamp c t

-- a write fits: it is to a cell, of what that holds, and its origin names a `store` to such cells and has no iteration
-- above the stamp
pub record WriteFits (g : Parts) (stamp : ℕ) (c : Cell) (v : Value) (t : Tag) : Type 0 where
  pub cell : IsCell c
  pub kind : kind_of v ≡ held_in c
  pub store : op_at g t.instr ≡ Some (Store c.structure.nested)
  pub in_time : t.iteration ≤ stamp

-- what a message says fits the graph at its stamp
abbrev pub PayloadFits : Parts → ℕ → Payload → Type 0
PayloadFits g stamp (Token t p v) = TokenFits g stamp t p v
PayloadFits g stamp (Read c t) = ReadFits g stamp c t
PayloadFits g stamp (Write c v t) = WriteFits g stamp c v t

-- the message fits the graph
abbrev pub Fits : Parts → Message → Type 0
Fits g m = PayloadFits g m.stamp m.payload

-- the message fits the graph, and is for the element n of so many
pub record IsFor (g : Parts) (count n : ℕ) (m : Message) : Type 0 where
  pub routed : route_of m.payload count ≡ n
  pub fits : Fits g m
