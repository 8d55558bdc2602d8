-- Which instructions are faulty, and which graphs are valid (docs/GRAPH.md, "Validator").
use Rattle.std.specs.Prelude.{MatchOption, ◌+◌, ◌≡◌, ℕ, ◌<◌, Bool, true, false, IsTrue, Option, Some}
use Rattle.std.specs.Prelude.{List, IsSome}
use Rattle.std.specs.Prelude.{IsSomeAnd, All, slice_get, option_and_then}
use Rattle.std.specs.Bool.{IsFalse}
use Rattle.std.specs.Option.{ForSome}
use Rattle.id_instr.specs.declared.instr.Block.{Block}
use Rattle.id_instr.specs.declared.instr.Instr.{Instr}
use Rattle.id_instr.specs.declared.instr.Op.{Op}
use Rattle.id_instr.specs.declared.instr.Op.TheVariants.{Const, Unary, Binary, Merge, Switch, Back, Enter, Send, Next}
use Rattle.id_instr.specs.declared.instr.Op.TheVariants.{Reset, Alloc, Address as AddressOp, Fetch, Store}
use Rattle.id_instr.specs.declared.instr.PortKind.{PortKind}
use Rattle.id_instr.specs.declared.instr.PortKind.TheVariants.{Signal, Int, Bool as BoolKind, Structure}
use Rattle.id_instr.specs.declared.instr.PortKind.TheVariants.{Structures, Address, Addresses, Context, Continuation}
use Rattle.id_instr.specs.declared.dests.Dest.{Dest}
use Rattle.id_instr.specs.declared.dests.Port.{Port}
use Rattle.id_valid.specs.declared.valid.InvalidCause.{InvalidCause}
use Rattle.id_valid.specs.declared.valid.InvalidCause.TheVariants.{Faulty, Memory}
use Rattle.id_instr.specs.Held.{held_kind}
use Rattle.id_instr.specs.Ports.{port_kind, sends}
use Rattle.id_instr.specs.Graph.{Parts, arcs, kind_at}
use Rattle.id_valid.specs.Roles.{op_at, merge_kind, back_kind, result_kind, is_first, is_second, is_entry, IsMain}
use Rattle.id_valid.specs.Roles.{arcs_into, needs_no_arc}

-- whether the kind is one of values of the language
abbrev pub is_value : PortKind → Bool
is_value Signal = false
is_value Int = true
is_value BoolKind = true
is_value Structure = true
is_value Structures = true
is_value Address = false
is_value Addresses = false
is_value Context = false
is_value Continuation = false

-- instruction 0 is a merge for values, of the result kind of the one block that has its place
pub record IsAnswer (g : Parts) : Type 0 where
  pub kind : PortKind
  pub block : Block
  pub merge : op_at g 0 ≡ Some (Merge kind)
  pub value : IsTrue (is_value kind)
  pub main : IsMain g block
  pub result : result_kind g block ≡ Some kind

-- the instruction is what its place in a block asks for
pub record FillsRoles (g : Parts) (n : ℕ) : Type 0 where
  pub first : IsTrue (is_first g n) → op_at g n ≡ Some (Merge Signal)
  pub second : IsTrue (is_second g n) → IsSome (option_and_then back_kind (op_at g n))
  pub entry : IsTrue (is_entry g n) → IsSome (option_and_then merge_kind (op_at g n))

-- b is the first of a block, and r a merge of the kind of that block's result
pub record IsEntered (g : Parts) (b r : ℕ) : Type 0 where
  pub kind : PortKind
  pub first : IsTrue (is_first g b)
  pub back : op_at g (b + 1) ≡ Some (Back kind)
  pub reply : op_at g r ≡ Some (Merge kind)

-- t is an entry of a block, and a merge of kind k
pub record IsSentTo (g : Parts) (k : PortKind) (t : ℕ) : Type 0 where
  pub entry : IsTrue (is_entry g t)
  pub merge : op_at g t ≡ Some (Merge k)

-- the instructions that the operator names are what it asks of them
abbrev pub AreNamed : Parts → Op → Type 0
AreNamed g (Enter b r) = IsEntered g b r
AreNamed g (Send k t) = IsSentTo g k t
AreNamed g (Const v) = Unit {0}
AreNamed g (Unary f) = Unit {0}
AreNamed g (Binary f) = Unit {0}
AreNamed g (Merge k) = Unit {0}
AreNamed g (Switch k) = Unit {0}
AreNamed g (Back k) = Unit {0}
AreNamed g (Next k) = Unit {0}
AreNamed g (Reset k) = Unit {0}
AreNamed g (Alloc nested) = Unit {0}
AreNamed g (AddressOp nested) = Unit {0}
AreNamed g (Fetch nested r) = op_at g r ≡ Some (Merge (held_kind nested))
AreNamed g (Store nested) = Unit {0}

-- the port at the destination takes the kind that the operator sends
abbrev pub IsTaken : List Instr → Op → Dest → Type 0
IsTaken is op d = IsSomeAnd (sends op) (λ k. kind_at is d ≡ Some k)

-- the port is fed by an arc unless it needs none, and by several only at a merge
pub record IsFed (g : Parts) (n : ℕ) (op : Op) (p : Port) : Type 0 where
  pub fed : IsFalse (needs_no_arc g n p) → 0 < arcs_into g n p
  pub once : 1 < arcs_into g n p → IsSome (merge_kind op)

-- each port of the operator is fed
abbrev pub AreFed : Parts → ℕ → Op → Type 0
AreFed g n op = (p : Port) → IsSome (port_kind op p) → IsFed g n op p

-- no rule makes the instruction of this number faulty
pub record IsSound (g : Parts) (n : ℕ) : Type 0 where
  pub answer : n ≡ 0 → IsAnswer g
  pub roles : FillsRoles g n
  pub taken : ForSome (slice_get g.instrs n) (λ i. All (IsTaken g.instrs i.op) (arcs i))
  pub named : ForSome (op_at g n) (AreNamed g)
  pub fed : ForSome (op_at g n) (AreFed g n)

-- no instruction is faulty
pub record IsValid (g : Parts) : Type 0 where
  pub sound : (n : ℕ) → IsSound g n

-- n is the first faulty instruction
pub record IsFirstFaulty (g : Parts) (n : ℕ) : Type 0 where
  pub faulty : ¬ IsSound g n
  pub before : (m : ℕ) → m < n → IsSound g m

-- the first faulty instruction, if there is one
abbrev pub FirstFaulty : Parts → Option ℕ → Type 0
FirstFaulty g o = MatchOption o (IsValid g) (IsFirstFaulty g)

-- the cause tells the first faulty instruction, or that memory was refused
abbrev pub TellsFault : Parts → InvalidCause → Type 0
TellsFault g (Faulty n) = IsFirstFaulty g n
TellsFault g Memory = Unit {0}

-- the block has a trigger and a `back` of the kind of instruction 0, which is a merge for values
pub record IsMainBlock (g : Parts) (b : Block) : Type 0 where
  pub kind : PortKind
  pub trigger : op_at g b.first ≡ Some (Merge Signal)
  pub back : op_at g (b.first + 1) ≡ Some (Back kind)
  pub answer : op_at g 0 ≡ Some (Merge kind)
  pub value : IsTrue (is_value kind)
