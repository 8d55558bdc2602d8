-- Graphs (docs/GRAPH.md, "Operators").
use Rattle.std.specs.Prelude.{take, ℕ, ◌<◌, ◌^◌, Bool, true, false, if◌then◌else◌, Option, List, []}
use Rattle.std.specs.Prelude.{◌++◌, length}
use Rattle.std.specs.Prelude.{IsSome, IsSomeAnd, All, slice_get, option_and_then}
use Rattle.id_instr.specs.declared.instr.Block.{Block}
use Rattle.id_instr.specs.declared.instr.Instr.{Instr}
use Rattle.id_instr.specs.declared.instr.PortKind.{PortKind}
use Rattle.id_instr.specs.declared.dests.Dest.{Dest}
use Rattle.id_instr.specs.declared.graph.GraphCause.{GraphCause}
use Rattle.id_instr.specs.declared.graph.GraphCause.TheVariants.{BadArc}
use Rattle.id_instr.specs.Ports.{port_kind, two_sides}

-- a graph: its blocks, and its instructions by number
pub record Parts : Type 0 where
  pub blocks : List Block
  pub instrs : List Instr

-- the graph of these blocks and instructions
abbrev pub parts : List Block → List Instr → Parts
parts blocks instrs = record { blocks = blocks; instrs = instrs }

-- the destinations of an instruction on a side: the first list is the true side's, the second the false side's
abbrev pub arcs_on : Bool → Instr → List Dest
arcs_on true i = i.dests
arcs_on false i = i.others

-- the second list, as far as it counts: it is ignored unless the operator has two sides
abbrev pub false_arcs : Instr → List Dest
false_arcs i = if two_sides i.op then arcs_on false i else []

-- the destinations of an instruction that count
abbrev pub arcs : Instr → List Dest
arcs i = arcs_on true i ++ false_arcs i

-- the kind of what the port at a destination takes, if there is such a port
abbrev pub kind_at : List Instr → Dest → Option PortKind
kind_at is d = option_and_then (λ i. port_kind i.op d.port) (slice_get is d.instr)

-- the destination is a port that exists
abbrev pub IsPort : List Instr → Dest → Type 0
IsPort is d = IsSome (kind_at is d)

-- every destination of the instruction is a port that exists
abbrev pub ArcsExist : List Instr → Instr → Type 0
ArcsExist is i = All (IsPort is) (arcs i)

-- every destination is a port that exists
abbrev pub PortsExist : Parts → Type 0
PortsExist g = All (ArcsExist g.instrs) g.instrs

-- a graph has fewer than 2^32 instructions, and every destination in it is a port that exists
pub record IsGraph (g : Parts) : Type 0 where
  pub few : length g.instrs < 2 ^ 32
  pub ports : PortsExist g

-- the instruction of this number is the first with a destination that is no port
pub record IsFirstBad (is : List Instr) (n : ℕ) : Type 0 where
  pub bad : IsSomeAnd (slice_get is n) (λ i. ¬ ArcsExist is i)
  pub before : All (ArcsExist is) (take n is)

-- the cause tells the first instruction with a destination that is no port
abbrev pub TellsBadArc : List Instr → GraphCause → Type 0
TellsBadArc is (BadArc n) = IsFirstBad is n
