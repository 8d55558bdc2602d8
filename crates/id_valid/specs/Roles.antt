-- What blocks make of the instructions of a graph (docs/GRAPH.md, "Validator").
use Rattle.std.specs.Prelude.{◌≡◌, ℕ, ◌+◌, ◌==◌, ◌&&◌, ◌||◌, Bool, true, false, Option, Some}
use Rattle.std.specs.Prelude.{None, [], ◌∷◌, filter}
use Rattle.std.specs.Prelude.{slice_get, option_map, option_and_then, sum_by, count_by}
use Rattle.std.specs.List.{list_any}
use Rattle.id_instr.specs.declared.instr.Block.{Block}
use Rattle.id_instr.specs.declared.instr.Instr.{Instr}
use Rattle.id_instr.specs.declared.instr.Op.{Op}
use Rattle.id_instr.specs.declared.instr.Op.TheVariants.{Const, Unary, Binary, Merge, Switch, Back, Enter, Send, Next}
use Rattle.id_instr.specs.declared.instr.Op.TheVariants.{Reset, Alloc, Address, Fetch, Store}
use Rattle.id_instr.specs.declared.instr.PortKind.{PortKind}
use Rattle.id_instr.specs.declared.dests.Dest.{Dest}
use Rattle.id_instr.specs.declared.dests.Port.{Port}
use Rattle.id_instr.specs.declared.dests.Port.TheVariants.{Zero, One}
use Rattle.id_instr.specs.Graph.{Parts, arcs}

-- what the instruction of this number does, if there is one
abbrev pub op_at : Parts → ℕ → Option Op
op_at g n = option_map (λ i. i.op) (slice_get g.instrs n)

-- the kind of a merge
abbrev pub merge_kind : Op → Option PortKind
merge_kind (Merge k) = Some k
merge_kind (Const v) = None
merge_kind (Unary f) = None
merge_kind (Binary f) = None
merge_kind (Switch k) = None
merge_kind (Back k) = None
merge_kind (Enter b r) = None
merge_kind (Send k t) = None
merge_kind (Next k) = None
merge_kind (Reset k) = None
merge_kind (Alloc nested) = None
merge_kind (Address nested) = None
merge_kind (Fetch nested r) = None
merge_kind (Store nested) = None

-- the kind of a `back`
abbrev pub back_kind : Op → Option PortKind
back_kind (Back k) = Some k
back_kind (Const v) = None
back_kind (Unary f) = None
back_kind (Binary f) = None
back_kind (Merge k) = None
back_kind (Switch k) = None
back_kind (Enter b r) = None
back_kind (Send k t) = None
back_kind (Next k) = None
back_kind (Reset k) = None
back_kind (Alloc nested) = None
back_kind (Address nested) = None
back_kind (Fetch nested r) = None
back_kind (Store nested) = None

-- the kind of a block's result: that of the `back` at its `first + 1`, if it is one
abbrev pub result_kind : Parts → Block → Option PortKind
result_kind g b = option_and_then back_kind (op_at g (b.first + 1))

-- whether the instruction is the first of a block
abbrev pub is_first : Parts → ℕ → Bool
is_first g n = list_any (λ b. b.first == n) g.blocks

-- whether the instruction is the second of a block
abbrev pub is_second : Parts → ℕ → Bool
is_second g n = list_any (λ b. b.first + 1 == n) g.blocks

-- whether the instruction is an entry of a block
abbrev pub is_entry : Parts → ℕ → Bool
is_entry g n = list_any (λ b. list_any (λ e. e == n) b.entries) g.blocks

-- whether the operator names the instruction as the one that replies come to: the last one of an `enter`, that of a
-- `fetch`
abbrev pub replies_to : Op → ℕ → Bool
replies_to (Enter b r) n = r == n
replies_to (Const v) n = false
replies_to (Unary f) n = false
replies_to (Binary f) n = false
replies_to (Merge k) n = false
replies_to (Switch k) n = false
replies_to (Back k) n = false
replies_to (Send k t) n = false
replies_to (Next k) n = false
replies_to (Reset k) n = false
replies_to (Alloc nested) n = false
replies_to (Address nested) n = false
replies_to (Fetch nested r) n = r == n
replies_to (Store nested) n = false

-- whether replies come to the instruction
abbrev pub is_reply : Parts → ℕ → Bool
is_reply g n = list_any (λ i. replies_to i.op n) g.instrs

-- whether there are two instructions, and they have one place
abbrev pub same_place : Option Instr → Option Instr → Bool
same_place (Some i) (Some j) = i.place == j.place
same_place (Some i) None = false
same_place None o = false

-- whether the first instruction of the block has the place of instruction 0
abbrev pub has_main_place : Parts → Block → Bool
has_main_place g b = same_place (slice_get g.instrs b.first) (slice_get g.instrs 0)

-- the block is the one whose first instruction has the place of instruction 0
abbrev pub IsMain : Parts → Block → Type 0
IsMain g b = filter (has_main_place g) g.blocks ≡ b ∷ []

-- whether two ports are one
abbrev pub same_port : Port → Port → Bool
same_port Zero Zero = true
same_port Zero One = false
same_port One Zero = false
same_port One One = true

-- whether the destination is this port of this instruction
abbrev pub is_dest : ℕ → Port → Dest → Bool
is_dest n p d = (d.instr == n) && same_port d.port p

-- how many arcs feed the port
abbrev pub arcs_into : Parts → ℕ → Port → ℕ
arcs_into g n p = sum_by (λ i. count_by (is_dest n p) (arcs i)) g.instrs

-- whether the port needs no arc, since it is fed by a result, by entering, by a send or by a reply
abbrev pub needs_no_arc : Parts → ℕ → Port → Bool
needs_no_arc g n p = (n == 0) || is_first g n || is_entry g n || (is_second g n && same_port p Zero) || is_reply g n
