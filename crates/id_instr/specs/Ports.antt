-- The ports of operators, and what they take and send (docs/GRAPH.md, "Operators").
use Rattle.std.specs.Prelude.{Bool, true, false, Option, Some, None, is_some}
use Rattle.id_instr.specs.declared.instr.Op.{Op}
use Rattle.id_instr.specs.declared.instr.Op.TheVariants.{Const, Unary, Binary, Merge, Switch, Back, Enter, Send, Next}
use Rattle.id_instr.specs.declared.instr.Op.TheVariants.{Reset, Alloc, Address, Fetch, Store}
use Rattle.id_instr.specs.declared.instr.Dyadic.{Dyadic}
use Rattle.id_instr.specs.declared.instr.Dyadic.TheVariants.{Arithmetic, Comparison, Truth}
use Rattle.id_value.specs.declared.UnaryOp.{UnaryOp}
use Rattle.id_value.specs.declared.UnaryOp.TheVariants.{Neg, Not}
use Rattle.id_value.specs.declared.Constant.{Constant}
use Rattle.id_value.specs.declared.Constant.TheVariants.{Int as IntConstant, Bool as BoolConstant}
use Rattle.id_instr.specs.declared.instr.PortKind.{PortKind}
use Rattle.id_instr.specs.declared.instr.PortKind.TheVariants.{Signal, Int, Bool as BoolKind, Context, Continuation}
use Rattle.id_instr.specs.Held.{address_kind, held_kind, structure_kind}
use Rattle.id_instr.specs.declared.dests.Port.{Port}
use Rattle.id_instr.specs.declared.dests.Port.TheVariants.{Zero, One}

-- the kind of the operand and the result of an operator on one value
abbrev pub unary_kind : UnaryOp → PortKind
unary_kind Neg = Int
unary_kind Not = BoolKind

-- the kind of the operands of an operator on two values
abbrev pub operand_kind : Dyadic → PortKind
operand_kind (Arithmetic o) = Int
operand_kind (Comparison o) = Int
operand_kind (Truth o) = BoolKind

-- the kind of its result
abbrev pub outcome_kind : Dyadic → PortKind
outcome_kind (Arithmetic o) = Int
outcome_kind (Comparison o) = BoolKind
outcome_kind (Truth o) = BoolKind

-- the kind of what a port of the operator takes, if it has that port
abbrev pub port_kind : Op → Port → Option PortKind
port_kind (Const v) Zero = Some Signal
port_kind (Const v) One = None
port_kind (Unary f) Zero = Some (unary_kind f)
port_kind (Unary f) One = None
port_kind (Binary f) p = Some (operand_kind f)
port_kind (Merge k) Zero = Some k
port_kind (Merge k) One = None
port_kind (Switch k) Zero = Some BoolKind
port_kind (Switch k) One = Some k
port_kind (Back k) Zero = Some Continuation
port_kind (Back k) One = Some k
port_kind (Enter b r) Zero = Some Signal
port_kind (Enter b r) One = None
port_kind (Send k t) Zero = Some Context
port_kind (Send k t) One = Some k
port_kind (Next k) Zero = Some k
port_kind (Next k) One = None
port_kind (Reset k) Zero = Some k
port_kind (Reset k) One = None
port_kind (Alloc nested) p = Some Int
port_kind (Address nested) Zero = Some (structure_kind nested)
port_kind (Address nested) One = Some Int
port_kind (Fetch nested r) Zero = Some (address_kind nested)
port_kind (Fetch nested r) One = None
port_kind (Store nested) Zero = Some (address_kind nested)
port_kind (Store nested) One = Some (held_kind nested)

-- whether the operator has a second port
abbrev pub two_ports : Op → Bool
two_ports op = is_some (port_kind op One)

-- the kind of a constant
abbrev pub constant_kind : Constant → PortKind
constant_kind (IntConstant n) = Int
constant_kind (BoolConstant b) = BoolKind

-- the kind of what the operator sends to its destinations, if it has any
abbrev pub sends : Op → Option PortKind
sends (Const v) = Some (constant_kind v)
sends (Unary f) = Some (unary_kind f)
sends (Binary f) = Some (outcome_kind f)
sends (Merge k) = Some k
sends (Switch k) = Some k
sends (Back k) = None
sends (Enter b r) = Some Context
sends (Send k t) = None
sends (Next k) = Some k
sends (Reset k) = Some k
sends (Alloc nested) = Some (structure_kind nested)
sends (Address nested) = Some (address_kind nested)
sends (Fetch nested r) = None
sends (Store nested) = None

-- whether the operator has two sides, each with its destinations: a switch alone has
abbrev pub two_sides : Op → Bool
two_sides (Const v) = false
two_sides (Unary f) = false
two_sides (Binary f) = false
two_sides (Merge k) = false
two_sides (Switch k) = true
two_sides (Back k) = false
two_sides (Enter b r) = false
two_sides (Send k t) = false
two_sides (Next k) = false
two_sides (Reset k) = false
two_sides (Alloc nested) = false
two_sides (Address nested) = false
two_sides (Fetch nested r) = false
two_sides (Store nested) = false
