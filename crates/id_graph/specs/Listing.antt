-- The listing of a graph (docs/GRAPH.md, "Listing").
use Rattle.std.specs.Prelude.{ℕ, ◌+◌, ◌*◌, true, false, if◌then◌else◌, List, [], ◌∷◌, ◌++◌}
use Rattle.std.specs.Prelude.{nat_le, cond, codes}
use Rattle.std.specs.List.{flat_map}
use Rattle.std.specs.Fmt.{decimal, signed_decimal}
use Rattle.id_text.specs.Places.{line_of, column_of}
use Rattle.id_instr.specs.declared.instr.Instr.{Instr}
use Rattle.id_instr.specs.declared.instr.Op.{Op}
use Rattle.id_instr.specs.declared.instr.Op.TheVariants.{Const, Unary, Binary, Merge, Switch, Back, Enter, Send, Next}
use Rattle.id_instr.specs.declared.instr.Op.TheVariants.{Reset, Alloc, Address, Fetch, Store}
use Rattle.id_instr.specs.declared.instr.Dyadic.{Dyadic}
use Rattle.id_instr.specs.declared.instr.Dyadic.TheVariants as class
use Rattle.id_instr.specs.declared.instr.PortKind.{PortKind}
use Rattle.id_instr.specs.declared.instr.PortKind.TheVariants.{Signal, Int, Bool as BoolKind, Structure}
use Rattle.id_instr.specs.declared.instr.PortKind.TheVariants.{Structures, Address as AddressKind, Addresses}
use Rattle.id_instr.specs.declared.instr.PortKind.TheVariants.{Context, Continuation}
use Rattle.id_instr.specs.declared.dests.Dest.{Dest}
use Rattle.id_instr.specs.declared.dests.Port.{Port}
use Rattle.id_instr.specs.declared.dests.Port.TheVariants.{Zero, One}
use Rattle.id_instr.specs.Graph.{Parts, arcs_on}
use Rattle.id_instr.specs.Ports.{two_sides}
use Rattle.id_value.specs.declared.Constant.{Constant}
use Rattle.id_value.specs.declared.Constant.TheVariants.{Int as IntConstant, Bool as BoolConstant}
use Rattle.id_value.specs.declared.UnaryOp.{UnaryOp}
use Rattle.id_value.specs.declared.UnaryOp.TheVariants.{Neg, Not}
use Rattle.id_value.specs.declared.Arithmetic.{Arithmetic}
use Rattle.id_value.specs.declared.Arithmetic.TheVariants.{Add, Sub, Mul, Div, Rem}
use Rattle.id_value.specs.declared.Comparison.{Comparison}
use Rattle.id_value.specs.declared.Comparison.TheVariants.{Lt, Le, Gt, Ge, Eq, Ne}
use Rattle.id_value.specs.declared.Truth.{Truth}
use Rattle.id_value.specs.declared.Truth.TheVariants.{Eqb, Neb, And, Or}

-- the name of a kind
abbrev pub kind_name : PortKind → List ℕ
kind_name Signal = codes "signal"
kind_name Int = codes "int"
kind_name BoolKind = codes "bool"
kind_name Structure = codes "structure"
kind_name Structures = codes "structures"
kind_name AddressKind = codes "address"
kind_name Addresses = codes "addresses"
kind_name Context = codes "context"
kind_name Continuation = codes "continuation"

-- the text of a constant
abbrev pub constant_text : Constant → List ℕ
constant_text (IntConstant n) = signed_decimal n
constant_text (BoolConstant true) = codes "true"
constant_text (BoolConstant false) = codes "false"

-- the name of an operator on one value
abbrev pub unary_name : UnaryOp → List ℕ
unary_name Neg = codes "neg"
unary_name Not = codes "not"

-- the name of an operator from two numbers to a number
abbrev pub arithmetic_name : Arithmetic → List ℕ
arithmetic_name Add = codes "add"
arithmetic_name Sub = codes "sub"
arithmetic_name Mul = codes "mul"
arithmetic_name Div = codes "div"
arithmetic_name Rem = codes "rem"

-- the name of a comparison of two numbers
abbrev pub comparison_name : Comparison → List ℕ
comparison_name Lt = codes "lt"
comparison_name Le = codes "le"
comparison_name Gt = codes "gt"
comparison_name Ge = codes "ge"
comparison_name Eq = codes "eq"
comparison_name Ne = codes "ne"

-- the name of an operator on two truth values
abbrev pub truth_name : Truth → List ℕ
truth_name Eqb = codes "eqb"
truth_name Neb = codes "neb"
truth_name And = codes "and"
truth_name Or = codes "or"

-- the name of an operator on two values
abbrev pub dyadic_name : Dyadic → List ℕ
dyadic_name (class.Arithmetic o) = arithmetic_name o
dyadic_name (class.Comparison o) = comparison_name o
dyadic_name (class.Truth o) = truth_name o

-- an operator with its parameters
abbrev pub op_text : Op → List ℕ
op_text (Const v) = codes "const " ++ constant_text v
op_text (Unary f) = unary_name f
op_text (Binary f) = dyadic_name f
op_text (Merge k) = codes "merge " ++ kind_name k
op_text (Switch k) = codes "switch " ++ kind_name k
op_text (Back k) = codes "back " ++ kind_name k
op_text (Enter b r) = codes "enter " ++ decimal b ++ codes " " ++ decimal r
op_text (Send k t) = codes "send " ++ kind_name k ++ codes " " ++ decimal t
op_text (Next k) = codes "next " ++ kind_name k
op_text (Reset k) = codes "reset " ++ kind_name k
op_text (Alloc false) = codes "alloc"
op_text (Alloc true) = codes "alloc nested"
op_text (Address false) = codes "address"
op_text (Address true) = codes "address nested"
op_text (Fetch false r) = codes "fetch " ++ decimal r
op_text (Fetch true r) = codes "fetch nested " ++ decimal r
op_text (Store false) = codes "store"
op_text (Store true) = codes "store nested"

-- the number of a port
abbrev pub port_number : Port → ℕ
port_number Zero = 0
port_number One = 1

-- destinations are in order by instruction, and then by port
abbrev pub rank : Dest → ℕ
rank d = 2 * d.instr + port_number d.port

-- the list with the destination before the first that is not less
abbrev pub placed : Dest → List Dest → List Dest
placed d [] = d ∷ []
placed d (e ∷ es) = cond (nat_le (rank d) (rank e)) (d ∷ e ∷ es) (e ∷ placed d es)

-- the destinations in order
abbrev pub in_order : List Dest → List Dest
in_order [] = []
in_order (d ∷ ds) = placed d (in_order ds)

-- a destination after a space
abbrev pub dest_text : Dest → List ℕ
dest_text d = codes " " ++ decimal d.instr ++ codes "." ++ decimal (port_number d.port)

-- a place after a space and `@`
abbrev pub place_text : List ℕ → ℕ → List ℕ
place_text text at = codes " @" ++ decimal (line_of text at) ++ codes ":" ++ decimal (column_of text at)

-- an instruction with its number and place
abbrev pub head_text : List ℕ → ℕ → Instr → List ℕ
head_text text n i = decimal n ++ codes " " ++ op_text i.op ++ place_text text i.place

-- destinations in order, each after a space
abbrev pub dests_text : List Dest → List ℕ
dests_text ds = flat_map dest_text (in_order ds)

-- the destinations on the false side after a space and `|`, where the operator has two sides
abbrev pub false_text : Instr → List ℕ
false_text i = if two_sides i.op then codes " |" ++ dests_text (arcs_on false i) else []

-- the line of an instruction: its head, an arrow, its destinations, those on the false side, and LF
abbrev pub line_text : List ℕ → ℕ → Instr → List ℕ
line_text text n i = head_text text n i ++ codes " ->" ++ dests_text (arcs_on true i) ++ false_text i ++ codes "\n"

-- the lines of instructions whose numbers begin at n
abbrev pub lines_text : List ℕ → ℕ → List Instr → List ℕ
lines_text text n [] = []
lines_text text n (i ∷ is) = line_text text n i ++ lines_text text (n + 1) is

-- the listing of a graph of this text
abbrev pub listing : List ℕ → Parts → List ℕ
listing text g = lines_text text 0 g.instrs

-- For use inside.

-- the name of an operator that has no parameter, or a kind alone: then with the space between
abbrev pub op_name : Op → List ℕ
op_name (Unary f) = unary_name f
op_name (Binary f) = dyadic_name f
op_name (Merge k) = codes "merge "
op_name (Switch k) = codes "switch "
op_name (Back k) = codes "back "
op_name (Next k) = codes "next "
op_name (Reset k) = codes "reset "
op_name (Alloc false) = codes "alloc"
op_name (Alloc true) = codes "alloc nested"
op_name (Address false) = codes "address"
op_name (Address true) = codes "address nested"
op_name (Store false) = codes "store"
op_name (Store true) = codes "store nested"
op_name (Const v) = []
op_name (Enter b r) = []
op_name (Send k t) = []
op_name (Fetch nested r) = []
