-- What each operator does with its operands (docs/MACHINE.md, "Firing").
use Rattle.std.specs.Prelude.{ℕ, ◌+◌, ℤ, Bool as Truth, true, if◌then◌else◌, ◌&&◌}
use Rattle.std.specs.Bool.{beq}
use Rattle.id_value.specs.declared.Constant.{Constant}
use Rattle.id_value.specs.declared.Constant.TheVariants as constant
use Rattle.id_value.specs.declared.UnaryOp.{UnaryOp}
use Rattle.id_value.specs.declared.Outcome.{Outcome}
use Rattle.id_value.specs.declared.Outcome.TheVariants.{Gives, Fails, Lacks}
use Rattle.id_value.specs.declared.FaultKind.TheVariants.{BadBounds, OutOfBounds}
use Rattle.id_value.specs.Bounds.{are_good, is_inside}
use Rattle.id_value.specs.Results.{calculated, compared, decided, result_of_unary}
use Rattle.id_instr.specs.declared.instr.PortKind.{PortKind}
use Rattle.id_instr.specs.declared.instr.Dyadic.{Dyadic}
use Rattle.id_instr.specs.declared.instr.Dyadic.TheVariants as class
use Rattle.id_instr.specs.declared.instr.Op.{Op}
use Rattle.id_instr.specs.declared.instr.Op.TheVariants.{Const, Unary, Binary, Merge, Switch, Back, Enter, Send, Next}
use Rattle.id_instr.specs.declared.instr.Op.TheVariants.{Reset, Alloc, Address, Fetch, Store}
use Rattle.id_instr.specs.Held.{held_kind}
use Rattle.id_tag.specs.Kinds.{kind_of, same_kind}
use Rattle.id_tag.specs.declared.Cell.{Cell}
use Rattle.id_tag.specs.declared.Context.{Context}
use Rattle.id_tag.specs.declared.Tag.{Tag}
use Rattle.id_tag.specs.declared.Structure.{Structure}
use Rattle.id_tag.specs.declared.Value.{Value}
use Rattle.id_tag.specs.declared.Value.TheVariants.{Signal, Int, Bool, Structure as Made, Address as At}
use Rattle.id_tag.specs.declared.Value.TheVariants.{Context as Opened, Continuation}
use Rattle.id_ops.specs.declared.Operands.{Operands}
use Rattle.id_ops.specs.declared.Operands.TheVariants.{One, Two}
use Rattle.id_ops.specs.declared.Fresh.{Fresh}
use Rattle.id_ops.specs.declared.Fired.{Fired}
use Rattle.id_ops.specs.declared.Fired.TheVariants.{Out, Side, Moved, Entered, Sent, Asked, Stored, Failed, Nothing}

-- the constant as a value
abbrev pub constant_value : Constant → Value
constant_value (constant.Int n) = Int n
constant_value (constant.Bool b) = Bool b

-- what an operator comes to, as a firing: what it gives goes out, and where it lacks a result nothing is sent
abbrev pub fired_by : Outcome → Fired
fired_by (Gives c) = Out (constant_value c)
fired_by (Fails k) = Failed k
fired_by Lacks = Nothing

-- `const`: a signal brings the constant out
abbrev pub fired_const : Constant → Operands → Fired
fired_const c (One Signal) = Out (constant_value c)
fired_const c _ = Nothing

-- an operator on one value: its result on what port 0 has, a number or a truth value
abbrev pub fired_unary : UnaryOp → Operands → Fired
fired_unary o (One (Int n)) = fired_by (result_of_unary o (constant.Int n))
fired_unary o (One (Bool b)) = fired_by (result_of_unary o (constant.Bool b))
fired_unary o _ = Nothing

-- an operator on two values: its result on what port 0 and port 1 have, two numbers or two truth values
abbrev pub fired_binary : Dyadic → Operands → Fired
fired_binary (class.Arithmetic o) (Two (Int a) (Int b)) = fired_by (calculated o a b)
fired_binary (class.Comparison o) (Two (Int a) (Int b)) = Out (Bool (compared o a b))
fired_binary (class.Truth o) (Two (Bool a) (Bool b)) = Out (Bool (decided o a b))
fired_binary o _ = Nothing

-- `merge`: a value of its kind goes out as it is
abbrev pub fired_merge : PortKind → Operands → Fired
fired_merge k (One v) = if same_kind (kind_of v) k then Out v else Nothing
fired_merge k (Two _ _) = Nothing

-- `switch`: a value of its kind goes to the side that the truth value names
abbrev pub fired_switch : PortKind → Operands → Fired
fired_switch k (Two (Bool b) v) = if same_kind (kind_of v) k then Side b v else Nothing
fired_switch k _ = Nothing

-- `back`: a value of its kind goes to the continuation
abbrev pub fired_back : PortKind → Operands → Fired
fired_back k (Two (Continuation t) v) = if same_kind (kind_of v) k then Sent t v else Nothing
fired_back k _ = Nothing

-- `enter`: a signal opens the next context of the element
abbrev pub fired_enter : Context → Operands → Fired
fired_enter next (One Signal) = Entered next
fired_enter next _ = Nothing

-- the tag of an instruction in a context, at iteration 0
abbrev pub tag_within : Context → ℕ → Tag
tag_within c n = record { context = c; iteration = 0; instr = n }

-- `send`: a value of its kind goes to the instruction that it names, in the context that came with it
abbrev pub fired_send : PortKind → ℕ → Operands → Fired
fired_send k n (Two (Opened c) v) = if same_kind (kind_of v) k then Sent (tag_within c n) v else Nothing
fired_send k n _ = Nothing

-- `next`: a value of its kind goes out at the next iteration
abbrev pub fired_next : PortKind → ℕ → Operands → Fired
fired_next k i (One v) = if same_kind (kind_of v) k then Moved (i + 1) v else Nothing
fired_next k i (Two _ _) = Nothing

-- `reset`: a value of its kind goes out at iteration 0
abbrev pub fired_reset : PortKind → Operands → Fired
fired_reset k (One v) = if same_kind (kind_of v) k then Moved 0 v else Nothing
fired_reset k (Two _ _) = Nothing

-- the next structure of the element, nested or not, with these bounds, where they are good
abbrev pub structure_in : Truth → Fresh → ℤ → ℤ → Fired
structure_in nested fresh lo hi =
    if are_good lo hi
    then Out (Made (record {
      element = fresh.element;
      serial = fresh.structure;
      low = lo;
      high = hi;
      nested = nested;
    }))
    else Failed BadBounds

-- `alloc`: two numbers make the next structure of the element, nested or not, with these as its bounds
abbrev pub fired_alloc : Truth → Fresh → Operands → Fired
fired_alloc nested fresh (Two (Int lo) (Int hi)) = structure_in nested fresh lo hi
fired_alloc nested fresh _ = Nothing

-- the structure's cell at an index, where that is inside its bounds
abbrev pub address_in : Structure → ℤ → Fired
address_in s i =
    if is_inside s.low s.high i then Out (At (record { structure = s; index = i })) else Failed OutOfBounds

-- `address`: a structure, nested or not, and a number make the address of that cell
abbrev pub fired_address : Truth → Operands → Fired
fired_address nested (Two (Made s) (Int i)) = if beq s.nested nested then address_in s i else Nothing
fired_address nested _ = Nothing

-- `fetch`: the address of a cell of a structure, nested or not, asks for the cell's value, for the instruction r under
-- the context and iteration of the operands
abbrev pub fired_fetch : Truth → ℕ → Tag → Operands → Fired
fired_fetch nested r t (One (At c)) =
    if beq c.structure.nested nested
    then Asked c (record { context = t.context; iteration = t.iteration; instr = r })
    else Nothing
fired_fetch nested r t _ = Nothing

-- whether a value is for the cells of structures that are nested or not, of which this cell is one
abbrev pub may_hold : Truth → Cell → Value → Truth
may_hold nested c v = beq c.structure.nested nested && same_kind (kind_of v) (held_kind nested)

-- `store`: a value of the kind that it holds goes to the cell at an address, and its origin is the tag of the operands
abbrev pub fired_store : Truth → Tag → Operands → Fired
fired_store nested t (Two (At c) v) = if may_hold nested c v then Stored c v t else Nothing
fired_store nested t _ = Nothing

-- what the operator does under a tag, with its operands and the next numbers of the element
abbrev pub fired : Op → Tag → Operands → Fresh → Fired
fired (Const c) t operands fresh = fired_const c operands
fired (Unary o) t operands fresh = fired_unary o operands
fired (Binary o) t operands fresh = fired_binary o operands
fired (Merge k) t operands fresh = fired_merge k operands
fired (Switch k) t operands fresh = fired_switch k operands
fired (Back k) t operands fresh = fired_back k operands
fired (Enter b r) t operands fresh = fired_enter fresh.context operands
fired (Send k n) t operands fresh = fired_send k n operands
fired (Next k) t operands fresh = fired_next k t.iteration operands
fired (Reset k) t operands fresh = fired_reset k operands
fired (Alloc nested) t operands fresh = fired_alloc nested fresh operands
fired (Address nested) t operands fresh = fired_address nested operands
fired (Fetch nested r) t operands fresh = fired_fetch nested r t operands
fired (Store nested) t operands fresh = fired_store nested t operands

-- the side to which a firing sends: the true side, unless a switch goes to the false side
abbrev pub side_of : Fired → Truth
side_of (Out v) = true
side_of (Side b v) = b
side_of (Moved i v) = true
side_of (Entered c) = true
side_of (Sent t v) = true
side_of (Asked c t) = true
side_of (Stored c v t) = true
side_of (Failed k) = true
side_of Nothing = true
