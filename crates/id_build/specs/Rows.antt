-- What each row makes: its instructions, and what feeds them, by cases on the row (docs/GRAPH.md, "Schemas").
use Rattle.std.specs.Prelude.{◌≡◌, ◌<◌, ℕ, zero, suc, ◌+◌, ◌-◌, ◌==◌, Bool as Truth, true}
use Rattle.std.specs.Prelude.{false, if◌then◌else◌, ◌&&◌}
use Rattle.std.specs.Prelude.{pos}
use Rattle.std.specs.Prelude.{List, [], ◌∷◌, ◌++◌, length, map, Option, None, Some, unwrap_or}
use Rattle.std.specs.Bool.{beq}
use Rattle.id_value.specs.declared.Kind.{Kind}
use Rattle.id_value.specs.declared.Kind.TheVariants as kind
use Rattle.id_value.specs.Kinds.{is_array}
use Rattle.id_value.specs.declared.BinaryOp.{BinaryOp}
use Rattle.id_value.specs.declared.BinaryOp.TheVariants as class
use Rattle.id_value.specs.declared.Comparison.TheVariants.{Eq, Ne, Lt, Le}
use Rattle.id_value.specs.declared.Arithmetic.TheVariants.{Add}
use Rattle.id_value.specs.declared.Constant.TheVariants as constant
use Rattle.id_value.specs.declared.Logic.TheVariants as logic
use Rattle.id_value.specs.declared.Truth.TheVariants.{Eqb, Neb, And, Or}
use Rattle.id_table.specs.declared.row.Region.{Region}
use Rattle.id_table.specs.declared.row.Node.{Node}
use Rattle.id_table.specs.declared.row.Node.TheVariants.{Head, Param, Literal, Name}
use Rattle.id_table.specs.declared.row.Node.TheVariants.{Unary as UnaryNode, Binary as BinaryNode}
use Rattle.id_table.specs.declared.row.Node.TheVariants.{Split, If, Enter, Arg, Call, Block, Binding, Def, Program}
use Rattle.id_table.specs.declared.row.Node.TheVariants.{Start, LoopHead, Variable, Entries, Switches, Turn, NextUse}
use Rattle.id_table.specs.declared.row.Node.TheVariants.{Next, Body, Reset, Loop, Array, Fetch, Address, Store}
use Rattle.id_table.specs.declared.row.Node.TheVariants.{Bounds, Carried, Within, Count, Index, Span}
use Rattle.id_table.specs.Rows.{at}
use Rattle.id_table.specs.Tables.{is_param}
use Rattle.id_table.specs.Turns.{params_at}
use Rattle.id_check.specs.declared.checked.Checked.{Checked}
use Rattle.id_check.specs.Programs as checked
use Rattle.id_check.specs.Programs.{binder, rows, place, region}
use Rattle.id_desugar.specs.Ends.{end_of}
pub use Rattle.id_desugar.specs.Ends.{next_of}
use Rattle.id_desugar.specs.Regions.{carried, first_variable, has_index, imports_of, nexts_of}
use Rattle.id_instr.specs.declared.instr.Op.{Op}
use Rattle.id_instr.specs.declared.instr.Op.TheVariants.{Const, Unary, Binary, Merge, Switch, Back}
use Rattle.id_instr.specs.declared.instr.Op.TheVariants.{Enter as EnterOp, Send, Next as NextOp, Reset as ResetOp}
use Rattle.id_instr.specs.declared.instr.Op.TheVariants.{Alloc, Address as AddressOp, Fetch as FetchOp}
use Rattle.id_instr.specs.declared.instr.Op.TheVariants.{Store as StoreOp}
use Rattle.id_instr.specs.declared.instr.Dyadic.{Dyadic}
use Rattle.id_instr.specs.declared.instr.Dyadic.TheVariants as dyadic
use Rattle.id_instr.specs.declared.instr.PortKind.{PortKind}
use Rattle.id_instr.specs.declared.instr.PortKind.TheVariants.{Signal, Int, Bool, Structure, Structures}
use Rattle.id_instr.specs.declared.dests.Port.{Port}
use Rattle.id_instr.specs.declared.dests.Port.TheVariants.{Zero, One}
use Rattle.id_build.specs.declared.arc.Origin.{Origin}
use Rattle.id_build.specs.declared.arc.Feed.{Feed}
use Rattle.id_build.specs.declared.arc.Form.{Form}
use Rattle.id_build.specs.declared.arc.Form.TheVariants.{Plain, EnterAt, SendTo, FetchAt}
use Rattle.id_build.specs.declared.arc.Piece.{Piece}

-- the node of a row
abbrev pub node : Checked → ℕ → Node
node P n = (at (rows P) n).node

-- the row of the head of the block that a row stands in
abbrev pub block : Checked → ℕ → ℕ
block P n = (at (rows P) n).block

-- the kind of the ports that take values of a kind
abbrev pub port_of : Kind → PortKind
port_of kind.Int = Int
port_of kind.Bool = Bool
port_of kind.Array = Structure
port_of kind.Nested = Structures

-- the kind of the ports that take the value of the row: each expression and binder of a checked program has a kind
abbrev pub port_at : Checked → ℕ → PortKind
port_at P n = port_of (unwrap_or (checked.kind P n) kind.Int)

-- whether the row, a fetch or a store's address, is about a cell that holds an array: one of a nested structure
abbrev pub holds_array : Checked → ℕ → Truth
holds_array P n = is_array (unwrap_or (checked.kind P n) kind.Int)

-- the instruction of a binary operator, where ports of this kind take the value of its left operand: there are two
-- instructions for each of `==` and `<>`
abbrev pub binary_op : BinaryOp → PortKind → Dyadic
binary_op (class.Arithmetic o) k = dyadic.Arithmetic o
binary_op (class.Comparison Eq) Bool = dyadic.Truth Eqb
binary_op (class.Comparison Ne) Bool = dyadic.Truth Neb
binary_op (class.Comparison o) k = dyadic.Comparison o
binary_op (class.Logic logic.And) k = dyadic.Truth And
binary_op (class.Logic logic.Or) k = dyadic.Truth Or

-- the result kind of the definition at a row of this node
abbrev pub result_of : Node → Kind
result_of (Def x h k b) = k
result_of _ = kind.Int

-- the body of the definition at a row of this node
abbrev pub body_of : Node → ℕ
body_of (Def x h k b) = b
body_of _ = 0

-- its head
abbrev pub head_of : Node → ℕ
head_of (Def x h k b) = h
head_of _ = 0

-- the head of the procedure that the `Enter` at the row e calls
abbrev pub called : Checked → ℕ → ℕ
called P e = head_of (node P (unwrap_or (binder P e) 0))

-- the row b, if a parameter stands there, and else row 0
abbrev pub param_at : Checked → ℕ → ℕ
param_at P b = if is_param (node P b) then b else 0

-- the row of its parameter of this index: the parameters of a definition stand right behind its head
abbrev pub param_of : Checked → ℕ → ℕ → ℕ
param_of P e i = param_at P (called P e + 1 + i)

-- the row of the entries of the names that the loop with this head imports: they are behind those of its variables
abbrev pub entries_row : Checked → ℕ → ℕ
entries_row P h = first_variable P h + length (nexts_of P h)

-- an entry of a block: the merge that is this part of this row, which takes the values of this binder
pub record Entry : Type 0 where
  pub binder : ℕ
  pub row : ℕ
  pub part : ℕ

-- the entry of a parameter, or of what a loop carries on: the first part of its own row
abbrev pub param_entry : ℕ → Entry
param_entry x = record { binder = x; row = x; part = 0 }

-- the entries of the variables with these `next` statements, from the row v on
abbrev pub variable_entries : ℕ → List ℕ → List Entry
variable_entries v [] = []
variable_entries v (m ∷ ms) = record { binder = m; row = v; part = 0 } ∷ variable_entries (v + 1) ms

-- those of imports, parts of the row e from k on
abbrev pub import_entries : ℕ → ℕ → List ℕ → List Entry
import_entries e k [] = []
import_entries e k (b ∷ bs) = record { binder = b; row = e; part = k } ∷ import_entries e (k + 1) bs

-- the entries of a loop: what it carries on beside its variables, these in the order of their `next` statements, and
-- then its imports
abbrev pub loop_entries : Checked → ℕ → List Entry
loop_entries P h =
    map param_entry (carried P h)
    ++ (variable_entries (first_variable P h) (nexts_of P h)
    ++ import_entries (entries_row P h) 0 (imports_of P h))

-- the entries of the block whose head is at the row h with this node: of a procedure its parameters
abbrev pub entries_by : Checked → ℕ → Node → List Entry
entries_by P h (LoopHead s) = loop_entries P h
entries_by P h _ = map param_entry (params_at (rows P) h)

-- the entries of the block whose head is at the row h
abbrev pub entries : Checked → ℕ → List Entry
entries P h = entries_by P h (node P h)

-- the switches of the loop that ends at a row of this node
abbrev pub switches_at : Node → ℕ
switches_at (Loop h w l) = w
switches_at _ = 0

-- the row of what hands the trigger and the imports of the loop with this head on: right behind its switches, or, where
-- it has an index, behind what counts
abbrev pub turn_row : Checked → ℕ → ℕ
turn_row P h = switches_at (node P (end_of P h)) + (if has_index P h then 2 else 1)

-- the row of the `NextUse` of the `next` statement at a row of this node
abbrev pub outer_at : Node → ℕ
outer_at (Next x k o v) = o
outer_at _ = 0

-- the binder of the first value of the variable of the `next` statement at the row m: it has one in a checked program
abbrev pub first_binder : Checked → ℕ → ℕ
first_binder P m = unwrap_or (binder P (outer_at (node P m))) 0

-- the binders whose values go to the entries of the loop with this head, in order
abbrev pub entering : Checked → ℕ → List ℕ
entering P h = map (first_binder P) (nexts_of P h) ++ imports_of P h

-- the piece of this form at this place
abbrev pub piece : Form → ℕ → Piece
piece f e = record { form = f; place = e }

-- the operator of a form, by the numbers of instructions
abbrev pub op_by : (ℕ → ℕ → ℕ) → Form → Op
op_by number (Plain o) = o
op_by number (EnterAt h c) = EnterOp (number h 0) (number c 0)
op_by number (SendTo k n j) = Send k (number n j)
op_by number (FetchAt nested n) = FetchOp nested (number n 2)

-- an instruction of this operator at a place for each of these binders, for values of its kind
abbrev pub for_each : Checked → (PortKind → Op) → ℕ → List ℕ → List Piece
for_each P f e [] = []
for_each P f e (b ∷ bs) = piece (Plain (f (port_at P b))) e ∷ for_each P f e bs

-- the switches of imports at a place, one each
abbrev pub switches : Checked → ℕ → List ℕ → List Piece
switches P e bs = for_each P Switch e bs

-- the `send` at a place to an entry
abbrev pub send_to : Checked → ℕ → Entry → Piece
send_to P e q = piece (SendTo (port_at P q.binder) q.row q.part) e

-- the instructions of the row n at this place with this node, in order
abbrev pub made_of : Checked → ℕ → ℕ → Node → List Piece
made_of P n e Head =
    piece (Plain (Merge Signal)) e ∷ piece (Plain (Back (port_of (result_of (node P (end_of P n)))))) e ∷ []
made_of P n e (Param x k) = piece (Plain (Merge (port_at P n))) e ∷ []
made_of P n e (Literal v) = piece (Plain (Const v)) e ∷ []
made_of P n e (Name x) = []
made_of P n e (UnaryNode o a) = piece (Plain (Unary o)) e ∷ []
made_of P n e (BinaryNode o a b) = piece (Plain (Binary (binary_op o (port_at P a)))) e ∷ []
made_of P n e (Split t) = piece (Plain (Switch Signal)) e ∷ switches P e (imports_of P n)
made_of P n e (If s x y) = piece (Plain (Merge (port_at P n))) e ∷ []
made_of P n e (Enter x) = piece (EnterAt (called P n) (end_of P n)) e ∷ []
made_of P n e (Arg s i v) = send_to P e (param_entry (param_of P s i)) ∷ []
made_of P n e (Call s c) = piece (Plain (Merge (port_at P n))) e ∷ []
made_of P n e (Bounds a b) =
    piece (Plain (Binary (dyadic.Comparison Le))) e ∷ piece (Plain (Switch Int)) e ∷ []
made_of P n e Start = piece (EnterAt (n + 1) (end_of P (n + 1))) e ∷ map (send_to P e) (loop_entries P (n + 1))
made_of P n e (LoopHead s) =
    piece (Plain (Merge Signal)) e ∷ piece (Plain (Back (port_at P (end_of P n)))) e ∷ []
made_of P n e (Carried k) = piece (Plain (Merge (port_of k))) e ∷ []
made_of P n e Variable = piece (Plain (Merge (port_at P (next_of P n)))) e ∷ []
made_of P n e Entries = for_each P Merge e (imports_of P (block P n))
made_of P n e (Within f) = []
made_of P n e (Switches t) = piece (Plain (Switch Signal)) e ∷ switches P e (imports_of P n)
made_of P n e Count =
    piece (Plain (Binary (dyadic.Comparison Lt))) e ∷ piece (Plain (Switch Signal)) e ∷ piece (Plain (Switch Int)) e
    ∷ piece (Plain (Const (constant.Int (pos 1)))) e ∷ piece (Plain (Binary (dyadic.Arithmetic Add))) e ∷ []
made_of P n e Turn =
    let h = block P n in piece (Plain (NextOp Signal)) e ∷ for_each P NextOp e (carried P h ++ imports_of P h)
made_of P n e (Index x) = []
made_of P n e (NextUse x) = []
made_of P n e (Next x k o v) = piece (Plain (NextOp (port_at P n))) e ∷ []
made_of P n e Body = []
made_of P n e (Reset v) = piece (Plain (ResetOp (port_at P v))) e ∷ []
made_of P n e Span = []
made_of P n e (Loop h w l) = piece (Plain (Merge (port_at P n))) e ∷ []
made_of P n e (Array nested a b) = piece (Plain (Alloc nested)) e ∷ []
made_of P n e (Fetch t i) = piece (Plain (AddressOp (holds_array P n))) e ∷ piece (FetchAt (holds_array P n) n) e
    ∷ piece (Plain (Merge (port_at P n))) e ∷ []
made_of P n e (Address t i) = piece (Plain (AddressOp (holds_array P n))) e ∷ []
made_of P n e (Store a v) = piece (Plain (StoreOp (holds_array P a))) e ∷ []
made_of P n e (Block b) = []
made_of P n e (Binding x a) = piece (Plain (Merge (port_at P n))) e ∷ []
made_of P n e (Def x h k b) = []
made_of P n e Program = piece (Plain (Merge (port_of (result_of (node P P.main))))) (place P P.main) ∷ []

-- the instructions of the row n
abbrev pub made : Checked → ℕ → List Piece
made P n = made_of P n (place P n) (node P n)

-- what the first instruction of a row gives
abbrev pub output : ℕ → Origin
output n = record { row = n; part = 0; side = true }

-- what a fetch at the row n gives: its last instruction, to which the reply comes
abbrev pub reply : ℕ → Origin
reply n = record { row = n; part = 2; side = true }

-- what turns a region on: the first instruction of its head gives it, on the region's side
abbrev pub trigger_of : Region → Origin
trigger_of r = record { row = r.head; part = 0; side = r.side }

-- whether two regions are one
abbrev pub same_region : Region → Region → Truth
same_region r q = (r.head == q.head) && beq r.side q.side

-- how many stand before it
abbrev pub slot_of : List ℕ → ℕ → ℕ
slot_of [] b = 0
slot_of (x ∷ xs) b = if x == b then 0 else slot_of xs b + 1

-- the row of the label of the binder at the row b, in the block h with this node: a loop's variable has it at its
-- entry, and so has its index, at the first one
abbrev pub label_by : ℕ → ℕ → Node → ℕ
label_by h b (Next x k o v) = h + 1 + k
label_by h b (Index x) = h + 1
label_by h b _ = b

-- the row of the label of a binder
abbrev pub label : Checked → ℕ → ℕ
label P b = label_by (block P b) b (node P b)

-- the row in whose region a binder has what its label gives: that of the label, but of an index its own, since the
-- entry of an index has a value in no other iteration than those that go on
abbrev pub home_by : ℕ → ℕ → Node → ℕ
home_by h b (Next x k o v) = h + 1 + k
home_by h b _ = b

-- the row in whose region the binder at the row b has what its label gives
abbrev pub home : Checked → ℕ → ℕ
home P b = home_by (block P b) b (node P b)

-- where a region's head, of this node, hands in the value of a binder: a loop's by an entry, else by the switch of the
-- binder on the region's side
abbrev pub handed_by : Checked → Region → ℕ → Node → Origin
handed_by P r b (LoopHead s) =
    record { row = entries_row P r.head; part = slot_of (imports_of P r.head) b; side = true }
handed_by P r b _ = record { row = r.head; part = slot_of (imports_of P r.head) b + 1; side = r.side }

-- where the value of a binder comes from in a region: from its label in the binder's own, else from what the head hands
-- in
abbrev pub name_in : Checked → Region → ℕ → Origin
name_in P r b =
    if same_region (region P (home P b)) r
    then output (label P b)
    else handed_by P r b (node P r.head)

-- where the value of a name comes from that has this binder
abbrev pub named_in : Checked → Region → ℕ → Option ℕ → Origin
named_in P r v None = output v
named_in P r v (Some b) = name_in P r b

-- where the value of the expression at the row v comes from, which gives its own and stands in this region with this
-- node
abbrev pub origin_of : Checked → ℕ → Region → Node → Origin
origin_of P v r (Name x) = named_in P r v (checked.binder P v)
origin_of P v r (Fetch t i) = reply v
origin_of P v r _ = output v

-- where the value of the expression at a row comes from
abbrev pub origin : Checked → ℕ → Origin
origin P e = let v = (at (rows P) e).value in origin_of P v (region P v) (node P v)

-- what this origin sends to this port of a part
abbrev pub feed : Origin → ℕ → Port → Feed
feed s k p = record { origin = s; part = k; port = p }

-- what feeds the switches of imports, or the sends to the entries of a loop, the first of which is the part k: the
-- predicate's value, or the loop's context, and each name as the region r has it
abbrev pub import_feeds : Checked → Origin → Region → ℕ → List ℕ → List Feed
import_feeds P s r k [] = []
import_feeds P s r k (b ∷ bs) = feed s k Zero ∷ feed (name_in P r b) k One ∷ import_feeds P s r (k + 1) bs

-- this part of a row, on its true side
abbrev pub part_of : ℕ → ℕ → Origin
part_of n k = record { row = n; part = k; side = true }

-- what feeds the entries of a loop's imports, from the part k on, where this row hands them on, from its part j on
abbrev pub entry_feeds : ℕ → ℕ → ℕ → List ℕ → List Feed
entry_feeds n j k [] = []
entry_feeds n j k (b ∷ bs) = feed (part_of n j) k Zero ∷ entry_feeds n (j + 1) (k + 1) bs

-- what feeds the `send`s of the loop whose `Start` is at the row n to the entries of what it carries on: of an index
-- the first one, where there is one, of its upper bound that, and of the flag whether there is a first one
abbrev pub bounds_feeds : Checked → ℕ → Node → List Feed
bounds_feeds P n (Bounds a b) =
    feed (output n) 1 Zero ∷ feed (part_of (n - 1) 1) 1 One ∷ feed (output n) 2 Zero ∷ feed (origin P b) 2 One
    ∷ feed (output n) 3 Zero ∷ feed (output (n - 1)) 3 One ∷ []
bounds_feeds P n _ = []

-- what feeds the parts of the row n, in the region r, that hand what the loop with the head h carries on: of an index
-- the next one, of its upper bound that, and of the flag whether there is a next one
abbrev pub carried_feeds : Checked → ℕ → Region → ℕ → List Feed
carried_feeds P n r h =
    if has_index P h
    then (feed (part_of (n - 1) 4) 1 Zero ∷ feed (name_in P r (h + 2)) 2 Zero ∷ feed (output (n - 1)) 3 Zero ∷ [])
    else []

-- what feeds the parts that hand them on, from the part k on: each name as the region r has it
abbrev pub turn_feeds : Checked → Region → ℕ → List ℕ → List Feed
turn_feeds P r k [] = []
turn_feeds P r k (b ∷ bs) = feed (name_in P r b) k Zero ∷ turn_feeds P r (k + 1) bs

-- what feeds the instructions of the row n in this region with this node
abbrev pub feeds_of : Checked → ℕ → Region → Node → List Feed
feeds_of P n r Head = feed (origin P (body_of (node P (end_of P n)))) 1 One ∷ []
feeds_of P n r (Param x k) = []
feeds_of P n r (Literal v) = feed (trigger_of r) 0 Zero ∷ []
feeds_of P n r (Name x) = []
feeds_of P n r (UnaryNode o a) = feed (origin P a) 0 Zero ∷ []
feeds_of P n r (BinaryNode o a b) = feed (origin P a) 0 Zero ∷ feed (origin P b) 0 One ∷ []
feeds_of P n r (Split t) =
    feed (origin P t) 0 Zero ∷ feed (trigger_of r) 0 One ∷ import_feeds P (origin P t) r 1 (imports_of P n)
feeds_of P n r (If s x y) = feed (origin P x) 0 Zero ∷ feed (origin P y) 0 Zero ∷ []
feeds_of P n r (Enter x) = feed (trigger_of r) 0 Zero ∷ []
feeds_of P n r (Arg s i v) = feed (output s) 0 Zero ∷ feed (origin P v) 0 One ∷ []
feeds_of P n r (Call s c) = []
feeds_of P n r (Bounds a b) =
    feed (origin P a) 0 Zero ∷ feed (origin P b) 0 One ∷ feed (output n) 1 Zero ∷ feed (origin P a) 1 One ∷ []
feeds_of P n r Start =
    feed (trigger_of r) 0 Zero ∷ bounds_feeds P n (node P (n - 1))
    ++ import_feeds P (output n) r (1 + length (carried P (n + 1))) (entering P (n + 1))
feeds_of P n r (LoopHead s) = feed (output (turn_row P n)) 0 Zero ∷ feed (output (end_of P n - 2)) 1 One ∷ []
feeds_of P n r (Carried k) = let h = block P n in feed (part_of (turn_row P h) (n - h)) 0 Zero ∷ []
feeds_of P n r Variable = feed (output (next_of P n)) 0 Zero ∷ []
feeds_of P n r Entries =
    let h = block P n in entry_feeds (turn_row P h) (1 + length (carried P h)) 0 (imports_of P h)
feeds_of P n r (Within f) = []
feeds_of P n r (Switches t) =
    feed (origin P t) 0 Zero ∷ feed (trigger_of r) 0 One ∷ import_feeds P (origin P t) r 1 (imports_of P n)
feeds_of P n r Count =
    let x = output (block P n + 1) in
    feed x 0 Zero ∷ feed (name_in P r (block P n + 2)) 0 One
    ∷ feed (output n) 1 Zero ∷ feed (trigger_of r) 1 One ∷ feed (output n) 2 Zero ∷ feed x 2 One
    ∷ feed (part_of n 1) 3 Zero ∷ feed (part_of n 2) 4 Zero ∷ feed (part_of n 3) 4 One ∷ []
feeds_of P n r Turn =
    let h = block P n in
    feed (trigger_of r) 0 Zero ∷ carried_feeds P n r h ++ turn_feeds P r (1 + length (carried P h)) (imports_of P h)
feeds_of P n r (Index x) = []
feeds_of P n r (NextUse x) = []
feeds_of P n r (Next x k o v) = feed (origin P v) 0 Zero ∷ []
feeds_of P n r Body = []
feeds_of P n r (Reset v) = feed (origin P v) 0 Zero ∷ []
feeds_of P n r Span = []
feeds_of P n r (Loop h w l) = []
feeds_of P n r (Array nested a b) = feed (origin P a) 0 Zero ∷ feed (origin P b) 0 One ∷ []
feeds_of P n r (Fetch t i) = feed (origin P t) 0 Zero ∷ feed (origin P i) 0 One ∷ feed (output n) 1 Zero ∷ []
feeds_of P n r (Address t i) = feed (origin P t) 0 Zero ∷ feed (origin P i) 0 One ∷ []
feeds_of P n r (Store a v) = feed (output a) 0 Zero ∷ feed (origin P v) 0 One ∷ []
feeds_of P n r (Block b) = []
feeds_of P n r (Binding x a) = feed (origin P a) 0 Zero ∷ []
feeds_of P n r (Def x h k b) = []
feeds_of P n r Program = []

-- what feeds the row n
abbrev pub feeds : Checked → ℕ → List Feed
feeds P n = feeds_of P n (region P n) (node P n)

-- the number of instructions that the schemas give the first n rows
abbrev pub size_below : Checked → ℕ → ℕ
size_below P zero = 0
size_below P (suc n) = size_below P n + length (made P n)

-- the number of instructions that the schemas give the program
abbrev pub size : Checked → ℕ
size P = size_below P (length (rows P))

-- whether a row of this node makes as many instructions whatever is imported: all but the switches of a conditional or
-- a loop, a loop's entries, and what sends to these or hands on what came to them
abbrev pub is_plain : Node → Truth
is_plain (Split t) = false
is_plain Start = false
is_plain Entries = false
is_plain (Switches t) = false
is_plain Turn = false
is_plain _ = true

-- the program has no conditional and no loop: each of its rows makes as many instructions whatever is imported
abbrev pub HasNoSplit : Checked → Type 0
HasNoSplit P = (n : ℕ) → n < length (rows P) → is_plain (node P n) ≡ true

-- the last row, which makes the answer's instruction
abbrev pub answer_row : Checked → ℕ
answer_row P = length (rows P) - 1
