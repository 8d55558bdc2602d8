-- What is true of each table of parts (docs/GRAPH.md, "Parts").
use Rattle.std.specs.Prelude.{◌≡◌, ◌⊎◌, ◌<◌, ◌≤◌, ℕ, ◌&&◌, Bool, true, false, List, length}
use Rattle.std.specs.Prelude.{nat_lt, nat_le}
use Rattle.std.specs.Prelude.{Option, None, Some}
use Rattle.id_table.specs.declared.row.Row.{Row}
use Rattle.id_table.specs.declared.row.Node.{Node}
use Rattle.id_table.specs.declared.row.Node.TheVariants.{Head, Param, Literal, Name, Unary, Binary}
use Rattle.id_table.specs.declared.row.Node.TheVariants.{Split, If, Enter, Arg, Call, Block, Binding, Def, Program}
use Rattle.id_table.specs.declared.row.Node.TheVariants.{Start, LoopHead, Variable, Entries, Switches, Turn, NextUse}
use Rattle.id_table.specs.declared.row.Node.TheVariants.{Next, Body, Reset, Loop, Array, Fetch, Address, Store}
use Rattle.id_table.specs.declared.row.Node.TheVariants.{Bounds, Carried, Within, Count, Index, Span}
use Rattle.id_table.specs.Rows.{at}

-- the node names the row a as its part
abbrev pub HasPart : Node → ℕ → Type 0
HasPart (Unary o b) a = a ≡ b
HasPart (Binary o b c) a = (a ≡ b) ⊎ (a ≡ c)
HasPart (Split t) a = a ≡ t
HasPart (If s x y) a = (a ≡ s) ⊎ ((a ≡ x) ⊎ (a ≡ y))
HasPart (Arg e i v) a = (a ≡ e) ⊎ (a ≡ v)
HasPart (Call e c) a = a ≡ e
HasPart (Bounds b c) a = (a ≡ b) ⊎ (a ≡ c)
HasPart (Switches t) a = a ≡ t
HasPart (Next x k o v) a = (a ≡ o) ⊎ (a ≡ v)
HasPart (Reset v) a = a ≡ v
HasPart (Loop h w l) a = (a ≡ h) ⊎ ((a ≡ w) ⊎ (a ≡ l))
HasPart (Array nested b c) a = (a ≡ b) ⊎ (a ≡ c)
HasPart (Fetch t i) a = (a ≡ t) ⊎ (a ≡ i)
HasPart (Address t i) a = (a ≡ t) ⊎ (a ≡ i)
HasPart (Store b v) a = (a ≡ b) ⊎ (a ≡ v)
HasPart (Block b) a = a ≡ b
HasPart (Binding x b) a = a ≡ b
HasPart (Def x h k b) a = (a ≡ h) ⊎ (a ≡ b)
HasPart _ a = ⊥

-- such a part that is an expression: any but the head of a definition, the split of a conditional, the `Enter` of a
-- call, the use of a `next`, what a loop's switches follow, its head and its switches, and the `Address` of a store
abbrev pub HasOperand : Node → ℕ → Type 0
HasOperand (Def x h k b) a = a ≡ b
HasOperand (If s x y) a = (a ≡ x) ⊎ (a ≡ y)
HasOperand (Arg e i v) a = a ≡ v
HasOperand (Call e c) a = ⊥
HasOperand (Switches t) a = ⊥
HasOperand (Next x k o v) a = a ≡ v
HasOperand (Loop h w l) a = a ≡ l
HasOperand (Store b v) a = a ≡ v
HasOperand n a = HasPart n a

-- such a part that stands where the node does: any but the arms of a conditional and the parts of a loop
abbrev pub HasNear : Node → ℕ → Type 0
HasNear (If s x y) a = a ≡ s
HasNear (Loop h w l) a = ⊥
HasNear n a = HasPart n a

-- the row may stand at the number i: its parts stand before it, from its first row on
pub record Formed (i : ℕ) (r : Row) : Type 0 where
  pub first : r.first ≤ i
  pub parts : (a : ℕ) → HasPart r.node a → (r.first ≤ a) × (a < i)

-- each row has its parts before it
pub record IsFormed (R : List Row) : Type 0 where
  pub each : (i : ℕ) → i < length R → Formed i (at R i)

-- a block's head stands before its other rows, and a loop's `Start` before its head
pub record AreInBlocks (R : List Row) : Type 0 where
  pub head : (i : ℕ) → i < length R → (at R i).block ≤ i
  pub start : (h s : ℕ) → h < length R → (at R h).node ≡ LoopHead s → s < h

-- a row within the interval of a later one has its own interval within it
pub record IsNested (R : List Row) : Type 0 where
  pub each : (i j : ℕ) → i < j → j < length R → (at R j).first ≤ i → (at R j).first ≤ (at R i).first

-- whether a thing of the text stands at a row of this node, and no marker
abbrev pub is_thing : Node → Bool
is_thing Head = false
is_thing (Split t) = false
is_thing (Enter x) = false
is_thing (Arg e i v) = false
is_thing Program = false
is_thing (Bounds b c) = false
is_thing Start = false
is_thing (LoopHead t) = false
is_thing (Carried k) = false
is_thing Variable = false
is_thing Entries = false
is_thing (Within f) = false
is_thing (Switches t) = false
is_thing Count = false
is_thing Turn = false
is_thing (NextUse x) = false
is_thing Body = false
is_thing (Reset v) = false
is_thing Span = false
is_thing (Address t i) = false
is_thing _ = true

-- no two things have one place
pub record AreApart (R : List Row) : Type 0 where
  pub apart : (i j : ℕ) → i < length R → j < length R → is_thing (at R i).node ≡ true
      → is_thing (at R j).node ≡ true → (at R i).place ≡ (at R j).place → i ≡ j

-- the number of the name that stands in a row of this node
abbrev pub name_of : Node → Option ℕ
name_of (Name x) = Some x
name_of (Enter x) = Some x
name_of (Param x k) = Some x
name_of (Binding x a) = Some x
name_of (Def x h k b) = Some x
name_of (NextUse x) = Some x
name_of (Next x k o v) = Some x
name_of (Index x) = Some x
name_of _ = None

-- the number of each row's name is that of one of the names
pub record AreNamed (R : List Row) (names : List (List ℕ)) : Type 0 where
  pub each : (i x : ℕ) → i < length R → name_of (at R i).node ≡ Some x → x < length names

-- whether an expression stands at a row of this node
abbrev pub is_expression : Node → Bool
is_expression (Literal v) = true
is_expression (Name x) = true
is_expression (Unary o a) = true
is_expression (Binary o a b) = true
is_expression (If s x y) = true
is_expression (Call e c) = true
is_expression (Loop h w l) = true
is_expression (Array nested a b) = true
is_expression (Fetch t i) = true
is_expression (Block b) = true
is_expression _ = false

-- whether what stands at a row of this node can be On: an expression or a store
abbrev pub can_be_on : Node → Bool
can_be_on (Store a v) = true
can_be_on n = is_expression n

-- whether a value gets its name at a row of this node: a loop's variable gets its own at its `next` statement
abbrev pub is_binder : Node → Bool
is_binder (Param x k) = true
is_binder (Binding x a) = true
is_binder (Next x k o v) = true
is_binder (Index x) = true
is_binder _ = false

-- whether the index of a loop stands at a row of this node
abbrev pub is_index : Node → Bool
is_index (Index x) = true
is_index _ = false

-- whether the entry of something that a `for` carries on stands at a row of this node
abbrev pub is_carried : Node → Bool
is_carried (Carried k) = true
is_carried _ = false

-- whether a row of this node is what a `for` has in the place of a predicate
abbrev pub is_within : Node → Bool
is_within (Within f) = true
is_within _ = false

-- whether a binding stands at a row of this node
abbrev pub is_binding : Node → Bool
is_binding (Binding x a) = true
is_binding _ = false

-- whether a store stands at a row of this node
abbrev pub is_store : Node → Bool
is_store (Store a v) = true
is_store _ = false

-- whether a statement ends at a row of this node that is no `next`
abbrev pub is_statement : Node → Bool
is_statement (Binding x a) = true
is_statement (Store a v) = true
is_statement _ = false

-- whether the address of a store stands at a row of this node
abbrev pub is_address : Node → Bool
is_address (Address t i) = true
is_address _ = false

-- whether a parameter stands at a row of this node
abbrev pub is_param : Node → Bool
is_param (Param x k) = true
is_param _ = false

-- whether a block of the text stands at a row of this node
abbrev pub is_block : Node → Bool
is_block (Block b) = true
is_block _ = false

-- whether the arms of a conditional begin behind a row of this node
abbrev pub is_split : Node → Bool
is_split (Split t) = true
is_split _ = false

-- whether a conditional stands at a row of this node
abbrev pub is_if : Node → Bool
is_if (If s x y) = true
is_if _ = false

-- whether a call begins at a row of this node
abbrev pub is_enter : Node → Bool
is_enter (Enter x) = true
is_enter _ = false

-- whether the marker behind an argument of a call stands at a row of this node
abbrev pub is_arg : Node → Bool
is_arg (Arg e i v) = true
is_arg _ = false

-- whether a call stands at a row of this node
abbrev pub is_call : Node → Bool
is_call (Call e c) = true
is_call _ = false

-- whether a definition begins at a row of this node
abbrev pub is_head : Node → Bool
is_head Head = true
is_head _ = false

-- whether a block of the graph begins at a row of this node
abbrev pub begins_block : Node → Bool
begins_block Head = true
begins_block (LoopHead t) = true
begins_block _ = false

-- whether statements stand right in a row of this node
abbrev pub has_statements : Node → Bool
has_statements (Block b) = true
has_statements Body = true
has_statements _ = false

-- whether a `next` statement stands at a row of this node
abbrev pub is_next : Node → Bool
is_next (Next x k o v) = true
is_next _ = false

-- whether the entry of a loop's variable stands at a row of this node
abbrev pub is_variable : Node → Bool
is_variable Variable = true
is_variable _ = false

-- whether a loop stands at a row of this node
abbrev pub is_loop : Node → Bool
is_loop (Loop h w l) = true
is_loop _ = false

-- whether a loop's body begins behind a row of this node
abbrev pub is_switches : Node → Bool
is_switches (Switches t) = true
is_switches _ = false

-- whether a row of this node is a part of a loop that stands in the loop's block
abbrev pub is_in_loop : Node → Bool
is_in_loop (LoopHead t) = true
is_in_loop (Carried k) = true
is_in_loop Variable = true
is_in_loop Entries = true
is_in_loop (Within f) = true
is_in_loop (Switches t) = true
is_in_loop Count = true
is_in_loop Turn = true
is_in_loop (Index x) = true
is_in_loop (NextUse x) = true
is_in_loop (Next x k o v) = true
is_in_loop Body = true
is_in_loop (Reset v) = true
is_in_loop _ = false

-- whether a row of this node always stands right in the region of its block
abbrev pub is_top : Node → Bool
is_top Head = true
is_top (Param x k) = true
is_top (Def x h k b) = true
is_top (LoopHead t) = true
is_top (Carried k) = true
is_top Variable = true
is_top Entries = true
is_top (Within f) = true
is_top (Switches t) = true
is_top _ = false

-- whether a definition stands at a row of this node
abbrev pub is_def : Node → Bool
is_def (Def x h k b) = true
is_def _ = false

-- whether the row i stands in the row s
abbrev pub around : List Row → ℕ → ℕ → Bool
around R s i = nat_le (at R s).first i && nat_lt i s
