-- The kinds of rows: each is found by one chain (docs/LANGUAGE.md, "Kinds").
use Rattle.std.specs.Prelude.{◌≡◌, ℕ, ◌<◌, List, length, Option, None, Some, unwrap_or}
use Rattle.id_value.specs.declared.Kind.{Kind}
use Rattle.id_value.specs.declared.Kind.TheVariants.{Int, Bool}
use Rattle.id_value.specs.Kinds.{array_kind, element_kind}
use Rattle.id_value.specs.declared.Constant.{Constant}
use Rattle.id_value.specs.declared.Constant.TheVariants as constant
use Rattle.id_value.specs.declared.UnaryOp.{UnaryOp}
use Rattle.id_value.specs.declared.UnaryOp.TheVariants as before
use Rattle.id_value.specs.declared.BinaryOp.{BinaryOp}
use Rattle.id_value.specs.declared.BinaryOp.TheVariants as class
use Rattle.id_table.specs.declared.row.Row.{Row}
use Rattle.id_table.specs.declared.row.Node.{Node}
use Rattle.id_table.specs.declared.row.Node.TheVariants.{Head, Param, Literal, Name, Unary, Binary}
use Rattle.id_table.specs.declared.row.Node.TheVariants.{Split, If, Enter, Arg, Call, Block, Binding, Def, Program}
use Rattle.id_table.specs.declared.row.Node.TheVariants.{Start, LoopHead, Variable, Entries, Switches, Turn, NextUse}
use Rattle.id_table.specs.declared.row.Node.TheVariants.{Next, Body, Reset, Loop, Fetch, Address, Store}
use Rattle.id_table.specs.declared.row.Node.TheVariants.{Bounds, Carried, Count, Index, Span}
use Rattle.id_table.specs.declared.row.Node.TheVariants as node
use Rattle.id_table.specs.Rows.{at}
use Rattle.id_check.specs.Scopes.{user_of}
pub use Rattle.id_check.specs.declared.kinds.Link.{Link}
pub use Rattle.id_check.specs.declared.kinds.Link.TheVariants.{Fixed, To, Within, Nowhere}

-- the kind of a literal
abbrev pub constant_kind : Constant → Kind
constant_kind (constant.Int n) = Int
constant_kind (constant.Bool b) = Bool

-- the kind of an operator before its operand, and of its operand
abbrev pub unary_kind : UnaryOp → Kind
unary_kind before.Neg = Int
unary_kind before.Not = Bool

-- the kind of an operator between its operands
abbrev pub binary_kind : BinaryOp → Kind
binary_kind (class.Arithmetic o) = Int
binary_kind (class.Comparison o) = Bool
binary_kind (class.Logic o) = Bool

-- a name's chain goes on to its binder, if it has one
abbrev pub link_of_name : Option ℕ → Link
link_of_name None = Nowhere
link_of_name (Some b) = To b

-- where the chain of a row goes on, which has this binder if it is about a name: that of a call to its procedure's
-- definition, that of a loop's variable to the use of the same name outside, that of a loop to its last expression, and
-- that of a fetch, or of a store's address, to its target, of whose elements it has the kind
abbrev pub link_of : Option ℕ → Node → Link
link_of o Head = Nowhere
link_of o (Param x k) = Fixed k
link_of o (Literal v) = Fixed (constant_kind v)
link_of o (Name x) = link_of_name o
link_of o (Unary p a) = Fixed (unary_kind p)
link_of o (Binary p a b) = Fixed (binary_kind p)
link_of o (Split t) = Nowhere
link_of o (If s x y) = To x
link_of o (Enter x) = Nowhere
link_of o (Arg e i v) = Nowhere
link_of o (Call e c) = link_of_name o
link_of o (Bounds a b) = Nowhere
link_of o Start = Nowhere
link_of o (LoopHead s) = Nowhere
link_of o (Carried k) = Fixed k
link_of o Variable = Nowhere
link_of o Entries = Nowhere
link_of o (node.Within f) = Fixed Bool
link_of o (Switches t) = Nowhere
link_of o Count = Nowhere
link_of o Turn = Nowhere
link_of o (Index x) = Fixed Int
link_of o (NextUse x) = link_of_name o
link_of o (Next x k u v) = To u
link_of o Body = Nowhere
link_of o (Reset v) = Nowhere
link_of o Span = Nowhere
link_of o (Loop h w l) = To l
link_of o (node.Array nested a b) = Fixed (array_kind nested)
link_of o (Fetch t i) = Within t
link_of o (Address t i) = Within t
link_of o (Store a v) = Nowhere
link_of o (Block b) = To b
link_of o (Binding x a) = To a
link_of o (Def x h k b) = Fixed k
link_of o Program = Nowhere

-- where the chain of the row goes on, where β gives the names their binders
abbrev pub link_at : List Row → (ℕ → Option ℕ) → ℕ → Link
link_at R β i = link_of (β (user_of i (at R i).node)) (at R i).node

-- the kind of what an element holds of an array of this kind, and `int` where there is none
abbrev pub kind_within : Option Kind → Kind
kind_within o = element_kind (unwrap_or o Int)

-- the chain of the row i ends so, where l says how each goes on
pub data EndsIn (l : ℕ → Link) : ℕ → Option Kind → Type 0 where
  in_kind : {i : ℕ} (k : Kind) → l i ≡ Fixed k → EndsIn l i (Some k)
  in_nothing : {i : ℕ} → l i ≡ Nowhere → EndsIn l i None
  further : {i : ℕ} {o : Option Kind} (j : ℕ) → l i ≡ To j → EndsIn l j o → EndsIn l i o
  within : {i : ℕ} {o : Option Kind} (j : ℕ) → l i ≡ Within j → EndsIn l j o
      → EndsIn l i (Some (kind_within o))

-- κ gives each row its kind, where β gives the names their binders: the one that its chain ends in, and `int` where
-- the chain comes back to itself
pub record AreKinds (R : List Row) (β : ℕ → Option ℕ) (κ : ℕ → Option Kind) : Type 0 where
  pub ends : (i : ℕ) (o : Option Kind) → i < length R → EndsIn (link_at R β) i o → κ i ≡ o
  pub endless : (i : ℕ) → i < length R → ((o : Option Kind) → EndsIn (link_at R β) i o → ⊥)
      → κ i ≡ Some Int
