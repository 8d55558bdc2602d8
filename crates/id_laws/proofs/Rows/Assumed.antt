-- What is known of the rows of a checked program.
use Rattle.std.proofs.Common.{◌≡◌, ℕ, suc, ◌+◌, ◌<◌, Bool, true, List, ◌++◌, length, slice_get, Some}
use Rattle.std.specs.Prelude.{◌||◌}
use Rattle.id_value.specs.List.{Among}
use Rattle.id_value.specs.declared.Kind.{Kind}
use Rattle.id_value.specs.declared.Kind.TheVariants as kinds
use Rattle.id_value.specs.Kinds.{array_kind as kind_made}
use Rattle.id_value.specs.declared.Constant.{Constant}
use Rattle.id_value.specs.declared.UnaryOp.{UnaryOp}
use Rattle.id_value.specs.declared.BinaryOp.{BinaryOp}
use Rattle.id_table.specs.declared.row.Node.{Node}
use Rattle.id_table.specs.declared.row.Node.TheVariants.{Param, Literal, Name, Unary, Binary, If, Enter, Arg, Call}
use Rattle.id_table.specs.declared.row.Node.TheVariants.{Start, LoopHead, Turn, Next}
use Rattle.id_table.specs.declared.row.Node.TheVariants.{Switches, Bounds, Carried, Index}
use Rattle.id_table.specs.declared.row.Node.TheVariants.{Block, Binding, Array, Address, Store}
use Rattle.id_table.specs.Rows.{at, top}
use Rattle.id_table.specs.Tables.{AreApart, HasOperand, is_binder, is_carried, is_expression}
use Rattle.id_table.specs.Calls.{IsCallOf}
use Rattle.id_table.specs.Turns.{IsTable, IsDefOf, params_at}
use Rattle.id_check.specs.declared.checked.Checked.{Checked}
use Rattle.id_check.specs.Kinds.{constant_kind, kind_within, unary_kind, binary_kind}
use Rattle.id_check.specs.Programs.{binder, kind, place, region, rows}
use Rattle.id_desugar.specs.Ends.{end_of}
use Rattle.id_desugar.specs.Regions.{handed, imports_of, nexts_of, taken}
use Rattle.id_table.specs.Loops.{depth}
use Rattle.id_build.specs.Rows.{block, called, entering, first_binder, node, param_of}
use Rattle.id_laws.specs.Activations.{main_head, Tests}
use Rattle.id_laws.specs.Topics.{Addresses}
use Rattle.id_build.proofs.NamesSeen.{Sees}

-- what is handed into a region has its value from a label: a binder, or what a loop carries on for its index
abbrev pub is_handed : Node → Bool
is_handed m = is_binder m || is_carried m

-- the binders of the names that a row of this node hands on: a loop's switches hand the upper bound of its index on too
abbrev pub names_by : Checked → ℕ → Node → List ℕ
names_by P n (Switches t) = nexts_of P (block P n) ++ taken P (block P n)
names_by P n m = handed P n m

abbrev pub names_of : Checked → ℕ → List ℕ
names_of P n = names_by P n (node P n)

-- the rows are those of a checked program
pub record IsKnown (P : Checked) : Type 0 where
  pub table : IsTable (rows P)
  -- no two things have one place; a definition's head has its place
  pub apart : AreApart (rows P)
  pub head_place : (n h : ℕ) → IsDefOf (rows P) n h → place P h ≡ place P n
  -- main is a definition
  pub main : IsDefOf (rows P) P.main (main_head P)
  -- a parameter stands right in its procedure's region
  pub params : (b x : ℕ) (k : Kind) → b < length (rows P) → node P b ≡ Param x k
      → region P b ≡ top (at (rows P) b).block
  -- each name has a binder, which its region sees; what switches hand on is seen where they stand, and the names of it
  -- have binders
  pub bound : (n x : ℕ) → n < length (rows P) → node P n ≡ Name x
      → (b : ℕ) × (binder P n ≡ Some b) × (b < length (rows P)) × (is_binder (node P b) ≡ true) × Sees P b (region P n)
  pub imported : (n t b : ℕ) → n < length (rows P) → Tests P n t → Among b (imports_of P n)
      → (b < length (rows P)) × (is_handed (node P b) ≡ true) × Sees P b (region P n)
  pub names : (n t b : ℕ) → n < length (rows P) → Tests P n t → Among b (names_of P n) → is_binder (node P b) ≡ true
  -- and so do those whose values go into a loop, and those that its switches hand on
  pub loop_names : (s : ℕ) → s < length (rows P) → node P s ≡ Start → (b : ℕ) → Among b (entering P (s + 1))
      → (b < length (rows P)) × (is_binder (node P b) ≡ true) × Sees P b (region P s)
  pub loop_imports : (h s : ℕ) → h < length (rows P) → node P h ≡ LoopHead s → (b : ℕ) → Among b (imports_of P h)
      → (b < length (rows P)) × (is_binder (node P b) ≡ true) × Sees P b (region P s)
  pub turn_names : (i : ℕ) → i < length (rows P) → node P i ≡ Turn → (b : ℕ) → Among b (imports_of P (block P i))
      → (b < length (rows P)) × (is_binder (node P b) ≡ true) × Sees P b (region P i)
  -- the head of a loop has one loop more round it than its `Start`
  pub loop_depth : (h s : ℕ) → h < length (rows P) → node P h ≡ LoopHead s → depth (rows P) h ≡ suc (depth (rows P) s)
  -- the outer name of a `next` has the binder of the variable's first value
  pub first_bound : (m x k o v : ℕ) → m < length (rows P) → node P m ≡ Next x k o v
      → binder P o ≡ Some (first_binder P m)
  -- the operands of a row are expressions
  pub operands : (n a : ℕ) → n < length (rows P) → HasOperand (node P n) a → is_expression (node P a) ≡ true
  -- the kinds of rows: a name's is its binder's, a block's its body's, a binding's its expression's, a conditional's
  -- that of both
  -- arms; a predicate is a truth value
  pub param_kind : (n x : ℕ) (k : Kind) → n < length (rows P) → node P n ≡ Param x k → kind P n ≡ Some k
  pub literal_kind : (n : ℕ) (c : Constant) → n < length (rows P) → node P n ≡ Literal c
      → kind P n ≡ Some (constant_kind c)
  pub name_kind : (n x b : ℕ) → n < length (rows P) → node P n ≡ Name x → binder P n ≡ Some b → kind P n ≡ kind P b
  pub unary_kinds : (n a : ℕ) (o : UnaryOp) → n < length (rows P) → node P n ≡ Unary o a
      → kind P n ≡ Some (unary_kind o)
  pub binary_kinds : (n a b : ℕ) (o : BinaryOp) → n < length (rows P) → node P n ≡ Binary o a b
      → kind P n ≡ Some (binary_kind o)
  pub test_kind : (n t : ℕ) → n < length (rows P) → Tests P n t → kind P t ≡ Some kinds.Bool
  pub arm_kinds : (n s x y : ℕ) → n < length (rows P) → node P n ≡ If s x y
      → (kind P n ≡ kind P x) × (kind P n ≡ kind P y)
  pub index_kind : (n x : ℕ) → n < length (rows P) → node P n ≡ Index x → kind P n ≡ Some kinds.Int
  pub carried_kind : (n : ℕ) (k : Kind) → n < length (rows P) → node P n ≡ Carried k → kind P n ≡ Some k
  pub array_kind : {nested : Bool} (n a b : ℕ) → n < length (rows P) → node P n ≡ Array nested a b
      → kind P n ≡ Some (kind_made nested)
  -- a fetch, and the address of a store, has the kind of what the elements of its target hold
  pub cell_kind : (n t i : ℕ) → n < length (rows P) → Addresses P n t i → kind P n ≡ Some (kind_within (kind P t))
  -- what names a cell is a structure with a number, and bounds are numbers; what is stored is of the kind of its
  -- address
  pub range_kinds : (n a b : ℕ) → n < length (rows P) → node P n ≡ Bounds a b
      → (kind P a ≡ Some kinds.Int) × (kind P b ≡ Some kinds.Int)
  pub bound_kinds : {nested : Bool} (n a b : ℕ) → n < length (rows P) → node P n ≡ Array nested a b
      → (kind P a ≡ Some kinds.Int) × (kind P b ≡ Some kinds.Int)
  pub cell_kinds : (n t i : ℕ) → n < length (rows P) → Addresses P n t i
      → (nested : Bool) × (kind P t ≡ Some (kind_made nested)) × (kind P i ≡ Some kinds.Int)
  pub stored_kind : (n a v t i : ℕ) → n < length (rows P) → node P n ≡ Store a v → a < length (rows P)
      → node P a ≡ Address t i → kind P v ≡ kind P a
  pub block_kind : (n b : ℕ) → n < length (rows P) → node P n ≡ Block b → kind P n ≡ kind P b
  pub binding_kind : (n x a : ℕ) → n < length (rows P) → node P n ≡ Binding x a → kind P n ≡ kind P a
  -- the body of a definition is of its kind
  pub result_kind : (n h : ℕ) (d : IsDefOf (rows P) n h) → kind P d.body ≡ Some d.result
  -- what an `Enter` begins ends at its call, and it enters the definition that its name is bound to
  pub call_end : (e x : ℕ) → e < length (rows P) → node P e ≡ Enter x → IsCallOf (rows P) (end_of P e) e
  pub callee : (e x : ℕ) → e < length (rows P) → node P e ≡ Enter x
      → (d : ℕ) × (binder P e ≡ Some d) × IsDefOf (rows P) d (called P e)
  -- each argument goes to the parameter of its index, whose kind its value has
  pub passed : (m e k v : ℕ) → m < length (rows P) → node P m ≡ Arg e k v
      → (slice_get (params_at (rows P) (called P e)) k ≡ Some (param_of P e k)) × (kind P v ≡ kind P (param_of P e k))
  -- a call is of the kind of its procedure's result
  pub call_kind : (n e c x d : ℕ) (h : IsDefOf (rows P) d (called P e)) → n < length (rows P) → node P n ≡ Call e c
      → kind P n ≡ Some h.result
