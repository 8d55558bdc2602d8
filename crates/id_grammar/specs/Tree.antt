-- Trees as values: what stands in a `Program`, without the addresses of its boxes (docs/LANGUAGE.md, "Grammar").
use Rattle.std.specs.Prelude.{ℕ, Bool, List, [], ◌∷◌}
use Rattle.id_value.specs.declared.Kind.{Kind}
use Rattle.id_value.specs.declared.Constant.{Constant}
use Rattle.id_value.specs.declared.UnaryOp.{UnaryOp}
use Rattle.id_value.specs.declared.BinaryOp.{BinaryOp}
use Rattle.id_grammar.specs.declared.tree.Expr.{Expr, Literal, Unary', Binary', Name, If', Call', Block', Loop', For'}
use Rattle.id_grammar.specs.declared.tree.Expr.{Array', Fetch', Row_of-Expr, end_of-Expr, more_of-Expr, Row_of-Stmt}
use Rattle.id_grammar.specs.declared.tree.Expr.{end_of-Stmt}
use Rattle.id_grammar.specs.declared.tree.Expr.{more_of-Stmt}
use Rattle.id_grammar.specs.declared.tree.Stmt.{Stmt, Binding, Next, Store'}
use Rattle.id_grammar.specs.declared.tree.Param.{Param}
use Rattle.id_grammar.specs.declared.tree.Def.{Def}
use Rattle.id_grammar.specs.declared.tree.Program.{Program}

-- An expression, a statement, a parameter, a definition with its parameters and its body, or a list of trees; a call
-- has the list of its arguments, a block its statements and its body, a loop its predicate, its statements and its last
-- expression, a `for` the name and the place of its index, its lower and its upper bound, its statements and its last
-- expression, an array its lower and its upper bound, and whether it is nested, a fetch its target and its index, a
-- store its target, its index and its value. The last number of a thing is its place.
pub data Tree : Type 0 where
  literal : Constant → ℕ → Tree
  unary : UnaryOp → Tree → ℕ → Tree
  binary : BinaryOp → Tree → Tree → ℕ → Tree
  name : List ℕ → ℕ → Tree
  conditional : Tree → Tree → Tree → ℕ → Tree
  call : List ℕ → Tree → ℕ → Tree
  block : Tree → Tree → ℕ → Tree
  loop : Tree → Tree → Tree → ℕ → Tree
  for_loop : List ℕ → ℕ → Tree → Tree → Tree → Tree → ℕ → Tree
  array : Bool → Tree → Tree → ℕ → Tree
  fetch : Tree → Tree → ℕ → Tree
  binding : List ℕ → Tree → ℕ → Tree
  next : List ℕ → Tree → ℕ → Tree
  store : Tree → Tree → Tree → ℕ → Tree
  param : List ℕ → Kind → ℕ → Tree
  define : List ℕ → Tree → Kind → Tree → ℕ → Tree
  none : Tree
  more : Tree → Tree → Tree

abbrev mutual
  -- the expression's tree
  pub tree_of : Expr → Tree
  tree_of (Literal place value) = literal value place
  tree_of (Unary' op place p operand) = unary op (tree_of operand) place
  tree_of (Binary' op place p a b) = binary op (tree_of a) (tree_of b) place
  tree_of (Name place x) = name x place
  tree_of (If' place p a b c) = conditional (tree_of a) (tree_of b) (tree_of c) place
  tree_of (Call' place p x n args) = call x (args_tree args) place
  tree_of (Block' place p n statements body) = block (row_tree statements) (tree_of body) place
  tree_of (Loop' place p test n statements last) = loop (tree_of test) (row_tree statements) (tree_of last) place
  tree_of (For' place p x q low high n statements last) =
      for_loop x q (tree_of low) (tree_of high) (row_tree statements) (tree_of last) place
  tree_of (Array' place nested p a b) = array nested (tree_of a) (tree_of b) place
  tree_of (Fetch' place p a b) = fetch (tree_of a) (tree_of b) place

  -- the trees of the arguments, in order
  pub args_tree : {n : _} → Row_of-Expr n → Tree
  args_tree end_of-Expr = none
  args_tree (more_of-Expr e rest) = more (tree_of e) (args_tree rest)

  -- the statement's tree
  pub stmt_tree : Stmt → Tree
  stmt_tree (Binding place x value) = binding x (tree_of value) place
  stmt_tree (Next place x value) = next x (tree_of value) place
  stmt_tree (Store' place p a b c) = store (tree_of a) (tree_of b) (tree_of c) place

  -- the trees of the statements, in order
  pub row_tree : {n : _} → Row_of-Stmt n → Tree
  row_tree end_of-Stmt = none
  row_tree (more_of-Stmt s rest) = more (stmt_tree s) (row_tree rest)

-- the trees of the parameters, in order
abbrev pub params_tree : List Param → Tree
params_tree [] = none
params_tree (x ∷ xs) = more (param x.name x.kind x.place) (params_tree xs)

-- the definition's tree
abbrev pub def_tree : Def → Tree
def_tree d = define d.name (params_tree d.params) d.result (tree_of d.body) d.place

-- the trees of the definitions, in order
abbrev pub defs_tree : List Def → Tree
defs_tree [] = none
defs_tree (d ∷ ds) = more (def_tree d) (defs_tree ds)

-- the program's tree
abbrev pub program_tree : Program → Tree
program_tree p = defs_tree p.defs
