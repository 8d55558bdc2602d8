-- The tree of a program is one.
use Rattle.std.proofs.Common.{List, [], ◌∷◌}
use Rattle.id_grammar.specs.declared.tree.Expr.{Expr, Literal, Unary', Binary', Name, If', Call', Block', Loop', For', Array', Fetch'}
use Rattle.id_grammar.specs.declared.tree.Expr.{Row_of-Expr, end_of-Expr, more_of-Expr, Row_of-Stmt, end_of-Stmt, more_of-Stmt}
use Rattle.id_grammar.specs.declared.tree.Stmt.{Binding, Next, Store'}
use Rattle.id_grammar.specs.declared.tree.Param.{Param}
use Rattle.id_grammar.specs.declared.tree.Def.{Def}
use Rattle.id_grammar.specs.declared.tree.Program.{Program}
use Rattle.id_grammar.specs.Tree.{tree_of, args_tree, row_tree, params_tree, defs_tree, program_tree}
use Rattle.id_table.specs.Trees.{IsTree, IsProgramTree, Expression, Arguments, Statements, Params}
use Rattle.id_table.specs.Trees.{Defs, by_literal, by_unary, by_binary, by_name, by_conditional}
use Rattle.id_table.specs.Trees.{by_call, by_loop, by_for, by_array, by_fetch, next_statement, store_statement, no_arguments, more_arguments}
use Rattle.id_table.specs.Trees.{by_block, no_statements, more_statements, no_params, more_params, no_defs, more_defs}

mutual
  pub IsTree-tree_of : (e : Expr) → IsTree Expression (tree_of e)
  IsTree-tree_of (Literal place value) = by_literal
  IsTree-tree_of (Unary' op place p operand) = by_unary (IsTree-tree_of operand)
  IsTree-tree_of (Binary' op place p a b) = by_binary (IsTree-tree_of a) (IsTree-tree_of b)
  IsTree-tree_of (Name place x) = by_name
  IsTree-tree_of (If' place p a b c) = by_conditional (IsTree-tree_of a) (IsTree-tree_of b) (IsTree-tree_of c)
  IsTree-tree_of (Call' place p x n args) = by_call (IsTree-args_tree args)
  IsTree-tree_of (Block' place p n statements body) = by_block (IsTree-row_tree statements) (IsTree-tree_of body)
  IsTree-tree_of (Loop' place p test n statements last) = by_loop (IsTree-tree_of test) (IsTree-row_tree statements) (IsTree-tree_of last)
  IsTree-tree_of (For' place p x q low high n statements last) =
      by_for (IsTree-tree_of low) (IsTree-tree_of high) (IsTree-row_tree statements) (IsTree-tree_of last)
  IsTree-tree_of (Array' place nested p a b) = by_array (IsTree-tree_of a) (IsTree-tree_of b)
  IsTree-tree_of (Fetch' place p a b) = by_fetch (IsTree-tree_of a) (IsTree-tree_of b)

  IsTree-args_tree : {n : _} (es : Row_of-Expr n) → IsTree Arguments (args_tree es)
  IsTree-args_tree end_of-Expr = no_arguments
  IsTree-args_tree (more_of-Expr e rest) = more_arguments (IsTree-tree_of e) (IsTree-args_tree rest)

  IsTree-row_tree : {n : _} (ss : Row_of-Stmt n) → IsTree Statements (row_tree ss)
  IsTree-row_tree end_of-Stmt = no_statements
  IsTree-row_tree (more_of-Stmt (Binding place x value) rest) = more_statements (IsTree-tree_of value) (IsTree-row_tree rest)
  IsTree-row_tree (more_of-Stmt (Next place x value) rest) = next_statement (IsTree-tree_of value) (IsTree-row_tree rest)
  IsTree-row_tree (more_of-Stmt (Store' place p a b c) rest) =
      store_statement (IsTree-tree_of a) (IsTree-tree_of b) (IsTree-tree_of c) (IsTree-row_tree rest)

IsTree-params_tree : (ps : List Param) → IsTree Params (params_tree ps)
IsTree-params_tree [] = no_params
IsTree-params_tree (x ∷ xs) = more_params (IsTree-params_tree xs)

IsTree-defs_tree : (ds : List Def) → IsTree Defs (defs_tree ds)
IsTree-defs_tree [] = no_defs
IsTree-defs_tree (d ∷ ds) = more_defs (IsTree-params_tree d.params) (IsTree-tree_of d.body) (IsTree-defs_tree ds)

-- the tree of a program is one
pub IsProgramTree-program_tree : (p : Program) → IsProgramTree (program_tree p)
IsProgramTree-program_tree p = IsTree-defs_tree p.defs
