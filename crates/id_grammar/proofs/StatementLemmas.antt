-- The statements of a block and of a loop, and the arguments of a call, as a list and as its row.
use Rattle.std.proofs.Common.{◌≡◌, ℕ, Box, Global, refl, ap, ◌∙◌}
use mathlib.Core.Former.{Count}
use Rattle.id_grammar.specs.declared.tree.Expr.{Expr, Call, Call', Block, Block', Loop, Loop', For, For', Row_of-Expr, end_of-Expr}
use Rattle.id_grammar.specs.declared.tree.Expr.{more_of-Expr, items-the_row-Expr, items_hidden-the_row-Expr-0}
use Rattle.id_grammar.specs.declared.tree.Expr.{Row_of-Stmt, end_of-Stmt, more_of-Stmt, items-the_row-Stmt}
use Rattle.id_grammar.specs.declared.tree.Expr.{items_hidden-the_row-Stmt-1}
use Rattle.id_grammar.specs.declared.tree.Call.{Call as Passing}
use Rattle.id_grammar.specs.declared.tree.Block.{Block as Inner}
use Rattle.id_grammar.specs.declared.tree.Loop.{Loop as Round}
use Rattle.id_grammar.specs.declared.tree.For.{For as Counted}
use Rattle.id_grammar.specs.Tree.{tree_of, args_tree, stmt_tree, row_tree, call, block, loop, for_loop, none, more}
use Rattle.id_grammar.specs.Readers.{onto, passed}

row-onto : (n : Count) (row : Row_of-Stmt n) → row_tree row ≡ onto (items-the_row-Stmt n row) none
row-onto n end_of-Stmt = refl
row-onto n (more_of-Stmt s rest) = ap (λ a. more (stmt_tree s) a) (row-onto _ rest)

abbrev row_of : Expr → (n : Count) × Row_of-Stmt n
row_of (Block' place p _ row body) = (_, row)
row_of (Loop' place p test _ row last) = (_, row)
row_of (For' place p x i low high _ row last) = (_, row)
row_of _ = (_, end_of-Stmt)

-- a block's tree by the list of its statements
pub tree-block : (place : ℕ) (b : Box Inner Global) → tree_of (Block place b) ≡ block (onto b.value.statements.items none) (tree_of b.value.body) place
tree-block place b =
    let row = row_of (Block place b) in
    ap (λ a. block a (tree_of b.value.body) place) (row-onto row.0 row.1 ∙ ap (λ ss. onto ss none) (items_hidden-the_row-Stmt-1 b.value.statements))

-- a loop's tree by the list of its statements
pub tree-loop : (place : ℕ) (b : Box Round Global) →
    tree_of (Loop place b) ≡ loop (tree_of b.value.test) (onto b.value.statements.items none) (tree_of b.value.last) place
tree-loop place b =
    let row = row_of (Loop place b) in
    ap (λ a. loop (tree_of b.value.test) a (tree_of b.value.last) place)
    (row-onto row.0 row.1 ∙ ap (λ ss. onto ss none) (items_hidden-the_row-Stmt-1 b.value.statements))

-- a `for`'s tree by the list of its statements
pub tree-for : (place : ℕ) (b : Box Counted Global) →
    tree_of (For place b)
    ≡ for_loop b.value.name b.value.index (tree_of b.value.low) (tree_of b.value.high) (onto b.value.statements.items none) (tree_of b.value.last) place
tree-for place b =
    let row = row_of (For place b) in
    ap (λ a. for_loop b.value.name b.value.index (tree_of b.value.low) (tree_of b.value.high) a (tree_of b.value.last) place)
    (row-onto row.0 row.1 ∙ ap (λ ss. onto ss none) (items_hidden-the_row-Stmt-1 b.value.statements))

args-passed : (n : Count) (row : Row_of-Expr n) → args_tree row ≡ passed (items-the_row-Expr n row) none
args-passed n end_of-Expr = refl
args-passed n (more_of-Expr e rest) = ap (λ a. more (tree_of e) a) (args-passed _ rest)

abbrev args_of : Expr → (n : Count) × Row_of-Expr n
args_of (Call' place p _ _ row) = (_, row)
args_of _ = (_, end_of-Expr)

-- a call's tree by the list of its arguments
pub tree-call : (place : ℕ) (b : Box Passing Global) → tree_of (Call place b) ≡ call b.value.name (passed b.value.args.items none) place
tree-call place b =
    let row = args_of (Call place b) in
    ap (λ a. call b.value.name a place) (args-passed row.0 row.1 ∙ ap (λ es. passed es none) (items_hidden-the_row-Expr-0 b.value.args))
