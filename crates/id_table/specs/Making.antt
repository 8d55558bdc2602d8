-- What the maker of the table has made so far.
use Rattle.std.specs.Prelude.{◌≡◌, ℕ, List, [], ◌∷◌}
use Rattle.id_grammar.specs.declared.tree.Stmt.{Stmt}
use Rattle.id_grammar.specs.declared.tree.Expr.{Expr}
use Rattle.id_grammar.specs.Tree.{Tree, array, binary, fetch, none, more, stmt_tree, tree_of}
use Rattle.id_table.specs.declared.maker.Maker.{Maker}
use Rattle.id_table.specs.declared.node.Pairing.{Pairing}
use Rattle.id_table.specs.declared.node.Pairing.TheVariants.{Binary, Array, Fetch}
use Rattle.id_table.specs.Texts.{texts}
use Rattle.id_table.specs.Names.{first_names, number_of}
use Rattle.id_table.specs.declared.row.Stand.{Stand}
use Rattle.id_table.specs.declared.row.Node.TheVariants.{Arg, Body, Next, NextUse, Turn}
use Rattle.id_table.specs.Rows.{Parts, add, add_nexts, begin_counting, last, naming, size, with_row}

-- the rows and the names that the maker has
abbrev pub parts : Maker → Parts
parts m = record { rows = m.rows.items; names = texts m.numbers.keys }

-- the maker has no rows yet
pub record IsStart (m : Maker) : Type 0 where
  pub rows : m.rows.items ≡ []
  pub names : texts m.numbers.keys ≡ first_names

-- the first parts are the second, whose last row has this number
pub record IsAdded (i : ℕ) (U V : Parts) : Type 0 where
  pub parts : U ≡ V
  pub number : i ≡ last V

-- the tree of this form of two expressions
abbrev pub pair_tree : Pairing → Tree → Tree → ℕ → Tree
pair_tree (Binary o) a b p = binary o a b p
pair_tree (Array nested) a b p = array nested a b p
pair_tree Fetch a b p = fetch a b p

-- the trees of expressions, in order
abbrev pub exprs_tree : List Expr → Tree
exprs_tree [] = none
exprs_tree (e ∷ es) = more (tree_of e) (exprs_tree es)

-- the parts with the rows of the argument of the index i
abbrev pub add_argument : Stand → ℕ → ℕ → ℕ → Parts → Tree → Parts
add_argument s p e i T a = let U = add s T a in with_row U s p e (Arg e i (last U))

-- the trees of statements, in order
abbrev pub stmts_tree : List Stmt → Tree
stmts_tree [] = none
stmts_tree (s ∷ ss) = more (stmt_tree s) (stmts_tree ss)

-- the parts with the rows of the `next` statement of the index i
abbrev pub add_next : Stand → ℕ → Parts → List ℕ → Tree → ℕ → Parts
add_next s i T x a p =
    let n = number_of T.names x in
    let U = add s (with_row (naming T x) s p (size T) (NextUse n)) a in
    with_row U s p (size T) (Next n i (size T) (last U))

-- the parts with the rows of the statements of a loop at this place, of whose entries k stand before those of its
-- variables, and with the end of its body, whose rows begin at f
abbrev pub add_statements : Stand → ℕ → ℕ → Parts → Tree → ℕ → Parts
add_statements s k f T ss p = with_row (add_nexts s k T ss) s p f Body

-- the parts with the rows of the body of a loop at this place
abbrev pub add_body : Stand → Parts → Tree → ℕ → Parts
add_body s T ss p = let B = with_row T s p (size T) Turn in add_statements s 0 (size B) B ss p

-- the same of a `for`, whose index has this name at the place q
abbrev pub add_counting : Stand → Parts → List ℕ → ℕ → Tree → ℕ → Parts
add_counting s T x q ss p = let I = begin_counting s T x q p in add_statements s 3 (last I) I ss p
