-- The tree of the program that a note knows.
use Rattle.std.proofs.Common.{◌≡◌, Option, Some, None, sym, subst}
use Rattle.id_grammar.specs.Tree.{Tree, program_tree}
use Rattle.id_grammar.specs.declared.tree.Program.{Program}
use Rattle.id_table.specs.Trees.{IsProgramTree}
use Rattle.id_table.specs.Trees.IsTree.{no_defs}
use Rattle.id_table.proofs.TreeLemmas.{IsProgramTree-program_tree}
use Rattle.id_check.specs.Noted.{tree_in}

-- it is the tree of a program
pub IsProgramTree-tree_in : (o : Option Program) → IsProgramTree (tree_in o)
IsProgramTree-tree_in None = no_defs
IsProgramTree-tree_in (Some p) = IsProgramTree-program_tree p

-- what holds of a program's tree holds of that which a note of the program knows
pub known_tree : (F : Tree → Type 0) (o : Option Program) (p : Program) → o ≡ Some p → F (program_tree p)
    → F (tree_in o)
known_tree F o p e h = subst (λ q. F (tree_in q)) (sym e) h
