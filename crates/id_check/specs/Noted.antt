-- The tree that a program was checked by, of which a note is kept.
use Rattle.std.specs.Prelude.{Option, None, Some}
use Rattle.id_grammar.specs.Tree.{Tree, none, program_tree}
use Rattle.id_grammar.specs.declared.tree.Program.{Program}

-- the tree of the program that is known; where none is, the empty one
abbrev pub tree_in : Option Program → Tree
tree_in None = none
tree_in (Some p) = program_tree p
