use Rattle.std.proofs.Common.{◌≡◌, drop}
use Rattle.id_grammar.specs.Tree.{defs_tree}
use Rattle.id_table.specs.Rows.{add, in_top}
use Rattle.id_table.specs.Making.{parts}
use Rattle.id_table.proofs.walk.add_defs.Given as goal

abbrev pub invariant-loop-def : goal.invariant-loop-def
invariant-loop-def l = add (in_top 0) (parts l.maker) (defs_tree (drop l.def-index l.defs)) ≡ add (in_top 0) (parts l.initial.maker) (defs_tree l.defs)
