use Rattle.std.proofs.Common.{length}
use Rattle.id_check.proofs.NotedLemmas.{known_tree}
use Rattle.id_compile.specs.Programs.{ArePlacedWithin, IsTreeOf, by_memory}
use Rattle.id_compile.proofs.compiled.table_of.Goals as goal

pub returns-in-Ok-clause-tree : goal.returns-in-Ok-clause-tree
returns-in-Ok-clause-tree c =
    known_tree (IsTreeOf c.args.text.now) c.in-Ok.table.tree.known c.in_ok-program.program c.in-Ok.ensures
    c.in_ok-program.ensures.tree

pub returns-in-Ok-clause-within : goal.returns-in-Ok-clause-within
returns-in-Ok-clause-within c =
    known_tree (ArePlacedWithin (length c.args.text.now)) c.in-Ok.table.tree.known c.in_ok-program.program
    c.in-Ok.ensures c.in_ok-program.ensures.within

pub returns-in-Err-clause-refused : goal.returns-in-Err-clause-refused
returns-in-Err-clause-refused c = by_memory
