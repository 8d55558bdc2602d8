-- The facts so far, and those of the rest.
use Rattle.std.proofs.Common.{◌≡◌, ◌++◌, drop}
use Rattle.id_meaning.specs.Given.{binaries}
use Rattle.id_meaning.proofs.operators.add_binary.Given as goal

abbrev pub invariant-loop-left : goal.invariant-loop-left
invariant-loop-left l =
    l.found.items ++ binaries l.point.path l.point.row l.op (drop l.left-index l.lefts) l.rights ≡ l.initial.found.items
    ++ binaries l.point.path l.point.row l.op l.lefts l.rights
