-- The facts so far, and those of the rest.
use Rattle.std.proofs.Common.{◌≡◌, ◌++◌, drop}
use Rattle.id_meaning.specs.Given.{all_rights}
use Rattle.id_meaning.proofs.operators.add_rights.Given as goal

abbrev pub invariant-loop-right : goal.invariant-loop-right
invariant-loop-right l =
    l.found.items ++ all_rights l.point.path l.point.row l.op l.left (drop l.right-index l.rights)
    ≡ l.initial.found.items
    ++ all_rights l.point.path l.point.row l.op l.left l.rights
