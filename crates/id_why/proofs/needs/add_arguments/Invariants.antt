-- The things so far, and those of the rest.
use Rattle.std.proofs.Common.{◌≡◌, ◌++◌, drop}
use Rattle.id_why.specs.Found.{arguments}
use Rattle.id_why.proofs.needs.add_arguments.Given as goal

abbrev pub invariant-loop-arg : goal.invariant-loop-arg
invariant-loop-arg l =
    l.found.items ++ arguments l.checked l.point.path l.point.row l.enter l.head (drop l.arg-index l.args) ≡ l.initial.found.items
    ++
    arguments l.checked l.point.path l.point.row l.enter l.head l.args
