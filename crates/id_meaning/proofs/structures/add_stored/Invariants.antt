-- The facts so far, and those of the rest.
use Rattle.std.proofs.Common.{◌≡◌, ◌++◌, drop}
use Rattle.id_meaning.specs.Given.{stores}
use Rattle.id_meaning.proofs.structures.add_stored.Given as goal

abbrev pub invariant-loop-target : goal.invariant-loop-target
invariant-loop-target l =
    l.found.items ++ stores l.lookup.cells.now l.point.path l.point.row (drop l.target-index l.targets) l.indices
    l.values
    ≡ l.initial.found.items ++
    stores l.lookup.cells.now l.point.path l.point.row l.targets l.indices l.values
