-- The facts so far, and those of the rest.
use Rattle.std.proofs.Common.{◌≡◌, ◌++◌, drop}
use Rattle.id_meaning.specs.Given.{fetches}
use Rattle.id_meaning.proofs.structures.add_fetch.Given as goal

abbrev pub invariant-loop-target : goal.invariant-loop-target
invariant-loop-target l =
    l.found.items ++ fetches l.lookup.cells.now l.point.path l.point.row (drop l.target-index l.targets) l.indices
    ≡ l.initial.found.items ++
    fetches l.lookup.cells.now l.point.path l.point.row l.targets l.indices
