-- The facts so far, and those of the rest.
use Rattle.std.proofs.Common.{◌≡◌, ◌++◌, drop}
use Rattle.id_meaning.specs.Given.{asked}
use Rattle.id_meaning.proofs.structures.add_fetched.Given as goal

abbrev pub invariant-loop-index : goal.invariant-loop-index
invariant-loop-index l =
    l.found.items ++ asked l.point.path l.point.row l.name l.shapes (drop l.index-index l.indices)
    ≡ l.initial.found.items
    ++ asked l.point.path l.point.row l.name l.shapes l.indices
