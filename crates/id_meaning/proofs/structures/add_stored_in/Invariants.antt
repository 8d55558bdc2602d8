-- The facts so far, and those of the rest.
use Rattle.std.proofs.Common.{◌≡◌, ◌++◌, drop}
use Rattle.id_meaning.specs.Given.{stored}
use Rattle.id_meaning.proofs.structures.add_stored_in.Given as goal

abbrev pub invariant-loop-index : goal.invariant-loop-index
invariant-loop-index l =
    l.found.items ++ stored l.point.path l.point.row l.name l.shapes (drop l.index-index l.indices) l.values
    ≡ l.initial.found.items
    ++
    stored l.point.path l.point.row l.name l.shapes l.indices l.values
