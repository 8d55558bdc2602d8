-- The facts so far, and those of the rest.
use Rattle.std.proofs.Common.{◌≡◌, ◌++◌, drop}
use Rattle.id_meaning.specs.Given.{put_in}
use Rattle.id_meaning.proofs.structures.add_puts.Given as goal

abbrev pub invariant-loop-value : goal.invariant-loop-value
invariant-loop-value l =
    l.found.items ++ put_in l.point.path l.point.row l.name l.index (drop l.value-index l.values)
    ≡ l.initial.found.items
    ++ put_in l.point.path l.point.row l.name l.index l.values
