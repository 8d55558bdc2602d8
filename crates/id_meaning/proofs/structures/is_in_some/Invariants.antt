-- The index is inside some of the rest where it is inside some of all.
use Rattle.std.proofs.Common.{◌≡◌, drop}
use Rattle.id_meaning.specs.Given.{is_in_some}
use Rattle.id_meaning.proofs.structures.is_in_some.Given as goal

abbrev pub invariant-loop-bounds : goal.invariant-loop-bounds
invariant-loop-bounds l = is_in_some (drop l.bounds-index l.shapes) l.index ≡ is_in_some l.shapes l.index
