-- The row is none of those so far.
use Rattle.std.proofs.Common.{◌≡◌, ◌+◌, drop}
use Rattle.id_build.specs.Rows.{slot_of}
use Rattle.id_build.proofs.slots.position.Given as goal

abbrev pub invariant-loop-slot : goal.invariant-loop-slot
invariant-loop-slot l = slot_of l.rows l.wanted ≡ l.slot + slot_of (drop l.slot l.rows) l.wanted
