-- The value is none of those so far.
use Rattle.std.proofs.Common.{◌≡◌, drop}
use Rattle.id_why.specs.Found.{has_value}
use Rattle.id_why.proofs.needs.has_value.Given as goal

abbrev pub invariant-loop-other : goal.invariant-loop-other
invariant-loop-other l = has_value l.value (drop l.other-index l.values) ≡ has_value l.value l.values
