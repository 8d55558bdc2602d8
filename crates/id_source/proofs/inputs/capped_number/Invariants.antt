-- The value stays at the largest one that a `u64` has, once the number is above it.
use Rattle.std.proofs.Common.{◌≡◌, ◌-◌, ◌^◌, min, take}
use Rattle.id_text.specs.Bytes.{number_of as spelled_by}
use Rattle.id_source.proofs.inputs.capped_number.Given as goal

abbrev pub invariant-loop-digit : goal.invariant-loop-digit
invariant-loop-digit l = l.value ≡ min (spelled_by (take l.digit-index l.digits)) (2 ^ 64 - 1)
