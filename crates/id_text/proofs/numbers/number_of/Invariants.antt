use Rattle.std.proofs.Common.{◌≡◌, ◌-◌, ◌^◌, min, take}
use Rattle.id_text.specs.Bytes.{number_of}
use Rattle.id_text.proofs.numbers.number_of.Given as goal

-- the value stays at the largest one that a `u64` has, once the number is above it
abbrev pub invariant-loop-digit : goal.invariant-loop-digit
invariant-loop-digit l = l.value ≡ min (number_of (take l.digit-index l.digits)) (2 ^ 64 - 1)
