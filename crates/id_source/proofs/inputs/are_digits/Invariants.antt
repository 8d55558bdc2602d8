-- The bytes so far are digits.
use Rattle.std.proofs.Common.{◌≡◌, ◌<◌, ℕ, true, get_or}
use Rattle.std.specs.Char.{is_ascii_digit}
use Rattle.id_source.proofs.inputs.are_digits.Given as goal

abbrev pub invariant-loop-b : goal.invariant-loop-b
invariant-loop-b l = (k d : ℕ) → k < l.b-index → is_ascii_digit (get_or l.digits k d) ≡ true
