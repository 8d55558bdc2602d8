use Rattle.std.proofs.Common.{ℕ, ◌<◌}
use Rattle.id_valid.specs.Validator.{IsSound}
use Rattle.id_valid.proofs.valid.first_faulty.Given as goal

-- the instructions so far are sound
abbrev pub invariant-loop-number : goal.invariant-loop-number
invariant-loop-number l = (n : ℕ) → n < l.number → IsSound l.graph n
