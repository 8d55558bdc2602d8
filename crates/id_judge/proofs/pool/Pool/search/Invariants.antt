use Rattle.std.proofs.Common.{◌≡◌, ◌<◌, ℕ, Some, slice_get}
use Rattle.id_judge.proofs.pool.Pool.search.Given as goal

-- the message stands at none of the first positions
abbrev pub invariant-loop-position : goal.invariant-loop-position
invariant-loop-position l = (j : ℕ) → j < l.position → slice_get l.fn.self j ≡ Some l.fn.message → ⊥
