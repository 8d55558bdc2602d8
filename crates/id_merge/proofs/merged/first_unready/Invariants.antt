-- The first lines of the logs that were looked at are told.
use Rattle.std.proofs.Common.{◌≡◌, ◌<◌, ℕ, Some, drop, slice_get, true}
use Rattle.id_merge.specs.Heads.{are_enough}
use Rattle.id_merge.proofs.merged.first_unready.Given as goal

abbrev pub invariant-loop-i : goal.invariant-loop-i
invariant-loop-i g l = (j : ℕ) (h : _) → j < l.i → slice_get l.fn.heads j ≡ Some h → are_enough (drop h.from h.bytes.items) h.over ≡ true
