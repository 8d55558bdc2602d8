use Rattle.std.proofs.Common.{◌≡◌, ◌≤◌, ◌<◌, ℕ, true, false, get_or, length}
use Rattle.id_check.proofs.scope.kept.Given as goal

abbrev pub invariant-loop-kept : goal.invariant-loop-kept
invariant-loop-kept l = record {
  long : l.kept ≤ length l.untaken;
  behind : (j : ℕ) → l.kept ≤ j → j < length l.untaken → get_or l.held (get_or l.untaken j 0) false ≡ true;
}

abbrev pub decreases-loop-kept : goal.decreases-loop-kept
decreases-loop-kept l = l.kept
