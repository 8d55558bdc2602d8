use Rattle.std.proofs.Common.{◌≤◌, ◌<◌, ℕ, get_or, length}
use Rattle.id_check.proofs.scope.start_of.Given as goal

abbrev pub invariant-loop-start : goal.invariant-loop-start
invariant-loop-start l = record {
  long : l.start ≤ length l.untaken;
  behind : (j : ℕ) → l.start ≤ j → j < length l.untaken → l.first ≤ get_or l.untaken j 0;
}

abbrev pub decreases-loop-start : goal.decreases-loop-start
decreases-loop-start l = l.start
