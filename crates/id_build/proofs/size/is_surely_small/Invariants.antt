-- The instructions of the rows so far are no more than are counted.
use Rattle.std.proofs.Common.{◌≤◌}
use Rattle.id_build.specs.Rows.{size_below}
use Rattle.id_build.proofs.size.is_surely_small.Given as goal

abbrev pub invariant-loop-n : goal.invariant-loop-n
invariant-loop-n l = record {
  most : size_below l.checked l.n ≤ l.most;
  small : l.most ≤ 1000000;
}
