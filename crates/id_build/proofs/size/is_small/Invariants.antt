-- The instructions of the rows so far.
use Rattle.std.proofs.Common.{◌≡◌, ◌≤◌}
use Rattle.id_build.specs.Rows.{size_below}
use Rattle.id_build.proofs.size.is_small.Given as goal

abbrev pub invariant-loop-n : goal.invariant-loop-n
invariant-loop-n l = record {
  is : l.size ≡ size_below l.kernel.checked.now l.n;
  small : l.size ≤ 1000000;
}
