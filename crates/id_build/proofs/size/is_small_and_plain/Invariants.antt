-- The instructions of the rows so far, which are plain.
use Rattle.std.proofs.Common.{◌≡◌, ◌<◌, ◌≤◌, ℕ, true}
use Rattle.id_build.specs.Rows.{is_plain, node, size_below}
use Rattle.id_build.proofs.size.is_small_and_plain.Given as goal

abbrev pub invariant-loop-n : goal.invariant-loop-n
invariant-loop-n l = record {
  is : l.size ≡ size_below l.checked l.n;
  small : l.size ≤ 1000000;
  plain : (i : ℕ) → i < l.n → is_plain (node l.checked i) ≡ true;
}
