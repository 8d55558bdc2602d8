-- How many instructions the rows so far make, and the numbers of their first ones.
use Rattle.std.proofs.Common.{◌≡◌, ℕ, ◌≤◌, ◌<◌, length, take}
use Rattle.id_check.specs.Programs.{rows}
use Rattle.id_build.specs.Made.{first_in, number_by, pieces_in}
use Rattle.id_build.proofs.program.number.Given as goal

abbrev pub invariant-loop-n : goal.invariant-loop-n
invariant-loop-n l = record {
  count : l.count ≡ length (pieces_in l.kernel.checked.now (take l.n-index l.order));
  many : length l.firsts.items ≡ length (rows l.kernel.checked.now);
  firsts : (m : ℕ) → m < length (rows l.kernel.checked.now)
      → number_by l.firsts.items m 0 ≡ first_in l.kernel.checked.now 0 (take l.n-index l.order) m;
  few : l.count ≤ 1000000;
}
