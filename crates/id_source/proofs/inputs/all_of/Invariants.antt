-- None of the values so far lacks, and these are the given ones.
use Rattle.std.proofs.Common.{◌≡◌, ◌<◌, ℕ, take, get_or, map, Some, None, IsSome}
use Rattle.id_source.proofs.inputs.all_of.Given as goal

abbrev pub invariant-loop-n : goal.invariant-loop-n
invariant-loop-n l = record {
  same : map Some l.given.items ≡ take l.n l.values;
  there : (m : ℕ) → m < l.n → IsSome (get_or l.values m None);
}
