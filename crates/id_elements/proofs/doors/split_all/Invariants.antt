use Rattle.std.proofs.Common.{◌≡◌, vec_len}
use Rattle.id_elements.proofs.ListsLemmas.{IsSplitting}
use Rattle.id_elements.proofs.doors.split_all.Given as goal

abbrev pub invariant-loop-number : goal.invariant-loop-number
invariant-loop-number l = record {
  len : vec_len l.doors ≡ vec_len l.fn.doors;
  splitting : IsSplitting l.fn.doors.items l.doors.items l.theirs.items l.number;
}
