-- The ends and the `next`s so far.
use Rattle.id_desugar.specs.Ends.{AreFirst, end_at, next_at}
use Rattle.id_desugar.proofs.ends.find_ends_and_nexts.Given as goal

abbrev pub invariant-loop-n : goal.invariant-loop-n
invariant-loop-n l = record {
  ends : AreFirst l.checked (end_at l.checked) l.n l.column;
  nexts : AreFirst l.checked (next_at l.checked) l.n l.nexts;
}
