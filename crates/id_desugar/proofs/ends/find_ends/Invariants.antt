-- The ends so far.
use Rattle.id_desugar.specs.Ends.{AreFirst, end_at}
use Rattle.id_desugar.proofs.ends.find_ends.Given as goal

abbrev pub invariant-loop-n : goal.invariant-loop-n
invariant-loop-n l = AreFirst l.checked (end_at l.checked) l.n l.column
