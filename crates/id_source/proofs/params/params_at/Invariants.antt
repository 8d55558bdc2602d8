-- The parameters among the rows so far.
use Rattle.std.proofs.Common.{◌≡◌}
use Rattle.id_table.specs.Turns.{params_below}
use Rattle.id_source.proofs.params.params_at.Given as goal

abbrev pub invariant-loop-n : goal.invariant-loop-n
invariant-loop-n l = l.params.items ≡ params_below l.rows l.head l.n
