use Rattle.std.proofs.Common.{◌+◌, ◌<◌, ◌≤◌, length}
use Rattle.id_table.specs.Lent.{list_of}
use Rattle.id_table.specs.Turns.{params_at}
use Rattle.id_check.proofs.ParamsLemmas.{IsWithout}
use Rattle.id_check.proofs.params.first_array.Given as goal

abbrev pub invariant-loop-i : goal.invariant-loop-i
invariant-loop-i l = record {
  behind : l.head < l.i;
  low : l.i ≤ l.head + 1 + length (params_at (list_of l.rows) l.head);
  without : IsWithout (list_of l.rows) l.head l.i;
}
