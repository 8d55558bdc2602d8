use Rattle.std.proofs.Common.{get_or}
use Rattle.id_table.specs.Lent.{list_of}
use Rattle.id_check.specs.Names.{AreTaken}
use Rattle.id_check.proofs.scope.close_rows.Given as goal

abbrev pub invariant-loop-k : goal.invariant-loop-k
invariant-loop-k l = AreTaken (list_of l.rows) l.scope (get_or l.untaken l.k l.scope) l.held.items
