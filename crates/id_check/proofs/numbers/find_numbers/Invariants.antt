use Rattle.id_table.specs.Lent.{list_of}
use Rattle.id_check.specs.Counts.{AreCounts}
use Rattle.id_check.specs.Depths.{AreDepths}
use Rattle.id_check.proofs.numbers.find_numbers.Given as goal

abbrev pub invariant-loop-i : goal.invariant-loop-i
invariant-loop-i l = record {
  depths : AreDepths (list_of l.rows) l.i l.depths.items;
  counts : AreCounts (list_of l.rows) l.i l.counts.items;
}
