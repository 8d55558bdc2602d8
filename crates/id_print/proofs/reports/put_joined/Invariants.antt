-- Some lines are printed, and those of the structures and cells that are left are not.
use Rattle.std.proofs.Common.{◌≡◌, ◌+◌, length}
use Rattle.id_print.specs.Helds.{joined}
use Rattle.id_print.proofs.PartlyLemmas.{IsPartly}
use Rattle.id_print.proofs.reports.put_joined.Given as goal

abbrev pub invariant-loop-shapes : goal.invariant-loop-shapes
invariant-loop-shapes g l = record {
  partly : IsPartly (g.W.Sink.told l.initial.sink) (g.W.Sink.told l.sink) l.initial.cursor
      (joined l.initial.shapes l.initial.cells) (joined l.shapes l.cells);
  same : l.cursor ≡ l.initial.cursor;
}

abbrev pub decreases-loop-shapes : goal.decreases-loop-shapes
decreases-loop-shapes g l = length l.shapes + length l.cells
