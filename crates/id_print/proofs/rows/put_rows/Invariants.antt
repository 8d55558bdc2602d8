-- The lines of the facts so far are printed.
use Rattle.std.proofs.Common.{◌≡◌, take, Ok}
use Rattle.std.specs.List.{flat_map}
use Rattle.id_sink.specs.Told.{Prints}
use Rattle.id_print.proofs.RowsLemmas.{row_text}
use Rattle.id_print.proofs.rows.put_rows.Given as goal

abbrev pub invariant-loop-row : goal.invariant-loop-row
invariant-loop-row g l = record {
  printed : Prints (g.W.Sink.told l.initial.sink) (g.W.Sink.told l.sink)
      (flat_map (row_text l.initial.pen) (take l.row-index l.rows)) (Ok tt);
  same : l.pen ≡ l.initial.pen;
}
