-- So much is printed so far.
use Rattle.std.proofs.Common.{◌≡◌, take, Ok}
use Rattle.id_sink.specs.Told.{Prints}
use Rattle.std.specs.List.{flat_map}
use Rattle.id_print.specs.Reasons.{asked_text}
use Rattle.id_print.proofs.reasons.put_cells.Given as goal

abbrev pub invariant-loop-cell : goal.invariant-loop-cell
invariant-loop-cell g l = record {
  printed : Prints (g.W.Sink.told l.initial.sink) (g.W.Sink.told l.sink)
      (flat_map (asked_text l.initial.pen) (take l.cell-index l.cells)) (Ok tt);
  same : l.pen ≡ l.initial.pen;
}
