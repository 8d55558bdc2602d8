-- So much is printed so far.
use Rattle.std.proofs.Common.{◌≡◌, take, Ok}
use Rattle.id_sink.specs.Told.{Prints}
use Rattle.std.specs.List.{flat_map}
use Rattle.id_print.specs.Reasons.{line_text}
use Rattle.id_print.proofs.reasons.put_lines.Given as goal

abbrev pub invariant-loop-line : goal.invariant-loop-line
invariant-loop-line g l = record {
  printed : Prints (g.W.Sink.told l.initial.sink) (g.W.Sink.told l.sink)
      (flat_map (line_text l.initial.pen) (take l.line-index l.lines)) (Ok tt);
  same : l.pen ≡ l.initial.pen;
}
