-- So much is printed so far.
use Rattle.std.proofs.Common.{◌≡◌, take, Ok}
use Rattle.id_sink.specs.Told.{Prints}
use Rattle.std.specs.List.{flat_map}
use Rattle.id_print.specs.Reasons.{given_text}
use Rattle.id_print.proofs.reasons.put_values.Given as goal

abbrev pub invariant-loop-value : goal.invariant-loop-value
invariant-loop-value g l = record {
  printed : Prints (g.W.Sink.told l.initial.sink) (g.W.Sink.told l.sink)
      (flat_map (given_text l.initial.pen) (take l.value-index l.values)) (Ok tt);
  same : l.pen ≡ l.initial.pen;
}
