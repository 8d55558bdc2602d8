-- So much is printed so far.
use Rattle.std.proofs.Common.{◌≡◌, take, Ok}
use Rattle.id_sink.specs.Told.{Prints}
use Rattle.std.specs.List.{flat_map}
use Rattle.id_print.specs.Reasons.{thing_text}
use Rattle.id_print.proofs.reasons.put_things.Given as goal

abbrev pub invariant-loop-thing : goal.invariant-loop-thing
invariant-loop-thing g l = record {
  printed : Prints (g.W.Sink.told l.initial.sink) (g.W.Sink.told l.sink)
      (flat_map (thing_text l.initial.pen) (take l.thing-index l.things)) (Ok tt);
  same : l.pen ≡ l.initial.pen;
}
