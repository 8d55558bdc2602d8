use Rattle.std.proofs.Common.{◌≡◌, take, Ok}
use Rattle.id_sink.specs.Told.{Prints}
use Rattle.id_sink.specs.Texts.{steps_text}
use Rattle.id_sink.proofs.texts.put_steps.Given as goal

-- the steps so far are printed
abbrev pub invariant-loop-step : goal.invariant-loop-step
invariant-loop-step g l = record {
  printed : Prints (g.W.Sink.told l.initial.sink) (g.W.Sink.told l.sink)
      (steps_text l.initial.cursor (take l.step-index l.steps)) (Ok tt);
  same : l.cursor ≡ l.initial.cursor;
}
