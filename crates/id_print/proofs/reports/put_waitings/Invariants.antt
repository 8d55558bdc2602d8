use Rattle.std.proofs.Common.{◌≡◌, take, Ok}
use Rattle.id_sink.specs.Told.{Prints}
use Rattle.id_print.specs.Texts.{waitings_text}
use Rattle.id_print.proofs.reports.put_waitings.Given as goal

-- the lines of the fetches so far are printed
abbrev pub invariant-loop-ask : goal.invariant-loop-ask
invariant-loop-ask g l = record {
  printed : Prints (g.W.Sink.told l.initial.sink) (g.W.Sink.told l.sink)
      (waitings_text l.initial.cursor (take l.ask-index l.asks)) (Ok tt);
  same : l.cursor ≡ l.initial.cursor;
}
