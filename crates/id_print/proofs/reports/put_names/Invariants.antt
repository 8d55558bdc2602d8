use Rattle.std.proofs.Common.{◌≡◌, take, Ok}
use Rattle.id_sink.specs.Told.{Prints}
use Rattle.id_print.specs.Texts.{names_text}
use Rattle.id_print.proofs.reports.put_names.Given as goal

-- the lines of the names so far are printed
abbrev pub invariant-loop-name : goal.invariant-loop-name
invariant-loop-name g l = record {
  printed : Prints (g.W.Sink.told l.initial.sink) (g.W.Sink.told l.sink)
      (names_text l.initial.cursor (take l.name-index l.names)) (Ok tt);
  same : l.cursor ≡ l.initial.cursor;
}
