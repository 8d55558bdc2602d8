use Rattle.std.proofs.Common.{take, Ok}
use Rattle.id_sink.specs.Told.{Prints}
use Rattle.id_trace.specs.Traces.{trace_text}
use Rattle.id_trace.proofs.trace.write_trace.Given as goal

-- the lines of the events so far are printed
abbrev pub invariant-loop-position : goal.invariant-loop-position
invariant-loop-position g l =
    Prints (g.W.Sink.told l.initial.sink) (g.W.Sink.told l.sink) (trace_text (take l.position l.events)) (Ok tt)
