use Rattle.id_trace.specs.Traces.{end_text}
use Rattle.id_sink.proofs.SinkLemmas.{Prints-stop, Prints-then}
use Rattle.id_trace.proofs.trace.put_line.Goals as goal

pub returns-in_err-put_handled : goal.returns-in_err-put_handled
returns-in_err-put_handled g c =
    Prints-stop _ _ _ (end_text c.args.event.now.step) _ _ c.in_err-put_handled.ensures c.from_residual.ensures.0

pub returns : goal.returns
returns g c = rw c.end_bytes.ensures at (Prints-then _ _ _ _ _ _ _ c.in_ok-put_handled.ensures c.put.ensures)
