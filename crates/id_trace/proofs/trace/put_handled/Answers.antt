use Rattle.std.proofs.Common.{codes, ◌++◌}
use Rattle.id_trace.specs.Traces.{payload_text}
use Rattle.id_sink.proofs.SinkLemmas.{Prints-stop, Prints-then}
use Rattle.id_trace.proofs.trace.put_handled.Goals as goal

pub returns-in_err-put_moment : goal.returns-in_err-put_moment
returns-in_err-put_moment g c =
    Prints-stop _ _ _ (codes " " ++ payload_text c.args.payload.now) _ _ c.in_err-put_moment.ensures
    c.from_residual.ensures.0

pub returns-in_err-put : goal.returns-in_err-put
returns-in_err-put g c = Prints-then _ _ _ _ _ _ _ c.in_ok-put_moment.ensures
    (Prints-stop _ _ _ (payload_text c.args.payload.now) _ _ c.in_err-put.ensures c.from_residual-in_err-put.ensures.0)

pub returns : goal.returns
returns g c =
    Prints-then _ _ _ _ _ _ _ c.in_ok-put_moment.ensures
    (Prints-then _ _ _ _ _ _ _ c.in_ok-put.ensures c.put_payload.ensures)
