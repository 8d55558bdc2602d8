use Rattle.std.proofs.Common.{codes, ◌++◌}
use Rattle.id_trace.specs.Traces.{port_text}
use Rattle.id_sink.proofs.SinkLemmas.{Prints-stop, Prints-then}
use Rattle.id_trace.proofs.trace.put_entry.Goals as goal

pub returns-in_err-put : goal.returns-in_err-put
returns-in_err-put g c =
    Prints-then _ _ _ _ _ _ _ c.in_ok-put_number.ensures
    (Prints-stop _ _ _ (port_text c.args.port) _ _ c.in_err-put.ensures
    c.from_residual-in_err-put.ensures.0)

pub returns : goal.returns
returns g c =
    rw c.port_bytes.ensures at
    (Prints-then _ _ _ _ _ _ _ c.in_ok-put_number.ensures
    (Prints-then _ _ _ _ _ _ _ c.in_ok-put.ensures c.put-2.ensures))

pub returns-in_err-put_number : goal.returns-in_err-put_number
returns-in_err-put_number g c =
    Prints-stop _ _ _ (codes "." ++ port_text c.args.port) _ _ c.in_err-put_number.ensures c.from_residual.ensures.0
