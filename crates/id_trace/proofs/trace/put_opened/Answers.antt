use Rattle.id_trace.specs.Traces.{context_text}
use Rattle.id_sink.proofs.SinkLemmas.{Prints-stop, Prints-then}
use Rattle.id_trace.proofs.trace.put_opened.Goals as goal

pub returns-in_err-put : goal.returns-in_err-put
returns-in_err-put g c =
    Prints-stop _ _ _ (context_text c.args.context) _ _ c.in_err-put.ensures c.from_residual.ensures.0

pub returns : goal.returns
returns g c = Prints-then _ _ _ _ _ _ _ c.in_ok-put.ensures c.put_context.ensures
