use Rattle.id_trace.proofs.TracesLemmas.{Prints-line, Prints-line_stop}
use Rattle.id_trace.proofs.trace.write_trace.Goals as goal

pub returns-in_err-put_line : goal.returns-in_err-put_line
returns-in_err-put_line g c =
    Prints-line_stop c.args.events.now c.loop-position.position _ _ _ _ _ _ _ c.event-event.ensures
    c.loop-position.invariant c.in_err-put_line.ensures
    c.from_residual.ensures.0

pub loop-position-preserved : goal.loop-position-preserved
loop-position-preserved g c =
    Prints-line c.args.events.now c.loop-position.position _ _ _ _ _ _ c.event-event.ensures c.loop-position.invariant
    c.in_ok-put_line.ensures
