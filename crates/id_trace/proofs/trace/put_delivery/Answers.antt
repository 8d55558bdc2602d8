use Rattle.std.proofs.Common.{codes, ◌++◌}
use Rattle.id_trace.specs.Traces.{carried_text}
use Rattle.id_sink.proofs.SinkLemmas.{Prints-stop, Prints-then}
use Rattle.id_trace.proofs.trace.put_delivery.Goals as goal

pub returns-in_err-put_goal : goal.returns-in_err-put_goal
returns-in_err-put_goal g c =
    Prints-stop _ _ _ (codes " " ++ carried_text c.args.value) _ _ c.in_err-put_goal.ensures c.from_residual.ensures.0

pub returns-in_err-put : goal.returns-in_err-put
returns-in_err-put g c = Prints-then _ _ _ _ _ _ _ c.in_ok-put_goal.ensures
    (Prints-stop _ _ _ (carried_text c.args.value) _ _ c.in_err-put.ensures c.from_residual-in_err-put.ensures.0)

pub returns : goal.returns
returns g c =
    Prints-then _ _ _ _ _ _ _ c.in_ok-put_goal.ensures
    (Prints-then _ _ _ _ _ _ _ c.in_ok-put.ensures c.put_carried.ensures)
