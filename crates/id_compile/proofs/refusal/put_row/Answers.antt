use Rattle.std.proofs.Common.{codes, ◌++◌}
use Rattle.id_sink.proofs.SinkLemmas.{Prints-stop, Prints-then}
use Rattle.id_compile.proofs.refusal.put_row.Goals as goal

pub returns-in_err-put_cause_number : goal.returns-in_err-put_cause_number
returns-in_err-put_cause_number g c =
    Prints-stop _ _ _ (codes " " ++ c.args.row.now.name.now) _ _ c.in_err-put_cause_number.ensures
    c.from_residual.ensures.0

pub returns-in_err-put : goal.returns-in_err-put
returns-in_err-put g c =
    Prints-then _ _ _ _ _ _ _ c.in_ok-put_cause_number.ensures
    (Prints-stop _ _ _ c.args.row.now.name.now _ _ c.in_err-put.ensures c.from_residual-in_err-put.ensures.0)

pub returns : goal.returns
returns g c =
    Prints-then _ _ _ _ _ _ _ c.in_ok-put_cause_number.ensures
    (Prints-then _ _ _ _ _ _ _ c.in_ok-put.ensures c.put-2.ensures)
