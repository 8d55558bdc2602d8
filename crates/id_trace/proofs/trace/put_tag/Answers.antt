use Rattle.std.proofs.Common.{codes, ◌++◌}
use Rattle.std.specs.Prelude.{decimal}
use Rattle.id_sink.proofs.SinkLemmas.{Prints-stop, Prints-then}
use Rattle.id_trace.proofs.trace.put_tag.Goals as goal

pub returns-in_err-put_turn : goal.returns-in_err-put_turn
returns-in_err-put_turn g c =
    Prints-stop _ _ _ (codes ":" ++ decimal c.args.tag.instr) _ _ c.in_err-put_turn.ensures c.from_residual.ensures.0

pub returns-in_err-put : goal.returns-in_err-put
returns-in_err-put g c = Prints-then _ _ _ _ _ _ _ c.in_ok-put_turn.ensures
    (Prints-stop _ _ _ (decimal c.args.tag.instr) _ _ c.in_err-put.ensures c.from_residual-in_err-put.ensures.0)

pub returns : goal.returns
returns g c =
    Prints-then _ _ _ _ _ _ _ c.in_ok-put_turn.ensures
    (Prints-then _ _ _ _ _ _ _ c.in_ok-put.ensures c.put_number.ensures)
