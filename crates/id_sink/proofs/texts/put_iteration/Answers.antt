use Rattle.std.specs.Prelude.{decimal}
use Rattle.id_sink.proofs.SinkLemmas.{Prints-stop, Prints-then}
use Rattle.id_sink.proofs.texts.put_iteration.Goals as goal

pub returns-in_err-put : goal.returns-in_err-put
returns-in_err-put g c =
    rw c.if-in_loop.true (Prints-stop _ _ _ (decimal c.args.number) _ _ c.in_err-put.ensures c.from_residual.ensures.0)

pub returns-in_ok-put : goal.returns-in_ok-put
returns-in_ok-put g c = rw c.if-in_loop.true (Prints-then _ _ _ _ _ _ _ c.in_ok-put.ensures c.put_long.ensures)
