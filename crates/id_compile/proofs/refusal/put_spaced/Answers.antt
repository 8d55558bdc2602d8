use Rattle.id_sink.proofs.SinkLemmas.{Prints-stop, Prints-then}
use Rattle.id_compile.proofs.refusal.put_spaced.Goals as goal

pub returns-in_err-put : goal.returns-in_err-put
returns-in_err-put g c = Prints-stop _ _ _ c.args.word.now _ _ c.in_err-put.ensures c.from_residual.ensures.0

pub returns : goal.returns
returns g c = rw c.as_bytes.ensures.value at (Prints-then _ _ _ _ _ _ _ c.in_ok-put.ensures c.put-2.ensures)
