use Rattle.id_compile.specs.Refusals.{kinds_text}
use Rattle.id_sink.proofs.SinkLemmas.{Prints-stop, Prints-then}
use Rattle.id_compile.proofs.refusal.put_at_kinds.Goals as goal

pub returns-in_err-put_at : goal.returns-in_err-put_at
returns-in_err-put_at g c =
    Prints-stop _ _ _ (kinds_text c.args.wanted c.args.found) _ _ c.in_err-put_at.ensures c.from_residual.ensures.0

pub returns : goal.returns
returns g c = Prints-then _ _ _ _ _ _ _ c.in_ok-put_at.ensures c.put_kinds.ensures
