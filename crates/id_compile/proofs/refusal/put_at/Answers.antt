use Rattle.id_sink.specs.Texts.{place_text}
use Rattle.id_sink.proofs.SinkLemmas.{Prints-stop, Prints-then}
use Rattle.id_compile.proofs.refusal.put_at.Goals as goal

pub returns-in_err-put : goal.returns-in_err-put
returns-in_err-put g c =
    Prints-stop _ _ _ (place_text c.args.text.now c.args.at) _ _ c.in_err-put.ensures c.from_residual.ensures.0

pub returns : goal.returns
returns g c = Prints-then _ _ _ _ _ _ _ c.in_ok-put.ensures c.put_place.ensures
