use Rattle.std.proofs.Common.{refl}
use Rattle.id_sink.specs.Texts.{ask_text}
use Rattle.id_sink.proofs.SinkLemmas.{Prints-stop, Prints-then}
use Rattle.id_print.proofs.reports.put_waiting.Goals as goal

pub returns-in_err-put : goal.returns-in_err-put
returns-in_err-put g c = record {
  prints = Prints-stop _ _ _ (ask_text c.args.cursor.now c.args.ask.now) _ _ c.in_err-put.ensures
      c.from_residual.ensures.0;
  same = refl;
}

pub returns : goal.returns
returns g c = record {
  prints = Prints-then _ _ _ _ _ _ _ c.in_ok-put.ensures c.put_ask.ensures.prints;
  same = c.put_ask.ensures.same;
}
