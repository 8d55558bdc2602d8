use Rattle.std.proofs.Common.{refl}
use Rattle.id_print.specs.Texts.{shown_text}
use Rattle.id_sink.proofs.SinkLemmas.{Prints-stop, Prints-then}
use Rattle.id_print.proofs.reports.put_stopped.Goals as goal

pub returns-in_err-put : goal.returns-in_err-put
returns-in_err-put g c = record {
  prints = Prints-stop _ _ _
      (shown_text c.args.cursor.now c.args.report.now.answer c.args.names.now c.args.report.now.structures) _ _
      c.in_err-put.ensures
      c.from_residual.ensures.0;
  same = refl;
}

pub returns : goal.returns
returns g c = record {
  prints = Prints-then _ _ _ _ _ _ _ c.in_ok-put.ensures c.put_shown.ensures.prints;
  same = c.put_shown.ensures.same;
}
