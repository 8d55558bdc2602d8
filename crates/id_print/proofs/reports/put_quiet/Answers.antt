use Rattle.std.proofs.Common.{◌∙◌}
use Rattle.id_print.specs.Texts.{waitings_text}
use Rattle.id_sink.proofs.SinkLemmas.{Prints-stop, Prints-then}
use Rattle.id_print.proofs.reports.put_quiet.Goals as goal

pub returns-in_err-put_shown : goal.returns-in_err-put_shown
returns-in_err-put_shown g c = record {
  prints = Prints-stop _ _ _ (waitings_text c.args.cursor.now c.args.report.now.waiting) _ _
      c.in_err-put_shown.ensures.prints c.from_residual.ensures.0;
  same = c.in_err-put_shown.ensures.same;
}

pub returns : goal.returns
returns g c = record {
  prints = Prints-then _ _ _ _ _ _ _ c.in_ok-put_shown.ensures.prints
      (rw c.as_slice.ensures at (rw c.in_ok-put_shown.ensures.same at c.put_waitings.ensures.prints));
  same = c.put_waitings.ensures.same ∙ c.in_ok-put_shown.ensures.same;
}
