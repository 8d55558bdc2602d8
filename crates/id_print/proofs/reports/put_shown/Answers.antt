use Rattle.std.proofs.Common.{◌++◌, ◌∙◌}
use Rattle.id_print.specs.Texts.{names_text, helds_text}
use Rattle.id_sink.proofs.SinkLemmas.{Prints-stop, Prints-then}
use Rattle.id_print.proofs.reports.put_shown.Goals as goal

pub returns-in_err-put_answer : goal.returns-in_err-put_answer
returns-in_err-put_answer g c = record {
  prints = Prints-stop _ _ _ (names_text c.args.cursor.now c.args.names.now
      ++ helds_text c.args.cursor.now c.args.report.now.structures) _ _
      c.in_err-put_answer.ensures.prints c.from_residual.ensures.0;
  same = c.in_err-put_answer.ensures.same;
}

pub returns-in_err-put_names : goal.returns-in_err-put_names
returns-in_err-put_names g c = record {
  prints = Prints-then _ _ _ _ _ _ _ c.in_ok-put_answer.ensures.prints
      (Prints-stop _ _ _ (helds_text c.args.cursor.now c.args.report.now.structures) _ _
      (rw c.in_ok-put_answer.ensures.same at c.in_err-put_names.ensures.prints)
      c.from_residual-in_err-put_names.ensures.0);
  same = c.in_err-put_names.ensures.same ∙ c.in_ok-put_answer.ensures.same;
}

pub returns : goal.returns
returns g c = record {
  prints = Prints-then _ _ _ _ _ _ _ c.in_ok-put_answer.ensures.prints
      (Prints-then _ _ _ _ _ _ _ (rw c.in_ok-put_answer.ensures.same at c.in_ok-put_names.ensures.prints)
      (rw c.in_ok-put_answer.ensures.same at (rw c.in_ok-put_names.ensures.same at c.put_helds.ensures.prints)));
  same = c.put_helds.ensures.same ∙ c.in_ok-put_names.ensures.same ∙ c.in_ok-put_answer.ensures.same;
}
