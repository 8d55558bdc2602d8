use Rattle.std.proofs.Common.{codes, ◌++◌, ◌∙◌}
use Rattle.id_sink.specs.Texts.{equal_text}
use Rattle.id_sink.proofs.SinkLemmas.{Prints-stop, Prints-then}
use Rattle.id_sink.proofs.texts.put_point_value.Goals as goal

pub returns-in_err-put_point : goal.returns-in_err-put_point
returns-in_err-put_point g c = record {
  prints = Prints-stop _ _ _ (equal_text c.args.cursor.now c.args.value.now ++ codes "\n") _ _
      c.in_err-put_point.ensures.prints c.from_residual.ensures.0;
  same = c.in_err-put_point.ensures.same;
}

pub returns-in_err-put_equal : goal.returns-in_err-put_equal
returns-in_err-put_equal g c = record {
  prints = Prints-then _ _ _ _ _ _ _ c.in_ok-put_point.ensures.prints
      (Prints-stop _ _ _ (codes "\n") _ _ (rw c.in_ok-put_point.ensures.same at c.in_err-put_equal.ensures.prints)
      c.from_residual-in_err-put_equal.ensures.0);
  same = c.in_err-put_equal.ensures.same ∙ c.in_ok-put_point.ensures.same;
}

pub returns : goal.returns
returns g c = record {
  prints = Prints-then _ _ _ _ _ _ _ c.in_ok-put_point.ensures.prints
      (Prints-then _ _ _ _ _ _ _ (rw c.in_ok-put_point.ensures.same at c.in_ok-put_equal.ensures.prints) c.put.ensures);
  same = c.in_ok-put_equal.ensures.same ∙ c.in_ok-put_point.ensures.same;
}
