use Rattle.std.proofs.Common.{codes, ◌++◌, ◌∙◌, refl}
use Rattle.id_sink.specs.Texts.{equal_text, point_value_text}
use Rattle.id_print.specs.Pens.{path_in, place_in, value_in}
use Rattle.id_sink.proofs.SinkLemmas.{Prints-stop, Prints-then}
use Rattle.id_print.proofs.rows.put_has.Goals as goal

pub returns-in_err-put : goal.returns-in_err-put
returns-in_err-put g c =
    let pen = c.args.pen.now in
    record {
      prints = Prints-stop _ _ _
          (point_value_text pen.text (path_in pen c.args.path) (place_in pen c.args.row) (value_in pen c.args.value)) _
          _ c.in_err-put.ensures
          c.from_residual.ensures.0;
      same = refl;
    }

pub returns-in_err-put_site : goal.returns-in_err-put_site
returns-in_err-put_site g c =
    let pen = c.args.pen.now in
    record {
      prints = Prints-then _ _ _ _ _ _ _ c.in_ok-put.ensures
          (Prints-stop _ _ _ (equal_text pen.text (value_in pen c.args.value) ++ codes "\n") _ _
          c.in_err-put_site.ensures.prints
          c.from_residual-in_err-put_site.ensures.0);
      same = c.in_err-put_site.ensures.same;
    }

pub returns-in_err-put_equal : goal.returns-in_err-put_equal
returns-in_err-put_equal g c = record {
  prints = Prints-then _ _ _ _ _ _ _ c.in_ok-put.ensures (Prints-then _ _ _ _ _ _ _ c.in_ok-put_site.ensures.prints
      (Prints-stop _ _ _ (codes "\n") _ _ (rw c.in_ok-put_site.ensures.same at c.in_err-put_equal.ensures.prints)
      c.from_residual-in_err-put_equal.ensures.0));
  same = c.in_err-put_equal.ensures.same ∙ c.in_ok-put_site.ensures.same;
}

pub returns : goal.returns
returns g c = record {
  prints = Prints-then _ _ _ _ _ _ _ c.in_ok-put.ensures (Prints-then _ _ _ _ _ _ _ c.in_ok-put_site.ensures.prints
      (Prints-then _ _ _ _ _ _ _ (rw c.in_ok-put_site.ensures.same at c.in_ok-put_equal.ensures.prints)
      c.put-2.ensures));
  same = c.in_ok-put_equal.ensures.same ∙ c.in_ok-put_site.ensures.same;
}
