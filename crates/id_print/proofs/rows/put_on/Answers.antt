use Rattle.std.proofs.Common.{codes, ◌++◌, refl}
use Rattle.id_sink.specs.Texts.{site_text}
use Rattle.id_print.specs.Pens.{site_in}
use Rattle.id_sink.proofs.SinkLemmas.{Prints-stop, Prints-then}
use Rattle.id_print.proofs.rows.put_on.Goals as goal

pub returns-in_err-put : goal.returns-in_err-put
returns-in_err-put g c =
    let pen = c.args.pen.now in
    record {
      prints = Prints-stop _ _ _ (site_text pen.text (site_in pen c.args.path c.args.row) ++ codes "\n") _ _
          c.in_err-put.ensures c.from_residual.ensures.0;
      same = refl;
    }

pub returns-in_err-put_site : goal.returns-in_err-put_site
returns-in_err-put_site g c = record {
  prints = Prints-then _ _ _ _ _ _ _ c.in_ok-put.ensures
      (Prints-stop _ _ _ (codes "\n") _ _ c.in_err-put_site.ensures.prints c.from_residual-in_err-put_site.ensures.0);
  same = c.in_err-put_site.ensures.same;
}

pub returns : goal.returns
returns g c = record {
  prints = Prints-then _ _ _ _ _ _ _ c.in_ok-put.ensures
      (Prints-then _ _ _ _ _ _ _ c.in_ok-put_site.ensures.prints c.put-2.ensures);
  same = c.in_ok-put_site.ensures.same;
}
