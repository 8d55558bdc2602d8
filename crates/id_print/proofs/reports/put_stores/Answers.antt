use Rattle.std.proofs.Common.{codes, ◌++◌, ◌∙◌, refl}
use Rattle.id_sink.specs.Texts.{site_text}
use Rattle.id_print.specs.Texts.{stores_text}
use Rattle.id_sink.proofs.SinkLemmas.{Prints-stop, Prints-then}
use Rattle.id_print.proofs.reports.put_stores.Goals as goal

pub returns-in_err-put : goal.returns-in_err-put
returns-in_err-put g c = record {
  prints = Prints-stop _ _ _ (stores_text c.args.cursor.now c.args.first.now c.args.second.now) _ _ c.in_err-put.ensures
      c.from_residual.ensures.0;
  same = refl;
}

pub returns-in_err-put_site : goal.returns-in_err-put_site
returns-in_err-put_site g c = record {
  prints = Prints-then _ _ _ _ _ _ _ c.in_ok-put.ensures
      (Prints-stop _ _ _ (codes " and " ++ (site_text c.args.cursor.now c.args.second.now ++ codes "\n")) _ _
      c.in_err-put_site.ensures.prints
      c.from_residual-in_err-put_site.ensures.0);
  same = c.in_err-put_site.ensures.same;
}

pub returns : goal.returns
returns g c = record {
  prints = Prints-then _ _ _ _ _ _ _ c.in_ok-put.ensures
      (Prints-then _ _ _ _ _ _ _ c.in_ok-put_site.ensures.prints
      (rw c.in_ok-put_site.ensures.same at c.put_other_store.ensures.prints));
  same = c.put_other_store.ensures.same ∙ c.in_ok-put_site.ensures.same;
}
