use Rattle.std.proofs.Common.{codes, ◌++◌, refl}
use Rattle.id_sink.specs.Texts.{site_text}
use Rattle.id_sink.proofs.SinkLemmas.{Prints-stop, Prints-then}
use Rattle.id_print.proofs.reports.put_failed.Goals as goal

pub returns-in_err-put_fault_head : goal.returns-in_err-put_fault_head
returns-in_err-put_fault_head g c = record {
  prints = Prints-stop _ _ _ (site_text c.args.cursor.now c.args.site.now ++ codes "\n") _ _
      c.in_err-put_fault_head.ensures c.from_residual.ensures.0;
  same = refl;
}

pub returns-in_err-put_site : goal.returns-in_err-put_site
returns-in_err-put_site g c = record {
  prints = Prints-then _ _ _ _ _ _ _ c.in_ok-put_fault_head.ensures
      (Prints-stop _ _ _ (codes "\n") _ _ c.in_err-put_site.ensures.prints c.from_residual-in_err-put_site.ensures.0);
  same = c.in_err-put_site.ensures.same;
}

pub returns : goal.returns
returns g c = record {
  prints = Prints-then _ _ _ _ _ _ _ c.in_ok-put_fault_head.ensures
      (Prints-then _ _ _ _ _ _ _ c.in_ok-put_site.ensures.prints c.put.ensures);
  same = c.in_ok-put_site.ensures.same;
}
