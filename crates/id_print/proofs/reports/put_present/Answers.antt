use Rattle.std.proofs.Common.{codes, rules, w64, ◌++◌, ap, sym, ◌∙◌, refl}
use mir.Val.{SFits}
use Rattle.std.proofs.lemmas.Int.{to_z-of_z}
use Rattle.id_sink.specs.Texts.{filled_text, content_text}
use Rattle.id_sink.proofs.SinkLemmas.{Prints-stop, Prints-then}
use Rattle.id_sink.proofs.TextsLemmas.{same_text, filled_text-content, Prints-content_at}
use Rattle.id_print.proofs.reports.put_present.Goals as goal

pub returns-in_err-put : goal.returns-in_err-put
returns-in_err-put g c = record {
  prints = Prints-stop _ _ _
      (filled_text c.args.cursor.now c.args.cell.now.name c.args.cell.now.index c.args.cell.now.value ++ codes "\n") _ _
      c.in_err-put.ensures
      c.from_residual.ensures.0;
  same = refl;
}

pub returns-in_err-put_site : goal.returns-in_err-put_site
returns-in_err-put_site g c =
    let cell = c.args.cell.now in
    record {
      prints = same_text _ _ _ _ _
          (ap (λ t. codes "cell " ++ t) (sym (filled_text-content c.args.cursor.now cell.name cell.index cell.value)))
          (Prints-then _ _ _ _ _ _ _ c.in_ok-put.ensures
          (Prints-stop _ _ _ (content_text c.args.cursor.now cell.index cell.value) _ _
          c.in_err-put_site.ensures.prints c.from_residual-in_err-put_site.ensures.0));
      same = c.in_err-put_site.ensures.same;
    }

pub returns : goal.returns
returns g c =
    let cell = c.args.cell.now in
    let index_fits : SFits w64 cell.index = search rules in
    record {
      prints = same_text _ _ _ _ _
          (ap (λ t. codes "cell " ++ t) (sym (filled_text-content c.args.cursor.now cell.name cell.index cell.value)))
          (Prints-then _ _ _ _ _ _ _ c.in_ok-put.ensures (Prints-then _ _ _ _ _ _ _ c.in_ok-put_site.ensures.prints
          (Prints-content_at _ c.args.cursor.now cell.index cell.value _ _ _ c.in_ok-put_site.ensures.same
          (rw (to_z-of_z w64 cell.index index_fits) at c.put_content.ensures.prints))));
      same = c.put_content.ensures.same ∙ c.in_ok-put_site.ensures.same;
    }
