use Rattle.std.proofs.Common.{rules, w64, codes, ◌++◌, ◌∙◌}
use mir.Val.{SFits}
use Rattle.std.proofs.lemmas.Int.{to_z-of_z}
use Rattle.id_sink.specs.Texts.{cell_text}
use Rattle.id_sink.proofs.SinkLemmas.{Prints-stop, Prints-then}
use Rattle.id_sink.proofs.texts.put_ask.Goals as goal

pub returns-in_err-put_site : goal.returns-in_err-put_site
returns-in_err-put_site g c = record {
  prints = Prints-stop _ _ _
      (codes " of " ++ (cell_text c.args.cursor.now c.args.ask.now.name c.args.ask.now.index ++ codes "\n")) _ _
      c.in_err-put_site.ensures.prints c.from_residual.ensures.0;
  same = c.in_err-put_site.ensures.same;
}

pub returns : goal.returns
returns g c =
    let index_fits : SFits w64 c.args.ask.now.index = search rules in
    record {
      prints = Prints-then _ _ _ _ _ _ _ c.in_ok-put_site.ensures.prints
          (rw (to_z-of_z w64 c.args.ask.now.index index_fits) at
          (rw c.in_ok-put_site.ensures.same at c.put_asked_cell.ensures.prints));
      same = c.put_asked_cell.ensures.same ∙ c.in_ok-put_site.ensures.same;
    }
