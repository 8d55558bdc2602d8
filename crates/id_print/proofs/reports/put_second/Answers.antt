use Rattle.std.proofs.Common.{rules, w64, codes, ◌++◌, ◌∙◌, refl}
use mir.Val.{SFits}
use Rattle.std.proofs.lemmas.Int.{to_z-of_z}
use Rattle.id_print.specs.Texts.{second_text, stores_text}
use Rattle.id_sink.proofs.SinkLemmas.{Prints-stop, Prints-then}
use Rattle.id_print.proofs.reports.put_second.Goals as goal

pub returns-in_err-put : goal.returns-in_err-put
returns-in_err-put g c = record {
  prints = Prints-stop _ _ _
      (second_text c.args.cursor.now c.args.name.now c.args.index c.args.first.now c.args.second.now) _ _
      c.in_err-put.ensures
      c.from_residual.ensures.0;
  same = refl;
}

pub returns-in_err-put_cell : goal.returns-in_err-put_cell
returns-in_err-put_cell g c =
    let index_fits : SFits w64 c.args.index = search rules in
    record {
      prints = Prints-then _ _ _ _ _ _ _ c.in_ok-put.ensures
          (Prints-stop _ _ _ (codes " at " ++ stores_text c.args.cursor.now c.args.first.now c.args.second.now) _ _
          (rw (to_z-of_z w64 c.args.index index_fits) at c.in_err-put_cell.ensures.prints)
          c.from_residual-in_err-put_cell.ensures.0);
      same = c.in_err-put_cell.ensures.same;
    }

pub returns : goal.returns
returns g c =
    let index_fits : SFits w64 c.args.index = search rules in
    record {
      prints = Prints-then _ _ _ _ _ _ _ c.in_ok-put.ensures
          (Prints-then _ _ _ _ _ _ _ (rw (to_z-of_z w64 c.args.index index_fits) at c.in_ok-put_cell.ensures.prints)
          (rw c.in_ok-put_cell.ensures.same at c.put_stores.ensures.prints));
      same = c.put_stores.ensures.same ∙ c.in_ok-put_cell.ensures.same;
    }
