use Rattle.std.proofs.Common.{rules, w64, ◌∙◌}
use Rattle.id_sink.specs.Texts.{equal_text}
use mir.Val.{SFits}
use Rattle.std.proofs.lemmas.Int.{to_z-of_z}
use Rattle.id_sink.proofs.SinkLemmas.{Prints-stop, Prints-then}
use Rattle.id_sink.proofs.texts.put_filled.Goals as goal

pub returns-in_err-put_cell : goal.returns-in_err-put_cell
returns-in_err-put_cell g c =
    let index_fits : SFits w64 c.args.index = search rules in
    record {
      prints = Prints-stop _ _ _ (equal_text c.args.cursor.now c.args.value.now) _ _
          (rw (to_z-of_z w64 c.args.index index_fits) at c.in_err-put_cell.ensures.prints)
          c.from_residual.ensures.0;
      same = c.in_err-put_cell.ensures.same;
    }

pub returns : goal.returns
returns g c =
    let index_fits : SFits w64 c.args.index = search rules in
    record {
      prints = Prints-then _ _ _ _ _ _ _ (rw (to_z-of_z w64 c.args.index index_fits) at c.in_ok-put_cell.ensures.prints)
          (rw c.in_ok-put_cell.ensures.same at c.put_equal.ensures.prints);
      same = c.put_equal.ensures.same ∙ c.in_ok-put_cell.ensures.same;
    }
