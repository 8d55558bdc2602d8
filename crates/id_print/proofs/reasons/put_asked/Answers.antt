-- One part behind the other.
use Rattle.std.proofs.Common.{rules, w64, refl}
use mir.Val.{SFits}
use Rattle.std.proofs.lemmas.Int.{to_z-of_z}
use Rattle.id_sink.proofs.SinkLemmas.{Prints-stop, Prints-then}
use Rattle.id_sink.specs.Texts.{cell_text}
use Rattle.id_print.specs.Pens.{name_in}
use Rattle.id_print.proofs.reasons.put_asked.Goals as goal

pub returns-in_err-put : goal.returns-in_err-put
returns-in_err-put g c =
    let pen = c.args.pen.now in
    record {
      prints = Prints-stop _ _ _ (cell_text pen.text (name_in pen c.args.cell.name) c.args.cell.index) _ _
          c.in_err-put.ensures c.from_residual.ensures.0;
      same = refl;
    }

pub returns : goal.returns
returns g c =
    let index_fits : SFits w64 c.args.cell.index = search rules in
    record {
      prints = Prints-then _ _ _ _ _ _ _ c.in_ok-put.ensures
          (rw (to_z-of_z w64 c.args.cell.index index_fits) at c.put_cell_behind.ensures.prints);
      same = c.put_cell_behind.ensures.same;
    }
