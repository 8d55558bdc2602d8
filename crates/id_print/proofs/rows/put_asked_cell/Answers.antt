use Rattle.std.proofs.Common.{rules, w64, codes, ◌++◌, refl}
use mir.Val.{SFits}
use Rattle.std.proofs.lemmas.Int.{to_z-of_z}
use Rattle.id_sink.specs.Texts.{cell_text}
use Rattle.id_print.specs.Pens.{name_in}
use Rattle.id_sink.proofs.SinkLemmas.{Prints-stop, Prints-then}
use Rattle.id_print.proofs.rows.put_asked_cell.Goals as goal

pub returns-in_err-put : goal.returns-in_err-put
returns-in_err-put g c =
    let pen = c.args.pen.now in
    record {
      prints = Prints-stop _ _ _ (cell_text pen.text (name_in pen c.args.name) c.args.index ++ codes "\n") _ _
          c.in_err-put.ensures c.from_residual.ensures.0;
      same = refl;
    }

pub returns-in_err-put_cell_behind : goal.returns-in_err-put_cell_behind
returns-in_err-put_cell_behind g c =
    let index_fits : SFits w64 c.args.index = search rules in
    record {
      prints = Prints-then _ _ _ _ _ _ _ c.in_ok-put.ensures (Prints-stop _ _ _ (codes "\n") _ _
          (rw (to_z-of_z w64 c.args.index index_fits) at c.in_err-put_cell_behind.ensures.prints)
          c.from_residual-in_err-put_cell_behind.ensures.0);
      same = c.in_err-put_cell_behind.ensures.same;
    }

pub returns : goal.returns
returns g c =
    let index_fits : SFits w64 c.args.index = search rules in
    record {
      prints = Prints-then _ _ _ _ _ _ _ c.in_ok-put.ensures (Prints-then _ _ _ _ _ _ _
          (rw (to_z-of_z w64 c.args.index index_fits) at c.in_ok-put_cell_behind.ensures.prints) c.put-2.ensures);
      same = c.in_ok-put_cell_behind.ensures.same;
    }
