use Rattle.std.proofs.Common.{rules, w64, codes, ◌++◌, refl}
use mir.Val.{SFits}
use Rattle.std.proofs.lemmas.Int.{to_z-of_z}
use Rattle.id_sink.specs.Texts.{bounds_text, site_text}
use Rattle.id_print.specs.Pens.{name_in}
use Rattle.id_sink.proofs.SinkLemmas.{Prints-stop, Prints-then}
use Rattle.id_print.proofs.rows.put_shape.Goals as goal

pub returns-in_err-put : goal.returns-in_err-put
returns-in_err-put g c =
    let pen = c.args.pen.now in
    record {
      prints = Prints-stop _ _ _ (site_text pen.text (name_in pen c.args.name)
          ++ (codes " " ++ bounds_text c.args.low c.args.high)) _ _ c.in_err-put.ensures
          c.from_residual.ensures.0;
      same = refl;
    }

pub returns-in_err-put_name : goal.returns-in_err-put_name
returns-in_err-put_name g c = record {
  prints = Prints-then _ _ _ _ _ _ _ c.in_ok-put.ensures
      (Prints-stop _ _ _ (codes " " ++ bounds_text c.args.low c.args.high) _ _ c.in_err-put_name.ensures.prints
      c.from_residual-in_err-put_name.ensures.0);
  same = c.in_err-put_name.ensures.same;
}

pub returns-in_err-put-2 : goal.returns-in_err-put-2
returns-in_err-put-2 g c = record {
  prints = Prints-then _ _ _ _ _ _ _ c.in_ok-put.ensures (Prints-then _ _ _ _ _ _ _ c.in_ok-put_name.ensures.prints
      (Prints-stop _ _ _ (bounds_text c.args.low c.args.high) _ _ c.in_err-put-2.ensures
      c.from_residual-in_err-put-2.ensures.0));
  same = c.in_ok-put_name.ensures.same;
}

pub returns : goal.returns
returns g c =
    let low_fits : SFits w64 c.args.low = search rules in
    let high_fits : SFits w64 c.args.high = search rules in
    record {
      prints = Prints-then _ _ _ _ _ _ _ c.in_ok-put.ensures (Prints-then _ _ _ _ _ _ _ c.in_ok-put_name.ensures.prints
          (Prints-then _ _ _ _ _ _ _ c.in_ok-put-2.ensures (rw (to_z-of_z w64 c.args.high high_fits) at
          (rw (to_z-of_z w64 c.args.low low_fits) at c.put_bounds.ensures))));
      same = c.in_ok-put_name.ensures.same;
    }
