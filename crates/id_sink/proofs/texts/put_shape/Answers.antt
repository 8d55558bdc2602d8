use Rattle.std.proofs.Common.{rules, w64, codes, ◌++◌}
use Rattle.id_sink.specs.Texts.{bounds_text}
use mir.Val.{SFits}
use Rattle.std.proofs.lemmas.Int.{to_z-of_z}
use Rattle.id_sink.proofs.SinkLemmas.{Prints-stop, Prints-then}
use Rattle.id_sink.proofs.texts.put_shape.Goals as goal

pub returns-in_err-put_site : goal.returns-in_err-put_site
returns-in_err-put_site g c = record {
  prints = Prints-stop _ _ _ (codes " " ++ bounds_text c.args.shape.now.low c.args.shape.now.high) _ _
      c.in_err-put_site.ensures.prints c.from_residual.ensures.0;
  same = c.in_err-put_site.ensures.same;
}

pub returns-in_err-put : goal.returns-in_err-put
returns-in_err-put g c = record {
  prints = Prints-then _ _ _ _ _ _ _ c.in_ok-put_site.ensures.prints
      (Prints-stop _ _ _ (bounds_text c.args.shape.now.low c.args.shape.now.high) _ _ c.in_err-put.ensures
      c.from_residual-in_err-put.ensures.0);
  same = c.in_ok-put_site.ensures.same;
}

pub returns : goal.returns
returns g c =
    let low_fits : SFits w64 c.args.shape.now.low = search rules in
    let high_fits : SFits w64 c.args.shape.now.high = search rules in
    record {
      prints = Prints-then _ _ _ _ _ _ _ c.in_ok-put_site.ensures.prints
          (Prints-then _ _ _ _ _ _ _ c.in_ok-put.ensures (rw (to_z-of_z w64 c.args.shape.now.high high_fits) at
          (rw (to_z-of_z w64 c.args.shape.now.low low_fits) at c.put_bounds.ensures)));
      same = c.in_ok-put_site.ensures.same;
    }
