use Rattle.std.proofs.Common.{rules, w64, codes, ◌++◌}
use Rattle.std.specs.Fmt.{signed_decimal}
use mir.Val.{SFits}
use Rattle.std.proofs.lemmas.Int.{to_z-of_z}
use Rattle.id_sink.proofs.SinkLemmas.{Prints-stop, Prints-then}
use Rattle.id_sink.proofs.texts.put_cell.Goals as goal

pub returns-in_err-put_site : goal.returns-in_err-put_site
returns-in_err-put_site g c = record {
  prints = Prints-stop _ _ _ (codes "[" ++ (signed_decimal c.args.index ++ codes "]")) _ _
      c.in_err-put_site.ensures.prints c.from_residual.ensures.0;
  same = c.in_err-put_site.ensures.same;
}

pub returns : goal.returns
returns g c =
    let index_fits : SFits w64 c.args.index = search rules in
    record {
      prints = Prints-then _ _ _ _ _ _ _ c.in_ok-put_site.ensures.prints
          (rw (to_z-of_z w64 c.args.index index_fits) at c.put_index.ensures);
      same = c.in_ok-put_site.ensures.same;
    }
