use Rattle.std.proofs.Common.{codes, rules, w64, ◌++◌, refl}
use mir.Val.{SFits}
use Rattle.std.proofs.lemmas.Int.{to_z-of_z}
use Rattle.id_sink.specs.Texts.{equal_text}
use Rattle.id_sink.proofs.SinkLemmas.{Prints-stop, Prints-then}
use Rattle.id_sink.proofs.texts.put_other_content.Goals as goal

pub returns-in_err-put_index : goal.returns-in_err-put_index
returns-in_err-put_index g c =
    let index_fits : SFits w64 c.args.index = search rules in
    record {
      prints = Prints-stop _ _ _ (equal_text c.args.cursor.now c.args.value.now ++ codes "\n") _ _
          (rw (to_z-of_z w64 c.args.index index_fits) at c.in_err-put_index.ensures) c.from_residual.ensures.0;
      same = refl;
    }

pub returns-in_err-put_equal : goal.returns-in_err-put_equal
returns-in_err-put_equal g c =
    let index_fits : SFits w64 c.args.index = search rules in
    record {
      prints = Prints-then _ _ _ _ _ _ _ (rw (to_z-of_z w64 c.args.index index_fits) at c.in_ok-put_index.ensures)
          (Prints-stop _ _ _ (codes "\n") _ _ c.in_err-put_equal.ensures.prints
          c.from_residual-in_err-put_equal.ensures.0);
      same = c.in_err-put_equal.ensures.same;
    }

pub returns : goal.returns
returns g c =
    let index_fits : SFits w64 c.args.index = search rules in
    record {
      prints = Prints-then _ _ _ _ _ _ _ (rw (to_z-of_z w64 c.args.index index_fits) at c.in_ok-put_index.ensures)
          (Prints-then _ _ _ _ _ _ _ c.in_ok-put_equal.ensures.prints c.put.ensures);
      same = c.in_ok-put_equal.ensures.same;
    }
