use Rattle.std.proofs.Common.{refl}
use Rattle.id_sink.specs.Texts.{value_text}
use Rattle.id_print.specs.Pens.{value_in}
use Rattle.id_sink.proofs.SinkLemmas.{Prints-stop, Prints-then}
use Rattle.id_print.proofs.rows.put_equal.Goals as goal

pub returns-in_err-put : goal.returns-in_err-put
returns-in_err-put g c =
    let pen = c.args.pen.now in
    record {
      prints = Prints-stop _ _ _ (value_text pen.text (value_in pen c.args.value)) _ _ c.in_err-put.ensures
          c.from_residual.ensures.0;
      same = refl;
    }

pub returns : goal.returns
returns g c = record {
  prints = Prints-then _ _ _ _ _ _ _ c.in_ok-put.ensures c.put_value.ensures.prints;
  same = c.put_value.ensures.same;
}
