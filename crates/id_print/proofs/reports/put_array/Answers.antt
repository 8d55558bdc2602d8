use Rattle.std.proofs.Common.{refl}
use Rattle.id_sink.specs.Texts.{shape_text}
use Rattle.id_sink.proofs.SinkLemmas.{Prints-stop, Prints-then}
use Rattle.id_print.proofs.reports.put_array.Goals as goal

pub returns-in_err-put : goal.returns-in_err-put
returns-in_err-put g c = record {
  prints = Prints-stop _ _ _ (shape_text c.args.cursor.now c.args.shape.now) _ _ c.in_err-put.ensures
      c.from_residual.ensures.0;
  same = refl;
}

pub returns : goal.returns
returns g c = record {
  prints = Prints-then _ _ _ _ _ _ _ c.in_ok-put.ensures c.put_shape.ensures.prints;
  same = c.put_shape.ensures.same;
}
