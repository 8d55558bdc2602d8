use Rattle.std.proofs.Common.{refl}
use Rattle.id_sink.specs.Texts.{point_value_text}
use Rattle.id_sink.proofs.SinkLemmas.{Prints-stop, Prints-then}
use Rattle.id_print.proofs.reports.put_name.Goals as goal

pub returns-in_err-put : goal.returns-in_err-put
returns-in_err-put g c = record {
  prints = Prints-stop _ _ _
      (point_value_text c.args.cursor.now c.args.name.now.path c.args.name.now.place c.args.name.now.value) _ _
      c.in_err-put.ensures
      c.from_residual.ensures.0;
  same = refl;
}

pub returns : goal.returns
returns g c = record {
  prints = Prints-then _ _ _ _ _ _ _ c.in_ok-put.ensures c.put_point_value.ensures.prints;
  same = c.put_point_value.ensures.same;
}
