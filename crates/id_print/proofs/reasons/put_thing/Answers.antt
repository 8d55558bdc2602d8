-- One part behind the other.
use Rattle.std.proofs.Common.{refl}
use Rattle.id_sink.proofs.SinkLemmas.{Prints-stop, Prints-then}
use Rattle.id_sink.specs.Texts.{site_text}
use Rattle.id_print.specs.Pens.{site_in}
use Rattle.id_print.proofs.reasons.put_thing.Goals as goal

pub returns-in_err-put : goal.returns-in_err-put
returns-in_err-put g c =
    let pen = c.args.pen.now in
    record {
      prints = Prints-stop _ _ _ (site_text pen.text (site_in pen c.args.thing.path c.args.thing.row)) _ _
          c.in_err-put.ensures c.from_residual.ensures.0;
      same = refl;
    }

pub returns : goal.returns
returns g c = record {
  prints = Prints-then _ _ _ _ _ _ _ c.in_ok-put.ensures c.put_site_behind.ensures.prints;
  same = c.put_site_behind.ensures.same;
}
