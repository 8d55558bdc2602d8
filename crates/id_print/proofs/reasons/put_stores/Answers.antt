-- The stores, where there are some.
use Rattle.std.proofs.Common.{refl}
use Rattle.id_sink.proofs.SinkLemmas.{Prints-stop, Prints-then}
use Rattle.id_sink.proofs.TextsLemmas.{same_text}
use Rattle.id_print.specs.Reasons.{things_text}
use Rattle.id_print.proofs.ReasonsLemmas.{not-empty, stores-some}
use Rattle.id_print.proofs.reasons.put_stores.Goals as goal

pub returns-in_err-put : goal.returns-in_err-put
returns-in_err-put g c =
    let ts = c.args.stores.now in
    record {
      prints = same_text _ _ _ _ _
          (stores-some c.args.pen.now ts (not-empty ts c.is_empty.result c.is_empty.ensures c.if-is_empty.false))
          (Prints-stop _ _ _ (things_text c.args.pen.now ts) _ _ c.in_err-put.ensures c.from_residual.ensures.0);
      same = refl;
    }

pub returns-in_ok-put : goal.returns-in_ok-put
returns-in_ok-put g c =
    let ts = c.args.stores.now in
    record {
      prints = same_text _ _ _ _ _
          (stores-some c.args.pen.now ts (not-empty ts c.is_empty.result c.is_empty.ensures c.if-is_empty.false))
          (Prints-then _ _ _ _ _ _ _ c.in_ok-put.ensures c.put_things.ensures.prints);
      same = c.put_things.ensures.same;
    }
