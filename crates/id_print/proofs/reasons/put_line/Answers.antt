-- One part behind the other.
use Rattle.std.proofs.Common.{codes}
use Rattle.id_sink.proofs.SinkLemmas.{Prints-stop, Prints-then}
use Rattle.id_print.proofs.reasons.put_line.Goals as goal

pub returns-in_err-put_body : goal.returns-in_err-put_body
returns-in_err-put_body g c = record {
  prints = Prints-stop _ _ _ (codes "\n") _ _ c.in_err-put_body.ensures.prints c.from_residual.ensures.0;
  same = c.in_err-put_body.ensures.same;
}

pub returns : goal.returns
returns g c = record {
  prints = Prints-then _ _ _ _ _ _ _ c.in_ok-put_body.ensures.prints c.put.ensures;
  same = c.in_ok-put_body.ensures.same;
}
