-- One part behind the other.
use Rattle.std.proofs.Common.{codes, ◌++◌, refl}
use Rattle.id_sink.proofs.SinkLemmas.{Prints-stop, Prints-then}
use Rattle.id_print.specs.Texts.{answer_value_text}
use Rattle.id_print.specs.Reasons.{answer_in}
use Rattle.id_print.proofs.reasons.put_answer.Goals as goal

pub returns-in_err-put : goal.returns-in_err-put
returns-in_err-put g c =
    let pen = c.args.pen.now in
    record {
      prints = Prints-stop _ _ _ (answer_value_text pen.text (answer_in pen c.args.answer) ++ codes "\n") _ _
          c.in_err-put.ensures c.from_residual.ensures.0;
      same = refl;
    }

pub returns-in_err-put_answer_value : goal.returns-in_err-put_answer_value
returns-in_err-put_answer_value g c = record {
  prints = Prints-then _ _ _ _ _ _ _ c.in_ok-put.ensures
      (Prints-stop _ _ _ (codes "\n") _ _ c.in_err-put_answer_value.ensures.prints
      c.from_residual-in_err-put_answer_value.ensures.0);
  same = c.in_err-put_answer_value.ensures.same;
}

pub returns : goal.returns
returns g c = record {
  prints = Prints-then _ _ _ _ _ _ _ c.in_ok-put.ensures
      (Prints-then _ _ _ _ _ _ _ c.in_ok-put_answer_value.ensures.prints c.put-2.ensures);
  same = c.in_ok-put_answer_value.ensures.same;
}
