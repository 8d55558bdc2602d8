use Rattle.std.proofs.Common.{codes, ◌++◌, ◌∙◌}
use Rattle.id_sink.specs.Texts.{place_text}
use Rattle.id_sink.proofs.SinkLemmas.{Prints-stop, Prints-then}
use Rattle.id_sink.proofs.texts.put_point.Goals as goal

pub returns-in_err-put_steps : goal.returns-in_err-put_steps
returns-in_err-put_steps g c = record {
  prints = rw c.as_slice.ensures at
      (Prints-stop _ _ _ (codes "@" ++ place_text c.args.cursor.now c.args.place) _ _ c.in_err-put_steps.ensures.prints
      c.from_residual.ensures.0);
  same = c.in_err-put_steps.ensures.same;
}

pub returns : goal.returns
returns g c =
    let at = rw c.in_ok-put_steps.ensures.same at c.put_at.ensures.prints in
    record {
      prints = rw c.as_slice.ensures at (Prints-then _ _ _ _ _ _ _ c.in_ok-put_steps.ensures.prints at);
      same = c.put_at.ensures.same ∙ c.in_ok-put_steps.ensures.same;
    }
