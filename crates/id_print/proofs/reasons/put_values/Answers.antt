-- One more.
use Rattle.std.proofs.Common.{◌∙◌}
use Rattle.std.proofs.lemmas.Option.{slice_get-get_or}
use Rattle.id_sink.proofs.TextsLemmas.{Prints-more, Prints-more_stop, same_text}
use Rattle.id_print.specs.Reasons.{given_text}
use Rattle.id_print.proofs.ReasonsLemmas.{all-of}
use Rattle.id_print.proofs.reasons.put_values.Goals as goal

pub returns-in_err-put_given : goal.returns-in_err-put_given
returns-in_err-put_given g c =
    let prints = rw c.loop-value.invariant.same at c.in_err-put_given.ensures.prints in
    record {
      prints = Prints-more_stop (given_text c.args.pen.now) c.args.values.now c.loop-value.value-index _ _ _ _ _ _ _
          (slice_get-get_or c.args.values.now c.loop-value.value-index _ c.loop-value-test.true)
          c.loop-value.invariant.printed prints c.from_residual.ensures.0;
      same = c.in_err-put_given.ensures.same ∙ c.loop-value.invariant.same;
    }

pub loop-value-preserved : goal.loop-value-preserved
loop-value-preserved g c =
    let prints = rw c.loop-value.invariant.same at c.in_ok-put_given.ensures.prints in
    record {
      printed = Prints-more (given_text c.args.pen.now) c.args.values.now c.loop-value.value-index _ _ _ _ _ _
          (slice_get-get_or c.args.values.now c.loop-value.value-index _ c.loop-value-test.true)
          c.loop-value.invariant.printed prints;
      same = c.in_ok-put_given.ensures.same ∙ c.loop-value.invariant.same;
    }

pub returns : goal.returns
returns g c = record {
  prints = same_text _ _ _ _ _
      (all-of (given_text c.args.pen.now) c.args.values.now c.loop-value.value-index c.loop-value-test.false)
      c.loop-value.invariant.printed;
  same = c.loop-value.invariant.same;
}
