use Rattle.std.proofs.Common.{◌∙◌}
use Rattle.std.proofs.lemmas.Option.{slice_get-get_or}
use Rattle.id_sink.specs.Texts.{step_text}
use Rattle.id_sink.proofs.TextsLemmas.{Prints-more, Prints-more_stop}
use Rattle.id_sink.proofs.texts.put_steps.Goals as goal

pub returns-in_err-put_step : goal.returns-in_err-put_step
returns-in_err-put_step g c =
    let prints = rw c.loop-step.invariant.same at c.in_err-put_step.ensures.prints in
    record {
      prints = Prints-more_stop (step_text c.args.cursor.now) c.args.steps.now c.loop-step.step-index _ _ _ _ _ _ _
          (slice_get-get_or c.args.steps.now c.loop-step.step-index _ c.loop-step-test.true)
          c.loop-step.invariant.printed prints c.from_residual.ensures.0;
      same = c.in_err-put_step.ensures.same ∙ c.loop-step.invariant.same;
    }

pub loop-step-preserved : goal.loop-step-preserved
loop-step-preserved g c =
    let prints = rw c.loop-step.invariant.same at c.in_ok-put_step.ensures.prints in
    record {
      printed = Prints-more (step_text c.args.cursor.now) c.args.steps.now c.loop-step.step-index _ _ _ _ _ _
          (slice_get-get_or c.args.steps.now c.loop-step.step-index _ c.loop-step-test.true)
          c.loop-step.invariant.printed prints;
      same = c.in_ok-put_step.ensures.same ∙ c.loop-step.invariant.same;
    }
