-- One more.
use Rattle.std.proofs.Common.{◌∙◌}
use Rattle.std.proofs.lemmas.Option.{slice_get-get_or}
use Rattle.id_sink.proofs.TextsLemmas.{Prints-more, Prints-more_stop, same_text}
use Rattle.id_print.specs.Reasons.{thing_text}
use Rattle.id_print.proofs.ReasonsLemmas.{all-of}
use Rattle.id_print.proofs.reasons.put_things.Goals as goal

pub returns-in_err-put_thing : goal.returns-in_err-put_thing
returns-in_err-put_thing g c =
    let prints = rw c.loop-thing.invariant.same at c.in_err-put_thing.ensures.prints in
    record {
      prints = Prints-more_stop (thing_text c.args.pen.now) c.args.things.now c.loop-thing.thing-index _ _ _ _ _ _ _
          (slice_get-get_or c.args.things.now c.loop-thing.thing-index _ c.loop-thing-test.true)
          c.loop-thing.invariant.printed prints c.from_residual.ensures.0;
      same = c.in_err-put_thing.ensures.same ∙ c.loop-thing.invariant.same;
    }

pub loop-thing-preserved : goal.loop-thing-preserved
loop-thing-preserved g c =
    let prints = rw c.loop-thing.invariant.same at c.in_ok-put_thing.ensures.prints in
    record {
      printed = Prints-more (thing_text c.args.pen.now) c.args.things.now c.loop-thing.thing-index _ _ _ _ _ _
          (slice_get-get_or c.args.things.now c.loop-thing.thing-index _ c.loop-thing-test.true)
          c.loop-thing.invariant.printed prints;
      same = c.in_ok-put_thing.ensures.same ∙ c.loop-thing.invariant.same;
    }

pub returns : goal.returns
returns g c = record {
  prints = same_text _ _ _ _ _
      (all-of (thing_text c.args.pen.now) c.args.things.now c.loop-thing.thing-index c.loop-thing-test.false)
      c.loop-thing.invariant.printed;
  same = c.loop-thing.invariant.same;
}
