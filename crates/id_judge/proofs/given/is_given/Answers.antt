-- The event is the one that is given where each part of it is.
use Rattle.std.proofs.Common.{ap, sym, ◌∙◌}
use Rattle.id_record.specs.Events.{EventView}
use Rattle.id_judge.proofs.GivenLemmas.{none_true, not_false}
use Rattle.id_judge.proofs.given.is_given.Goals as goal

pub returns-then-event-given : goal.returns-then-event-given
returns-then-event-given c =
    none_true (λ same. c.if-event-given.true (ap (λ (v : EventView). v.element) (same ∙ sym c.given.view_is)))

pub returns-then-event-given-2 : goal.returns-then-event-given-2
returns-then-event-given-2 c =
    none_true (λ same. c.if-event-given-2.true (ap (λ (v : EventView). v.stamp) (same ∙ sym c.given.view_is)))

pub returns-then-not-same_message : goal.returns-then-not-same_message
returns-then-not-same_message c = none_true
    (λ same. not_false c.same_message.result c.if-not-same_message.true
    (c.same_message.ensures.1 (ap (λ (v : EventView). v.message) (same ∙ sym c.given.view_is))))

pub returns-then-not-same_fired : goal.returns-then-not-same_fired
returns-then-not-same_fired c = none_true
    (λ same. not_false c.same_fired.result c.if-not-same_fired.true
    (c.same_fired.ensures.1 (ap (λ (v : EventView). v.fired) (same ∙ sym c.given.view_is))))

pub returns-then-not-same_step : goal.returns-then-not-same_step
returns-then-not-same_step c = none_true
    (λ same. not_false c.same_step.result c.if-not-same_step.true
    (c.same_step.ensures.1 (ap (λ (v : EventView). v.step) (same ∙ sym c.given.view_is))))

pub returns : goal.returns
returns c = (
  (λ yes.
      let outputs = c.are_sent.ensures.0 yes ∙ c.as_slice.ensures.value in
      let message = c.same_message.ensures.0 c.if-not-same_message.false in
      let fired = c.same_fired.ensures.0 c.if-not-same_fired.false in
      let step = c.same_step.ensures.0 c.if-not-same_step.false in
      (λ i. record {
        element = c.if-event-given.false i;
        stamp = c.if-event-given-2.false i;
        message = message i;
        fired = fired i;
        outputs = outputs i;
        step = step i;
      }) ∙ c.given.view_is),
  λ same. c.are_sent.ensures.1 (ap (λ (v : EventView). v.outputs) (same ∙ sym c.given.view_is)
      ∙ sym c.as_slice.ensures.value),
)
