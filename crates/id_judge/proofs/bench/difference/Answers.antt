-- The last event of the element is told from the one that is given.
use Rattle.std.proofs.Common.{◌≡◌, sym, ap, subst, ◌∙◌}
use Rattle.id_record.specs.Events.{EventView}
use Rattle.id_judge.specs.Benches.{IsLast}
use Rattle.id_judge.specs.Verdicts.{told}
use Rattle.id_judge.proofs.GivenLemmas.{not_false}
use Rattle.id_judge.proofs.bench.difference.Goals as goal
use Rattle.id_judge.proofs.bench.difference.Goals.{After-last_event-event}

last_is : (c : After-last_event-event) (v : EventView) → IsLast c.args.bench.now c.args.given.now.message v
    → told c.last_event-event.result ≡ v
last_is c v l =
    c.last_event-event.ensures v
    (subst (λ (g : EventView). IsLast c.args.bench.now g.message v) (sym c.given.view_is) l)

pub returns-then-event-given : goal.returns-then-event-given
returns-then-event-given c = λ v l same.
    let is = last_is (goal.at.returns-then-event-given c).After-last_event-event v l in
    c.if-event-given.true (ap (λ (x : EventView). x.stamp) is ∙ same
    ∙ sym (ap (λ (x : EventView). x.stamp) c.given.view_is))

pub returns-then-is_given : goal.returns-then-is_given
returns-then-is_given c = λ v l.
    let is = last_is (goal.at.returns-then-is_given c).After-last_event-event v l in
    sym is ∙ c.is_given.ensures.0 c.if-is_given.true

pub returns : goal.returns
returns c = λ v l.
    let is = last_is (goal.at.returns c).After-last_event-event v l in (
      sym (ap (λ (x : EventView). x.stamp) is) ∙ c.if-event-given.false
          ∙ ap (λ (x : EventView). x.stamp) c.given.view_is,
      λ same. not_false c.is_given.result c.if-is_given.false (c.is_given.ensures.1 (is ∙ same)),
    )
