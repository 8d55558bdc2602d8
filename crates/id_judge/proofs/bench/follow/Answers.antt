-- The event that follows is the one that is given, or why it cannot follow.
use Rattle.std.proofs.Common.{◌≡◌, None, Ok, Err, Result, length, sym, ap, subst, ◌∙◌}
use Rattle.id_record.specs.Events.{EventView}
use Rattle.id_tag.specs.Routes.{route_of}
use Rattle.id_value.specs.List.{Among}
use Rattle.id_value.proofs.AmongLemmas.{Among-from_at}
use Rattle.id_judge.specs.Benches.{BenchView, IsEnded, IsLast, world_in}
use Rattle.id_judge.specs.Verdicts.{goal_of}
use Rattle.id_judge.proofs.FollowLemmas.{difference_is, given_follows, no_stamp}
use Rattle.id_judge.proofs.bench.follow.Goals as goal
use Rattle.id_judge.proofs.bench.follow.Goals.{After-route-number}

ok_same : {A E : Type 0} (x y : A) → ◌≡◌ {A = Result A E} (Ok x) (Ok y) → x ≡ y
ok_same x y h = cc

-- the message is in flight
flying : (c : After-route-number) → Among c.args.given.now.message c.args.bench.now.flight
flying c =
    subst (λ (u : EventView). Among u.message c.args.bench.now.flight) c.given.view_is
    (subst (λ (b : BenchView). Among c.given.inside.message b.flight) c.bench.view_is
    (Among-from_at c.given.inside.message c.bench.inside.flight c.in-Some.position c.in-Some.ensures.some))

-- and is for the element of this number
number_is : (c : After-route-number)
    → c.route-number.result ≡ goal_of (length c.args.bench.now.elements) c.args.given.now
number_is c =
    c.route-number.ensures.exact
    ∙ ap (route_of c.given.inside.message.payload)
    (c.len.ensures ∙ c.bench.inside.elements.ok.0 ∙ ap (λ (b : BenchView). length b.elements) c.bench.view_is)
    ∙ ap (λ (u : EventView). goal_of (length c.args.bench.now.elements) u) c.given.view_is

own : (c : After-route-number) → c.given.inside.element ≡ c.route-number.result
    → c.args.given.now.element ≡ goal_of (length c.args.bench.now.elements) c.args.given.now
own c is = sym (ap (λ (u : EventView). u.element) c.given.view_is) ∙ is ∙ number_is c

pub returns-then-given-number-clause-cause : goal.returns-then-given-number-clause-cause
returns-then-given-number-clause-cause c =
    let a = (goal.at.returns-then-given-number-clause-cause c).After-route-number in (
      flying a,
      λ same. c.if-given-number.true (ap (λ (u : EventView). u.element) c.given.view_is ∙ same ∙ sym (number_is a)),
    )

pub returns-in-Ok-clause-follows : goal.returns-in-Ok-clause-follows
returns-in-Ok-clause-follows c = λ is.
    let b = c.args.bench.now in
    let d = c.in-Ok.ensures.delivers in
    let last = subst (λ (u : EventView). IsLast c.deliver.new.bench u.message d.event) c.given.view_is d.recorded in
    given_follows b.graph (length b.elements) (world_in b) (world_in c.deliver.new.bench) c.args.given.now d.event
    d.follows c.difference.result
    (c.difference.ensures d.event last) (ok_same c.difference.result None is)

pub returns-in-Ok-clause-cause : goal.returns-in-Ok-clause-cause
returns-in-Ok-clause-cause c =
    let a = (goal.at.returns-in-Ok-clause-cause c).After-route-number in
    let b = c.args.bench.now in
    let d = c.in-Ok.ensures.delivers in
    let last = subst (λ (u : EventView). IsLast c.deliver.new.bench u.message d.event) c.given.view_is d.recorded in
    difference_is b.graph (length b.elements) (world_in b) c.args.given.now d.event (d.of
    ∙ ap (λ (u : EventView). u.message) c.given.view_is)
    (own a c.if-given-number.false) d.follows.can c.difference.result (c.difference.ensures d.event last)

pub returns-in-Err-StampEnd-clause-cause : goal.returns-in-Err-StampEnd-clause-cause
returns-in-Err-StampEnd-clause-cause c =
    let a = (goal.at.returns-in-Err-StampEnd-clause-cause c).After-route-number in
    let b = c.args.bench.now in
    let ended : IsEnded b c.args.given.now.message =
    subst (λ (u : EventView). IsEnded b u.message) c.given.view_is
    (c.in-Err-StampEnd.ensures.end (ap (λ e. Err e) c.in-Err-StampEnd.field-0-is)) in
    no_stamp b.graph (length b.elements) b.elements b.flight c.args.given.now ended.0 (flying a)
    (own a c.if-given-number.false) ended.1 ended.2
