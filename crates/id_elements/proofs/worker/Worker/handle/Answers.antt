use Rattle.std.proofs.Common.{◌≡◌, ◌-◌, ◌<◌, ◌∙◌, Ok, Err, length, subst, sym, arith}
use Rattle.id_step.proofs.StretchesLemmas.{behind_long}
use Rattle.id_elements.specs.declared.home.Home.{Home}
use Rattle.id_elements.specs.Passing.{IsSentOn}
use Rattle.id_elements.proofs.WorkersLemmas.{fits_for, IsKept-alone, IsKept-failed, IsKept-sent, IsKept-unsent}
use Rattle.id_elements.proofs.WorkersLemmas.{count_given, number_given}
use Rattle.id_elements.proofs.worker.Worker.handle.Goals as goal

-- no stamp is left, or memory was wanting
pub invariant_of-self : goal.invariant_of-self
invariant_of-self g c =
    let w = c.self.inside in
    let n = c.run_from.new in
    let own = w.own.messages in
    let p = c.in-Err.ensures in (
      IsKept-failed w.goes w.doors.items w.element own w.came.messages w.back.messages w.stray.messages w.letters.items
          (rw (← c.self.view_is) at c.requires.goes) c.self.invariant.0 c.args.limit c.args.position n.list.messages
          n.self _ p,
      c.self.invariant.1 ∙ sym (number_given c.args.limit c.args.position own w.element n.list.messages n.self _ p),
      c.self.invariant.2 ∙ sym (count_given c.args.limit c.args.position own w.element n.list.messages n.self _ p),
    )

-- an event did not go well
pub invariant_of-self-then-not-went : goal.invariant_of-self-then-not-went
invariant_of-self-then-not-went g c =
    let w = c.self.inside in
    let n = c.run_from.new in
    let own = w.own.messages in
    let p = c.in-Ok.ensures in (
      IsKept-failed w.goes w.doors.items w.element own w.came.messages w.back.messages w.stray.messages w.letters.items
          (rw (← c.self.view_is) at c.requires.goes) c.self.invariant.0 c.args.limit c.args.position n.list.messages
          n.self _ p,
      c.self.invariant.1 ∙ sym (number_given c.args.limit c.args.position own w.element n.list.messages n.self _ p),
      c.self.invariant.2 ∙ sym (count_given c.args.limit c.args.position own w.element n.list.messages n.self _ p),
    )

-- the only element
pub invariant_of-self-then-self-eq1 : goal.invariant_of-self-then-self-eq1
invariant_of-self-then-self-eq1 g c =
    let w = c.self.inside in
    let n = c.run_from.new in
    let own = w.own.messages in
    let p = c.in-Ok.ensures in (
      IsKept-alone w.goes w.doors.items w.element own w.came.messages w.back.messages w.stray.messages w.letters.items
          (rw (← c.self.view_is) at c.requires.goes) c.self.invariant.0 c.args.limit c.args.position n.list.messages
          n.self _ p
          c.if-not-went.false (sym c.self.invariant.2 ∙ c.if-self-eq1.true),
      c.self.invariant.1 ∙ sym (number_given c.args.limit c.args.position own w.element n.list.messages n.self _ p),
      c.self.invariant.2 ∙ sym (count_given c.args.limit c.args.position own w.element n.list.messages n.self _ p),
    )

-- what is for others was sent on
pub invariant_of-self-in-Ok-send_on : goal.invariant_of-self-in-Ok-send_on
invariant_of-self-in-Ok-send_on g c =
    let w = c.self.inside in
    let n = c.run_from.new in
    let s = c.send_on.new in
    let own = w.own.messages in
    let p = c.in-Ok.ensures in
    let sent = c.len.result - (c.len-others.result - 1) in
    let there : c.args.position < length own = rw (← c.self.view_is) at c.requires.there in
    let others = p.others (λ one. c.if-self-eq1.false (c.self.invariant.2 ∙ one)) in
    let long = behind_long c.args.position own n.list.messages there others in
    let from : length n.list.messages - sent ≡ length own - 1 = omega (arith, long) in (
      IsKept-sent w.goes w.doors.items w.element own w.came.messages w.back.messages w.stray.messages w.letters.items
          (rw (← c.self.view_is) at c.requires.goes) c.self.invariant.0 c.args.limit c.args.position n.list.messages
          n.self _ p
          sent s.own.messages s.back.messages s.letters.items w.home.number c.self.invariant.1 c.if-not-went.false from
          others
          (subst (λ (h : Home). IsSentOn h.number sent n.list.messages w.back.messages w.letters.items s.own.messages
          s.back.messages s.letters.items (Ok tt))
          c.near_of-near.ensures c.in-Ok-send_on.ensures),
      c.self.invariant.1 ∙ sym (number_given c.args.limit c.args.position own w.element n.list.messages n.self _ p),
      c.self.invariant.2 ∙ sym (count_given c.args.limit c.args.position own w.element n.list.messages n.self _ p),
    )

-- memory was wanting for that
pub invariant_of-self-in-Err-send_on : goal.invariant_of-self-in-Err-send_on
invariant_of-self-in-Err-send_on g c =
    let w = c.self.inside in
    let n = c.run_from.new in
    let s = c.send_on.new in
    let own = w.own.messages in
    let p = c.in-Ok.ensures in
    let sent = c.len.result - (c.len-others.result - 1) in (
      IsKept-unsent w.goes w.doors.items w.element own w.came.messages w.back.messages w.stray.messages w.letters.items
          (rw (← c.self.view_is) at c.requires.goes) c.self.invariant.0 c.args.limit c.args.position n.list.messages
          n.self _ p
          sent s.own.messages s.back.messages s.letters.items w.home.number c.in-Err-send_on.field-0
          (subst (λ (h : Home). IsSentOn h.number sent n.list.messages w.back.messages w.letters.items s.own.messages
          s.back.messages s.letters.items
          (Err c.in-Err-send_on.field-0)) c.near_of-near.ensures c.in-Err-send_on.ensures),
      c.self.invariant.1 ∙ sym (number_given c.args.limit c.args.position own w.element n.list.messages n.self _ p),
      c.self.invariant.2 ∙ sym (count_given c.args.limit c.args.position own w.element n.list.messages n.self _ p),
    )

-- all messages of its own fit
pub run_from-requires-clause-fit : goal.run_from-requires-clause-fit
run_from-requires-clause-fit g c = λ turns.
    fits_for c.self.inside.element c.self.inside.own.messages
    (c.self.invariant.0.own (rw (← c.self.view_is) at c.requires.goes))
