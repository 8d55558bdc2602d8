use Rattle.std.proofs.Common.{◌≡◌, ◌<◌, ◌∙◌, length, set, ap, subst}
use Rattle.id_flight.specs.Queues.{QueueView}
use Rattle.id_inbox.specs.Doors.{DoorView}
use Rattle.id_inbox.specs.Hands.{sending}
use Rattle.id_elements.proofs.WorkersLemmas.{IsKept-posted, IsKept-returned, IsSame-door}
use Rattle.id_elements.proofs.worker.Worker.post.Goals as goal

-- the letter was put into the inbox
pub invariant_of-self : goal.invariant_of-self
invariant_of-self g c =
    let w = c.self-2.inside in
    let d = c.index_mut-2.result.now in
    let lt : c.args.to < length w.doors.items =
    rw (← c.self-2.view_is ∙ c.empty_list-empty.ensures.same) at c.requires.to in (
      IsKept-posted w.goes w.doors.items w.element w.own.messages w.came.messages w.back.messages w.stray.messages
          w.letters.items c.self-2.invariant.0
          c.args.to d c.push.new.self c.index_mut-2.ensures.value lt c.index_mut.result.now c.replace-letter.new.dest
          c.index_mut.ensures.value
          (ap (λ (q : QueueView). q.messages) c.replace-letter.ensures.after ∙ c.empty_list-empty.ensures.empty)
          (subst (λ (q : QueueView). c.push.new.self ≡ record d {
            hand = sending d.hand q.messages;
            saw =
                c.push.new.self.saw;
          }) c.replace-letter.ensures.value c.in-Ok.ensures),
      c.self-2.invariant.1,
      c.self-2.invariant.2,
    )

-- it came back
pub invariant_of-self-in-Err : goal.invariant_of-self-in-Err
invariant_of-self-in-Err g c =
    let w = c.self-2.inside in
    let d = c.index_mut-2.result.now in
    let lt : c.args.to < length w.doors.items =
    rw (← c.self-2.view_is ∙ c.empty_list-empty.ensures.same) at c.requires.to in (
      IsKept-returned w.goes w.doors.items w.element w.own.messages w.came.messages w.back.messages w.stray.messages
          w.letters.items c.self-2.invariant.0
          c.args.to d c.push.new.self c.index_mut-2.ensures.value lt c.index_mut.result.now c.replace-letter.new.dest
          c.in-Err.back c.index_mut.ensures.value
          (c.in-Err.ensures.0 ∙ c.replace-letter.ensures.value) c.in-Err.ensures.1,
      c.self-2.invariant.1,
      c.self-2.invariant.2,
    )

pub returns-in-Ok-clause-same : goal.returns-in-Ok-clause-same
returns-in-Ok-clause-same g c =
    let w = c.self-2.inside in
    let at = c.self-2.view_is ∙ c.empty_list-empty.ensures.same in
    let lt : c.args.to < length w.doors.items = rw (← at) at c.requires.to in
    rw (← at)
    (IsSame-door w.goes w.doors.items w.element w.own.messages w.came.messages w.back.messages w.stray.messages
    w.letters.items c.self-2.invariant.0
    c.args.to c.index_mut-2.result.now c.push.new.self c.index_mut-2.ensures.value lt w.came.messages
    (set w.letters.items c.args.to c.replace-letter.new.dest) (ap (λ (d : DoorView). d.queue) c.in-Ok.ensures))

pub returns-in-Err-clause-same : goal.returns-in-Err-clause-same
returns-in-Err-clause-same g c =
    let w = c.self-2.inside in
    let at = c.self-2.view_is ∙ c.empty_list-empty.ensures.same in
    let lt : c.args.to < length w.doors.items = rw (← at) at c.requires.to in
    rw (← at)
    (IsSame-door w.goes w.doors.items w.element w.own.messages w.came.messages w.back.messages w.stray.messages
    w.letters.items c.self-2.invariant.0
    c.args.to c.index_mut-2.result.now c.push.new.self c.index_mut-2.ensures.value lt w.came.messages
    (set (set w.letters.items c.args.to c.replace-letter.new.dest) c.args.to c.in-Err.back)
    (ap (λ (d : DoorView). d.queue) c.in-Err.ensures.1))
