use Rattle.std.proofs.Common.{◌≡◌, ◌++◌, ap, ◌∙◌, arith}
use Rattle.std.specs.List.{sum_by}
use Rattle.std.proofs.lemmas.List.Sums.{sum_by-append}
use Rattle.id_inbox.specs.Doors.{DoorView}
use Rattle.id_elements.proofs.doors.drain.Goals as goal

pub loop-preserved : goal.loop-preserved
loop-preserved g c =
    let i = c.loop.invariant in
    let made = c.in-Some-pop.ensures in
    record {
      queue = ap (λ (d : DoorView). d.queue) made ∙ i.queue;
      parts = ap (λ (d : DoorView). d.hand.parts) made ∙ i.parts;
      sent = ap (λ (d : DoorView). d.hand.sent) made ∙ i.sent;
      moved = λ f.
          let a : sum_by f c.pop.new.self.hand.taken
          ≡ sum_by f (c.loop.door.hand.taken ++ c.in-Some-pop.letter.messages) =
          ap (λ (d : DoorView). sum_by f d.hand.taken) made in
          let b = c.in_ok-keep_rest-in-Some-pop.ensures f in
          let m = i.moved f in
          omega (arith, a, b, m, sum_by-append f c.loop.door.hand.taken c.in-Some-pop.letter.messages);
    }

pub returns-in-None-pop : goal.returns-in-None-pop
returns-in-None-pop g c =
    let i = c.loop.invariant in
    let same = c.in-None-pop.ensures.0 in
    record {
      queue = ap (λ (d : DoorView). d.queue) same ∙ i.queue;
      parts = ap (λ (d : DoorView). d.hand.parts) same ∙ i.parts;
      sent = ap (λ (d : DoorView). d.hand.sent) same ∙ i.sent;
      moved = λ f.
          let a : sum_by f c.pop.new.self.hand.taken ≡ sum_by f c.loop.door.hand.taken =
          ap (λ (d : DoorView). sum_by f d.hand.taken) same in
          let m = i.moved f in
          omega (arith, a, m);
      empty = λ f.
          let a : sum_by f c.pop.new.self.hand.sent ≡ sum_by f c.loop.door.hand.sent =
          ap (λ (d : DoorView). sum_by f d.hand.sent) same in
          let b : sum_by f c.pop.new.self.hand.taken ≡ sum_by f c.loop.door.hand.taken =
          ap (λ (d : DoorView). sum_by f d.hand.taken) same in
          let k = c.in-None-pop.ensures.1 (i.parts ∙ c.requires) f in
          omega (arith, a, b, k);
    }
