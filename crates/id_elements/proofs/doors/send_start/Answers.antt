use Rattle.std.proofs.Common.{◌≡◌, ◌<◌, ◌∷◌, [], ◌++◌, length, ap, ◌∙◌, arith, rules}
use Rattle.std.specs.List.{sum_by}
use Rattle.std.proofs.lemmas.List.Sums.{sum_by_push}
use Rattle.id_inbox.specs.Doors.{DoorView}
use Rattle.id_elements.proofs.DoorsLemmas.{parts_set, sent_by-set, taken_by-set, weight_take}
use Rattle.id_elements.proofs.doors.send_start.Goals as goal

pub loop-position-preserved : goal.loop-position-preserved
loop-position-preserved g c =
    let i = c.loop-position.invariant in
    let ds = c.loop-position.doors.items in
    let d = c.index_mut.result.now in
    let d' = c.put.new.door in
    let to = c.route-to.result in
    let lt : to < length ds =
    (let b = c.route-to.ensures.below in let l = i.len in let k = c.len-count.ensures in omega arith) in
    let is = c.index_mut.ensures.value in
    let made = c.in_ok-put.ensures.ok in
    record {
      len = search rules;
      parts = parts_set 1024 ds to d' i.parts
          (ap (λ (y : DoorView). y.hand.parts) made ∙ (ap (λ (y : DoorView). y.hand.parts) is ∙ i.parts to d lt));
      whole = λ f.
          let s = sent_by-set f ds to d d' is lt in
          let t = taken_by-set f ds to d d' is lt in
          let a : sum_by f d'.hand.sent ≡ sum_by f (d.hand.sent ++ c.message-message.result ∷ []) =
          ap (λ (y : DoorView). sum_by f y.hand.sent) made in
          let b : sum_by f d'.hand.taken ≡ sum_by f d.hand.taken = ap (λ (y : DoorView). sum_by f y.hand.taken) made in
          let w = i.whole f in
          omega (
            arith,
            s,
            t,
            a,
            b,
            w,
            sum_by_push f d.hand.sent c.message-message.result,
            weight_take f c.args.start.now.messages c.loop-position.position c.message-message.result
                c.message-message.ensures,
          );
    }
