use Rattle.std.proofs.Common.{◌≡◌, ◌-◌, ℕ, length, subst, take, arith}
use Rattle.id_elements.specs.Passing.{AreRouted}
use Rattle.id_elements.proofs.PassingLemmas.{IsSentOn-fewer}
use Rattle.id_elements.proofs.passing.send_on.Goals as goal

-- those in front of the first that is for another are for the element
pub returns : goal.returns
returns c =
    let own = c.args.own.now.messages in
    let at = c.first_for_others-position.result in
    let fewer = c.len-len.result - at in
    let many : c.args.near.home.count.number ≡ length c.args.letters.now.items = omega (arith, c.args.letters.now.ok) in
    let from : length own - c.args.sent ≡ c.len-len.result - c.args.sent = omega arith in
    let to : at ≡ length own - fewer = omega arith in
    IsSentOn-fewer c.args.near.home.number c.args.sent fewer own c.args.back.now.messages c.args.letters.now.items
    c.send_some.new.own.messages c.send_some.new.back.messages c.send_some.new.letters.items c.send_some.result
    c.send_some.ensures
    (subst (λ (count : ℕ). AreRouted count c.args.near.home.number (take (length own - c.args.sent) own)
    → AreRouted count c.args.near.home.number (take (length own - fewer) own)) many
    (λ front. subst (λ (k : ℕ). AreRouted c.args.near.home.count.number c.args.near.home.number (take k own)) to
    (c.first_for_others-position.ensures.routed
    (subst (λ (k : ℕ). AreRouted c.args.near.home.count.number c.args.near.home.number (take k own)) from front))))
