use Rattle.std.proofs.Common.{◌≡◌, ◌-◌, length, ap, arith, subst}
use Rattle.id_elements.specs.Passing.{IsGoalAt}
use Rattle.id_elements.proofs.PassingLemmas.{IsLastSent-back}
use Rattle.id_elements.proofs.passing.send_last.Goals as goal

-- it was for the element
pub returns-then-to-near-clause-sent : goal.returns-then-to-near-clause-sent
returns-then-to-near-clause-sent c =
    let many : c.args.near.home.count.number ≡ length c.args.letters.now.items = omega (arith, c.args.letters.now.ok) in
    IsLastSent-back c.args.near.home.number c.args.near.home.count.number c.args.own.now.messages
    c.move_last.new.from.messages c.args.back.now.messages c.move_last.new.to.messages
    c.args.letters.now.items (c.len-last.result - 1) many (ap (λ k. k - 1) c.len-last.ensures)
    (subst (IsGoalAt c.args.near.home.count.number c.args.own.now.messages (c.len-last.result - 1)) c.if-to-near.true
    c.goal_at-to.ensures) c.move_last.ensures.moved
