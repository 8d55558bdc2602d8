use Rattle.id_elements.proofs.PassingLemmas.{routed_more}
use Rattle.id_elements.proofs.goals.first_for_others.Goals as goal

pub loop-position-preserved : goal.loop-position-preserved
loop-position-preserved c = λ front.
    routed_more c.args.near.home.count.number c.args.near.home.number c.args.own.now.messages c.loop-position.position
    c.goal_at.result c.goal_at.ensures c.if-goal_at-near.false
    (c.loop-position.invariant front)
