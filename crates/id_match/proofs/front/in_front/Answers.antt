-- what a pair keeps is listed
use Rattle.id_match.proofs.FrontLemmas.{both_listed}
use Rattle.id_match.proofs.front.in_front.Goals as goal

pub loop-i-preserved : goal.loop-i-preserved
loop-i-preserved c =
    both_listed c.args.front.now c.loop-i.i _ c.loop-i-test.true _ _ _ c.loop-i.invariant c.in_ok-list.ensures c.in_ok-list-2.ensures
