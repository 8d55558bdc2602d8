use Rattle.id_by_hand.proofs.RunLemmas.{IsLater-deliver, IsLater-none}
use Rattle.id_by_hand.proofs.last_first.Goals as goal

pub loop-init : goal.loop-init
loop-init c = IsLater-none c.args.machine.now

pub loop-preserved : goal.loop-preserved
loop-preserved c = IsLater-deliver _ _ _ _ c.loop.invariant c.in_ok-deliver.ensures.world
