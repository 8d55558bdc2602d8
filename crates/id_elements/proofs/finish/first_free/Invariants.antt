use Rattle.id_elements.specs.Runs.{AreHeldBefore}
use Rattle.id_elements.proofs.finish.first_free.Given as goal

-- all messages so far are held back
abbrev pub invariant-loop-position : goal.invariant-loop-position
invariant-loop-position l = AreHeldBefore l.machine.count l.steps l.machine.world l.position
