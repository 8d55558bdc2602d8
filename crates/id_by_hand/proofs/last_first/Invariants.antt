use Rattle.id_by_hand.specs.ByHand.{IsLater}
use Rattle.id_by_hand.proofs.last_first.Given as goal

-- the machine is a later one than was lent
abbrev pub invariant-loop : goal.invariant-loop
invariant-loop l = IsLater l.initial.machine l.machine
