use Rattle.std.proofs.Common.{◌≡◌}
use Rattle.id_core.proofs.machine.give_back.Given as goal

-- the elements show the same as before
abbrev pub invariant-loop-number : goal.invariant-loop-number
invariant-loop-number l = l.elements ≡ l.initial.elements
