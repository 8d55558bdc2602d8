-- Those from the first on that were looked at are for the element.
use Rattle.std.proofs.Common.{take}
use Rattle.id_elements.specs.Passing.{AreRouted}
use Rattle.id_elements.proofs.goals.first_for_others.Given as goal

abbrev pub invariant-loop-position : goal.invariant-loop-position
invariant-loop-position l =
    AreRouted l.near.home.count.number l.near.home.number (take l.from l.own.messages)
    → AreRouted l.near.home.count.number l.near.home.number (take l.position l.own.messages)
