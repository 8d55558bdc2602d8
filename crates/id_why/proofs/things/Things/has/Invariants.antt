-- The thing is none of those so far.
use Rattle.std.proofs.Common.{◌≡◌, drop}
use Rattle.id_why.proofs.ThingsLemmas.{is_held}
use Rattle.id_why.proofs.things.Things.has.Given as goal

abbrev pub invariant-loop-number : goal.invariant-loop-number
invariant-loop-number l =
    is_held l.self l.point l.number-items ≡ is_held l.self l.point (drop l.number-index l.number-items)
