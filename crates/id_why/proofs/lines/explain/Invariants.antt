-- The things are gone through so far.
use Rattle.id_why.specs.Walks.{IsWalk}
use Rattle.id_why.proofs.lines.explain.Given as goal

abbrev pub invariant-loop-number : goal.invariant-loop-number
invariant-loop-number l = IsWalk l.checked l.links l.known l.number l.things l.lines.items
