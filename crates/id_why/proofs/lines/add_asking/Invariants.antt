-- The things so far, and those of the rest.
use Rattle.std.proofs.Common.{◌≡◌, ◌++◌, drop}
use Rattle.id_why.specs.Walks.{asking}
use Rattle.id_why.proofs.lines.add_asking.Given as goal

abbrev pub invariant-loop-fact : goal.invariant-loop-fact
invariant-loop-fact l = l.found.items ++ asking (drop l.fact-index l.facts) ≡ l.initial.found.items ++ asking l.facts
