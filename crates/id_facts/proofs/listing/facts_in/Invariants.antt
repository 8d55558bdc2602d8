-- The facts so far, and those that are left.
use Rattle.std.proofs.Common.{◌≡◌, ◌++◌, drop}
use Rattle.id_facts.specs.Listed.{facts_in}
use Rattle.id_facts.proofs.listing.facts_in.Given as goal

abbrev pub invariant-loop-fact : goal.invariant-loop-fact
invariant-loop-fact l =
    l.all.items ++ facts_in l.checked l.facts (drop l.fact-index l.these) ≡ facts_in l.checked l.facts l.these
