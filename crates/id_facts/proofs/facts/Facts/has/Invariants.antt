-- The fact is none of those so far.
use Rattle.std.proofs.Common.{◌≡◌, drop}
use Rattle.id_facts.proofs.SameLemmas.{is_in}
use Rattle.id_facts.proofs.facts.Facts.has.Given as goal

abbrev pub invariant-loop-number : goal.invariant-loop-number
invariant-loop-number l = is_in l.self l.fact l.number-items ≡ is_in l.self l.fact (drop l.number-index l.number-items)
