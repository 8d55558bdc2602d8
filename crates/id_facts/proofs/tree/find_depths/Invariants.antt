-- The depths so far.
use Rattle.id_facts.specs.Depths.{AreDepths}
use Rattle.id_facts.proofs.tree.find_depths.Given as goal

abbrev pub invariant-loop-number : goal.invariant-loop-number
invariant-loop-number l = AreDepths l.facts l.number l.depths.items
