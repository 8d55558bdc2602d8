-- The facts so far have been added.
use Rattle.std.proofs.Common.{take}
use Rattle.id_facts.specs.Cells.{AddsFacts}
use Rattle.id_facts.proofs.cells.Cells.add_all.Given as goal

abbrev pub invariant-loop-fact : goal.invariant-loop-fact
invariant-loop-fact l = AddsFacts l.initial.self l.self (take l.fact-index l.facts)
