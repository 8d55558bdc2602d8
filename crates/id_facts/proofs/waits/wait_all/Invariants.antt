-- All waits by the facts so far.
use Rattle.std.proofs.Common.{drop}
use Rattle.id_facts.specs.Cells.{items}
use Rattle.id_facts.proofs.WaitsLemmas.{WaitsSo}
use Rattle.id_facts.proofs.waits.wait_all.Given as goal

abbrev pub invariant-loop-fact : goal.invariant-loop-fact
invariant-loop-fact l =
    WaitsSo l.checked l.links (items l.cells) l.initial.waits l.waits l.facts (drop l.fact-index l.facts)
