-- What is left to learn gives what was to be learnt.
use Rattle.std.proofs.Common.{◌≡◌, drop}
use Rattle.id_facts.specs.RowFacts.{all_learnt}
use Rattle.id_facts.proofs.facts.Facts.learn_all.Given as goal

abbrev pub invariant-loop-fact : goal.invariant-loop-fact
invariant-loop-fact l = all_learnt l.self (drop l.fact-index l.facts) ≡ all_learnt l.initial.self l.facts
