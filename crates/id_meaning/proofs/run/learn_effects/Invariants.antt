-- What follows from the facts so far has been learnt.
use Rattle.std.proofs.Common.{◌≡◌, take}
use Rattle.id_facts.specs.RowFacts.{all_learnt}
use Rattle.id_meaning.specs.Effects.{all_effects}
use Rattle.id_meaning.proofs.run.learn_effects.Given as goal

abbrev pub invariant-loop-fact : goal.invariant-loop-fact
invariant-loop-fact l =
    l.facts ≡ all_learnt l.initial.facts (all_effects l.rules.checked.now l.rules.links.now l.rules.waits.now
    l.rules.cells.now (take l.fact-index l.news))
