-- The facts are those of the round so far, and from those of the one before all has been followed.
use Rattle.id_source.specs.Sources.{source}
use Rattle.id_meaning.proofs.RunLemmas.{Front}
use Rattle.id_meaning.proofs.run.learn.Given as goal

abbrev pub invariant-loop-round : goal.invariant-loop-round
invariant-loop-round l = Front (source l.checked l.inputs) l._round l.followed l.facts
