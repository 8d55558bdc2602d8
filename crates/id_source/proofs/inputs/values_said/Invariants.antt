-- The values are those that the words so far give.
use Rattle.std.proofs.Common.{map}
use Rattle.id_source.proofs.InputsLemmas.{Progress}
use Rattle.id_source.proofs.inputs.values_said.Given as goal

abbrev pub invariant-loop-j : goal.invariant-loop-j
invariant-loop-j l = Progress l.params (map (λ w. w.now) l.words) l.j l.values.items
