-- The facts so far, and those of the rest.
use Rattle.std.proofs.Common.{◌≡◌, ◌++◌, drop}
use Rattle.id_meaning.specs.Given.{answered}
use Rattle.id_meaning.proofs.structures.add_answered.Given as goal

abbrev pub invariant-loop-ask : goal.invariant-loop-ask
invariant-loop-ask l =
    l.found.items ++ answered l.value (drop l.ask-index l.asks) ≡ l.initial.found.items ++ answered l.value l.asks
