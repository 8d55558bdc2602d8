-- The facts so far, and those of the rest.
use Rattle.std.proofs.Common.{◌≡◌, ◌++◌, drop}
use Rattle.id_meaning.specs.Effects.{counted}
use Rattle.id_meaning.proofs.counts.add_counted.Given as goal

abbrev pub invariant-loop-value : goal.invariant-loop-value
invariant-loop-value l =
    l.found.items ++ counted l.links l.counting (drop l.value-index l.values) l.uppers ≡ l.initial.found.items ++
    counted l.links l.counting l.values l.uppers
