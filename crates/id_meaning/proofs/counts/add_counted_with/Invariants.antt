-- The facts so far, and those of the rest.
use Rattle.std.proofs.Common.{◌≡◌, ◌++◌, drop}
use Rattle.id_meaning.specs.Effects.{counted_with}
use Rattle.id_meaning.proofs.counts.add_counted_with.Given as goal

abbrev pub invariant-loop-upper : goal.invariant-loop-upper
invariant-loop-upper l =
    l.found.items ++ counted_with l.links l.counting l.value (drop l.upper-index l.uppers) ≡ l.initial.found.items ++
    counted_with l.links l.counting l.value l.uppers
