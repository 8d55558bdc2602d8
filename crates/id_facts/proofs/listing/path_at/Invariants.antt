-- The steps so far, from the innermost on, go on behind those of the path that is left.
use Rattle.std.proofs.Common.{◌≡◌, ◌++◌, reverse}
use Rattle.id_facts.specs.Listed.{steps_in_all, steps_of}
use Rattle.id_facts.proofs.listing.path_at.Given as goal

abbrev pub invariant-loop-rest : goal.invariant-loop-rest
invariant-loop-rest l =
    steps_of l.checked l.facts (steps_in_all l.rest) l.rest ++ reverse l.steps.items
    ≡ steps_of l.checked l.facts (steps_in_all l.fn.trail) l.fn.trail

abbrev pub decreases-loop-rest : goal.decreases-loop-rest
decreases-loop-rest l = steps_in_all l.rest
