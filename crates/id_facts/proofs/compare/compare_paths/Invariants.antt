-- The paths compare as the two that are left, with what was found.
use Rattle.std.proofs.Common.{◌≡◌, ◌+◌, Equal}
use Rattle.id_facts.specs.Listed.{steps_in_all}
use Rattle.id_facts.specs.Depths.{compared}
use Rattle.id_facts.proofs.compare.compare_paths.Given as goal

abbrev pub invariant-loop-first : goal.invariant-loop-first
invariant-loop-first l =
    compared l.checked l.tree l.first l.second l.found ≡ compared l.checked l.tree l.fn.a l.fn.b Equal

abbrev pub decreases-loop-first : goal.decreases-loop-first
decreases-loop-first l = steps_in_all l.first + steps_in_all l.second
