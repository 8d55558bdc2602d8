-- The facts so far, and those of the rest.
use Rattle.std.proofs.Common.{◌≡◌, ◌++◌, drop}
use Rattle.id_facts.specs.Firsts.{haves}
use Rattle.id_facts.proofs.found.add_values.Given as goal

abbrev pub invariant-loop-value : goal.invariant-loop-value
invariant-loop-value l =
    l.found.items ++ haves l.path l.row (drop l.value-index l.values) ≡ l.initial.found.items
    ++ haves l.path l.row l.values
