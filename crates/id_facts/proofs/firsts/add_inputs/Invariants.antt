-- The facts so far, and those of the parameters that are left.
use Rattle.std.proofs.Common.{◌≡◌, ◌++◌, drop}
use Rattle.id_facts.specs.Firsts.{input_facts}
use Rattle.id_facts.proofs.firsts.add_inputs.Given as goal

abbrev pub invariant-loop-number : goal.invariant-loop-number
invariant-loop-number l =
    l.facts.items ++ input_facts l.number (drop l.number l.params) l.inputs ≡ l.initial.facts.items
    ++ input_facts 0 l.params l.inputs
