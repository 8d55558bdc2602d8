-- The things so far, and those of the rest.
use Rattle.std.proofs.Common.{◌≡◌, ◌++◌, drop}
use Rattle.id_facts.specs.Cells.{told}
use Rattle.id_why.specs.Found.{turn_by}
use Rattle.id_why.specs.Known.{known_facts}
use Rattle.id_why.proofs.needs.add_turned.Given as goal

abbrev pub invariant-loop-number : goal.invariant-loop-number
invariant-loop-number l =
    l.found.items ++ told (turn_by l.spot l.last l.test) (known_facts l.known) (drop l.number-index l.numbers)
    ≡ l.initial.found.items ++
    told (turn_by l.spot l.last l.test) (known_facts l.known) l.numbers
