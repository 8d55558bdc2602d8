-- The things so far, and those of the rest.
use Rattle.std.proofs.Common.{◌≡◌, ◌++◌, drop}
use Rattle.id_facts.specs.Cells.{told}
use Rattle.id_why.specs.Found.{filler}
use Rattle.id_why.specs.Known.{known_facts}
use Rattle.id_why.proofs.needs.add_filled.Given as goal

abbrev pub invariant-loop-number : goal.invariant-loop-number
invariant-loop-number l =
    l.found.items ++ told (filler l.checked l.known l.cell) (known_facts l.known) (drop l.number-index l.numbers)
    ≡ l.initial.found.items ++
    told (filler l.checked l.known l.cell) (known_facts l.known) l.numbers
