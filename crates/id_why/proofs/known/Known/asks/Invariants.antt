-- What the facts so far tell, and what the rest does.
use Rattle.std.proofs.Common.{◌≡◌, ◌++◌, drop}
use Rattle.id_facts.specs.Cells.{told}
use Rattle.id_why.specs.Known.{ask_by, asks, known_facts, numbers_of}
use Rattle.id_why.proofs.known.Known.asks.Given as goal

abbrev pub invariant-loop-number : goal.invariant-loop-number
invariant-loop-number l =
    l.cells.items ++ told (ask_by l.point) (known_facts l.self) (drop l.number-index (numbers_of l.self l.point))
    ≡ asks l.self l.point
