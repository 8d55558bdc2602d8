-- The first of the rest is the first of all.
use Rattle.std.proofs.Common.{◌≡◌, drop}
use Rattle.id_facts.specs.Cells.{chain, find, first_on, items}
use Rattle.id_facts.specs.RowFacts.{chain_at}
use Rattle.id_facts.proofs.cells.Cells.find.Given as goal

abbrev pub invariant-loop-number : goal.invariant-loop-number
invariant-loop-number l =
    first_on (items l.self) l.path l.row (drop l.number-index (chain l.self (chain_at l.path l.row)))
    ≡ find l.self l.path l.row
