-- What the facts so far tell, and what the rest does.
use Rattle.std.proofs.Common.{◌≡◌, ◌++◌, drop}
use Rattle.id_facts.specs.Cells.{chain, items, told, value_by}
use Rattle.id_facts.specs.RowFacts.{chain_at}
use Rattle.id_facts.proofs.cells.Cells.values.Given as goal

abbrev pub invariant-loop-number : goal.invariant-loop-number
invariant-loop-number l =
    l.values.items
    ++ told (value_by l.path l.row) (items l.self) (drop l.number-index (chain l.self (chain_at l.path l.row))) ≡
    told (value_by l.path l.row) (items l.self) (chain l.self (chain_at l.path l.row))
