-- What the facts so far tell, and what the rest does.
use Rattle.std.proofs.Common.{◌≡◌, ◌++◌, drop}
use Rattle.id_facts.specs.declared.facts.Sort.TheVariants.{Puts}
use Rattle.id_facts.specs.Cells.{chain, items, told, put_by}
use Rattle.id_facts.specs.RowFacts.{chain_by}
use Rattle.id_facts.proofs.cells.Cells.puts.Given as goal

abbrev pub invariant-loop-number : goal.invariant-loop-number
invariant-loop-number l =
    l.values.items
    ++ told (put_by l.name l.index) (items l.self) (drop l.number-index (chain l.self (chain_by Puts l.name l.index))) ≡
    told (put_by l.name l.index) (items l.self) (chain l.self (chain_by Puts l.name l.index))
