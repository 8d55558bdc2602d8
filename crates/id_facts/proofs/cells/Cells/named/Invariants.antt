-- What the facts so far tell, and what the rest does.
use Rattle.std.proofs.Common.{◌≡◌, ◌++◌, drop}
use Rattle.std.specs.Prelude.{pos}
use Rattle.id_facts.specs.declared.facts.Sort.TheVariants.{Named}
use Rattle.id_facts.specs.Cells.{chain, items, told, named_by}
use Rattle.id_facts.specs.RowFacts.{chain_by}
use Rattle.id_facts.proofs.cells.Cells.named.Given as goal

abbrev pub invariant-loop-number : goal.invariant-loop-number
invariant-loop-number l =
    l.points.items
    ++ told (named_by l.name) (items l.self) (drop l.number-index (chain l.self (chain_by Named l.name (pos 0)))) ≡
    told (named_by l.name) (items l.self) (chain l.self (chain_by Named l.name (pos 0)))
