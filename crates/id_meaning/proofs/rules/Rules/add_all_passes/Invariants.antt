-- The facts so far, and those of the rest.
use Rattle.std.proofs.Common.{◌≡◌, ◌++◌, drop}
use Rattle.id_meaning.specs.Effects.{all_passes}
use Rattle.id_meaning.proofs.rules.Rules.add_all_passes.Given as goal

abbrev pub invariant-loop-row : goal.invariant-loop-row
invariant-loop-row l =
    l.found.items ++ all_passes l.self.checked.now l.self.cells.now l.enter.path l.value l.enter.row l.index
    (drop l.row-index
    l.rows) ≡ l.initial.found.items ++
    all_passes l.self.checked.now l.self.cells.now l.enter.path l.value l.enter.row l.index l.rows
