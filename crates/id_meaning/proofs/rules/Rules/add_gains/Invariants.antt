-- The facts so far, and those of the rest.
use Rattle.std.proofs.Common.{◌≡◌, ◌++◌, drop}
use Rattle.id_meaning.specs.Effects.{gains}
use Rattle.id_meaning.proofs.rules.Rules.add_gains.Given as goal

abbrev pub invariant-loop-reader : goal.invariant-loop-reader
invariant-loop-reader l =
    l.found.items ++ gains l.self.checked.now l.self.links.now l.self.cells.now l.point.path l.point.row l.value (drop
    l.reader-index l.rows) ≡ l.initial.found.items ++
    gains l.self.checked.now l.self.links.now l.self.cells.now l.point.path l.point.row l.value l.rows
