-- The facts so far, and those of the rest.
use Rattle.std.proofs.Common.{◌≡◌, ◌++◌, drop}
use Rattle.id_meaning.specs.Effects.{all_passed}
use Rattle.id_meaning.proofs.rules.Rules.add_all_passed.Given as goal

abbrev pub invariant-loop-row : goal.invariant-loop-row
invariant-loop-row l =
    l.found.items ++ all_passed l.self.checked.now l.lookup.cells.now l.lookup.followed l.path l.call
    (drop l.row-index l.rows) ≡
    l.initial.found.items ++
    all_passed l.self.checked.now l.lookup.cells.now l.lookup.followed l.path l.call l.rows
