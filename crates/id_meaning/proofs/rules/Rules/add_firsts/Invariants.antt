-- The facts so far, and those of the rest.
use Rattle.std.proofs.Common.{◌≡◌, ◌++◌, drop}
use Rattle.id_meaning.specs.Effects.{firsts}
use Rattle.id_meaning.proofs.rules.Rules.add_firsts.Given as goal

abbrev pub invariant-loop-next : goal.invariant-loop-next
invariant-loop-next l =
    l.found.items ++ firsts l.self.checked.now l.lookup.cells.now l.lookup.followed l.point.path l.point.row l.head.path
    l.head.row (drop
    l.next-index l.nexts) ≡ l.initial.found.items ++
    firsts l.self.checked.now l.lookup.cells.now l.lookup.followed l.point.path l.point.row l.head.path l.head.row
    l.nexts
