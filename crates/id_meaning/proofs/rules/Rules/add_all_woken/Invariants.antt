-- The facts so far, and those of the rest.
use Rattle.std.proofs.Common.{◌≡◌, ◌++◌, drop}
use Rattle.id_meaning.specs.Effects.{all_woken}
use Rattle.id_meaning.proofs.rules.Rules.add_all_woken.Given as goal

abbrev pub invariant-loop-wait : goal.invariant-loop-wait
invariant-loop-wait l =
    l.found.items ++ all_woken l.self.checked.now l.self.links.now l.self.cells.now l.point.path l.point.row l.value
    (drop
    l.wait-index l.waits) ≡ l.initial.found.items ++
    all_woken l.self.checked.now l.self.links.now l.self.cells.now l.point.path l.point.row l.value l.waits
