-- What the rows so far use is noted.
use Rattle.std.proofs.Common.{◌≤◌, ◌-◌}
use Rattle.id_desugar.specs.Gathering.{AreNotedTo}
use Rattle.id_desugar.proofs.imports.gather.Given as goal

abbrev pub invariant-loop-row : goal.invariant-loop-row
invariant-loop-row l =
    (l.span.lo ≤ l.row) × (l.row - l.span.lo ≤ l.span.hi - l.span.lo)
    × AreNotedTo l.ends.checked.now l.span l.row l.marks.items l.list.items

abbrev pub decreases-loop-row : goal.decreases-loop-row
decreases-loop-row l = l.span.hi - l.row
