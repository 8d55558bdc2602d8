use Rattle.std.proofs.Common.{◌+◌}
use Rattle.id_desugar.specs.Gathering.{AreMarks, AreTurned}
use Rattle.id_desugar.proofs.imports.all_lists.Given as goal

abbrev pub invariant-loop-row : goal.invariant-loop-row
invariant-loop-row l =
    AreTurned l.spans.ends.checked.now l.row l.lists.items × AreMarks l.spans.ends.checked.now (l.row + 1) l.marks.items
