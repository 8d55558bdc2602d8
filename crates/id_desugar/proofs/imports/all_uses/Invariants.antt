use Rattle.std.proofs.Common.{◌+◌}
use Rattle.id_desugar.specs.Gathering.{AreFilled, AreMarks}
use Rattle.id_desugar.proofs.imports.all_uses.Given as goal

abbrev pub invariant-loop-end : goal.invariant-loop-end
invariant-loop-end l =
    AreFilled l.ends.checked.now l.end l.lists.items × AreMarks l.ends.checked.now (l.end + 1) l.marks.items
