-- The `next`s so far.
use Rattle.std.proofs.Common.{◌≡◌, ◌+◌, ◌-◌, ◌++◌, length}
use Rattle.id_check.specs.Programs.{rows}
use Rattle.id_desugar.specs.Regions.{first_variable, nexts_from, nexts_of}
use Rattle.id_desugar.proofs.imports.add_nexts.Given as goal

abbrev pub invariant-loop-row : goal.invariant-loop-row
invariant-loop-row l =
    l.list.items
    ++ nexts_from l.spans.ends.checked.now l.row (first_variable l.spans.ends.checked.now l.head
    + length (rows l.spans.ends.checked.now) - l.row) ≡ l.initial.list.items ++ nexts_of l.spans.ends.checked.now l.head
