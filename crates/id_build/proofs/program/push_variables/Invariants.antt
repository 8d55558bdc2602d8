-- The numbers of the entries so far, and of those that are left.
use Rattle.std.proofs.Common.{◌≡◌, ◌++◌, ◌+◌, ◌-◌, drop, map}
use Rattle.id_desugar.specs.Regions.{carried, nexts_of}
use Rattle.id_build.specs.Made.{number_by}
use Rattle.id_build.specs.Rows.{Entry, variable_entries}
use Rattle.id_build.proofs.program.push_variables.Given as goal

abbrev pub invariant-loop-variable : goal.invariant-loop-variable
invariant-loop-variable l =
    l.entries.items ++ map (λ (q : Entry). number_by l.slots.firsts.items q.row q.part)
    (variable_entries (l.head + 1 + (l.variable - (l.head + 1)))
    (drop (l.variable - (l.head + 1)) (carried l.slots.kernel.now.checked.now l.head
    ++ nexts_of l.slots.kernel.now.checked.now l.head)))
    ≡ l.fn.entries.items
    ++ map (λ (q : Entry). number_by l.slots.firsts.items q.row q.part)
    (variable_entries (l.head + 1) (carried l.slots.kernel.now.checked.now l.head
    ++ nexts_of l.slots.kernel.now.checked.now l.head))
