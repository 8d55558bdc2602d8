-- The numbers of the entries so far, and of those that are left.
use Rattle.std.proofs.Common.{◌≡◌, ◌++◌, drop, map}
use Rattle.id_desugar.specs.Regions.{imports_of}
use Rattle.id_build.specs.Made.{number_by}
use Rattle.id_build.specs.Rows.{Entry, import_entries}
use Rattle.id_build.proofs.program.push_imported.Given as goal

abbrev pub invariant-loop-part : goal.invariant-loop-part
invariant-loop-part l =
    l.entries.items ++ map (λ (q : Entry). number_by l.slots.firsts.items q.row q.part)
    (import_entries l.imported l.part (drop l.part (imports_of l.slots.kernel.now.checked.now l.head)))
    ≡ l.fn.entries.items
    ++ map (λ (q : Entry). number_by l.slots.firsts.items q.row q.part)
    (import_entries l.imported 0 (imports_of l.slots.kernel.now.checked.now l.head))
