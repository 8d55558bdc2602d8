-- The arcs so far, and those that are left.
use Rattle.std.proofs.Common.{◌≡◌, ◌++◌, ◌+◌, drop, length, map}
use Rattle.id_desugar.specs.Regions.{carried, imports_of}
use Rattle.id_build.specs.Made.{arc_of}
use Rattle.id_build.specs.Rows.{entry_feeds, turn_row}
use Rattle.id_build.proofs.feeds.push_entries.Given as goal

abbrev pub invariant-loop-part : goal.invariant-loop-part
invariant-loop-part l =
    l.arcs.items ++ map (arc_of l.slots.firsts.items l.n)
    (entry_feeds (turn_row l.slots.kernel.now.checked.now l.head)
    (1 + length (carried l.slots.kernel.now.checked.now l.head) + l.part) l.part
    (drop l.part (imports_of l.slots.kernel.now.checked.now l.head)))
    ≡ l.fn.arcs.items
    ++ map (arc_of l.slots.firsts.items l.n)
    (entry_feeds (turn_row l.slots.kernel.now.checked.now l.head)
    (1 + length (carried l.slots.kernel.now.checked.now l.head)) 0 (imports_of l.slots.kernel.now.checked.now l.head))
