-- The arcs so far, and those that are left.
use Rattle.std.proofs.Common.{◌≡◌, ◌++◌, ◌+◌, drop, map}
use Rattle.id_build.specs.Made.{arc_of, number_by}
use Rattle.id_build.specs.Rows.{import_feeds}
use Rattle.id_build.proofs.feeds.push_imports.Given as goal

abbrev pub invariant-loop-binder : goal.invariant-loop-binder
invariant-loop-binder l = record {
  list : l.arcs.items ++ map (arc_of l.slots.firsts.items l.n)
      (import_feeds l.slots.kernel.now.checked.now l.source l.region (l.part + l.binder-index)
      (drop l.binder-index l.binders))
      ≡ l.fn.arcs.items
      ++ map (arc_of l.slots.firsts.items l.n)
      (import_feeds l.slots.kernel.now.checked.now l.source l.region l.part l.binders);
  to : l.to ≡ number_by l.slots.firsts.items l.n 0 + l.part + l.binder-index;
}
