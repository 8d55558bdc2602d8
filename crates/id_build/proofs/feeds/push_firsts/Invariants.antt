-- The arcs so far, and those that are left.
use Rattle.std.proofs.Common.{◌≡◌, ◌++◌, ◌+◌, drop, map}
use Rattle.id_build.specs.Made.{arc_of, number_by}
use Rattle.id_build.specs.Rows.{first_binder, import_feeds, output}
use Rattle.id_build.proofs.feeds.push_firsts.Given as goal

abbrev pub invariant-loop-next : goal.invariant-loop-next
invariant-loop-next l = record {
  list : l.arcs.items ++ map (arc_of l.slots.firsts.items l.n)
      (import_feeds l.slots.kernel.now.checked.now (output l.n) l.region (l.first + l.next-index)
      (map (first_binder l.slots.kernel.now.checked.now) (drop l.next-index l.nexts)))
      ≡ l.fn.arcs.items
      ++ map (arc_of l.slots.firsts.items l.n)
      (import_feeds l.slots.kernel.now.checked.now (output l.n) l.region l.first
      (map (first_binder l.slots.kernel.now.checked.now) l.nexts));
  to : l.to ≡ number_by l.slots.firsts.items l.n 0 + l.first + l.next-index;
}
