-- The arcs so far, and those that are left.
use Rattle.std.proofs.Common.{◌≡◌, ◌++◌, ◌∷◌, ◌+◌, drop, length, map}
use Rattle.id_instr.specs.declared.dests.Port.TheVariants.{Zero}
use Rattle.id_desugar.specs.Regions.{carried, imports_of}
use Rattle.id_build.specs.Made.{arc_of, number_by}
use Rattle.id_build.specs.Rows.{carried_feeds, feed, trigger_of, turn_feeds}
use Rattle.id_build.proofs.feeds.push_turn.Given as goal

abbrev pub invariant-loop-binder : goal.invariant-loop-binder
invariant-loop-binder l = record {
  list : l.arcs.items ++ map (arc_of l.slots.firsts.items l.n)
      (turn_feeds l.slots.kernel.now.checked.now l.region (1 + length (carried l.slots.kernel.now.checked.now l.head)
      + l.binder-index) (drop l.binder-index (imports_of l.slots.kernel.now.checked.now l.head)))
      ≡ l.fn.arcs.items ++ map (arc_of l.slots.firsts.items l.n)
      (feed (trigger_of l.region) 0 Zero ∷ carried_feeds l.slots.kernel.now.checked.now l.n l.region l.head
      ++ turn_feeds l.slots.kernel.now.checked.now l.region (1 + length (carried l.slots.kernel.now.checked.now l.head))
      (imports_of l.slots.kernel.now.checked.now l.head));
  to : l.to ≡ number_by l.slots.firsts.items l.n 0 + length (carried l.slots.kernel.now.checked.now l.head)
      + l.binder-index;
}
