-- What the heads so far are noted with.
use Rattle.std.proofs.Common.{◌≡◌}
use Rattle.std.specs.HashMap.{get}
use Rattle.id_build.specs.declared.slots.Import.{Import}
use Rattle.id_build.specs.Slots.{AreShort, same_import}
use Rattle.id_build.proofs.SlotsLemmas.{long_of, noted_below}
use Rattle.id_build.proofs.slots.find_slots.Given as goal

abbrev pub invariant-loop-head : goal.invariant-loop-head
invariant-loop-head l = record {
  short : AreShort (get same_import l.numbers);
  numbers : (i : Import) → get same_import l.numbers i ≡ noted_below (long_of l.kernel.checked.now) l.head i;
}
