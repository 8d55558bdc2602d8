-- What the imports so far are noted with.
use Rattle.std.proofs.Common.{◌≡◌, take}
use Rattle.std.specs.HashMap.{get}
use Rattle.std.specs.Option.{option_or}
use Rattle.id_build.specs.declared.slots.Import.{Import}
use Rattle.id_build.specs.Slots.{AreShort, noted_all, same_import}
use Rattle.id_build.proofs.slots.note_all.Given as goal

abbrev pub invariant-loop-slot : goal.invariant-loop-slot
invariant-loop-slot l = record {
  short : AreShort (get same_import l.numbers);
  numbers : (i : Import)
      → get same_import l.numbers i
      ≡ option_or (get same_import l.fn.numbers i) (noted_all l.head (take l.slot l.imports) i);
}
