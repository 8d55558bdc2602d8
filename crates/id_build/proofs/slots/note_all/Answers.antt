-- One more import is noted.
use Rattle.std.proofs.Common.{◌<◌, ◌^◌, ◌∙◌, ap, get_or, rules}
use Rattle.std.specs.HashMap.{get}
use Rattle.std.specs.Option.{option_or}
use Rattle.id_build.specs.Slots.{noted, same_import}
use Rattle.id_build.proofs.SlotsLemmas.{AreShort-noted, noted_all-next}
use Rattle.id_build.proofs.slots.note_all.Goals as goal

pub loop-slot-preserved : goal.loop-slot-preserved
loop-slot-preserved c =
    let h = c.args.head in
    let bs = c.args.imports.now in
    let n = c.loop-slot.slot in
    let low : h < 2 ^ 32 = search rules in
    let less : get_or bs n 0 < 2 ^ 32 = search rules in
    record {
      short = AreShort-noted (record { head = h; binder = get_or bs n 0 }) n (get same_import c.loop-slot.numbers)
          (get same_import c.note.new.numbers)
          low less c.in_ok-note.ensures c.loop-slot.invariant.short;
      numbers = λ i.
          c.in_ok-note.ensures i
          ∙ ap (λ o. option_or o (noted (record { head = h; binder = get_or bs n 0 }) n i))
          (c.loop-slot.invariant.numbers i)
          ∙ noted_all-next h bs n i (get same_import c.args.numbers.now i) c.loop-slot-test.true;
    }
