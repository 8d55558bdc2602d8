-- what the pages have at the cell, said of the map
use Rattle.std.proofs.Common.{◌∙◌, ap, sym, refl}
use Rattle.id_bank.specs.Cells.{count_readers}
use Rattle.id_bank.specs.Slots.{state_in, offset_of}
use Rattle.id_bank.proofs.SlotsLemmas.{at_cell, state_at-place, state_at-none}
use Rattle.id_bank.proofs.Bank.readers.Goals as goal

pub returns-in-Some : goal.returns-in-Some
returns-in-Some c =
    let es = c.self.inside.pages.entries in
    let there =
    at_cell es c.place.ensures.unique _ c.self.view_is c.args.cell c.of-key.result c.of-key.ensures c.offset_of.result
    c.offset_of.ensures.value in
    c.readers_in.ensures
    ∙ ap (λ ss. count_readers (state_in ss c.offset_of.result)) c.deref.ensures.value
    ∙ ap count_readers
    (sym (state_at-place es c.place.ensures.unique c.in-Some.i c.of-key.result c.index.result.now c.offset_of.result
    c.in-Some.ensures.found c.index.ensures) ∙ sym there)

pub returns-in-None : goal.returns-in-None
returns-in-None c =
    let es = c.self.inside.pages.entries in
    let there =
    at_cell es c.place.ensures.unique _ c.self.view_is c.args.cell c.of-key.result c.of-key.ensures
    (offset_of c.args.cell) refl in
    ap count_readers (sym (there ∙ state_at-none es c.of-key.result (offset_of c.args.cell) c.in-None.ensures.absent))
