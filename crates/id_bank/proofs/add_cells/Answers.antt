-- the cell at the next place comes last
use Rattle.std.proofs.Common.{◌∙◌, ◌++◌, ap, sym, map, append_assoc}
use Rattle.std.proofs.lemmas.List.{append-nil}
use Rattle.id_bank.specs.Slots.{held_in, cells_below, entry_at, cell_in, state_in}
use Rattle.id_bank.proofs.SlotsLemmas.{cells_below-none, cells_below-next}
use Rattle.id_bank.proofs.add_cells.Goals as goal

pub loop-offset-init : goal.loop-offset-init
loop-offset-init c =
    let before = map (λ e. (e.0, held_in e.1.now)) c.args.cells.now.items in
    sym (append-nil before) ∙ ap (λ l. before ++ l) (sym (cells_below-none c.args.page c.args.slots.now))

pub loop-offset-preserved : goal.loop-offset-preserved
loop-offset-preserved c =
    let before = map (λ e. (e.0, held_in e.1.now)) c.args.cells.now.items in
    let n = c.loop-offset.offset in
    let here = entry_at (cell_in c.args.page n) (state_in c.args.slots.now n) in
    c.in_ok-add_cell.ensures ∙ ap (λ l. l ++ here) c.loop-offset.invariant
    ∙ append_assoc before (cells_below n c.args.page c.args.slots.now) here
    ∙ ap (λ l. before ++ l) (sym (cells_below-next n c.args.page c.args.slots.now))
