-- the pages are in the order of their cells
use Rattle.std.proofs.Common.{◌≡◌, ◌∙◌, ap, sym, subst, IfOk, map}
use Rattle.std.specs.List.{flat_map}
use Rattle.std.proofs.lemmas.List.Folds.{flat_map-map}
use Rattle.id_bank.specs.Slots.{held_in, page_cells}
use Rattle.id_bank.proofs.in_order.Goals as goal

pub returns : goal.returns
returns c =
    let all = ap (flat_map (λ e. page_cells (e.0, e.1.now))) c.deref.ensures.value
    ∙ sym (flat_map-map page_cells (λ e. (e.0, e.1.now)) c.in_ok-order.order.items)
    ∙ c.in_ok-order.ensures in
    subst (λ l. IfOk c.spread.result (λ es. map (λ e. (e.0, held_in e.1.now)) es.items ≡ l)) all c.spread.ensures
