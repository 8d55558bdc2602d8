-- all of the pages' cells are still to come
use Rattle.std.proofs.Common.{◌∙◌, ap, arith, length, map, sym}
use Rattle.std.specs.List.{flat_map}
use Rattle.std.proofs.lemmas.List.Folds.{flat_map-map}
use Rattle.id_bank.specs.Cells.{filled_at, cells_of}
use Rattle.id_bank.specs.Slots.{page_cells}
use Rattle.id_bank.proofs.LeftLemmas.{cells_left-all}
use Rattle.id_bank.proofs.Bank.cells.Goals as goal

pub invariant_of-result : goal.invariant_of-result
invariant_of-result c =
    let pages = c.in_ok-pages.pages.items in (
      omega arith,
      c.in_ok-count.ensures
          ∙ ap (λ es. length (flat_map filled_at (flat_map (λ e. page_cells (e.0, e.1.now)) es))) c.deref.ensures.value
          ∙ ap (λ es. length (flat_map filled_at es)) (sym (flat_map-map page_cells (λ e. (e.0, e.1.now)) pages) ∙
          sym (cells_left-all (map (λ e. (e.0, e.1.now)) pages))),
    )

pub returns : goal.returns
returns c =
    record {
      items = ap (flat_map filled_at) (cells_left-all (map (λ e. (e.0, e.1.now)) c.in_ok-pages.pages.items)
          ∙ c.in_ok-pages.ensures) ∙
          ap cells_of c.self.view_is;
    }
