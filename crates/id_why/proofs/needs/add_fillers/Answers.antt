-- What they give so far, and what the rest do.
use Rattle.std.proofs.Common.{ap, refl, subst}
use Rattle.id_facts.specs.Cells.{told}
use Rattle.id_why.specs.Found.{filler, fillers}
use Rattle.id_why.specs.Known.{known_facts}
use Rattle.id_source.proofs.TurnsLemmas.{gathered-all, gathered-more, on_ok}
use Rattle.id_why.proofs.needs.add_fillers.Goals as goal

pub loop-cell-init : goal.loop-cell-init
loop-cell-init c = refl

pub loop-cell-preserved : goal.loop-cell-preserved
loop-cell-preserved c =
    let P = c.args.checked.now in
    let k = c.args.known.now in
    gathered-more (fillers P k) (λ e. told (filler P k e) (known_facts k) k.stores.items) (λ _ _. refl) c.args.cells.now
    c.loop-cell.cell-index _ _ _ _ c.loop-cell-test.true (rw c.as_slice.ensures.value at c.in_ok-add_filled.ensures)
    c.loop-cell.invariant

pub returns-in_err-add_filled : goal.returns-in_err-add_filled
returns-in_err-add_filled c = on_ok _ c.from_residual.result c.from_residual.ensures.0

pub returns : goal.returns
returns c =
    gathered-all (fillers c.args.checked.now c.args.known.now) refl c.args.cells.now c.loop-cell.cell-index _ _
    c.loop-cell-test.false
    c.loop-cell.invariant
