-- One more element adds what it shows.
use Rattle.std.proofs.Common.{◌≡◌, ◌∙◌, Some, ap, map, refl}
use Rattle.std.proofs.lemmas.List.{take_all}
use Rattle.std.specs.List.{filter_map, flat_map}
use Rattle.std.specs.Prelude.{slice_get}
use Rattle.std.proofs.lemmas.Option.{slice_get_read}
use Rattle.id_bank.specs.Cells.{cells_of}
use Rattle.id_observe.specs.Observed.{put_of}
use Rattle.id_observe.specs.Paths.{structure_by}
use Rattle.id_observe.proofs.WalksLemmas.{walk-next}
use Rattle.id_observe.specs.Paths.{path_by}
use Rattle.id_step.proofs.ShortLemmas.{if_err}
use Rattle.id_observe.proofs.shown.all_cells.Goals as goal

pub loop-element-preserved : goal.loop-element-preserved
loop-element-preserved c =
    let es = c.args.paths.now.elements.now in
    let at : slice_get es c.loop-element.element-index ≡ Some c.element-item.result =
    slice_get_read es _ _ _ refl c.loop-element-test.true c.element-item.is in
    let next =
    walk-next (λ s. cells_of s.cells)
    (put_of c.args.paths.now.graph.now (path_by c.args.paths.now) (structure_by c.args.paths.now)) es
    c.loop-element.element-index c.element-item.result at in
    rw (c.in_ok-add_puts.ensures, c.loop-element.invariant, c.in_ok-cells.ensures, next)

pub returns-in_err-cells : goal.returns-in_err-cells
returns-in_err-cells c = if_err _ c.from_residual.result c.from_residual.ensures.0

pub returns-in_err-add_puts : goal.returns-in_err-add_puts
returns-in_err-add_puts c = if_err _ c.from_residual-in_err-add_puts.result c.from_residual-in_err-add_puts.ensures.0

pub returns : goal.returns
returns c =
    let name = structure_by c.args.paths.now in
    let put = put_of c.args.paths.now.graph.now (path_by c.args.paths.now) name in
    c.loop-element.invariant
    ∙ ap (λ es. filter_map put (flat_map (λ e. cells_of e.cells) (map (λ e. e.state) es)))
    (take_all c.loop-element.element-index c.args.paths.now.elements.now c.loop-element-test.false)
