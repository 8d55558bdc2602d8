-- One more element adds what it shows.
use Rattle.std.proofs.Common.{◌≡◌, ◌∙◌, Some, ap, map, refl}
use Rattle.std.proofs.lemmas.List.{take_all}
use Rattle.std.specs.List.{flat_map}
use Rattle.std.specs.Prelude.{slice_get}
use Rattle.std.proofs.lemmas.Option.{slice_get_read}
use Rattle.id_bank.specs.Cells.{deferred_of}
use Rattle.id_observe.specs.Observed.{ask_of}
use Rattle.id_observe.specs.Paths.{structure_by}
use Rattle.id_observe.proofs.WalksLemmas.{images-next}
use Rattle.id_observe.specs.Paths.{path_by}
use Rattle.id_step.proofs.ShortLemmas.{if_err}
use Rattle.id_observe.proofs.shown.all_waiting.Goals as goal

pub loop-element-preserved : goal.loop-element-preserved
loop-element-preserved c =
    let es = c.args.paths.now.elements.now in
    let at : slice_get es c.loop-element.element-index ≡ Some c.element-item.result =
    slice_get_read es _ _ _ refl c.loop-element-test.true c.element-item.is in
    let next =
    images-next (λ s. deferred_of s.cells)
    (ask_of c.args.paths.now.graph.now (path_by c.args.paths.now) (structure_by c.args.paths.now)) es
    c.loop-element.element-index c.element-item.result at in
    rw (c.in_ok-add_asks.ensures, c.loop-element.invariant, c.as_slice.ensures.value, c.in_ok-deferred.ensures, next)

pub returns-in_err-deferred : goal.returns-in_err-deferred
returns-in_err-deferred c = if_err _ c.from_residual.result c.from_residual.ensures.0

pub returns-in_err-add_asks : goal.returns-in_err-add_asks
returns-in_err-add_asks c = if_err _ c.from_residual-in_err-add_asks.result c.from_residual-in_err-add_asks.ensures.0

pub returns : goal.returns
returns c =
    let name = structure_by c.args.paths.now in
    let ask = ask_of c.args.paths.now.graph.now (path_by c.args.paths.now) name in
    c.loop-element.invariant
    ∙ ap (λ es. map ask (flat_map (λ e. deferred_of e.cells) (map (λ e. e.state) es)))
    (take_all c.loop-element.element-index c.args.paths.now.elements.now c.loop-element-test.false)
