-- One more record adds what its fetches ask for.
use Rattle.std.proofs.Common.{◌≡◌, ◌∙◌, Some, ap, map, refl}
use Rattle.std.proofs.lemmas.List.{take_all}
use Rattle.std.specs.Prelude.{slice_get}
use Rattle.std.proofs.lemmas.Option.{slice_get_read}
use Rattle.id_observe.specs.Paths.{events_of, path_by, structure_by}
use Rattle.id_observe.specs.Observed.{asks_of}
use Rattle.id_observe.proofs.ObservedLemmas.{asks_of-records}
use Rattle.id_observe.proofs.WalksLemmas.{all-get}
use Rattle.id_record.specs.declared.kept.Keeps.TheVariants as keeps
use Rattle.id_step.proofs.ShortLemmas.{if_err}
use Rattle.id_observe.proofs.asks.all_asks.Goals as goal

pub events-requires : goal.events-requires
events-requires c =
    let es = c.args.whole.now.paths.elements.now in
    let at : slice_get es c.loop-element.element-index ≡ Some c.element-item.result =
    slice_get_read es _ _ _ refl c.loop-element-test.true c.element-item.is in
    all-get (λ e. e.keeps ≡ keeps.All) es c.loop-element.element-index c.element-item.result c.args.whole.now.kept at

pub loop-element-preserved : goal.loop-element-preserved
loop-element-preserved c =
    let p = c.args.whole.now.paths in
    let es = c.args.whole.now.paths.elements.now in
    let at : slice_get es c.loop-element.element-index ≡ Some c.element-item.result =
    slice_get_read es _ _ _ refl c.loop-element-test.true c.element-item.is in
    let next =
    asks_of-records p.graph.now (path_by p) (structure_by p) es c.loop-element.element-index c.element-item.result at in
    rw (c.in_ok-add_handled.ensures, c.loop-element.invariant, c.events.ensures.value, next)

pub returns-in_err-add_handled : goal.returns-in_err-add_handled
returns-in_err-add_handled c = if_err _ c.from_residual.result c.from_residual.ensures.0

pub returns : goal.returns
returns c =
    let p = c.args.whole.now.paths in
    c.loop-element.invariant
    ∙ ap (λ es. asks_of p.graph.now (path_by p) (structure_by p) (events_of (map (λ e. e.state) es)))
    (take_all c.loop-element.element-index c.args.whole.now.paths.elements.now c.loop-element-test.false)
