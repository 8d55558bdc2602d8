-- One more record adds its faults.
use Rattle.std.proofs.Common.{◌≡◌, ◌∙◌, Some, ap, map, refl}
use Rattle.std.proofs.lemmas.List.{take_all}
use Rattle.std.specs.Prelude.{slice_get}
use Rattle.std.proofs.lemmas.Option.{slice_get_read}
use Rattle.id_observe.specs.Paths.{events_of, structure_by}
use Rattle.id_observe.specs.Sourced.{fault_of, faults_of}
use Rattle.id_observe.specs.Paths.{path_by}
use Rattle.id_observe.proofs.WalksLemmas.{all-get, walk-next}
use Rattle.id_record.specs.declared.kept.Keeps.TheVariants as keeps
use Rattle.id_step.proofs.ShortLemmas.{if_err}
use Rattle.id_observe.proofs.faults.all_faults.Goals as goal

pub add_element_faults-requires : goal.add_element_faults-requires
add_element_faults-requires c =
    let es = c.args.whole.now.paths.elements.now in
    let at : slice_get es c.loop-element.element-index ≡ Some c.element-item.result =
    slice_get_read es _ _ _ refl c.loop-element-test.true c.element-item.is in
    all-get (λ e. e.keeps ≡ keeps.All) es c.loop-element.element-index c.element-item.result c.args.whole.now.kept at

pub loop-element-preserved : goal.loop-element-preserved
loop-element-preserved c =
    let es = c.args.whole.now.paths.elements.now in
    let at : slice_get es c.loop-element.element-index ≡ Some c.element-item.result =
    slice_get_read es _ _ _ refl c.loop-element-test.true c.element-item.is in
    let next =
    walk-next (λ s. s.events)
    (λ v. fault_of c.args.whole.now.paths.graph.now (path_by c.args.whole.now.paths)
    (structure_by c.args.whole.now.paths) v.step) es
    c.loop-element.element-index c.element-item.result at in
    rw (c.in_ok-add_element_faults.ensures, c.loop-element.invariant, next)

pub returns-in_err-add_element_faults : goal.returns-in_err-add_element_faults
returns-in_err-add_element_faults c = if_err _ c.from_residual.result c.from_residual.ensures.0

pub returns : goal.returns
returns c =
    let name = structure_by c.args.whole.now.paths in
    c.loop-element.invariant
    ∙ ap (λ es. faults_of c.args.whole.now.paths.graph.now (path_by c.args.whole.now.paths) name
    (events_of (map (λ e. e.state) es)))
    (take_all c.loop-element.element-index c.args.whole.now.paths.elements.now c.loop-element-test.false)
