-- One more record adds the names by what came to its merges.
use Rattle.std.proofs.Common.{◌≡◌, ◌≢◌, Some, refl, ap, ◌∙◌}
use Rattle.std.specs.List.{filter_map}
use Rattle.std.specs.Prelude.{slice_get}
use Rattle.std.proofs.lemmas.Option.{slice_get_read}
use Rattle.id_record.specs.declared.kept.Keeps.TheVariants as keeps
use Rattle.id_record.specs.Tellings.{merged}
use Rattle.id_observe.specs.Observed.{name_in, names_of}
use Rattle.id_observe.specs.Paths.{path_by, structure_by}
use Rattle.id_observe.proofs.TellingsLemmas.{names-merged}
use Rattle.id_observe.proofs.WalksLemmas.{all-get, walk-next}
use Rattle.id_observe.proofs.shown.all_names.Goals as goal

pub merged-requires : goal.merged-requires
merged-requires c =
    let es = c.args.paths.now.elements.now in
    let at : slice_get es c.loop-element.element-index ≡ Some c.element-item.result =
    slice_get_read es _ _ _ refl c.loop-element-test.true c.element-item.is in
    all-get (λ e. e.keeps ≢ keeps.Tellings) es c.loop-element.element-index c.element-item.result c.requires at

pub loop-element-preserved : goal.loop-element-preserved
loop-element-preserved c =
    let p = c.args.paths.now in
    let g = p.graph.now in
    let es = c.args.paths.now.elements.now in
    let e = c.element-item.result in
    let at : slice_get es c.loop-element.element-index ≡ Some e =
    slice_get_read es _ _ _ refl c.loop-element-test.true c.element-item.is in
    let name = name_in g (path_by p) (structure_by p) in
    let of = all-get (λ x. x.graph ≡ g) es c.loop-element.element-index e c.args.paths.now.of at in
    let came : filter_map name c.merged.result.now ≡ names_of g (path_by p) (structure_by p) e.state.events =
    ap (filter_map name) c.merged.ensures ∙ ap (λ h. filter_map name (merged h e.state.events)) of
    ∙ names-merged g (path_by p) (structure_by p) e.state.events in
    let next = walk-next (λ s. s.events) (λ v. name v.message.payload) es c.loop-element.element-index e at in
    record {
      names = rw (c.in_ok-add_names.ensures, c.loop-element.invariant.names, came, next);
      marks = c.loop-element.invariant.marks;
    }
