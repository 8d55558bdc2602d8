-- One more element replays, and the records of all of them can be merged.
use Rattle.std.proofs.Common.{◌≡◌, ◌+◌, ◌∷◌, ◌++◌, [], Some, take, map, refl, ap, ◌∙◌, arith, sym, subst}
use Rattle.std.specs.Prelude.{slice_get}
use Rattle.std.proofs.lemmas.Option.{slice_get_read}
use Rattle.id_record.specs.declared.kept.Keeps.TheVariants as keeps
use Rattle.std.specs.List.{All}
use Rattle.std.proofs.lemmas.List.{map_push, take_more, take_all}
use Rattle.std.proofs.lemmas.List.Elements.{All-push, recursion_from_All, All-same}
use Rattle.std.proofs.lemmas.Map.Keys.{sorted_from_strictly_increasing}
use Rattle.id_observe.specs.Merged.{AreRecords}
use Rattle.id_step.specs.Replays.{Replays}
use Rattle.id_observe.proofs.RecordsLemmas.{AreRecords-from}
use Rattle.id_observe.proofs.WalksLemmas.{all-get}
use Rattle.id_step.proofs.ShortLemmas.{if_err}
use Rattle.id_observe.proofs.merge.records_of.Goals as goal

pub events-requires : goal.events-requires
events-requires c =
    let es = c.args.elements.now in
    let at : slice_get es c.loop-element.element-index ≡ Some c.element-item.result =
    slice_get_read es _ _ _ refl c.loop-element-test.true c.element-item.is in
    all-get (λ e. e.keeps ≡ keeps.All) es c.loop-element.element-index c.element-item.result c.requires.kept at

pub loop-element-preserved : goal.loop-element-preserved
loop-element-preserved c =
    let es = c.args.elements.now in
    let i = c.loop-element.element-index in
    let e = c.element-item.result in
    let more : take (i + 1) es ≡ take i es ++ e ∷ [] =
    take_more es i e c.loop-element-test.true ∙ ap (λ x. take i es ++ x ∷ []) (sym c.element-item.is) in (
      omega arith,
      omega arith,
      rw (
        c.push_reserved.ensures.items,
        more,
        map_push (λ e. e.state.events) (take i es) e,
        c.loop-element.invariant.2,
        c.events.ensures.value,
      ),
      All-same Replays (take (i + 1) es) (take i es ++ e ∷ []) more
          (All-push Replays (take i es) e c.loop-element.invariant.3 c.events.ensures.kept),
    )

pub returns-clause-are : goal.returns-clause-are
returns-clause-are c =
    let es = c.args.elements.now in
    let whole : take c.loop-element.element-index es ≡ es = take_all c.loop-element.element-index es (omega arith) in
    let replay : All Replays es =
    All-same Replays es (take c.loop-element.element-index es) (sym whole) c.loop-element.invariant.3 in
    let items = c.loop-element.invariant.2 ∙ ap (map (λ e. e.state.events)) whole in
    subst AreRecords (sym items)
    (AreRecords-from es (sorted_from_strictly_increasing _ c.requires.rise) (recursion_from_All Replays es replay))

pub returns-in_err-records-clause-records : goal.returns-in_err-records-clause-records
returns-in_err-records-clause-records c = if_err _ c.from_residual.result c.from_residual.ensures.0

pub returns-in_err-records-clause-are : goal.returns-in_err-records-clause-are
returns-in_err-records-clause-are c = if_err _ c.from_residual.result c.from_residual.ensures.0

pub push_reserved-requires : goal.push_reserved-requires
push_reserved-requires c = omega arith

pub returns-clause-records : goal.returns-clause-records
returns-clause-records c =
    c.loop-element.invariant.2
    ∙ ap (map (λ e. e.state.events))
    (take_all c.loop-element.element-index c.args.elements.now c.loop-element-test.false)
