-- One more element is looked at.
use Rattle.std.proofs.Common.{◌≡◌, ◌+◌, ◌++◌, ◌∷◌, [], Some, take, map, refl, sym, ap, ◌∙◌}
use Rattle.std.specs.Prelude.{slice_get}
use Rattle.std.proofs.lemmas.List.{take_all}
use Rattle.std.proofs.lemmas.List.Elements.{All-push, All-same}
use Rattle.std.proofs.lemmas.Option.{slice_get_read}
use Rattle.id_record.specs.Tellings.{first_fault}
use Rattle.id_step.specs.Replays.{Replays}
use Rattle.id_observe.specs.Firsts.{earlier_of, earliest_in}
use Rattle.id_observe.proofs.FirstsLemmas.{earliest-next}
use Rattle.id_observe.proofs.WalksLemmas.{take-next}
use Rattle.id_observe.proofs.first.earliest.Goals as goal

pub loop-element-preserved : goal.loop-element-preserved
loop-element-preserved c =
    let es = c.args.elements.now in
    let i = c.loop-element.element-index in
    let e = c.element-item.result in
    let at : slice_get es i ≡ Some e = slice_get_read es _ _ _ refl c.loop-element-test.true c.element-item.is in
    record {
      first =
          c.earlier-first.ensures ∙ ap (earlier_of c.loop-element.first) c.fault.ensures
          ∙ ap (λ f. earlier_of f (first_fault e.state.events)) c.loop-element.invariant.first
          ∙ sym (earliest-next es i e at);
      kept =
          All-same Replays (take (i + 1) es) (take i es ++ e ∷ []) (take-next es i e at)
          (All-push Replays (take i es) e c.loop-element.invariant.kept c.handled-handled.ensures.kept);
    }

pub returns-clause-first : goal.returns-clause-first
returns-clause-first c =
    c.loop-element.invariant.first
    ∙ ap (λ es. earliest_in (map (λ e. e.state) es))
    (take_all c.loop-element.element-index c.args.elements.now c.loop-element-test.false)

pub returns-clause-kept : goal.returns-clause-kept
returns-clause-kept c =
    let es = c.args.elements.now in
    All-same Replays es (take c.loop-element.element-index es)
    (sym (take_all c.loop-element.element-index es c.loop-element-test.false))
    c.loop-element.invariant.kept
