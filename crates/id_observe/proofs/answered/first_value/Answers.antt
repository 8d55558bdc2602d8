-- The element is the first whose record has an answer, or has none.
use Rattle.std.proofs.Common.{◌≡◌, Some, sym, ap, refl, ◌∙◌}
use Rattle.std.specs.List.{filter_map}
use Rattle.std.specs.Prelude.{slice_get}
use Rattle.std.proofs.lemmas.Option.{slice_get_read}
use Rattle.id_observe.specs.Tellings.{value_told}
use Rattle.id_observe.proofs.AnswerLemmas.{value-found, value-missed}
use Rattle.id_observe.proofs.TellingsLemmas.{answers-told}
use Rattle.id_observe.proofs.answered.first_value.Goals as goal

pub returns-then-is_some : goal.returns-then-is_some
returns-then-is_some c =
    let es = c.args.elements.now in
    let at : slice_get es c.loop-element.element-index ≡ Some c.element-item.result =
    slice_get_read es _ _ _ refl c.loop-element-test.true c.element-item.is in
    let is = c.first_answer-value.ensures ∙ ap (λ ts. slice_get (filter_map value_told ts) 0) c.tellings.ensures
    ∙ ap (λ vs. slice_get vs 0) (answers-told c.element-item.result.state.events) in
    value-found es c.loop-element.element-index c.element-item.result c.first_answer-value.result at
    c.loop-element.invariant is
    (sym c.is_some.ensures ∙ c.if-is_some.true)

pub loop-element-preserved : goal.loop-element-preserved
loop-element-preserved c =
    let es = c.args.elements.now in
    let at : slice_get es c.loop-element.element-index ≡ Some c.element-item.result =
    slice_get_read es _ _ _ refl c.loop-element-test.true c.element-item.is in
    let is = c.first_answer-value.ensures ∙ ap (λ ts. slice_get (filter_map value_told ts) 0) c.tellings.ensures
    ∙ ap (λ vs. slice_get vs 0) (answers-told c.element-item.result.state.events) in
    value-missed es c.loop-element.element-index c.element-item.result c.first_answer-value.result at
    c.loop-element.invariant is
    (sym c.is_some.ensures ∙ c.if-is_some.false)
