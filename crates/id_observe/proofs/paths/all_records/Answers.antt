-- One more record adds what it tells.
use Rattle.std.proofs.Common.{◌≡◌, Some, refl, ap, map, sym, ◌∙◌, arith}
use Rattle.std.proofs.lemmas.List.{take_all}
use Rattle.std.proofs.lemmas.Grind.{common_steps}
use Rattle.std.specs.Prelude.{slice_get}
use Rattle.std.specs.Option.{option_or}
use Rattle.std.proofs.lemmas.Option.{slice_get_read}
use Rattle.id_observe.specs.Paths.{enter_in, maker_in, making_of, makings_of}
use Rattle.id_observe.specs.Paths.{answers, brought, events_of}
use Rattle.id_observe.proofs.WalksLemmas.{all-get, walk-next}
use Rattle.id_observe.proofs.PathsLemmas.{enter_in-last, last-next, maker_in-last}
use Rattle.id_step.proofs.ShortLemmas.{if_err}
use Rattle.id_observe.proofs.paths.all_records.Goals as goal

pub loop-element-init : goal.loop-element-init
loop-element-init c = record {
  enters = λ d. let none = (enter_in-last c.args.records.now.graph.now d).none in grind (arith, common_steps, none);
  makers = λ d. let none = (maker_in-last c.args.records.now.graph.now d).none in grind (arith, common_steps, none);
  makings = c.new-3.ensures.items;
  values = c.new-4.ensures.items;
}

pub add_record-requires : goal.add_record-requires
add_record-requires c =
    let es = c.args.records.now.elements.now in
    let at : slice_get es c.loop-element.element-index ≡ Some c.element-item.result =
    slice_get_read es _ _ _ refl c.loop-element-test.true c.element-item.is in
    all-get (λ e. e.graph ≡ c.args.records.now.graph.now) es c.loop-element.element-index c.element-item.result
    c.args.records.now.of at

pub loop-element-preserved : goal.loop-element-preserved
loop-element-preserved c =
    let g = c.args.records.now.graph.now in
    let es = c.args.records.now.elements.now in
    let i = c.loop-element.element-index in
    let e = c.element-item.result in
    let at : slice_get es i ≡ Some e = slice_get_read es _ _ _ refl c.loop-element-test.true c.element-item.is in
    record {
      enters = λ d.
          c.in_ok-add_record.ensures.enters d
          ∙ ap (option_or (enter_in g e.state.events d)) (c.loop-element.invariant.enters d)
          ∙ sym (last-next (enter_in-last g d) es i e at);
      makers = λ d.
          c.in_ok-add_record.ensures.makers d
          ∙ ap (option_or (maker_in g e.state.events d)) (c.loop-element.invariant.makers d)
          ∙ sym (last-next (maker_in-last g d) es i e at);
      makings =
          rw (
            c.in_ok-add_record.ensures.makings,
            c.loop-element.invariant.makings,
            walk-next (λ s. s.events) (making_of g) es i e at,
          );
      values =
          rw (
            c.in_ok-add_record.ensures.values,
            c.loop-element.invariant.values,
            walk-next (λ s. s.events) (λ v. brought v.message.payload) es i e at,
          );
    }

pub returns-in_err-add_record : goal.returns-in_err-add_record
returns-in_err-add_record c = if_err _ c.from_residual.result c.from_residual.ensures.0

-- the records so far are all
pub returns : goal.returns
returns c =
    let g = c.args.records.now.graph.now in
    let all = take_all c.loop-element.element-index c.args.records.now.elements.now c.loop-element-test.false in
    record {
      enters = λ d. c.loop-element.invariant.enters d ∙ ap (λ es. enter_in g (events_of (map (λ e. e.state) es)) d) all;
      makers = λ d. c.loop-element.invariant.makers d ∙ ap (λ es. maker_in g (events_of (map (λ e. e.state) es)) d) all;
      makings = c.loop-element.invariant.makings ∙ ap (λ es. makings_of g (events_of (map (λ e. e.state) es))) all;
      values = c.loop-element.invariant.values ∙ ap (λ es. answers (events_of (map (λ e. e.state) es))) all;
    }
