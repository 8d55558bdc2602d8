-- The message was handled by its element, and what that sent is in flight in its place; or no stamp was left.
use Rattle.std.proofs.Common.{◌≡◌, ◌<◌, Some, length, set, slice_get, refl, sym, ap, subst, ◌∙◌}
use Rattle.std.proofs.lemmas.Option.{slice_get_read}
use Rattle.id_tag.specs.Routes.{route_of}
use Rattle.id_core.specs.Steps.{is_ended}
use Rattle.id_core.proofs.MachinesLemmas.{IsGiven, is_for}
use Rattle.id_step.specs.declared.step.TakeError.TheVariants.{StampEnd}
use Rattle.id_judge.specs.Benches.{BenchView, Delivers, IsEnded}
use Rattle.id_judge.proofs.DeliverLemmas.{done, left_ok, machine_after, other_err, sent_fit}
use Rattle.id_judge.proofs.bench.deliver.Goals as goal
use Rattle.id_judge.proofs.bench.deliver.Goals.{After-index_mut}

-- the element is given the message at the position
given : (c : After-index_mut)
    → IsGiven c.bench.inside.graph.now (length c.bench.inside.elements.items) c.bench.inside.elements.items
    c.bench.inside.flight c.args.position c.route-number.result c.args.message.now c.index_mut.result.now
given c =
    let es = c.bench.inside.elements.items in
    let many : c.len.result ≡ length es = c.len.ensures ∙ c.bench.inside.elements.ok.0 in
    let below : c.route-number.result < length es =
    subst (λ n. c.route-number.result < n) many c.route-number.ensures.below in
    record {
      there = ap (λ (v : BenchView). slice_get v.flight c.args.position) c.bench.view_is ∙ c.requires;
      routed = sym (c.route-number.ensures.exact ∙ ap (route_of c.args.message.now.payload) many);
      element = slice_get_read es _ _ _ refl below c.index_mut.ensures.value;
    }

pub take-requires : goal.take-requires
take-requires c = is_for (given (goal.at.take-requires c).After-index_mut) c.bench.invariant.0

pub invariant_of-bench : goal.invariant_of-bench
invariant_of-bench c =
    let g = given (goal.at.invariant_of-bench c).After-index_mut in
    let old = c.bench.invariant.0 in
    let fit = c.replace.ensures.fit c.bench.inside.graph.now old.flight_fits
    (sent_fit g old c.take.new.self _ _ c.in-Ok.step c.bench.invariant.1 c.in-Ok.ensures) in
    (machine_after g old c.take.new.self _ _ _ _ c.in-Ok.ensures fit, c.replace.ensures.sent)

pub invariant_of-bench-in-Ok : goal.invariant_of-bench-in-Ok
invariant_of-bench-in-Ok c =
    let g = given (goal.at.invariant_of-bench-in-Ok c).After-index_mut in
    let old = c.bench.invariant.0 in
    let fit = c.replace.ensures.fit c.bench.inside.graph.now old.flight_fits
    (sent_fit g old c.take.new.self _ _ c.in-Ok.step c.bench.invariant.1 c.in-Ok.ensures) in
    (machine_after g old c.take.new.self _ _ _ _ c.in-Ok.ensures fit, c.replace.ensures.sent)

pub invariant_of-bench-in-Err : goal.invariant_of-bench-in-Err
invariant_of-bench-in-Err c =
    let g = given (goal.at.invariant_of-bench-in-Err c).After-index_mut in
    let old = c.bench.invariant.0 in (
      machine_after g old c.take.new.self _ _ _ _ c.in-Err.ensures old.flight_fits,
      c.in-Err.ensures.becomes.same ∙ c.bench.invariant.1,
    )

pub returns-in_ok-replace-in-Ok-clause-delivers : goal.returns-in_ok-replace-in-Ok-clause-delivers
returns-in_ok-replace-in-Ok-clause-delivers c =
    let g = given (goal.at.returns-in_ok-replace-in-Ok-clause-delivers c).After-index_mut in
    let m = c.args.message.now in
    let e = c.index_mut.result.now in
    let h = c.in-Ok.ensures in
    let r = c.in_ok-replace-in-Ok.ensures in
    let b : BenchView = record {
      graph = c.bench.inside.graph.now;
      keeps = c.bench.inside.keeps;
      elements = c.bench.inside.elements.items;
      flight = c.bench.inside.flight;
    } in
    let new : BenchView = record {
      graph = c.bench.inside.graph.now;
      keeps = c.bench.inside.keeps;
      elements = set c.bench.inside.elements.items c.route-number.result c.take.new.self;
      flight = c.replace.new.flight;
    } in
    let element = subst (λ n. slice_get b.elements n ≡ Some e) (sym g.routed) g.element in
    subst (λ (v : BenchView). Delivers v m c.in-Ok.step new) c.bench.view_is
    (done b c.bench.invariant.0 c.args.position m g.there e element
    (left_ok c.in-Ok.step StampEnd (is_ended e.state m) h.ended) _ _ new
    c.bench.invariant.1 h.becomes.outputs (r.replaces m g.there) refl refl
    (λ i. set c.bench.inside.elements.items (sym g.routed i) (h.becomes.element i)) c.in-Ok.step h.becomes.step)

pub returns-in-Err-clause-end : goal.returns-in-Err-clause-end
returns-in-Err-clause-end c =
    let g = given (goal.at.returns-in-Err-clause-end c).After-index_mut in
    λ is. subst (λ (v : BenchView). IsEnded v c.args.message.now) c.bench.view_is (
      c.index_mut.result.now,
      subst (λ n. slice_get c.bench.inside.elements.items n ≡ Some c.index_mut.result.now) (sym g.routed) g.element,
      c.in-Err.ensures.ended.0 (other_err c.in-Err.error StampEnd is),
    )
