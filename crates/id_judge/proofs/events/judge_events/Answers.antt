-- The events so far lead to where the machine is; the next follows, or is the first that cannot.
use Rattle.std.proofs.Common.{◌≡◌, Option, [], Ok, Some, length, slice_get, take, refl, sym, ap, subst, ◌∙◌, arith}
use Rattle.std.specs.Prelude.{IfSome}
use Rattle.std.proofs.lemmas.Option.{slice_get_read}
use Rattle.id_core.specs.Machines.{World, start}
use Rattle.id_runs.specs.Legal.{LeadTo, no_more}
use Rattle.id_judge.specs.Benches.{world_in}
use Rattle.id_judge.specs.Verdicts.{IsCause}
use Rattle.id_judge.specs.declared.verdict.Cause.{Cause}
use Rattle.id_judge.proofs.VerdictLemmas.{first_is, legal_is, next_lead}
use Rattle.id_judge.proofs.events.judge_events.Goals as goal
use Rattle.id_judge.proofs.events.judge_events.Goals.{After-follow}

-- the next event of the list
next_is : (c : After-follow)
    → slice_get c.args.events.now c.loop-position.position ≡ Some c.index-events-position.result
next_is c =
    slice_get_read c.args.events.now (length c.args.events.now) c.loop-position.position c.index-events-position.result
    refl
    c.loop-position-test.true c.index-events-position.is

pub loop-position-init : goal.loop-position-init
loop-position-init c =
    let g = c.args.graph.now in
    let from = start g c.args.inputs.now.values c.args.count in
    let h = c.in_ok-bench.ensures in
    let same = c.in-Some.ensures in (
      h.graph,
      h.count ∙ same,
      h.keeps,
      subst (λ (w : World). LeadTo g c.args.count from [] w)
          (sym (h.world ∙ ap (start g c.args.inputs.now.values) same)) no_more,
    )

pub returns-in-Some-2-clause-verdict : goal.returns-in-Some-2-clause-verdict
returns-in-Some-2-clause-verdict c =
    let b = c.loop-position.bench in
    let n = length b.elements in
    let v = c.index-events-position.result in
    let why : IsCause b.graph n (world_in b) v c.in-Some-2.cause =
    subst (λ (o : Option Cause). IfSome o (IsCause b.graph n (world_in b) v)) c.in-Some-2.is
    c.in_ok-cause.ensures.cause in
    first_is c.args.graph.now b.graph c.args.inputs.now.values c.args.count n c.args.events.now c.loop-position.position
    v (world_in b) c.in-Some-2.cause
    c.loop-position.invariant.0 c.loop-position.invariant.1
    (next_is (goal.at.returns-in-Some-2-clause-verdict c).After-follow)
    c.loop-position.invariant.3 why

pub loop-position-preserved : goal.loop-position-preserved
loop-position-preserved c =
    let b = c.loop-position.bench in
    let h = c.in_ok-cause.ensures in
    let graph = c.loop-position.invariant.0 in
    let many = c.loop-position.invariant.1 in (
      h.graph (ap (λ o. Ok o) c.in_default-2.is) ∙ graph,
      h.count (ap (λ o. Ok o) c.in_default-2.is) ∙ many,
      h.keeps (ap (λ o. Ok o) c.in_default-2.is) ∙ c.loop-position.invariant.2,
      next_lead c.args.graph.now b.graph c.args.inputs.now.values c.args.count (length b.elements) c.args.events.now
          c.loop-position.position
          c.index-events-position.result (world_in b) (world_in c.follow.new.bench) graph many
          (next_is (goal.at.loop-position-preserved c).After-follow)
          c.loop-position.invariant.3 (h.follows (ap (λ o. Ok o) c.in_default-2.is)),
    )

pub returns-clause-verdict : goal.returns-clause-verdict
returns-clause-verdict c =
    let g = c.args.graph.now in
    let b = c.loop-position.bench in
    let es = c.args.events.now in
    let from = start g c.args.inputs.now.values c.args.count in
    let end : c.loop-position.position ≡ length es =
    omega (arith, c.loop-position-test.false, c.loop-position.auto.position-end) in
    let legal =
    legal_is g b.graph c.args.inputs.now.values c.args.count (length b.elements) es (world_in b) b.keeps
    c.in_ok-machine.machine
    c.loop-position.invariant.0 c.loop-position.invariant.1 c.loop-position.invariant.2
    (subst (λ i. LeadTo g c.args.count from (take i es) (world_in b)) end c.loop-position.invariant.3)
    c.in_ok-machine.ensures in
    (legal.0, legal.1, legal.2, refl, legal.3)
