-- The list has the facts of the round, in its order.
use Rattle.std.proofs.Common.{◌≡◌, ◌∙◌, List, length, ap, arith, subst, sym}
use Rattle.id_source.specs.declared.Fact.{Fact}
use Rattle.id_source.specs.Computed.{AreFacts}
use Rattle.id_source.specs.Sources.{source}
use Rattle.id_facts.specs.Listed.{facts_in}
use Rattle.id_meaning.proofs.round.rounds.Goals as goal

pub returns-clause-facts : goal.returns-clause-facts
returns-clause-facts c =
    let P = c.args.checked.now in
    let r = c.in-Ok.round in
    let same : c.in_ok-all.all.items ≡ facts_in P r.paths r.rows.items =
    c.in_ok-all.ensures ∙ ap (λ fs. facts_in P fs c.as_slice.result.now) (c.facts-facts.ensures ∙ c.tree.ensures)
    ∙ ap (λ gs. facts_in P r.paths gs) c.as_slice.ensures.value in
    let F : List Fact → Type 0 = λ fs. AreFacts (source P c.args.inputs.now.values) c.args.n fs in
    subst F (sym same) c.in-Ok.ensures.facts

pub returns-clause-few_facts : goal.returns-clause-few_facts
returns-clause-few_facts c =
    let P = c.args.checked.now in
    let r = c.in-Ok.round in
    let same : c.in_ok-all.all.items ≡ facts_in P r.paths r.rows.items =
    c.in_ok-all.ensures ∙ ap (λ fs. facts_in P fs c.as_slice.result.now) (c.facts-facts.ensures ∙ c.tree.ensures)
    ∙ ap (λ gs. facts_in P r.paths gs) c.as_slice.ensures.value in
    let as_many = ap length same in
    let few = c.in-Ok.ensures.few_facts in
    omega (arith, as_many, few)
