-- The answer is the first value that came to it, as one of the source.
use Rattle.std.proofs.Common.{◌≡◌, Some, None, IfOk, map, sym, ap, subst, ◌∙◌}
use Rattle.std.specs.Prelude.{option_and_then}
use Rattle.id_observe.specs.Observed.{first_value}
use Rattle.id_observe.specs.Sourced.{source_value}
use Rattle.id_observe.specs.Paths.{structure_in}
use Rattle.id_observe.proofs.answered.answer.Goals as goal

pub returns-in-Some : goal.returns-in-Some
returns-in-Some c =
    let states = map (λ e. e.state) c.args.records.now.elements.now in
    let first : first_value states ≡ Some c.in-Some.value = sym c.first_value.ensures ∙ c.in-Some.is in
    let shown = sym (ap (option_and_then (source_value (structure_in c.args.records.now.graph.now states))) first) in
    subst (λ l. IfOk c.told_value.result (λ o. o ≡ l)) shown c.told_value.ensures

pub returns-in-None : goal.returns-in-None
returns-in-None c =
    let states = map (λ e. e.state) c.args.records.now.elements.now in
    let first : first_value states ≡ None = sym c.first_value.ensures ∙ c.in-None.is in
    sym (ap (option_and_then (source_value (structure_in c.args.records.now.graph.now states))) first)
