-- The earliest of the first faults of the elements is the first of all.
use Rattle.std.proofs.Common.{◌≡◌, [], map, sym, ◌∙◌}
use Rattle.std.specs.Prelude.{MatchOption, Option}
use Rattle.std.proofs.lemmas.List.Elements.{recursion_from_All}
use Rattle.std.proofs.lemmas.Map.Keys.{sorted_from_strictly_increasing}
use Rattle.std.proofs.lemmas.Result.{IfOk-weaker}
use Rattle.id_source.specs.declared.SourceFault.{SourceFault}
use Rattle.id_record.specs.declared.step.Step.TheVariants as steps
use Rattle.id_step.specs.Replays.{Replays}
use Rattle.id_observe.specs.Firsts.{IsFirstFault}
use Rattle.id_observe.specs.Paths.{path_in, structure_in}
use Rattle.id_observe.specs.Sourced.{fault_of, faults_in}
use Rattle.id_observe.proofs.FirstsLemmas.{first-shown, none-shown}
use Rattle.id_observe.proofs.first.first_fault.Goals as goal

pub returns-in-Some : goal.returns-in-Some
returns-in-Some c =
    let g = c.args.records.now.graph.now in
    let es = c.args.records.now.elements.now in
    let ss = map (λ e. e.state) es in
    let a = c.in-Some.first in
    IfOk-weaker c.shown.result (λ o. o ≡ fault_of g (path_in g ss) (structure_in g ss) (steps.Fault a.fault))
    (λ o. MatchOption o (faults_in g ss ≡ []) (IsFirstFault g ss))
    (λ (o : Option SourceFault) is. first-shown g es a o (sorted_from_strictly_increasing _ c.requires)
    (recursion_from_All Replays es c.earliest.ensures.kept) (sym c.earliest.ensures.first ∙ c.in-Some.is) is)
    c.shown.ensures

pub returns-in-None : goal.returns-in-None
returns-in-None c =
    let es = c.args.records.now.elements.now in
    none-shown c.args.records.now.graph.now es (sorted_from_strictly_increasing _ c.requires)
    (recursion_from_All Replays es c.earliest.ensures.kept)
    (sym c.earliest.ensures.first ∙ c.in-None.is)
