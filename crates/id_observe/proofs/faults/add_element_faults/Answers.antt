-- What went well shows no fault.
use Rattle.std.proofs.Common.{◌++◌, append-nil, ap, sym, ◌∙◌}
use Rattle.id_observe.specs.Sourced.{faults_of}
use Rattle.id_observe.specs.Paths.{structure_by}
use Rattle.id_observe.specs.Paths.{path_by}
use Rattle.id_observe.proofs.SourcedLemmas.{went_none}
use Rattle.id_observe.proofs.faults.add_element_faults.Goals as goal

pub returns-then-all_went : goal.returns-then-all_went
returns-then-all_went c =
    let p = c.args.paths.now in
    let old = c.args.faults.now.items in
    let none =
    went_none p.graph.now (path_by p) (structure_by p) c.args.element.now.state.events
    (c.all_went.ensures.0 c.if-all_went.true) in
    sym (ap (λ fs. old ++ fs) none ∙ append-nil old)

pub returns-in_ok-add_faults : goal.returns-in_ok-add_faults
returns-in_ok-add_faults c =
    let p = c.args.paths.now in
    c.in_ok-add_faults.ensures
    ∙ ap (λ es. c.args.faults.now.items ++ faults_of p.graph.now (path_by p) (structure_by p) es) c.events.ensures.value
