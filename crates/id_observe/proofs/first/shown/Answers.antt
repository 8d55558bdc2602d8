-- The paths and names are those of the records.
use Rattle.std.proofs.Common.{◌≡◌, IfOk, map, ap, subst, ◌∙◌}
use Rattle.id_record.specs.declared.step.Step.TheVariants as steps
use Rattle.id_observe.specs.Paths.{path_by, path_in, structure_by, structure_in}
use Rattle.id_observe.specs.Sourced.{fault_of}
use Rattle.id_observe.proofs.first.shown.Goals as goal

pub returns : goal.returns
returns c =
    let g = c.args.records.now.graph.now in
    let ss = map (λ e. e.state) c.args.records.now.elements.now in
    let p = c.in_ok-paths.paths in
    let graph : p.graph.now ≡ g = c.in_ok-paths.ensures.graph in
    let paths : path_by p ≡ path_in g ss = c.in_ok-paths.ensures.paths in
    let structures : structure_by p ≡ structure_in g ss = c.in_ok-paths.ensures.structures in
    let step = steps.Fault c.args.fault in
    subst (λ l. IfOk c.source_fault.result (λ o. o ≡ l))
    (ap (λ h. fault_of h (path_by p) (structure_by p) step) graph ∙ ap (λ f. fault_of g f (structure_by p) step) paths
    ∙ ap (λ f. fault_of g (path_in g ss) f step) structures)
    c.source_fault.ensures
