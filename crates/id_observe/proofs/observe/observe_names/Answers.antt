-- What binders have by their paths and names is what they have.
use Rattle.std.proofs.Common.{◌≡◌, IfOk, ap, map, subst, ◌∙◌}
use Rattle.id_observe.specs.Observed.{names_of}
use Rattle.id_observe.specs.Paths.{events_of, path_by, path_in, structure_by}
use Rattle.id_step.proofs.ShortLemmas.{if_err}
use Rattle.id_observe.proofs.observe.observe_names.Goals as goal

pub returns-in_err-paths : goal.returns-in_err-paths
returns-in_err-paths c = if_err _ c.from_residual.result c.from_residual.ensures.0

pub returns : goal.returns
returns c =
    let told = c.in_ok-paths.ensures in
    let ss = map (λ e. e.state) c.args.records.now.elements.now in
    let g = c.args.records.now.graph.now in
    let p = c.in_ok-paths.paths in
    subst (λ l. IfOk c.all_names.result (λ v. v.items ≡ l))
    (ap (λ es. names_of p.graph.now (path_by p) (structure_by p) (events_of (map (λ e. e.state) es))) told.elements
    ∙ ap (λ h. names_of h (path_by p) (structure_by p) (events_of ss)) told.graph
    ∙ ap (λ at. names_of g at (structure_by p) (events_of ss)) told.paths
    ∙ ap (λ name. names_of g (path_in g ss) name (events_of ss)) told.structures)
    c.all_names.ensures

pub all_names-requires : goal.all_names-requires
all_names-requires c = rw c.in_ok-paths.ensures.elements c.requires
