-- What the records show by their paths and names is what they show.
use Rattle.std.proofs.Common.{◌≡◌, IfOk, ap, map, subst, ◌∙◌}
use Rattle.std.specs.List.{filter_map, flat_map}
use Rattle.std.specs.Prelude.{option_and_then, slice_get}
use Rattle.id_bank.specs.Cells.{cells_of, deferred_of}
use Rattle.id_observe.specs.Observed.{answer_in, ask_of, asks_of, names_of, put_of, structures_in}
use Rattle.id_observe.specs.Sourced.{faults_of, source_value}
use Rattle.id_observe.specs.Paths.{answers, events_of, path_in, structure_by, structure_in}
use Rattle.id_observe.specs.Paths.{path_by}
use Rattle.id_observe.proofs.ObservedLemmas.{structures-from_makings}
use Rattle.id_step.proofs.ShortLemmas.{if_err}
use Rattle.id_observe.proofs.observe.observe_records.Goals as goal

pub returns-clause-structures : goal.returns-clause-structures
returns-clause-structures c =
    let told = c.in_ok-paths.ensures in
    subst (λ l. IfOk c.shown_by.result (λ o. o.structures ≡ l))
    (structures-from_makings c.graph.result.now c.args.elements.now c.in_ok-paths.paths told.graph told.paths
    told.makings
    ∙ ap (λ h. structures_in h (map (λ e. e.state) c.args.elements.now)) c.graph.ensures.value)
    c.shown_by.ensures.structures

pub returns-in_err-paths : goal.returns-in_err-paths
returns-in_err-paths c = record {
  answer = if_err _ c.from_residual.result c.from_residual.ensures.0;
  names = if_err _ c.from_residual.result c.from_residual.ensures.0;
  structures = if_err _ c.from_residual.result c.from_residual.ensures.0;
  cells = if_err _ c.from_residual.result c.from_residual.ensures.0;
  asks = if_err _ c.from_residual.result c.from_residual.ensures.0;
  waiting = if_err _ c.from_residual.result c.from_residual.ensures.0;
  faults = if_err _ c.from_residual.result c.from_residual.ensures.0;
}

pub returns-clause-answer : goal.returns-clause-answer
returns-clause-answer c =
    let told = c.in_ok-paths.ensures in
    let ss = map (λ e. e.state) c.args.elements.now in
    let p = c.in_ok-paths.paths in
    subst (λ l. IfOk c.shown_by.result (λ o. o.answer ≡ l))
    (ap (λ vs. option_and_then (source_value (structure_by p)) (slice_get vs 0)) told.values
    ∙ ap (λ name. option_and_then (source_value name) (slice_get (answers (events_of ss)) 0)) told.structures
    ∙ ap (λ h. answer_in h ss) c.graph.ensures.value)
    c.shown_by.ensures.answer

pub returns-clause-names : goal.returns-clause-names
returns-clause-names c =
    let told = c.in_ok-paths.ensures in
    let ss = map (λ e. e.state) c.args.elements.now in
    let g = c.graph.result.now in
    let p = c.in_ok-paths.paths in
    subst (λ l. IfOk c.shown_by.result (λ o. o.names ≡ l))
    (ap (λ es. names_of p.graph.now (path_by p) (structure_by p) (events_of (map (λ e. e.state) es))) told.elements
    ∙ ap (λ h. names_of h (path_by p) (structure_by p) (events_of ss)) told.graph
    ∙ ap (λ at. names_of g at (structure_by p) (events_of ss)) told.paths
    ∙ ap (λ name. names_of g (path_in g ss) name (events_of ss)) told.structures
    ∙ ap (λ h. names_of h (path_in h ss) (structure_in h ss) (events_of ss)) c.graph.ensures.value)
    c.shown_by.ensures.names

pub returns-clause-cells : goal.returns-clause-cells
returns-clause-cells c =
    let told = c.in_ok-paths.ensures in
    let ss = map (λ e. e.state) c.args.elements.now in
    let g = c.graph.result.now in
    let p = c.in_ok-paths.paths in
    subst (λ l. IfOk c.shown_by.result (λ o. o.cells ≡ l))
    (ap (λ es. filter_map (put_of p.graph.now (path_by p) (structure_by p))
    (flat_map (λ e. cells_of e.cells) (map (λ e. e.state) es))) told.elements
    ∙ ap (λ h. filter_map (put_of h (path_by p) (structure_by p)) (flat_map (λ e. cells_of e.cells) ss)) told.graph
    ∙ ap (λ at. filter_map (put_of g at (structure_by p)) (flat_map (λ e. cells_of e.cells) ss)) told.paths
    ∙ ap (λ name. filter_map (put_of g (path_in g ss) name) (flat_map (λ e. cells_of e.cells) ss)) told.structures
    ∙ ap (λ h. filter_map (put_of h (path_in h ss) (structure_in h ss)) (flat_map (λ e. cells_of e.cells) ss))
    c.graph.ensures.value)
    c.shown_by.ensures.cells

pub returns-clause-waiting : goal.returns-clause-waiting
returns-clause-waiting c =
    let told = c.in_ok-paths.ensures in
    let ss = map (λ e. e.state) c.args.elements.now in
    let g = c.graph.result.now in
    let p = c.in_ok-paths.paths in
    subst (λ l. IfOk c.shown_by.result (λ o. o.waiting ≡ l))
    (ap (λ es. map (ask_of p.graph.now (path_by p) (structure_by p))
    (flat_map (λ e. deferred_of e.cells) (map (λ e. e.state) es))) told.elements
    ∙ ap (λ h. map (ask_of h (path_by p) (structure_by p)) (flat_map (λ e. deferred_of e.cells) ss)) told.graph
    ∙ ap (λ at. map (ask_of g at (structure_by p)) (flat_map (λ e. deferred_of e.cells) ss)) told.paths
    ∙ ap (λ name. map (ask_of g (path_in g ss) name) (flat_map (λ e. deferred_of e.cells) ss)) told.structures
    ∙ ap (λ h. map (ask_of h (path_in h ss) (structure_in h ss)) (flat_map (λ e. deferred_of e.cells) ss))
    c.graph.ensures.value)
    c.shown_by.ensures.waiting

pub returns-clause-faults : goal.returns-clause-faults
returns-clause-faults c =
    let told = c.in_ok-paths.ensures in
    let ss = map (λ e. e.state) c.args.elements.now in
    let g = c.graph.result.now in
    let p = c.in_ok-paths.paths in
    subst (λ l. IfOk c.shown_by.result (λ o. o.faults ≡ l))
    (ap (λ es. faults_of p.graph.now (path_by p) (structure_by p) (events_of (map (λ e. e.state) es))) told.elements
    ∙ ap (λ h. faults_of h (path_by p) (structure_by p) (events_of ss)) told.graph
    ∙ ap (λ at. faults_of g at (structure_by p) (events_of ss)) told.paths
    ∙ ap (λ name. faults_of g (path_in g ss) name (events_of ss)) told.structures
    ∙ ap (λ h. faults_of h (path_in h ss) (structure_in h ss) (events_of ss)) c.graph.ensures.value)
    c.shown_by.ensures.faults

pub returns-clause-asks : goal.returns-clause-asks
returns-clause-asks c =
    let told = c.in_ok-paths.ensures in
    let ss = map (λ e. e.state) c.args.elements.now in
    let g = c.graph.result.now in
    let p = c.in_ok-paths.paths in
    subst (λ l. IfOk c.shown_by.result (λ o. o.asks ≡ l))
    (ap (λ es. asks_of p.graph.now (path_by p) (structure_by p) (events_of (map (λ e. e.state) es))) told.elements
    ∙ ap (λ h. asks_of h (path_by p) (structure_by p) (events_of ss)) told.graph
    ∙ ap (λ at. asks_of g at (structure_by p) (events_of ss)) told.paths
    ∙ ap (λ name. asks_of g (path_in g ss) name (events_of ss)) told.structures
    ∙ ap (λ h. asks_of h (path_in h ss) (structure_in h ss) (events_of ss)) c.graph.ensures.value)
    c.shown_by.ensures.asks
