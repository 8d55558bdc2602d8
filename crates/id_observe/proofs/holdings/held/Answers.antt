-- What the records show by their paths and names is what they show.
use Rattle.std.proofs.Common.{◌≡◌, ◌∙◌, IfOk, ap, map, subst}
use Rattle.std.specs.List.{filter_map, flat_map}
use Rattle.std.specs.Prelude.{option_and_then, slice_get}
use Rattle.id_bank.specs.Cells.{cells_of, deferred_of}
use Rattle.id_observe.specs.Observed.{ask_of, cell_value_of}
use Rattle.id_observe.specs.Sourced.{source_value}
use Rattle.id_observe.specs.Paths.{answers, events_of, path_in, structure_by, structure_in}
use Rattle.id_observe.specs.Paths.{path_by}
use Rattle.id_observe.proofs.ObservedLemmas.{cell_values-from_puts}
use Rattle.id_observe.proofs.ObservedLemmas.{structures-from_makings}
use Rattle.id_step.proofs.ShortLemmas.{if_err}
use Rattle.id_observe.proofs.holdings.held.Goals as goal

-- the structures that were made are those of their events
pub returns-clause-structures : goal.returns-clause-structures
returns-clause-structures c =
    let told = c.in_ok-paths.ensures in
    subst (λ l. IfOk c.held_by.result (λ o. o.structures ≡ l))
    (structures-from_makings c.args.records.now.graph.now c.args.records.now.elements.now c.in_ok-paths.paths told.graph
    told.paths told.makings)
    c.held_by.ensures.structures

-- what the cells hold is that of what is put into them
pub returns-clause-cells : goal.returns-clause-cells
returns-clause-cells c =
    let g = c.args.records.now.graph.now in
    let ss = map (λ e. e.state) c.args.records.now.elements.now in
    let p = c.in_ok-paths.paths in
    let fs = flat_map (λ e. cells_of e.cells) ss in
    subst (λ l. IfOk c.held_by.result (λ o. o.cells ≡ l))
    (ap (λ es. filter_map (cell_value_of (structure_by p)) (flat_map (λ e. cells_of e.cells) (map (λ e. e.state) es)))
    c.in_ok-paths.ensures.elements
    ∙ ap (λ name. filter_map (cell_value_of name) fs) c.in_ok-paths.ensures.structures
    ∙ cell_values-from_puts g (path_in g ss) (structure_in g ss) fs)
    c.held_by.ensures.cells

-- an error shows nothing
pub returns-in_err-paths : goal.returns-in_err-paths
returns-in_err-paths c = record {
  answer = if_err _ c.from_residual.result c.from_residual.ensures.0;
  structures = if_err _ c.from_residual.result c.from_residual.ensures.0;
  cells = if_err _ c.from_residual.result c.from_residual.ensures.0;
  waiting = if_err _ c.from_residual.result c.from_residual.ensures.0;
}

pub returns-clause-answer : goal.returns-clause-answer
returns-clause-answer c =
    let told = c.in_ok-paths.ensures in
    let ss = map (λ e. e.state) c.args.records.now.elements.now in
    let p = c.in_ok-paths.paths in
    subst (λ l. IfOk c.held_by.result (λ o. o.answer ≡ l))
    (ap (λ vs. option_and_then (source_value (structure_by p)) (slice_get vs 0)) told.values
    ∙ ap (λ name. option_and_then (source_value name) (slice_get (answers (events_of ss)) 0)) told.structures)
    c.held_by.ensures.answer

pub returns-clause-waiting : goal.returns-clause-waiting
returns-clause-waiting c =
    let told = c.in_ok-paths.ensures in
    let ss = map (λ e. e.state) c.args.records.now.elements.now in
    let g = c.args.records.now.graph.now in
    let p = c.in_ok-paths.paths in
    subst (λ l. IfOk c.held_by.result (λ o. o.waiting ≡ l))
    (ap (λ es. map (ask_of p.graph.now (path_by p) (structure_by p))
    (flat_map (λ e. deferred_of e.cells) (map (λ e. e.state) es))) told.elements
    ∙ ap (λ h. map (ask_of h (path_by p) (structure_by p)) (flat_map (λ e. deferred_of e.cells) ss)) told.graph
    ∙ ap (λ at. map (ask_of g at (structure_by p)) (flat_map (λ e. deferred_of e.cells) ss)) told.paths
    ∙ ap (λ name. map (ask_of g (path_in g ss) name) (flat_map (λ e. deferred_of e.cells) ss)) told.structures)
    c.held_by.ensures.waiting
