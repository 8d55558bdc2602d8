-- Nothing makes structures, and no cell was touched.
use Rattle.std.proofs.Common.{◌∙◌, ap, map, sym}
use Rattle.id_observe.specs.Observed.{cell_value}
use Rattle.id_observe.proofs.NothingLemmas.{cells-none, structures-none, waiting-none}
use Rattle.id_step.proofs.ShortLemmas.{if_err}
use Rattle.id_observe.proofs.holdings.observe_holdings.Goals as goal

pub returns-then-hold_nothing-clause-structures : goal.returns-then-hold_nothing-clause-structures
returns-then-hold_nothing-clause-structures c =
    let none = (c.hold_nothing.ensures.0 c.if-hold_nothing.true).0 in
    c.no_holdings.ensures.structures
    ∙ sym (structures-none c.args.records.now.graph.now c.args.records.now.elements.now none)

pub returns-then-hold_nothing-clause-cells : goal.returns-then-hold_nothing-clause-cells
returns-then-hold_nothing-clause-cells c =
    c.no_holdings.ensures.cells ∙ sym (ap (map cell_value)
    (cells-none c.args.records.now.graph.now c.args.records.now.elements.now
    (c.hold_nothing.ensures.0 c.if-hold_nothing.true).1))

pub returns-then-hold_nothing-clause-waiting : goal.returns-then-hold_nothing-clause-waiting
returns-then-hold_nothing-clause-waiting c =
    c.no_holdings.ensures.waiting
    ∙ sym (waiting-none c.args.records.now.graph.now c.args.records.now.elements.now
    (c.hold_nothing.ensures.0 c.if-hold_nothing.true).1)

pub returns-in_err-answer : goal.returns-in_err-answer
returns-in_err-answer c = record {
  answer = if_err _ c.from_residual.result c.from_residual.ensures.0;
  structures = if_err _ c.from_residual.result c.from_residual.ensures.0;
  cells = if_err _ c.from_residual.result c.from_residual.ensures.0;
  waiting = if_err _ c.from_residual.result c.from_residual.ensures.0;
}

pub returns-then-hold_nothing-clause-answer : goal.returns-then-hold_nothing-clause-answer
returns-then-hold_nothing-clause-answer c = c.no_holdings.ensures.answer ∙ c.in_ok-answer.ensures
