-- An error shows nothing.
use Rattle.id_step.proofs.ShortLemmas.{if_err}
use Rattle.id_observe.proofs.holdings.held_by.Goals as goal

pub returns-in_err-structures : goal.returns-in_err-structures
returns-in_err-structures c = record {
  answer = if_err _ c.from_residual.result c.from_residual.ensures.0;
  structures = if_err _ c.from_residual.result c.from_residual.ensures.0;
  cells = if_err _ c.from_residual.result c.from_residual.ensures.0;
  waiting = if_err _ c.from_residual.result c.from_residual.ensures.0;
}

pub returns-in_err-cells : goal.returns-in_err-cells
returns-in_err-cells c = record {
  answer = if_err _ c.from_residual-in_err-cells.result c.from_residual-in_err-cells.ensures.0;
  structures = if_err _ c.from_residual-in_err-cells.result c.from_residual-in_err-cells.ensures.0;
  cells = if_err _ c.from_residual-in_err-cells.result c.from_residual-in_err-cells.ensures.0;
  waiting = if_err _ c.from_residual-in_err-cells.result c.from_residual-in_err-cells.ensures.0;
}

pub returns-in_err-waiting : goal.returns-in_err-waiting
returns-in_err-waiting c = record {
  answer = if_err _ c.from_residual-in_err-waiting.result c.from_residual-in_err-waiting.ensures.0;
  structures = if_err _ c.from_residual-in_err-waiting.result c.from_residual-in_err-waiting.ensures.0;
  cells = if_err _ c.from_residual-in_err-waiting.result c.from_residual-in_err-waiting.ensures.0;
  waiting = if_err _ c.from_residual-in_err-waiting.result c.from_residual-in_err-waiting.ensures.0;
}

pub returns-in_err-answer : goal.returns-in_err-answer
returns-in_err-answer c = record {
  answer = if_err _ c.from_residual-in_err-answer.result c.from_residual-in_err-answer.ensures.0;
  structures = if_err _ c.from_residual-in_err-answer.result c.from_residual-in_err-answer.ensures.0;
  cells = if_err _ c.from_residual-in_err-answer.result c.from_residual-in_err-answer.ensures.0;
  waiting = if_err _ c.from_residual-in_err-answer.result c.from_residual-in_err-answer.ensures.0;
}
