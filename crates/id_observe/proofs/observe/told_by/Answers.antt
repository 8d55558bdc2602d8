-- An error shows nothing.
use Rattle.id_step.proofs.ShortLemmas.{if_err}
use Rattle.id_observe.proofs.observe.told_by.Goals as goal

pub returns-in_err-names : goal.returns-in_err-names
returns-in_err-names c = record {
  answer = if_err _ c.from_residual.result c.from_residual.ensures.0;
  names = if_err _ c.from_residual.result c.from_residual.ensures.0;
  asks = if_err _ c.from_residual.result c.from_residual.ensures.0;
  faults = if_err _ c.from_residual.result c.from_residual.ensures.0;
}

pub returns-in_err-faults : goal.returns-in_err-faults
returns-in_err-faults c = record {
  answer = if_err _ c.from_residual-in_err-faults.result c.from_residual-in_err-faults.ensures.0;
  names = if_err _ c.from_residual-in_err-faults.result c.from_residual-in_err-faults.ensures.0;
  asks = if_err _ c.from_residual-in_err-faults.result c.from_residual-in_err-faults.ensures.0;
  faults = if_err _ c.from_residual-in_err-faults.result c.from_residual-in_err-faults.ensures.0;
}

pub returns-in_err-answer : goal.returns-in_err-answer
returns-in_err-answer c = record {
  answer = if_err _ c.from_residual-in_err-answer.result c.from_residual-in_err-answer.ensures.0;
  names = if_err _ c.from_residual-in_err-answer.result c.from_residual-in_err-answer.ensures.0;
  asks = if_err _ c.from_residual-in_err-answer.result c.from_residual-in_err-answer.ensures.0;
  faults = if_err _ c.from_residual-in_err-answer.result c.from_residual-in_err-answer.ensures.0;
}

pub returns-in_err-asks : goal.returns-in_err-asks
returns-in_err-asks c = record {
  answer = if_err _ c.from_residual-in_err-asks.result c.from_residual-in_err-asks.ensures.0;
  names = if_err _ c.from_residual-in_err-asks.result c.from_residual-in_err-asks.ensures.0;
  asks = if_err _ c.from_residual-in_err-asks.result c.from_residual-in_err-asks.ensures.0;
  faults = if_err _ c.from_residual-in_err-asks.result c.from_residual-in_err-asks.ensures.0;
}
