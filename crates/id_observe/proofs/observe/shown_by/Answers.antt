-- An error shows nothing.
use Rattle.id_step.proofs.ShortLemmas.{if_err}
use Rattle.id_observe.proofs.observe.shown_by.Goals as goal

pub returns-in_err-told : goal.returns-in_err-told
returns-in_err-told c = record {
  answer = if_err _ c.from_residual.result c.from_residual.ensures.0;
  names = if_err _ c.from_residual.result c.from_residual.ensures.0;
  structures = if_err _ c.from_residual.result c.from_residual.ensures.0;
  cells = if_err _ c.from_residual.result c.from_residual.ensures.0;
  asks = if_err _ c.from_residual.result c.from_residual.ensures.0;
  waiting = if_err _ c.from_residual.result c.from_residual.ensures.0;
  faults = if_err _ c.from_residual.result c.from_residual.ensures.0;
}

pub returns-in_err-held : goal.returns-in_err-held
returns-in_err-held c = record {
  answer = if_err _ c.from_residual-in_err-held.result c.from_residual-in_err-held.ensures.0;
  names = if_err _ c.from_residual-in_err-held.result c.from_residual-in_err-held.ensures.0;
  structures = if_err _ c.from_residual-in_err-held.result c.from_residual-in_err-held.ensures.0;
  cells = if_err _ c.from_residual-in_err-held.result c.from_residual-in_err-held.ensures.0;
  asks = if_err _ c.from_residual-in_err-held.result c.from_residual-in_err-held.ensures.0;
  waiting = if_err _ c.from_residual-in_err-held.result c.from_residual-in_err-held.ensures.0;
  faults = if_err _ c.from_residual-in_err-held.result c.from_residual-in_err-held.ensures.0;
}
