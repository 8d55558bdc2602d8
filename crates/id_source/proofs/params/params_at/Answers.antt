-- What an error says nothing of.
use Rattle.id_source.proofs.TurnsLemmas.{if_err}
use Rattle.id_source.proofs.params.params_at.Goals as goal

pub returns-in_err-push : goal.returns-in_err-push
returns-in_err-push c = if_err _ c.from_residual.result c.from_residual.ensures.0
