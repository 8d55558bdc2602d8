-- What an error says nothing of.
use Rattle.id_source.proofs.TurnsLemmas.{on_ok}
use Rattle.id_meaning.proofs.rules.Rules.add_start.Goals as goal

pub returns-in_err-add_on-in-Some-Loop : goal.returns-in_err-add_on-in-Some-Loop
returns-in_err-add_on-in-Some-Loop c = on_ok _ c.from_residual.result c.from_residual.ensures.0
