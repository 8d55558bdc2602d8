-- The body's facts, the call's, and those of its arguments; what an error says nothing of.
use Rattle.std.proofs.Common.{arith}
use Rattle.std.proofs.lemmas.Grind.{common_steps}
use Rattle.id_source.proofs.TurnsLemmas.{on_ok}
use Rattle.id_meaning.proofs.rules.Rules.add_called.Goals as goal

pub returns-in_err-push : goal.returns-in_err-push
returns-in_err-push c = on_ok _ c.from_residual.result c.from_residual.ensures.0

pub returns-in_err-add_seen : goal.returns-in_err-add_seen
returns-in_err-add_seen c = on_ok _ c.from_residual-in_err-add_seen.result c.from_residual-in_err-add_seen.ensures.0

pub returns : goal.returns
returns c = grind (arith, common_steps)
