-- What follows where a structure has bounds, and what an error says nothing of.
use Rattle.std.proofs.Common.{arith}
use Rattle.std.proofs.lemmas.Grind.{common_steps}
use Rattle.id_source.proofs.TurnsLemmas.{on_ok}
use Rattle.id_meaning.proofs.rules.Rules.add_from_shape.Goals as goal

pub returns-in_err-points : goal.returns-in_err-points
returns-in_err-points c = on_ok _ c.from_residual.result c.from_residual.ensures.0

pub returns : goal.returns
returns c = grind (arith, common_steps)
