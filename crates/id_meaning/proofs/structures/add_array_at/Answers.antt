-- What comes of the bounds, and what an error says nothing of.
use Rattle.std.proofs.Common.{arith}
use Rattle.std.proofs.lemmas.Grind.{common_steps}
use Rattle.id_source.proofs.TurnsLemmas.{on_ok}
use Rattle.id_meaning.proofs.structures.add_array_at.Goals as goal

pub returns-in_err-lows : goal.returns-in_err-lows
returns-in_err-lows c = on_ok _ c.from_residual.result c.from_residual.ensures.0

pub returns-in_err-highs : goal.returns-in_err-highs
returns-in_err-highs c = on_ok _ c.from_residual-in_err-highs.result c.from_residual-in_err-highs.ensures.0

pub returns : goal.returns
returns c = grind (arith, common_steps)
