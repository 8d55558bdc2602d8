-- What comes of the target and the index, and what an error says nothing of.
use Rattle.std.proofs.Common.{arith}
use Rattle.std.proofs.lemmas.Grind.{common_steps}
use Rattle.id_source.proofs.TurnsLemmas.{on_ok}
use Rattle.id_meaning.proofs.structures.add_fetch_at.Goals as goal

pub returns-in_err-targets : goal.returns-in_err-targets
returns-in_err-targets c = on_ok _ c.from_residual.result c.from_residual.ensures.0

pub returns-in_err-indices : goal.returns-in_err-indices
returns-in_err-indices c = on_ok _ c.from_residual-in_err-indices.result c.from_residual-in_err-indices.ensures.0

pub returns : goal.returns
returns c = grind (arith, common_steps)
