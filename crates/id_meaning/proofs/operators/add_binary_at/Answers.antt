-- What comes of the operands, and what an error says nothing of.
use Rattle.std.proofs.Common.{arith}
use Rattle.std.proofs.lemmas.Grind.{common_steps}
use Rattle.id_source.proofs.TurnsLemmas.{on_ok}
use Rattle.id_meaning.proofs.operators.add_binary_at.Goals as goal

pub returns-in_err-lefts : goal.returns-in_err-lefts
returns-in_err-lefts c = on_ok _ c.from_residual.result c.from_residual.ensures.0

pub returns-in_err-rights : goal.returns-in_err-rights
returns-in_err-rights c = on_ok _ c.from_residual-in_err-rights.result c.from_residual-in_err-rights.ensures.0

pub returns : goal.returns
returns c = grind (arith, common_steps)
