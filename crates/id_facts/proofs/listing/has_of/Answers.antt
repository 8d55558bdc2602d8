-- The parts of the fact, and what an error says nothing of.
use Rattle.std.proofs.Common.{arith}
use Rattle.std.proofs.lemmas.Grind.{common_steps}
use Rattle.id_source.proofs.TurnsLemmas.{if_err}
use Rattle.id_facts.proofs.listing.has_of.Goals as goal

pub returns-in_err-path : goal.returns-in_err-path
returns-in_err-path c = if_err _ c.from_residual.result c.from_residual.ensures.0

pub returns-in_err-value : goal.returns-in_err-value
returns-in_err-value c = if_err _ c.from_residual-in_err-value.result c.from_residual-in_err-value.ensures.0

pub returns : goal.returns
returns c = grind (arith, common_steps)
