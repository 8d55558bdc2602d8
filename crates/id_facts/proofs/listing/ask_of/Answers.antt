-- The parts of the fact, and what an error says nothing of.
use Rattle.std.proofs.Common.{arith}
use Rattle.std.proofs.lemmas.Grind.{common_steps}
use Rattle.id_source.proofs.TurnsLemmas.{if_err}
use Rattle.id_facts.proofs.listing.ask_of.Goals as goal

pub returns-in_err-fetch : goal.returns-in_err-fetch
returns-in_err-fetch c = if_err _ c.from_residual.result c.from_residual.ensures.0

pub returns-in_err-name : goal.returns-in_err-name
returns-in_err-name c = if_err _ c.from_residual-in_err-name.result c.from_residual-in_err-name.ensures.0

pub returns : goal.returns
returns c = grind (arith, common_steps)
