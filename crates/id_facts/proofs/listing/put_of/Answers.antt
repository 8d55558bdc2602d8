-- The parts of the fact, and what an error says nothing of.
use Rattle.std.proofs.Common.{arith}
use Rattle.std.proofs.lemmas.Grind.{common_steps}
use Rattle.id_source.proofs.TurnsLemmas.{if_err}
use Rattle.id_facts.proofs.listing.put_of.Goals as goal

pub returns-in_err-name : goal.returns-in_err-name
returns-in_err-name c = if_err _ c.from_residual.result c.from_residual.ensures.0

pub returns-in_err-value : goal.returns-in_err-value
returns-in_err-value c = if_err _ c.from_residual-in_err-value.result c.from_residual-in_err-value.ensures.0

pub returns-in_err-store : goal.returns-in_err-store
returns-in_err-store c = if_err _ c.from_residual-in_err-store.result c.from_residual-in_err-store.ensures.0

pub returns : goal.returns
returns c = grind (arith, common_steps)
