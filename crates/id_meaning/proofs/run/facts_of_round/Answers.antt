-- The facts of a round, want of memory, and too many facts.
use Rattle.id_source.specs.Sources.{source}
use Rattle.id_meaning.proofs.RunLemmas.{stop-asked, stop-many}
use Rattle.id_source.proofs.TurnsLemmas.{if_err}
use Rattle.id_meaning.proofs.RefusedLemmas.{not_asked, not_too_many}
use Rattle.id_meaning.proofs.run.facts_of_round.Goals as goal

pub returns-in_err-facts-clause-facts : goal.returns-in_err-facts-clause-facts
returns-in_err-facts-clause-facts c = if_err _ c.from_residual.result c.from_residual.ensures.0

pub returns-in_err-facts-clause-few : goal.returns-in_err-facts-clause-few
returns-in_err-facts-clause-few c = if_err _ c.from_residual.result c.from_residual.ensures.0

pub returns-in_err-facts-clause-asked : goal.returns-in_err-facts-clause-asked
returns-in_err-facts-clause-asked c = not_asked c.from_residual.result c.from_residual.ensures.1

pub returns-in_err-facts-clause-too_many : goal.returns-in_err-facts-clause-too_many
returns-in_err-facts-clause-too_many c = not_too_many _ c.from_residual.result c.from_residual.ensures.1

pub returns-then-n-eq0-clause-asked : goal.returns-then-n-eq0-clause-asked
returns-then-n-eq0-clause-asked c = tt

pub returns-then-n-eq0-clause-too_many : goal.returns-then-n-eq0-clause-too_many
returns-then-n-eq0-clause-too_many c = tt

pub returns-in-Err-clause-facts : goal.returns-in-Err-clause-facts
returns-in-Err-clause-facts c = tt

pub returns-in-Err-clause-few : goal.returns-in-Err-clause-few
returns-in-Err-clause-few c = tt

pub returns-in-Err-clause-asked : goal.returns-in-Err-clause-asked
returns-in-Err-clause-asked c = stop-asked (source c.args.checked.now c.args.inputs.now) c.args.n c.in-Err.error
    c.in-Err.ensures.stop

pub returns-in-Err-clause-too_many : goal.returns-in-Err-clause-too_many
returns-in-Err-clause-too_many c = stop-many (source c.args.checked.now c.args.inputs.now) c.args.n c.in-Err.error
    c.in-Err.ensures.stop

pub returns-clause-facts : goal.returns-clause-facts
returns-clause-facts c = c.in_default.ensures.facts.round

pub returns-clause-few : goal.returns-clause-few
returns-clause-few c = c.in_default.ensures.facts.few

pub returns-clause-asked : goal.returns-clause-asked
returns-clause-asked c = tt

pub returns-clause-too_many : goal.returns-clause-too_many
returns-clause-too_many c = tt
