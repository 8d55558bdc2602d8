-- What comes of an upper bound that is a number, and of others.
use Rattle.std.proofs.Common.{arith, rules}
use Rattle.std.proofs.lemmas.Grind.{common_steps}
use Rattle.id_source.proofs.TurnsLemmas.{on_ok}
use Rattle.id_meaning.proofs.structures.add_made_by.Goals as goal

pub returns-in_err-push-in-Int : goal.returns-in_err-push-in-Int
returns-in_err-push-in-Int c = on_ok _ c.from_residual.result c.from_residual.ensures.0

pub returns-in_ok-push-in-Int : goal.returns-in_ok-push-in-Int
returns-in_ok-push-in-Int c = grind (arith, common_steps)

pub returns-in_default : goal.returns-in_default
returns-in_default c = search rules

pub returns-in_default-2 : goal.returns-in_default-2
returns-in_default-2 c = search rules
