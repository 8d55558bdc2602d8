-- What follows where a row is On, and what an error says nothing of.
use Rattle.std.proofs.Common.{arith}
use Rattle.std.proofs.lemmas.Grind.{common_steps}
use Rattle.id_source.proofs.TurnsLemmas.{on_ok}
use Rattle.id_meaning.proofs.rules.Rules.add_from_turned.Goals as goal

pub returns-in_err-add_ons : goal.returns-in_err-add_ons
returns-in_err-add_ons c = on_ok _ c.from_residual.result c.from_residual.ensures.0

pub returns-in_err-add_given : goal.returns-in_err-add_given
returns-in_err-add_given c = on_ok _ c.from_residual-in_err-add_given.result c.from_residual-in_err-add_given.ensures.0

pub returns-in_err-add_call : goal.returns-in_err-add_call
returns-in_err-add_call c = on_ok _ c.from_residual-in_err-add_call.result c.from_residual-in_err-add_call.ensures.0

pub returns-in_err-add_start : goal.returns-in_err-add_start
returns-in_err-add_start c = on_ok _ c.from_residual-in_err-add_start.result c.from_residual-in_err-add_start.ensures.0

pub returns : goal.returns
returns c = grind (arith, common_steps)
