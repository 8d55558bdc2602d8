-- What an error says nothing of.
use Rattle.std.proofs.Common.{arith}
use Rattle.std.proofs.lemmas.Grind.{common_steps}
use Rattle.id_source.proofs.TurnsLemmas.{on_ok}
use Rattle.id_meaning.proofs.rules.Rules.add_gain.Goals as goal

pub returns-in_err-add_given : goal.returns-in_err-add_given
returns-in_err-add_given c = on_ok _ c.from_residual.result c.from_residual.ensures.0

pub returns-in_err-add_pass : goal.returns-in_err-add_pass
returns-in_err-add_pass c = on_ok _ c.from_residual-in_err-add_pass.result c.from_residual-in_err-add_pass.ensures.0

pub returns-in_err-add_loop : goal.returns-in_err-add_loop
returns-in_err-add_loop c = on_ok _ c.from_residual-in_err-add_loop.result c.from_residual-in_err-add_loop.ensures.0

pub returns : goal.returns
returns c = grind (arith, common_steps)
