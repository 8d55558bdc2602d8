-- What follows where a row Has a value, and what an error says nothing of.
use Rattle.std.proofs.Common.{arith}
use Rattle.std.proofs.lemmas.Grind.{common_steps}
use Rattle.id_source.proofs.TurnsLemmas.{on_ok}
use Rattle.id_meaning.proofs.rules.Rules.add_from_value.Goals as goal

pub returns-in_err-add_gains : goal.returns-in_err-add_gains
returns-in_err-add_gains c = on_ok _ c.from_residual.result c.from_residual.ensures.0

pub returns-in_err-add_all_woken : goal.returns-in_err-add_all_woken
returns-in_err-add_all_woken c = on_ok _ c.from_residual-in_err-add_all_woken.result
    c.from_residual-in_err-add_all_woken.ensures.0

pub returns-in_err-add_exit : goal.returns-in_err-add_exit
returns-in_err-add_exit c = on_ok _ c.from_residual-in_err-add_exit.result c.from_residual-in_err-add_exit.ensures.0

pub returns : goal.returns
returns c = grind (arith, common_steps)
