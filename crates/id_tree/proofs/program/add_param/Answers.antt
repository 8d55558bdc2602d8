-- The list begins with the parameter's name, and the run takes the rest of it.
use Rattle.id_tree.proofs.ReadLemmas.{IsBehind-then}
use Rattle.id_grammar.proofs.ParamLemmas.{Declares-done, Undeclares-name, Undeclares-kind}
use Rattle.id_tree.proofs.program.add_param.Goals as goal

pub returns-in-Err : goal.returns-in-Err
returns-in-Err c = Undeclares-name c.in-Err.ensures.err

pub returns-in-Err-expect_kind : goal.returns-in-Err-expect_kind
returns-in-Err-expect_kind c = Undeclares-kind c.in-Ok.ensures.ok c.in-Err-expect_kind.ensures.err

pub returns : goal.returns
returns c = (
  IsBehind-then c.in-Ok.ensures.behind c.in-Ok-expect_kind.ensures.behind,
  (_, c.in_ok-push.ensures.items, Declares-done _ c.in-Ok.ensures.ok c.in-Ok-expect_kind.ensures.ok),
)
