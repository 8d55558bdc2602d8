-- The parts of the heading that were there are taken, and the run ends at the one that is not.
use Rattle.id_tree.proofs.ReadLemmas.{IsBehind-then}
use Rattle.id_grammar.proofs.ParamLemmas.{Beheads-paren, Beheads-params, Beheads-kind, Beheads-sign, Heads-done}
use Rattle.id_tree.proofs.program.parse_heading.Goals as goal

pub returns-in-Err : goal.returns-in-Err
returns-in-Err c = Beheads-paren c.in-Err.ensures.err

pub returns-in-Err-parse_params : goal.returns-in-Err-parse_params
returns-in-Err-parse_params c = Beheads-params c.in-Ok.ensures.ok c.in-Err-parse_params.ensures

pub returns-in-Err-expect_kind : goal.returns-in-Err-expect_kind
returns-in-Err-expect_kind c = Beheads-kind c.in-Ok.ensures.ok c.in-Ok-parse_params.ensures.1 c.in-Err-expect_kind.ensures.err

pub returns-in-Err-expect_word : goal.returns-in-Err-expect_word
returns-in-Err-expect_word c =
    Beheads-sign c.in-Ok.ensures.ok c.in-Ok-parse_params.ensures.1 c.in-Ok-expect_kind.ensures.ok c.in-Err-expect_word.ensures.err

pub returns : goal.returns
returns c = (
  IsBehind-then c.in-Ok.ensures.behind
      (IsBehind-then c.in-Ok-parse_params.ensures.0
      (IsBehind-then c.in-Ok-expect_kind.ensures.behind c.in-Ok-expect_word.ensures.behind)),
  Heads-done c.in-Ok.ensures.ok c.in-Ok-parse_params.ensures.1 c.in-Ok-expect_kind.ensures.ok c.in-Ok-expect_word.ensures.ok,
)
