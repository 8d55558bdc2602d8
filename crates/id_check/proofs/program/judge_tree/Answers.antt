use Rattle.id_grammar.specs.Tree.{program_tree}
use Rattle.id_table.proofs.TreeLemmas.{IsProgramTree-program_tree}
use Rattle.id_check.proofs.program.judge_tree.Goals as goal

pub judge_rows-requires : goal.judge_rows-requires
judge_rows-requires c =
    let p = c.args.program.now in
    (program_tree p, IsProgramTree-program_tree p, c.in-Ok.ensures.rows)

pub returns-in-Ok-judge_rows-clause-judged : goal.returns-in-Ok-judge_rows-clause-judged
returns-in-Ok-judge_rows-clause-judged c = c.in-Ok-judge_rows.ensures.judged

pub returns-in-Ok-judge_rows-clause-refused : goal.returns-in-Ok-judge_rows-clause-refused
returns-in-Ok-judge_rows-clause-refused c = tt

pub returns-in-Err-judge_rows-clause-tabled : goal.returns-in-Err-judge_rows-clause-tabled
returns-in-Err-judge_rows-clause-tabled c = tt

pub returns-in-Err-judge_rows-clause-named : goal.returns-in-Err-judge_rows-clause-named
returns-in-Err-judge_rows-clause-named c = tt

pub returns-in-Err-judge_rows-clause-judged : goal.returns-in-Err-judge_rows-clause-judged
returns-in-Err-judge_rows-clause-judged c = tt

pub returns-in-Err-clause-tabled : goal.returns-in-Err-clause-tabled
returns-in-Err-clause-tabled c = tt

pub returns-in-Err-clause-named : goal.returns-in-Err-clause-named
returns-in-Err-clause-named c = tt

pub returns-in-Err-clause-judged : goal.returns-in-Err-clause-judged
returns-in-Err-clause-judged c = tt

pub returns-in-Err-clause-refused : goal.returns-in-Err-clause-refused
returns-in-Err-clause-refused c = tt
