use Rattle.std.proofs.Common.{subst}
use Rattle.id_table.proofs.TableLemmas.{IsTable-rows_of}
use Rattle.id_check.specs.Causes.{IsRefusedFor}
use Rattle.id_check.specs.Noted.{tree_in}
use Rattle.id_check.proofs.NotedLemmas.{IsProgramTree-tree_in}
use Rattle.id_check.proofs.StandingLemmas.{IsInside-refused}
use Rattle.id_check.proofs.program.check_table.Goals as goal

pub judge_rows-requires : goal.judge_rows-requires
judge_rows-requires c =
    let t = c.args.tabled in
    (tree_in t.tree.known, IsProgramTree-tree_in t.tree.known, t.tabled)

pub returns-in-Err-clause-inside : goal.returns-in-Err-clause-inside
returns-in-Err-clause-inside c =
    let o = c.args.tabled.tree.known in
    let t = tree_in o in
    IsInside-refused t c.in-Err.cause (IsTable-rows_of t (IsProgramTree-tree_in o))
    (subst (λ R. IsRefusedFor R c.in-Err.cause) c.args.tabled.tabled c.in-Err.ensures.refused)

pub returns-in-Ok-clause-refused : goal.returns-in-Ok-clause-refused
returns-in-Ok-clause-refused c = tt

pub returns-in-Ok-clause-inside : goal.returns-in-Ok-clause-inside
returns-in-Ok-clause-inside c = tt

pub returns-in-Err-clause-ok : goal.returns-in-Err-clause-ok
returns-in-Err-clause-ok c = tt
