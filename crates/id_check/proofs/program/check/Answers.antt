use Rattle.std.proofs.Common.{refl}
use Rattle.std.specs.Prelude.{◌≡◌}
use Rattle.id_grammar.specs.Tree.{program_tree}
use Rattle.id_tree.specs.Distinct.{Distinct}
use Rattle.id_table.specs.Rows.{parts_of, rows_of}
use Rattle.id_table.proofs.TableLemmas.{IsTable-rows_of}
use Rattle.id_table.proofs.TreeLemmas.{IsProgramTree-program_tree}
use Rattle.id_check.proofs.NotedLemmas.{known_tree}
use Rattle.id_check.proofs.StandingLemmas.{IsInside-refused}
use Rattle.id_check.proofs.program.check.Goals as goal

pub invariant_of-with_columns : goal.invariant_of-with_columns
invariant_of-with_columns c =
    let t = c.in-Ok.table in
    let o = c.in-Ok-noted.tree.known in
    let p = c.args.program in
    record {
      tabled = known_tree (λ z. t.rows.items ≡ rows_of z) o p c.in-Ok-noted.ensures.ok c.in-Ok.ensures.tabled;
      named = known_tree (λ z. t.names.items ≡ (parts_of z).names) o p c.in-Ok-noted.ensures.ok c.in-Ok.ensures.named;
      distinct = known_tree Distinct o p c.in-Ok-noted.ensures.ok c.requires.distinct;
    }

pub returns-in-Err-clause-inside : goal.returns-in-Err-clause-inside
returns-in-Err-clause-inside c =
    let t = program_tree c.args.program in
    IsInside-refused t c.in-Err.cause (IsTable-rows_of t (IsProgramTree-program_tree c.args.program))
    c.in-Err.ensures.refused

pub returns-in-Ok-noted-clause-back : goal.returns-in-Ok-noted-clause-back
returns-in-Ok-noted-clause-back c = tt

pub returns-in-Ok-noted-clause-refused : goal.returns-in-Ok-noted-clause-refused
returns-in-Ok-noted-clause-refused c = tt

pub returns-in-Ok-noted-clause-inside : goal.returns-in-Ok-noted-clause-inside
returns-in-Ok-noted-clause-inside c = tt

pub returns-in-Err-noted-clause-ok : goal.returns-in-Err-noted-clause-ok
returns-in-Err-noted-clause-ok c = tt

pub returns-in-Err-noted-clause-refused : goal.returns-in-Err-noted-clause-refused
returns-in-Err-noted-clause-refused c = tt

pub returns-in-Err-noted-clause-inside : goal.returns-in-Err-noted-clause-inside
returns-in-Err-noted-clause-inside c = tt

pub returns-in-Err-clause-ok : goal.returns-in-Err-clause-ok
returns-in-Err-clause-ok c = tt

pub returns-in-Err-clause-back : goal.returns-in-Err-clause-back
returns-in-Err-clause-back c = refl

pub returns-in-Err-clause-refused : goal.returns-in-Err-clause-refused
returns-in-Err-clause-refused c = c.in-Err.ensures.refused
