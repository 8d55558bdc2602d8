use Rattle.std.proofs.Common.{ℕ, get_or, subst}
use Rattle.std.specs.Prelude.{None}
use Rattle.id_table.specs.Lent.{list_of}
use Rattle.id_check.specs.Causes.{causes}
use Rattle.id_check.specs.Firsts.{IsFirstOf}
use Rattle.id_check.proofs.StandingLemmas.{IsRefusedFor-first}
use Rattle.id_check.proofs.program.settle.Goals as goal

pub returns-in-Some-clause-refused : goal.returns-in-Some-clause-refused
returns-in-Some-clause-refused c =
    let R = list_of c.args.rows.now in
    let β : ℕ → _ = λ i. get_or c.args.columns.binders.items i None in
    let κ : ℕ → _ = λ i. get_or c.args.columns.kinds.items i None in
    IsRefusedFor-first R c.in-Some.cause c.args.rows.now.tabled (record {
      binders = β;
      are_binders = c.requires.bound;
      kinds = κ;
      are_kinds = c.requires.kinded;
      first = subst (λ o. IsFirstOf o (causes R β κ)) c.in-Some.is c.requires.first;
    })

pub returns-in-Some-clause-judged : goal.returns-in-Some-clause-judged
returns-in-Some-clause-judged c = tt

pub returns-in-Some-find_main-clause-refused : goal.returns-in-Some-find_main-clause-refused
returns-in-Some-find_main-clause-refused c = tt

pub returns-in-None-clause-judged : goal.returns-in-None-clause-judged
returns-in-None-clause-judged c = tt
