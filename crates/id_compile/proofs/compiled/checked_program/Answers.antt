use Rattle.std.proofs.Common.{sym, subst}
use Rattle.id_tree.specs.Distinct.{HasPlace}
use Rattle.id_check.specs.Noted.{tree_in}
use Rattle.id_compile.specs.Programs.{IsTreeOf, by_check}
use Rattle.id_compile.proofs.InsideLemmas.{checker_inside}
use Rattle.id_compile.proofs.compiled.checked_program.Goals as goal

pub returns-in-Ok-clause-program : goal.returns-in-Ok-clause-program
returns-in-Ok-clause-program c =
    let h = subst (λ o. IsTreeOf c.args.text.now (tree_in o)) (sym c.in-Ok.ensures.ok) c.in_ok-table.ensures.tree in
    record { tokens = h.tokens; lexes = h.lexes; accepts = h.accepts; main = c.in-Ok.checked.is_main }

pub returns-in-Ok-clause-within : goal.returns-in-Ok-clause-within
returns-in-Ok-clause-within c = record {
  within = λ q h. (c.in_ok-table.ensures.within).within q (subst (λ o. HasPlace (tree_in o) q) c.in-Ok.ensures.ok h);
}

pub returns-in-Err-clause-refused : goal.returns-in-Err-clause-refused
returns-in-Err-clause-refused c =
    let h = c.in_ok-table.ensures.tree in
    by_check h.tokens _ _ h.lexes h.accepts c.in-Err.ensures.refused

pub returns-in-Err-clause-inside : goal.returns-in-Err-clause-inside
returns-in-Err-clause-inside c =
    checker_inside c.args.text.now (tree_in c.in_ok-table.table.tree.known) (c.in_ok-table.ensures.within).within
    c.in_ok-table.ensures.short
    c.in-Err.cause c.in-Err.ensures.inside
