-- The run comes from definition to definition, and behind the last one it takes the end alone.
use Rattle.std.proofs.Common.{◌≡◌, sym, ap, ◌∙◌, rules}
use Rattle.id_text.specs.declared.token.TokenKind.TheVariants.{Key}
use Rattle.id_text.specs.declared.token.Keyword.TheVariants.{Def}
use Rattle.id_grammar.specs.Readers.{first_kind}
use Rattle.id_grammar.specs.Tree.{defs_tree}
use Rattle.id_grammar.specs.Machine.{Accepted}
use Rattle.id_grammar.proofs.ReaderLemmas.{Amasses-none, Amasses-add, Amasses-fails, Amasses-stops, Amasses-accepts}
use Rattle.id_tree.proofs.program.parse_program.Goals as goal

pub defs-init : goal.defs-init
defs-init c = rw c.new-defs.ensures.items (Amasses-none c.args.tokens.list.now)

pub defs-preserved : goal.defs-preserved
defs-preserved c =
    let is : first_kind c.defs.rest.list.now ≡ Key Def = search rules in
    rw c.in_ok-push.ensures.items (Amasses-add c.defs.invariant c.in-Ok.found.0 is c.in-Ok.ensures.1)

pub returns-in-Err-clause-err : goal.returns-in-Err-clause-err
returns-in-Err-clause-err c =
    let is : first_kind c.defs.rest.list.now ≡ Key Def = search rules in
    Amasses-fails c.defs.invariant is c.in-Err.ensures

pub returns-in-Err-expect_end-clause-err : goal.returns-in-Err-expect_end-clause-err
returns-in-Err-expect_end-clause-err c =
    let is_not : first_kind c.defs.rest.list.now ≡ Key Def → ⊥ = search rules in
    Amasses-stops c.defs.invariant c.in-Err-expect_end.error c.defs.rest.ends is_not c.in-Err-expect_end.ensures.some c.in-Err-expect_end.ensures.err

pub returns-clause-ok : goal.returns-clause-ok
returns-clause-ok c = Amasses-accepts c.defs.invariant c.defs.rest.ends c.in-Ok-expect_end.ensures.ok ∙ ap (λ ds. Accepted (defs_tree ds)) (sym c.new.ensures)
