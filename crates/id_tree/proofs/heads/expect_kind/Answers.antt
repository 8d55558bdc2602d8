-- The machine takes a colon and a kind, and no other tokens.
use Rattle.std.proofs.Common.{rules, ◌≡◌, ◌∙◌, Some, ap, sym}
use Rattle.std.proofs.lemmas.Result.{err_from_is_err_and}
use Rattle.id_grammar.proofs.ParamLemmas.{kind_named-begins, Types-done, Types-deeper, Untypes-kind, Untypes-colon}
use Rattle.id_text.specs.declared.token.Keyword.TheVariants.{Array}
use Rattle.id_text.specs.declared.token.TokenKind.TheVariants.{Key}
use Rattle.id_value.specs.declared.Kind.TheVariants as kind
use Rattle.id_grammar.specs.Readers.{first_kind}
use Rattle.id_tree.proofs.heads.expect_kind.Goals as goal

pub returns-in_err-named-clause-err : goal.returns-in_err-named-clause-err
returns-in_err-named-clause-err c =
    let p = err_from_is_err_and c.from_residual.result c.from_residual.ensures.1 in
    rw (p.1, p.2) (Untypes-colon c.in_err-named.ensures.err)

pub returns-then-is_deeper-clause-ok : goal.returns-then-is_deeper-clause-ok
returns-then-is_deeper-clause-ok c =
    let is : (c.in-Some.kind ≡ kind.Array) × (first_kind c.split.result.1.list.now ≡ Key Array) = search rules in
    let named = sym c.kind_at.ensures ∙ c.in-Some.is in
    Types-deeper c.in_ok-named.ensures.ok (c.split.ensures.whole (λ q. kind_named-begins named (c.split.ensures.kind ∙ q))) (named ∙ ap (λ k. Some k) is.0) (c.split-then-is_deeper.ensures.whole (λ q. cc))
    is.1

pub returns-else-is_deeper-clause-ok : goal.returns-else-is_deeper-clause-ok
returns-else-is_deeper-clause-ok c =
    let not : c.in-Some.kind ≡ kind.Array → first_kind c.split.result.1.list.now ≡ Key Array → ⊥ = λ e f. search rules in
    let named = sym c.kind_at.ensures ∙ c.in-Some.is in
    Types-done c.in_ok-named.ensures.ok c.in-Some.kind (c.split.ensures.whole (λ q. kind_named-begins named (c.split.ensures.kind ∙ q))) named not

pub returns-in-None-clause-err : goal.returns-in-None-clause-err
returns-in-None-clause-err c = Untypes-kind c.in_ok-named.ensures.ok c.unexpected.result c.split.ensures.head.1 c.unexpected.ensures
    (sym c.kind_at.ensures ∙ c.in-None.is)
