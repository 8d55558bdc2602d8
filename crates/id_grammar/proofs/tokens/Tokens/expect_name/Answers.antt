-- The machine takes a name, and no other token.
use Rattle.std.proofs.Common.{◌≡◌, ◌∙◌, ap, sym, refl, inr}
use Rattle.id_text.specs.declared.token.TokenKind.TheVariants.{Name}
use Rattle.id_grammar.proofs.ReaderLemmas.{BeginsWithName-one, NoName-one}
use Rattle.id_grammar.proofs.tokens.Tokens.expect_name.Goals as goal

pub returns-in_ok-copy-in-Name-clause-ok : goal.returns-in_ok-copy-in-Name-clause-ok
returns-in_ok-copy-in-Name-clause-ok c =
    let is : c.split.result.0.now.kind ≡ Name c.in_ok-copy-in-Name.field-0 = c.in-Name.is ∙ ap Name (sym c.in_ok-copy-in-Name.ensures) in
    BeginsWithName-one (c.split.ensures.whole (λ q. cc)) c.in_ok-copy-in-Name.field-0 is

pub returns-in-Number-clause-err : goal.returns-in-Number-clause-err
returns-in-Number-clause-err c = inr (NoName-one c.split.ensures.head.1 c.unexpected.result c.unexpected.ensures (rw c.in-Number.is refl))

pub returns-in-Key-clause-err : goal.returns-in-Key-clause-err
returns-in-Key-clause-err c = inr (NoName-one c.split.ensures.head.1 c.unexpected-in-Key.result c.unexpected-in-Key.ensures (rw c.in-Key.is refl))

pub returns-in-Sign-clause-err : goal.returns-in-Sign-clause-err
returns-in-Sign-clause-err c = inr (NoName-one c.split.ensures.head.1 c.unexpected-in-Sign.result c.unexpected-in-Sign.ensures (rw c.in-Sign.is refl))

pub returns-in-End-clause-err : goal.returns-in-End-clause-err
returns-in-End-clause-err c = inr (NoName-one c.split.ensures.head.1 c.unexpected-in-End.result c.unexpected-in-End.ensures (rw c.in-End.is refl))
