-- The machine takes the word that is wanted, and no other token.
use Rattle.std.proofs.Common.{◌≡◌, ◌∙◌, sym, rules}
use Rattle.id_grammar.specs.Grammar.{kind_of}
use Rattle.id_grammar.proofs.ReaderLemmas.{Takes-word, Misses-word, kind_of-not_end}
use Rattle.id_grammar.proofs.tokens.Tokens.expect_word.Goals as goal

pub returns-then-is_word-clause-ok : goal.returns-then-is_word-clause-ok
returns-then-is_word-clause-ok c =
    let is : c.split.result.0.now.kind ≡ kind_of c.args.wanted = search rules in
    Takes-word (c.split.ensures.whole (λ q. kind_of-not_end c.args.wanted (sym is ∙ q))) c.args.wanted is

pub returns-else-is_word-clause-err : goal.returns-else-is_word-clause-err
returns-else-is_word-clause-err c =
    let is_not : c.split.result.0.now.kind ≡ kind_of c.args.wanted → ⊥ = search rules in
    Misses-word c.split.ensures.head.1 c.args.wanted c.unexpected.result c.unexpected.ensures is_not
