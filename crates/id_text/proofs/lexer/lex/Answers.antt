use Rattle.std.proofs.Common.{refl}
use Rattle.std.proofs.lemmas.Result.{MatchResult-weaker}
use Rattle.id_text.proofs.LexesLemmas.{ends_once, rises, within, refused_within}
use Rattle.id_text.proofs.OneReadingLemmas.{one_result}
use Rattle.id_text.proofs.lexer.lex.Goals as goal

pub returns-clause-only : goal.returns-clause-only
returns-clause-only c = one_result c.args.text.now c.read_all.result c.read_all.ensures

pub returns-clause-ends : goal.returns-clause-ends
returns-clause-ends c = MatchResult-weaker c.read_all.result c.read_all.ensures (λ v read. ends_once read refl) (λ x refused. tt)

pub returns-clause-rises : goal.returns-clause-rises
returns-clause-rises c = MatchResult-weaker c.read_all.result c.read_all.ensures (λ v read. rises read) (λ x refused. tt)

pub returns-clause-within : goal.returns-clause-within
returns-clause-within c = MatchResult-weaker c.read_all.result c.read_all.ensures (λ v read. within read) (λ x refused. tt)

pub returns-clause-refused_within : goal.returns-clause-refused_within
returns-clause-refused_within c =
    MatchResult-weaker c.read_all.result c.read_all.ensures (λ v read. tt) (refused_within c.args.text.now)
