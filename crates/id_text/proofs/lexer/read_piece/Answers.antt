use Rattle.std.proofs.Common.{sym, ◌∙◌, arith}
use Rattle.std.proofs.lemmas.Grind.{common_steps}
use Rattle.id_text.proofs.PieceLemmas.{rest_is, rest_some, begins_blank, begins_comment}
use Rattle.id_text.proofs.lexer.read_piece.Goals as goal

pub returns-then-is_blank : goal.returns-then-is_blank
returns-then-is_blank c =
    begins_blank _ _ (rest_is c.as_bytes.result.now c.args.text.now c.args.at c.as_bytes.ensures.value) (rest_some c.args.text.now c.args.at c.requires)
    (sym c.is_blank.ensures ∙ c.if-is_blank.true)

pub returns-then-first-eq37 : goal.returns-then-first-eq37
returns-then-first-eq37 c =
    begins_comment _ _ c.comment_len.result (rest_is c.as_bytes.result.now c.args.text.now c.args.at c.as_bytes.ensures.value)
    (rest_some c.args.text.now c.args.at c.requires)
    c.if-first-eq37.true c.comment_len.ensures

pub read_word-requires-clause-letter : goal.read_word-requires-clause-letter
read_word-requires-clause-letter c = grind (arith, common_steps)

pub returns-then-is_ascii_digit : goal.returns-then-is_ascii_digit
returns-then-is_ascii_digit c = grind (arith, common_steps)

pub returns-else-is_ascii_digit : goal.returns-else-is_ascii_digit
returns-else-is_ascii_digit c = grind (arith, common_steps)
