-- Each reader's run, from its first token to its way out (proofs/ReaderLemmas.antt).
mod Blocks
mod Calls
use Rattle.std.proofs.Common.{◌≡◌, ◌∙◌, inl, inr, ap, sym, refl, arith, rules}
use Rattle.std.proofs.lemmas.Grind.{common_steps}
use Rattle.std.proofs.lemmas.Result.{MatchResult-weaker}
use Rattle.id_text.specs.declared.token.TokenKind.TheVariants.{Name, Key, Sign}
use Rattle.id_text.specs.declared.token.Symbol.TheVariants.{Minus, LeftBracket}
use Rattle.id_text.specs.declared.token.Keyword.TheVariants.{If, Not}
use Rattle.id_grammar.specs.Readers.{first_kind, may_deny, IsBracket}
use Rattle.id_grammar.proofs.ReaderLemmas.{IsRead-then, Rises-grows, Rises-stunts, Rises-ends, Rises-operand}
use Rattle.id_grammar.proofs.ReaderLemmas.{Operand-fails, Rises-denied, Denied-fails, operator-at, operator-begins, Right-deep}
use Rattle.id_grammar.proofs.ReaderLemmas.{Right-fails, Right-grows, At-conditional, At-parens, At-part, At-enclosed}
use Rattle.id_grammar.proofs.ReaderLemmas.{Leads-done, Leads-at, Fails-deep, Fails-part, Fails-enclosed}
use Rattle.id_grammar.proofs.ReaderLemmas.{IsPrefix-begins, Prefix-deep, Prefix-fails, Prefix-leads, Encloses-done}
use Rattle.id_grammar.proofs.ReaderLemmas.{Exposes-word, Exposes-part, opens_negated, opens_denied, opens_conditional}
use Rattle.id_grammar.proofs.ReaderLemmas.{opens_parens, Expression-leads, Expression-fails, Negation-leads}
use Rattle.id_grammar.proofs.ReaderLemmas.{Negation-fails, At-opens, opens_number, IsRead-behind, At-surrounded}
use Rattle.id_grammar.proofs.ReaderLemmas.{Fails-surrounded, Surrounds-done, Bares-word, Bares-part}
use Rattle.id_tree.proofs.ArrayLemmas.{opens_array, At-bounds, Unary-number, Unary-name, Unary-leads, Unary-fails}
use Rattle.id_tree.proofs.ArrayLemmas.{Pointed-atom, Pointed-fetch, Pointed-fails, Pointed-ends, Postfix-fails}
use Rattle.id_tree.proofs.ArrayLemmas.{Fetch-deep, Fetch-fails, Fetch-indexes}
use Rattle.id_tree.proofs.CallLemmas.{Leads-named, Applies-name}
use Rattle.id_tree.proofs.WholeLemmas.{MatchResult-whole}
use Rattle.id_tree.proofs.ReadLemmas.{IsRead-token, IsRead-both, IsRead-inside, IsRead-beside}
use Rattle.id_tree.proofs.ReadLemmas.{IsRead-closed, IsRead-later}
use Rattle.id_tree.proofs.reader.Reader.+expr.Goals as goal

pub parse_expression-returns-else-begins_with : goal.parse_expression-returns-else-begins_with
parse_expression-returns-else-begins_with t c =
    let is_not : first_kind c.args.self.tokens.list.now ≡ Key If → ⊥ = search rules in
    MatchResult-weaker c.parse_grouped.result c.parse_grouped.ensures (λ x q. (q.0, Expression-leads is_not q.1)) (λ x q. Expression-fails is_not q)

pub parse_conditional-returns-in-Err : goal.parse_conditional-returns-in-Err
parse_conditional-returns-in-Err t c =
    Fails-deep c.args.self.tokens.ends (opens_conditional c.requires.begins) _ _ c.in-Err.ensures.err c.in-Err.ensures.deep

pub parse_conditional-returns-in-Err-parse_enclosed : goal.parse_conditional-returns-in-Err-parse_enclosed
parse_conditional-returns-in-Err-parse_enclosed t c =
    Fails-enclosed (At-conditional (c.in-Ok.ensures.whole (λ q. cc)) c.requires.begins c.in-Ok.ensures.fits) c.in-Err-parse_enclosed.ensures

pub parse_conditional-returns-in-Err-parse_enclosed-2 : goal.parse_conditional-returns-in-Err-parse_enclosed-2
parse_conditional-returns-in-Err-parse_enclosed-2 t c =
    Fails-enclosed (At-enclosed (At-conditional (c.in-Ok.ensures.whole (λ q. cc)) c.requires.begins c.in-Ok.ensures.fits)
    c.in-Ok-parse_enclosed.ensures.1) c.in-Err-parse_enclosed-2.ensures

pub parse_conditional-returns-in-Err-parse_expression : goal.parse_conditional-returns-in-Err-parse_expression
parse_conditional-returns-in-Err-parse_expression t c =
    Fails-part (At-enclosed (At-enclosed (At-conditional (c.in-Ok.ensures.whole (λ q. cc)) c.requires.begins c.in-Ok.ensures.fits)
    c.in-Ok-parse_enclosed.ensures.1) c.in-Ok-parse_enclosed-2.ensures.1) c.in-Err-parse_expression.ensures

pub parse_conditional-returns : goal.parse_conditional-returns
parse_conditional-returns t c =
    MatchResult-whole c.conditional.result c.with_rest.result _ _ _ _ c.with_rest.ensures c.conditional.ensures (λ x p s. rw s (
      IsRead-inside (c.in-Ok.ensures.whole (λ q. cc))
          (IsRead-both (IsRead-both c.in-Ok-parse_enclosed.ensures.0 c.in-Ok-parse_enclosed-2.ensures.0) c.in-Ok-parse_expression.ensures.0) p.0,
      Leads-at p.1 (omega (arith, p.0))
          (Leads-done (At-part (At-enclosed (At-enclosed (At-conditional (c.in-Ok.ensures.whole (λ q. cc)) c.requires.begins c.in-Ok.ensures.fits)
          c.in-Ok-parse_enclosed.ensures.1) c.in-Ok-parse_enclosed-2.ensures.1) c.in-Ok-parse_expression.ensures.1)),
    ))
    (record { fails = λ K. tt })

pub parse_first-parse_prefixed-requires : goal.parse_first-parse_prefixed-requires
parse_first-parse_prefixed-requires t c =
    let is : may_deny c.args.level × (first_kind c.args.self.tokens.list.now ≡ Key Not) = search rules in
    (grind (arith, common_steps), opens_denied is.1)

pub parse_first-returns-then-denied : goal.parse_first-returns-then-denied
parse_first-returns-then-denied t c =
    let is : may_deny c.args.level × (first_kind c.args.self.tokens.list.now ≡ Key Not) = search rules in
    MatchResult-weaker c.parse_prefixed.result c.parse_prefixed.ensures
    (λ x q. (q.0, Rises-denied c.args.level c.args.denied c.if-denied.true is.0 q.1)) (λ x q. Denied-fails c.args.level is.0 q)

pub parse_first-returns-else-denied : goal.parse_first-returns-else-denied
parse_first-returns-else-denied t c =
    let is_not : may_deny c.args.level × (first_kind c.args.self.tokens.list.now ≡ Key Not) → ⊥ = search rules in
    MatchResult-weaker c.parse_unary.result c.parse_unary.ensures
    (λ x q. (q.0, Rises-operand c.args.level c.args.denied c.if-denied.false is_not q.1)) (λ x q. Operand-fails c.args.level is_not q)

pub parse_grouped-parse_right-requires : goal.parse_grouped-parse_right-requires
parse_grouped-parse_right-requires t c =
    let at = operator-at c.operators.inner c.args.level _ _ (sym c.operator_within.ensures ∙ c.in-Some.is) in
    (grind (arith, common_steps), (at, (c.operators.invariant.0.some, c.operators.invariant.0.fits)))

pub parse_grouped-operators-init : goal.parse_grouped-operators-init
parse_grouped-operators-init t c = (c.in-Ok.ensures.0, rw c.open_first-inner.ensures c.in-Ok.ensures.1)

pub parse_grouped-operators-preserved : goal.parse_grouped-operators-preserved
parse_grouped-operators-preserved t c = (
  IsRead-then c.operators.invariant.0 c.in-Ok-parse_right.ensures.0,
  rw c.open_behind-inner.ensures (Rises-grows c.operators.invariant.1 _ (sym c.operator_within.ensures ∙ c.in-Some.is) c.in-Ok-parse_right.ensures.1),
)

pub parse_grouped-returns-in-Err-parse_right : goal.parse_grouped-returns-in-Err-parse_right
parse_grouped-returns-in-Err-parse_right t c =
    Rises-stunts c.operators.invariant.1 _ (sym c.operator_within.ensures ∙ c.in-Some.is) c.in-Err-parse_right.ensures

pub parse_grouped-returns : goal.parse_grouped-returns
parse_grouped-returns t c =
    (c.operators.invariant.0, Rises-ends c.operators.invariant.1 (sym c.operator_within.ensures ∙ c.in_default.is))

pub parse_right-returns-in-Err : goal.parse_right-returns-in-Err
parse_right-returns-in-Err t c =
    Right-deep c.args.self.tokens.ends c.args.level c.args.op c.requires.operator _ _ _ _ c.in-Err.ensures.err c.in-Err.ensures.deep

pub parse_right-returns-in-Err-parse_operand : goal.parse_right-returns-in-Err-parse_operand
parse_right-returns-in-Err-parse_operand t c =
    Right-fails (c.in-Ok.ensures.whole (operator-begins c.args.level c.requires.operator)) c.args.level c.args.op c.requires.operator _ _ _ c.in-Ok.ensures.fits c.in-Err-parse_operand.ensures

pub parse_right-returns : goal.parse_right-returns
parse_right-returns t c =
    MatchResult-whole c.binary.result c.with_rest.result _ _ _ _ c.with_rest.ensures c.binary.ensures (λ x p s. rw s (
      IsRead-beside c.args.left.height (c.in-Ok.ensures.whole (operator-begins c.args.level c.requires.operator)) c.in-Ok.ensures.fits c.in-Ok-parse_operand.ensures.0 p.0,
      Right-grows (c.in-Ok.ensures.whole (operator-begins c.args.level c.requires.operator)) c.args.level c.args.op c.requires.operator _ _ _
          c.in-Ok.ensures.fits c.in-Ok-parse_operand.ensures.1 p.1 p.0,
    ))
    (record { fails = λ K. tt })

pub parse_negation-parse_prefixed-requires : goal.parse_negation-parse_prefixed-requires
parse_negation-parse_prefixed-requires t c =
    let is : first_kind c.args.self.tokens.list.now ≡ Key Not = search rules in
    (grind (arith, common_steps), opens_denied is)

pub parse_negation-returns-else-begins_with : goal.parse_negation-returns-else-begins_with
parse_negation-returns-else-begins_with t c =
    let is_not : first_kind c.args.self.tokens.list.now ≡ Key Not → ⊥ = search rules in
    MatchResult-weaker c.parse_grouped.result c.parse_grouped.ensures (λ x q. (q.0, Negation-leads is_not q.1)) (λ x q. Negation-fails is_not q)

pub parse_prefixed-unary-requires : goal.parse_prefixed-unary-requires
parse_prefixed-unary-requires t c =
    omega (arith, c.in-Ok-parse_operand.ensures.0.fits)

pub parse_prefixed-returns-in-Err : goal.parse_prefixed-returns-in-Err
parse_prefixed-returns-in-Err t c =
    Prefix-deep c.args.op _ c.args.level c.args.self.tokens.ends c.requires.prefix _ c.in-Err.ensures.err c.in-Err.ensures.deep

pub parse_prefixed-returns-in-Err-parse_operand : goal.parse_prefixed-returns-in-Err-parse_operand
parse_prefixed-returns-in-Err-parse_operand t c =
    Prefix-fails c.args.op _ (c.in-Ok.ensures.whole (IsPrefix-begins c.args.op c.args.level c.requires.prefix)) c.args.level c.requires.prefix c.in-Ok.ensures.fits c.in-Err-parse_operand.ensures

pub parse_prefixed-returns : goal.parse_prefixed-returns
parse_prefixed-returns t c =
    MatchResult-whole c.unary.result c.with_rest.result _ _ _ _ c.with_rest.ensures c.unary.ensures (λ x p s. rw s (
      IsRead-inside (c.in-Ok.ensures.whole (IsPrefix-begins c.args.op c.args.level c.requires.prefix)) c.in-Ok-parse_operand.ensures.0 p.0,
      Prefix-leads c.args.op _ (c.in-Ok.ensures.whole (IsPrefix-begins c.args.op c.args.level c.requires.prefix)) c.args.level c.requires.prefix c.in-Ok.ensures.fits
          c.in-Ok-parse_operand.ensures.1 p.1 p.0,
    ))
    (record { fails = λ K. tt })

pub parse_unary-returns-then-not-begins_with_sign : goal.parse_unary-returns-then-not-begins_with_sign
parse_unary-returns-then-not-begins_with_sign t c =
    let is = c.split.ensures.kind ∙ c.in-Number.is in
    let no_bracket : first_kind c.split.result.1.list.now ≡ Sign LeftBracket → ⊥ = search rules in (
      IsRead-token (c.split.ensures.whole (λ q. cc)) (omega (arith, c.args.self.room)) c.number.ensures.height,
      Unary-number c.in-Number.value is
          (Leads-at c.number.ensures.tree (omega (arith, c.number.ensures.height))
          (Leads-done (At-opens (c.split.ensures.whole (λ q. cc)) (opens_number c.in-Number.value is) c.args.self.depth (omega (arith, c.args.self.room)))))
          no_bracket,
    )

pub parse_unary-returns-then-not-begins_with_bracket : goal.parse_unary-returns-then-not-begins_with_bracket
parse_unary-returns-then-not-begins_with_bracket t c =
    let is = c.split.ensures.kind ∙ c.in-Name.is ∙ ap Name (sym c.in-Ok.ensures) in
    let no_bracket : IsBracket (first_kind c.split.result.1.list.now) → ⊥ = search rules in (
      IsRead-token (c.split.ensures.whole (λ q. cc)) (omega (arith, c.args.self.room)) c.name-whole.ensures.height,
      Unary-name c.in-Ok.found is
          (Leads-named (c.split.ensures.whole (λ q. cc)) c.args.self.depth (omega (arith, c.args.self.room)) c.in-Ok.found is
          (Applies-name c.args.self.depth (λ q. no_bracket (inl q)) c.name-whole.ensures.tree c.name-whole.ensures.height))
          (λ q. no_bracket (inr q)),
    )

pub parse_signed-parse_prefixed-requires : goal.parse_signed-parse_prefixed-requires
parse_signed-parse_prefixed-requires t c =
    let is : first_kind c.args.self.tokens.list.now ≡ Sign Minus = search rules in
    (grind (arith, common_steps), opens_negated is)

pub parse_signed-returns-else-begins_with_sign : goal.parse_signed-returns-else-begins_with_sign
parse_signed-returns-else-begins_with_sign t c =
    let is_not : first_kind c.args.self.tokens.list.now ≡ Sign Minus → ⊥ = search rules in
    MatchResult-weaker c.parse_postfix.result c.parse_postfix.ensures (λ x q. (q.0, Unary-leads is_not q.1)) (λ x q. Unary-fails is_not q)

pub parse_postfix-parse_fetch-requires : goal.parse_postfix-parse_fetch-requires
parse_postfix-parse_fetch-requires t c =
    let is : first_kind c.fetches.tokens.list.now ≡ Sign LeftBracket = search rules in
    (grind (arith, common_steps), (is, (c.fetches.invariant.0.some, c.fetches.invariant.0.fits)))

pub parse_postfix-returns-in-Err : goal.parse_postfix-returns-in-Err
parse_postfix-returns-in-Err t c =
    Postfix-fails c.in-Err.ensures

pub parse_postfix-fetches-init : goal.parse_postfix-fetches-init
parse_postfix-fetches-init t c = (c.in-Ok.ensures.0, Pointed-atom c.in-Ok.ensures.1)

pub parse_postfix-fetches-preserved : goal.parse_postfix-fetches-preserved
parse_postfix-fetches-preserved t c =
    (IsRead-then c.fetches.invariant.0 c.in-Ok-parse_fetch.ensures.0, Pointed-fetch c.fetches.invariant.1 c.in-Ok-parse_fetch.ensures.1)

pub parse_postfix-returns-in-Err-parse_fetch : goal.parse_postfix-returns-in-Err-parse_fetch
parse_postfix-returns-in-Err-parse_fetch t c =
    Pointed-fails c.fetches.invariant.1 c.in-Err-parse_fetch.ensures

pub parse_postfix-returns : goal.parse_postfix-returns
parse_postfix-returns t c =
    let is_not : first_kind c.fetches.tokens.list.now ≡ Sign LeftBracket → ⊥ = search rules in
    (c.fetches.invariant.0, Pointed-ends c.fetches.invariant.1 is_not)

pub parse_fetch-returns-in-Err : goal.parse_fetch-returns-in-Err
parse_fetch-returns-in-Err t c =
    Fetch-deep c.args.self.tokens.ends c.requires.begins _ _ _ _ c.in-Err.ensures.err c.in-Err.ensures.deep

pub parse_fetch-returns-in-Err-parse_enclosed : goal.parse_fetch-returns-in-Err-parse_enclosed
parse_fetch-returns-in-Err-parse_enclosed t c =
    Fetch-fails (c.in-Ok.ensures.whole (λ q. cc)) c.requires.begins _ _ _ c.in-Ok.ensures.fits c.in-Err-parse_enclosed.ensures

pub parse_fetch-returns : goal.parse_fetch-returns
parse_fetch-returns t c =
    MatchResult-whole c.fetch.result c.with_rest.result _ _ _ _ c.with_rest.ensures c.fetch.ensures (λ x p s. rw s (
      IsRead-beside c.args.target.height (c.in-Ok.ensures.whole (λ q. cc)) c.in-Ok.ensures.fits c.in-Ok-parse_enclosed.ensures.0 p.0,
      Fetch-indexes (c.in-Ok.ensures.whole (λ q. cc)) c.requires.begins _ _ _ c.in-Ok.ensures.fits c.in-Ok-parse_enclosed.ensures.1 p.1 p.0,
    ))
    (record { fails = λ K. tt })

pub parse_array-returns-in-Err : goal.parse_array-returns-in-Err
parse_array-returns-in-Err t c =
    Fails-deep c.args.self.tokens.ends (opens_array c.requires.begins) _ _ c.in-Err.ensures.err c.in-Err.ensures.deep

pub parse_array-returns-in-Err-parse_between : goal.parse_array-returns-in-Err-parse_between
parse_array-returns-in-Err-parse_between t c =
    Fails-surrounded (At-bounds c.begins_with-nested.result (c.in-Ok.ensures.whole (λ q. cc)) c.requires.begins c.in-Ok.ensures.fits
    c.begins_with-nested.ensures c.behind_array-tokens.ensures.word c.behind_array-tokens.ensures.none) c.in-Err-parse_between.ensures

pub parse_array-returns-in-Err-parse_enclosed : goal.parse_array-returns-in-Err-parse_enclosed
parse_array-returns-in-Err-parse_enclosed t c =
    Fails-enclosed (At-surrounded (At-bounds c.begins_with-nested.result (c.in-Ok.ensures.whole (λ q. cc)) c.requires.begins c.in-Ok.ensures.fits
    c.begins_with-nested.ensures c.behind_array-tokens.ensures.word c.behind_array-tokens.ensures.none)
    c.in-Ok-parse_between.ensures.1) c.in-Err-parse_enclosed.ensures

pub parse_array-returns : goal.parse_array-returns
parse_array-returns t c =
    MatchResult-whole c.array.result c.with_rest.result _ _ _ _ c.with_rest.ensures c.array.ensures (λ x p s. rw s (
      IsRead-inside (c.in-Ok.ensures.whole (λ q. cc)) (IsRead-later c.behind_array-tokens.ensures.shorter (IsRead-both c.in-Ok-parse_between.ensures.0 c.in-Ok-parse_enclosed.ensures.0)) p.0,
      Leads-at p.1 (omega (arith, p.0))
          (Leads-done (At-enclosed (At-surrounded (At-bounds c.begins_with-nested.result (c.in-Ok.ensures.whole (λ q. cc)) c.requires.begins c.in-Ok.ensures.fits
          c.begins_with-nested.ensures c.behind_array-tokens.ensures.word c.behind_array-tokens.ensures.none)
          c.in-Ok-parse_between.ensures.1) c.in-Ok-parse_enclosed.ensures.1)),
    ))
    (record { fails = λ K. tt })

pub parse_parens-overflow_add-inside : goal.parse_parens-overflow_add-inside
parse_parens-overflow_add-inside t c =
    omega (arith, c.in-Ok-parse_enclosed.ensures.0.fits)

pub parse_parens-returns-in-Err : goal.parse_parens-returns-in-Err
parse_parens-returns-in-Err t c =
    Fails-deep c.args.self.tokens.ends (opens_parens c.requires.begins) _ _ c.in-Err.ensures.err c.in-Err.ensures.deep

pub parse_parens-returns-in-Err-parse_enclosed : goal.parse_parens-returns-in-Err-parse_enclosed
parse_parens-returns-in-Err-parse_enclosed t c =
    Fails-enclosed (At-parens (c.in-Ok.ensures.whole (λ q. cc)) c.requires.begins c.in-Ok.ensures.fits) c.in-Err-parse_enclosed.ensures

pub parse_parens-returns : goal.parse_parens-returns
parse_parens-returns t c = (
  IsRead-inside (c.in-Ok.ensures.whole (λ q. cc)) c.in-Ok-parse_enclosed.ensures.0 refl,
  Leads-at refl (omega arith) (Leads-done
      (At-enclosed (At-parens (c.in-Ok.ensures.whole (λ q. cc)) c.requires.begins c.in-Ok.ensures.fits) c.in-Ok-parse_enclosed.ensures.1)),
)

pub parse_enclosed-returns-in-Err : goal.parse_enclosed-returns-in-Err
parse_enclosed-returns-in-Err t c =
    Exposes-part c.args.closing c.in-Err.ensures

pub parse_enclosed-returns-in-Err-expect_word : goal.parse_enclosed-returns-in-Err-expect_word
parse_enclosed-returns-in-Err-expect_word t c =
    Exposes-word c.in-Ok.ensures.1 c.in-Err-expect_word.ensures.err

pub parse_enclosed-returns : goal.parse_enclosed-returns
parse_enclosed-returns t c =
    (IsRead-closed c.in-Ok.ensures.0 c.in-Ok-expect_word.ensures.behind, Encloses-done c.in-Ok.ensures.1 c.in-Ok-expect_word.ensures.ok)

pub parse_between-returns-in-Err : goal.parse_between-returns-in-Err
parse_between-returns-in-Err t c =
    Bares-word _ _ c.in-Err.ensures.err

pub parse_between-returns : goal.parse_between-returns
parse_between-returns t c =
    MatchResult-weaker c.parse_enclosed.result c.parse_enclosed.ensures
    (λ x q. (IsRead-behind c.in-Ok.ensures.behind q.0, Surrounds-done c.in-Ok.ensures.ok q.1)) (λ x q. Bares-part c.in-Ok.ensures.ok q)

pub parse_block-returns-in-Err : goal.parse_block-returns-in-Err
parse_block-returns-in-Err = Blocks.parse_block-returns-in-Err

pub parse_block-returns-in-Err-parse_statements : goal.parse_block-returns-in-Err-parse_statements
parse_block-returns-in-Err-parse_statements = Blocks.parse_block-returns-in-Err-parse_statements

pub parse_block-returns-in-Err-parse_enclosed : goal.parse_block-returns-in-Err-parse_enclosed
parse_block-returns-in-Err-parse_enclosed = Blocks.parse_block-returns-in-Err-parse_enclosed

pub parse_block-returns : goal.parse_block-returns
parse_block-returns = Blocks.parse_block-returns

pub parse_braces-parse_loop-requires : goal.parse_braces-parse_loop-requires
parse_braces-parse_loop-requires = Blocks.parse_braces-parse_loop-requires

pub parse_braces-parse_for-requires : goal.parse_braces-parse_for-requires
parse_braces-parse_for-requires = Blocks.parse_braces-parse_for-requires

pub parse_braces-parse_block-requires : goal.parse_braces-parse_block-requires
parse_braces-parse_block-requires = Blocks.parse_braces-parse_block-requires

pub parse_loop-returns-in-Err : goal.parse_loop-returns-in-Err
parse_loop-returns-in-Err = Blocks.parse_loop-returns-in-Err

pub parse_loop-returns-in-Err-parse_enclosed : goal.parse_loop-returns-in-Err-parse_enclosed
parse_loop-returns-in-Err-parse_enclosed = Blocks.parse_loop-returns-in-Err-parse_enclosed

pub parse_loop-returns-in-Err-parse_statements : goal.parse_loop-returns-in-Err-parse_statements
parse_loop-returns-in-Err-parse_statements = Blocks.parse_loop-returns-in-Err-parse_statements

pub parse_loop-returns-in-Err-parse_enclosed-2 : goal.parse_loop-returns-in-Err-parse_enclosed-2
parse_loop-returns-in-Err-parse_enclosed-2 = Blocks.parse_loop-returns-in-Err-parse_enclosed-2

pub parse_loop-returns : goal.parse_loop-returns
parse_loop-returns = Blocks.parse_loop-returns

pub parse_for-returns-in-Err : goal.parse_for-returns-in-Err
parse_for-returns-in-Err = Blocks.parse_for-returns-in-Err

pub parse_for-returns-in-Err-parse_index : goal.parse_for-returns-in-Err-parse_index
parse_for-returns-in-Err-parse_index = Blocks.parse_for-returns-in-Err-parse_index

pub parse_for-returns-in-Err-parse_statements : goal.parse_for-returns-in-Err-parse_statements
parse_for-returns-in-Err-parse_statements = Blocks.parse_for-returns-in-Err-parse_statements

pub parse_for-returns-in-Err-parse_enclosed : goal.parse_for-returns-in-Err-parse_enclosed
parse_for-returns-in-Err-parse_enclosed = Blocks.parse_for-returns-in-Err-parse_enclosed

pub parse_for-returns : goal.parse_for-returns
parse_for-returns = Blocks.parse_for-returns

pub parse_index-returns-in-Err : goal.parse_index-returns-in-Err
parse_index-returns-in-Err = Blocks.parse_index-returns-in-Err

pub parse_index-returns-in-Err-expect_word : goal.parse_index-returns-in-Err-expect_word
parse_index-returns-in-Err-expect_word = Blocks.parse_index-returns-in-Err-expect_word

pub parse_index-returns-in-Err-parse_enclosed : goal.parse_index-returns-in-Err-parse_enclosed
parse_index-returns-in-Err-parse_enclosed = Blocks.parse_index-returns-in-Err-parse_enclosed

pub parse_index-returns-in-Err-parse_enclosed-2 : goal.parse_index-returns-in-Err-parse_enclosed-2
parse_index-returns-in-Err-parse_enclosed-2 = Blocks.parse_index-returns-in-Err-parse_enclosed-2

pub parse_index-returns : goal.parse_index-returns
parse_index-returns = Blocks.parse_index-returns

pub parse_statements-stmts-init : goal.parse_statements-stmts-init
parse_statements-stmts-init = Blocks.parse_statements-stmts-init

pub parse_statements-stmts-preserved : goal.parse_statements-stmts-preserved
parse_statements-stmts-preserved = Blocks.parse_statements-stmts-preserved

pub parse_statements-returns-in-Err : goal.parse_statements-returns-in-Err
parse_statements-returns-in-Err = Blocks.parse_statements-returns-in-Err

pub parse_statement-parse_store-requires : goal.parse_statement-parse_store-requires
parse_statement-parse_store-requires = Blocks.parse_statement-parse_store-requires

pub parse_statement-returns-then-begins_next : goal.parse_statement-returns-then-begins_next
parse_statement-returns-then-begins_next = Blocks.parse_statement-returns-then-begins_next

pub parse_statement-returns-in-Err : goal.parse_statement-returns-in-Err
parse_statement-returns-in-Err = Blocks.parse_statement-returns-in-Err

pub parse_statement-returns-then-begins_with_sign : goal.parse_statement-returns-then-begins_with_sign
parse_statement-returns-then-begins_with_sign = Blocks.parse_statement-returns-then-begins_with_sign

pub parse_statement-returns-in-Err-parse_between : goal.parse_statement-returns-in-Err-parse_between
parse_statement-returns-in-Err-parse_between = Blocks.parse_statement-returns-in-Err-parse_between

pub parse_statement-returns : goal.parse_statement-returns
parse_statement-returns = Blocks.parse_statement-returns

pub parse_store-returns-in-Err : goal.parse_store-returns-in-Err
parse_store-returns-in-Err = Blocks.parse_store-returns-in-Err

pub parse_store-returns-in-Err-expect_word : goal.parse_store-returns-in-Err-expect_word
parse_store-returns-in-Err-expect_word = Blocks.parse_store-returns-in-Err-expect_word

pub parse_store-returns-in-Err-enter : goal.parse_store-returns-in-Err-enter
parse_store-returns-in-Err-enter = Blocks.parse_store-returns-in-Err-enter

pub parse_store-returns-in-Err-parse_enclosed : goal.parse_store-returns-in-Err-parse_enclosed
parse_store-returns-in-Err-parse_enclosed = Blocks.parse_store-returns-in-Err-parse_enclosed

pub parse_store-returns-in-Ok-parse_enclosed : goal.parse_store-returns-in-Ok-parse_enclosed
parse_store-returns-in-Ok-parse_enclosed = Blocks.parse_store-returns-in-Ok-parse_enclosed

pub parse_store-returns-else-begins_with_sign : goal.parse_store-returns-else-begins_with_sign
parse_store-returns-else-begins_with_sign = Blocks.parse_store-returns-else-begins_with_sign

pub parse_stored-returns-in-Err : goal.parse_stored-returns-in-Err
parse_stored-returns-in-Err = Blocks.parse_stored-returns-in-Err

pub parse_stored-returns : goal.parse_stored-returns
parse_stored-returns = Blocks.parse_stored-returns

pub parse_next-returns-in-Err : goal.parse_next-returns-in-Err
parse_next-returns-in-Err = Blocks.parse_next-returns-in-Err

pub parse_next-returns-in-Err-parse_between : goal.parse_next-returns-in-Err-parse_between
parse_next-returns-in-Err-parse_between = Blocks.parse_next-returns-in-Err-parse_between

pub parse_next-returns : goal.parse_next-returns
parse_next-returns = Blocks.parse_next-returns

pub parse_leaf-returns-in-Number : goal.parse_leaf-returns-in-Number
parse_leaf-returns-in-Number = Calls.parse_leaf-returns-in-Number

pub parse_leaf-returns-in-Some : goal.parse_leaf-returns-in-Some
parse_leaf-returns-in-Some = Calls.parse_leaf-returns-in-Some

pub parse_leaf-returns-in-None : goal.parse_leaf-returns-in-None
parse_leaf-returns-in-None = Calls.parse_leaf-returns-in-None

pub parse_leaf-returns-in-Sign : goal.parse_leaf-returns-in-Sign
parse_leaf-returns-in-Sign = Calls.parse_leaf-returns-in-Sign

pub parse_leaf-returns-in-End : goal.parse_leaf-returns-in-End
parse_leaf-returns-in-End = Calls.parse_leaf-returns-in-End

pub parse_leaf-returns-in-Ok : goal.parse_leaf-returns-in-Ok
parse_leaf-returns-in-Ok = Calls.parse_leaf-returns-in-Ok

pub parse_named-call-requires : goal.parse_named-call-requires
parse_named-call-requires = Calls.parse_named-call-requires

pub parse_named-returns-in-Err : goal.parse_named-returns-in-Err
parse_named-returns-in-Err = Calls.parse_named-returns-in-Err

pub parse_named-returns-in-Ok : goal.parse_named-returns-in-Ok
parse_named-returns-in-Ok = Calls.parse_named-returns-in-Ok

pub parse_named-returns-else-begins_with_sign : goal.parse_named-returns-else-begins_with_sign
parse_named-returns-else-begins_with_sign = Calls.parse_named-returns-else-begins_with_sign

pub parse_arguments-returns-then-is_sign : goal.parse_arguments-returns-then-is_sign
parse_arguments-returns-then-is_sign = Calls.parse_arguments-returns-then-is_sign

pub parse_arguments-returns-then-depth-ge-MAX_NESTING : goal.parse_arguments-returns-then-depth-ge-MAX_NESTING
parse_arguments-returns-then-depth-ge-MAX_NESTING = Calls.parse_arguments-returns-then-depth-ge-MAX_NESTING

pub parse_arguments-returns-then-is_sign-2 : goal.parse_arguments-returns-then-is_sign-2
parse_arguments-returns-then-is_sign-2 = Calls.parse_arguments-returns-then-is_sign-2

pub parse_arguments-returns-else-is_sign-2 : goal.parse_arguments-returns-else-is_sign-2
parse_arguments-returns-else-is_sign-2 = Calls.parse_arguments-returns-else-is_sign-2

pub parse_some_arguments-arguments-init : goal.parse_some_arguments-arguments-init
parse_some_arguments-arguments-init = Calls.parse_some_arguments-arguments-init

pub parse_some_arguments-arguments-preserved : goal.parse_some_arguments-arguments-preserved
parse_some_arguments-arguments-preserved = Calls.parse_some_arguments-arguments-preserved

pub parse_some_arguments-returns-in-Err : goal.parse_some_arguments-returns-in-Err
parse_some_arguments-returns-in-Err = Calls.parse_some_arguments-returns-in-Err

pub parse_some_arguments-returns-in-Err-parse_expression : goal.parse_some_arguments-returns-in-Err-parse_expression
parse_some_arguments-returns-in-Err-parse_expression = Calls.parse_some_arguments-returns-in-Err-parse_expression
