-- The runs of the readers of leaves and calls.
use Rattle.std.proofs.Common.{◌≡◌, ◌∙◌, ◌≤◌, ◌+◌, ap, sym, refl, arith, rules}
use Rattle.std.proofs.lemmas.Grind.{common_steps}
use Rattle.std.proofs.lemmas.Result.{MatchResult-weaker}
use Rattle.id_text.specs.declared.token.TokenKind.TheVariants.{Name, Sign}
use Rattle.id_text.specs.declared.token.Symbol.TheVariants.{LeftParen, RightParen, Comma}
use Rattle.id_grammar.specs.Readers.{first_kind, truth_in}
use Rattle.id_grammar.proofs.ReaderLemmas.{Leads-done, Leads-at, At-opens, opens_number, opens_truth, Atom-fails}
use Rattle.id_grammar.proofs.ReaderLemmas.{unopened, untrue}
use Rattle.id_tree.proofs.CallLemmas.{IsRead-named, Leads-named, Fails-named, Applies-name, Applies-call}
use Rattle.id_tree.proofs.CallLemmas.{Misapplies-call, Leads-unpassed, Hands-first, Fails-argument, Hands-add}
use Rattle.id_tree.proofs.CallLemmas.{Fails-added, Leads-passed, Fails-passed, IsRead-add, Fails-full}
use Rattle.id_tree.proofs.CallLemmas.{IsGathered-passed, IsGathered-unpassed}
use Rattle.id_tree.proofs.WholeLemmas.{MatchResult-whole}
use Rattle.id_tree.proofs.ReadLemmas.{IsRead-token, IsGathered-call}
use Rattle.id_tree.proofs.reader.Reader.+expr.Goals as goal

pub parse_leaf-returns-in-Number : goal.parse_leaf-returns-in-Number
parse_leaf-returns-in-Number t c = (
  IsRead-token (c.split.ensures.whole (λ q. cc)) (omega (arith, c.args.self.room)) c.number-whole.ensures.height,
  Leads-at c.number-whole.ensures.tree (omega (arith, c.number-whole.ensures.height))
      (Leads-done (At-opens (c.split.ensures.whole (λ q. cc))
      (opens_number c.in-Number.value (c.split.ensures.kind ∙ c.in-Number.is)) c.args.self.depth (omega (arith, c.args.self.room)))),
)

pub parse_leaf-returns-in-Some : goal.parse_leaf-returns-in-Some
parse_leaf-returns-in-Some t c = (
  IsRead-token (c.split.ensures.whole (λ q. cc)) (omega (arith, c.args.self.room)) c.truth-whole.ensures.height,
  Leads-at c.truth-whole.ensures.tree (omega (arith, c.truth-whole.ensures.height))
      (Leads-done (At-opens (c.split.ensures.whole (λ q. cc))
      (opens_truth c.in-Some.value
      (ap (λ xs. truth_in (first_kind xs)) (c.split.ensures.whole (λ q. cc)) ∙ sym c.truth_of.ensures ∙ c.in-Some.is)) c.args.self.depth
      (omega (arith, c.args.self.room)))),
)

pub parse_leaf-returns-in-None : goal.parse_leaf-returns-in-None
parse_leaf-returns-in-None t c = Atom-fails c.split.ensures.head.1 c.args.self.depth c.unexpected.result c.unexpected.ensures
    (rw c.in-Key.is (untrue c.in-Key.field-0 c.split.result.0.now.start (ap truth_in (sym c.in-Key.is) ∙ sym c.truth_of.ensures ∙ c.in-None.is)
    (λ q. c.requires.no_array (c.split.ensures.kind ∙ c.in-Key.is ∙ q))))

pub parse_leaf-returns-in-Sign : goal.parse_leaf-returns-in-Sign
parse_leaf-returns-in-Sign t c =
    Atom-fails c.split.ensures.head.1 c.args.self.depth c.unexpected-in-Sign.result c.unexpected-in-Sign.ensures
    (rw c.in-Sign.is (unopened c.in-Sign.field-0 c.split.result.0.now.start
    (λ q. c.requires.no_paren (c.split.ensures.kind ∙ c.in-Sign.is ∙ q))
    (λ q. c.requires.no_brace (c.split.ensures.kind ∙ c.in-Sign.is ∙ q))))

pub parse_leaf-returns-in-End : goal.parse_leaf-returns-in-End
parse_leaf-returns-in-End t c =
    Atom-fails c.split.ensures.head.1 c.args.self.depth c.unexpected-in-End.result c.unexpected-in-End.ensures (rw c.in-End.is refl)

pub parse_leaf-returns-in-Ok : goal.parse_leaf-returns-in-Ok
parse_leaf-returns-in-Ok t c =
    let is = c.split.ensures.kind ∙ c.in-Name.is ∙ ap Name (sym c.in-Ok.ensures) in
    MatchResult-weaker c.parse_named.result c.parse_named.ensures
    (λ y q. (
      IsRead-named (c.split.ensures.whole (λ q. cc)) (q.0, q.1),
      Leads-named (c.split.ensures.whole (λ q. cc)) c.args.self.depth (omega (arith, c.args.self.room)) c.in-Ok.found is q.2,
    ))
    (λ y q. Fails-named (c.split.ensures.whole (λ q. cc)) c.args.self.depth (omega (arith, c.args.self.room)) c.in-Ok.found is q)

pub parse_named-call-requires : goal.parse_named-call-requires
parse_named-call-requires t c =
    omega (arith, c.in-Ok.ensures.0.fits)

pub parse_named-returns-in-Err : goal.parse_named-returns-in-Err
parse_named-returns-in-Err t c =
    let is : first_kind c.args.self.tokens.list.now ≡ Sign LeftParen = search rules in
    Misapplies-call (c.split.ensures.whole (λ q. cc)) is c.args.self.depth c.args.x c.args.place c.in-Err.ensures

pub parse_named-returns-in-Ok : goal.parse_named-returns-in-Ok
parse_named-returns-in-Ok t c =
    let is : first_kind c.args.self.tokens.list.now ≡ Sign LeftParen = search rules in
    MatchResult-whole c.call.result c.with_rest.result _ _ _ _ c.with_rest.ensures c.call.ensures (λ x p s. rw s (
      omega (arith, p.0),
      IsGathered-call (c.split.ensures.whole (λ q. cc)) c.in-Ok.ensures.0 p.0,
      Applies-call (c.split.ensures.whole (λ q. cc)) is c.args.self.depth c.args.x c.args.place c.in-Ok.ensures.1 p.1 p.0,
    ))
    (record { fails = λ K. tt })

pub parse_named-returns-else-begins_with_sign : goal.parse_named-returns-else-begins_with_sign
parse_named-returns-else-begins_with_sign t c =
    let is_not : first_kind c.args.self.tokens.list.now ≡ Sign LeftParen → ⊥ = search rules in (
      omega (arith, c.name-whole.ensures.height),
      record { shorter = omega arith; fits = omega (arith, c.args.self.room, c.name-whole.ensures.height) },
      Applies-name c.args.self.depth is_not c.name-whole.ensures.tree c.name-whole.ensures.height,
    )

pub parse_arguments-returns-then-is_sign : goal.parse_arguments-returns-then-is_sign
parse_arguments-returns-then-is_sign t c =
    let is : c.split.result.0.now.kind ≡ Sign RightParen = search rules in (
      rw c.no_arguments.ensures.height (IsGathered-unpassed (c.args.self.depth + 1) (omega (arith, c.args.self.room)) (c.split.ensures.whole (λ q. cc))),
      rw (c.no_arguments.ensures.items, c.no_arguments.ensures.height) (Leads-unpassed (c.args.self.depth + 1) (omega (arith, c.args.self.room)) (c.split.ensures.whole (λ q. cc)) is),
    )

pub parse_arguments-returns-then-depth-ge-MAX_NESTING : goal.parse_arguments-returns-then-depth-ge-MAX_NESTING
parse_arguments-returns-then-depth-ge-MAX_NESTING t c =
    let is_not : c.split.result.0.now.kind ≡ Sign RightParen → ⊥ = search rules in
    let full : 200 ≤ c.args.self.depth + 1 = grind (arith, common_steps) in
    Fails-full (c.args.self.depth + 1) c.no_room.result c.args.self.tokens.ends full (λ q. is_not (sym c.split.ensures.kind ∙ q)) c.no_room.ensures

pub parse_arguments-returns-then-is_sign-2 : goal.parse_arguments-returns-then-is_sign-2
parse_arguments-returns-then-is_sign-2 t c =
    let is : c.split-2.result.0.now.kind ≡ Sign RightParen = search rules in (
      IsGathered-passed c.in-Ok.ensures.0 (c.split-2.ensures.whole (λ q. cc)),
      Leads-passed c.in-Ok.ensures.2 (c.split-2.ensures.whole (λ q. cc)) (omega (arith, c.args.self.room)) is,
    )

pub parse_arguments-returns-else-is_sign-2 : goal.parse_arguments-returns-else-is_sign-2
parse_arguments-returns-else-is_sign-2 t c =
    let is_not : c.split-2.result.0.now.kind ≡ Sign RightParen → ⊥ = search rules in
    Fails-passed c.in-Ok.ensures.2 c.split-2.ensures.head.1 c.unexpected.result c.unexpected.ensures c.in-Ok.ensures.1 is_not

pub parse_some_arguments-arguments-init : goal.parse_some_arguments-arguments-init
parse_some_arguments-arguments-init t c = (
  rw c.in-Ok-first_argument.ensures.1 c.in-Ok.ensures.0,
  rw (c.in-Ok-first_argument.ensures.1, c.in-Ok-first_argument.ensures.0)
      (Hands-first c.args.self.depth c.requires.not_closed c.in-Ok.found.0.expr _ refl c.in-Ok.ensures.1),
)

pub parse_some_arguments-arguments-preserved : goal.parse_some_arguments-arguments-preserved
parse_some_arguments-arguments-preserved t c =
    let comma : first_kind c.arguments.rest.list.now ≡ Sign Comma = search rules in (
      rw c.in-Ok-add_argument.ensures.1
          (IsRead-add c.arguments.invariant.0 (c.split.ensures.whole (λ q. cc)) c.in-Ok-parse_expression.ensures.0),
      rw (c.in-Ok-add_argument.ensures.1, c.in-Ok-add_argument.ensures.0)
          (Hands-add c.arguments.invariant.1 (c.split.ensures.whole (λ q. cc)) c.in-Ok-parse_expression.found.0.expr _
          refl comma (omega (arith, c.args.self.room)) c.in-Ok-parse_expression.ensures.1),
    )

pub parse_some_arguments-returns-in-Err : goal.parse_some_arguments-returns-in-Err
parse_some_arguments-returns-in-Err t c =
    Fails-argument c.args.self.depth c.requires.not_closed c.in-Err.ensures

pub parse_some_arguments-returns-in-Err-parse_expression : goal.parse_some_arguments-returns-in-Err-parse_expression
parse_some_arguments-returns-in-Err-parse_expression t c =
    let comma : first_kind c.arguments.rest.list.now ≡ Sign Comma = search rules in
    Fails-added c.arguments.invariant.1 (c.split.ensures.whole (λ q. cc)) comma (omega (arith, c.args.self.room)) c.in-Err-parse_expression.ensures
