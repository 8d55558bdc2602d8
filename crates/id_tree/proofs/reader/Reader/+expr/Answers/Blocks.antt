-- The runs of the readers of blocks, loops and their statements.
use Rattle.std.proofs.Common.{◌≡◌, ◌∙◌, ap, sym, arith, rules}
use Rattle.std.proofs.lemmas.Grind.{common_steps}
use Rattle.std.proofs.lemmas.Result.{MatchResult-weaker}
use Rattle.id_text.specs.declared.token.TokenKind.TheVariants.{Key, Sign}
use Rattle.id_text.specs.declared.token.Symbol.TheVariants.{LeftBracket}
use Rattle.id_text.specs.declared.token.Keyword.TheVariants.{While, For, Next}
use Rattle.id_grammar.specs.declared.phrase.Scope.TheVariants as scope
use Rattle.id_grammar.specs.Readers.{first_kind, second_kind}
use Rattle.id_grammar.specs.Tree.{tree_of, fetch}
use Rattle.id_grammar.proofs.ReaderLemmas.{IsRead-then, At-part, At-name, At-enclosed, Leads-done, Leads-at, Fails-deep}
use Rattle.id_grammar.proofs.ReaderLemmas.{Fails-part, Fails-name, Fails-enclosed, IsRead-behind, At-surrounded}
use Rattle.id_grammar.proofs.ReaderLemmas.{Fails-surrounded}
use Rattle.id_tree.proofs.ArrayLemmas.{Behind-bracket, Behind-enclosed, Misassigns-enclosed, Adds-assigned}
use Rattle.id_tree.proofs.ArrayLemmas.{Fails-assigned, Behind-word, Misassigns-word, Behind-sized, Misassigns-sized}
use Rattle.id_tree.proofs.ArrayLemmas.{Behind-lifted, Misassigns-deep, Behind-unlifted, Assigns-stored}
use Rattle.id_tree.proofs.ArrayLemmas.{Misassigns-stored, Stores-done, Misstores-value}
use Rattle.id_tree.proofs.BlockLemmas.{opens_braces, At-block, At-loop, At-for, Encloses-tail, Exposes-tail}
use Rattle.id_tree.proofs.BlockLemmas.{At-binding, At-next, Fails-tail, Adds-done, IsGathered-add, Gathers-none}
use Rattle.id_tree.proofs.BlockLemmas.{Gathers-add, Fails-gathered, Leads-gathered, Leads-last, Fails-last}
use Rattle.id_tree.proofs.BlockLemmas.{Surrounds-tail, Bares-tail}
use Rattle.id_tree.proofs.ForLemmas.{Misranges-name, Misranges-arrow, Misranges-low, Misranges-high, Ranges-done}
use Rattle.id_tree.proofs.ForLemmas.{At-ranged, Fails-ranged}
use Rattle.id_tree.proofs.WholeLemmas.{MatchResult-whole}
use Rattle.id_tree.proofs.ReadLemmas.{behind, IsRead-next, IsRead-both, IsRead-inside, IsRead-closed}
use Rattle.id_tree.proofs.ReadLemmas.{IsRead-higher, IsGathered-then, IsRead-gathered}
use Rattle.id_tree.proofs.reader.Reader.+expr.Goals as goal

pub parse_block-returns-in-Err : goal.parse_block-returns-in-Err
parse_block-returns-in-Err t c =
    Fails-deep c.args.self.tokens.ends (opens_braces c.requires.begins) _ _ c.in-Err.ensures.err c.in-Err.ensures.deep

pub parse_block-returns-in-Err-parse_statements : goal.parse_block-returns-in-Err-parse_statements
parse_block-returns-in-Err-parse_statements t c =
    Fails-part (At-block (c.in-Ok.ensures.whole (λ q. cc)) c.requires.begins c.in-Ok.ensures.fits c.requires.no_while c.requires.no_for)
    c.in-Err-parse_statements.ensures

pub parse_block-returns-in-Err-parse_enclosed : goal.parse_block-returns-in-Err-parse_enclosed
parse_block-returns-in-Err-parse_enclosed t c =
    Fails-part (At-block (c.in-Ok.ensures.whole (λ q. cc)) c.requires.begins c.in-Ok.ensures.fits c.requires.no_while c.requires.no_for)
    (Fails-gathered c.in-Ok-parse_statements.ensures.2
    (Fails-last scope.Block (behind c.split.ensures.whole c.split.ensures.kind c.in-Ok-parse_statements.ensures.1 (λ q. cc)) c.in-Ok-parse_statements.ensures.1 c.in-Ok.ensures.fits c.in-Err-parse_enclosed.ensures))

pub parse_block-returns : goal.parse_block-returns
parse_block-returns t c =
    MatchResult-whole c.block.result c.with_rest.result _ _ _ _ c.with_rest.ensures c.block.ensures (λ x p s. rw s (
      IsRead-inside (c.in-Ok.ensures.whole (λ q. cc))
          (IsRead-gathered c.in-Ok-parse_statements.ensures.0 (behind c.split.ensures.whole c.split.ensures.kind c.in-Ok-parse_statements.ensures.1 (λ q. cc)) c.in-Ok-parse_enclosed.ensures.0) p.0,
      Leads-at p.1 (omega (arith, p.0)) (Leads-done (At-part (At-block (c.in-Ok.ensures.whole (λ q. cc)) c.requires.begins c.in-Ok.ensures.fits c.requires.no_while c.requires.no_for)
          (Leads-gathered c.in-Ok-parse_statements.ensures.2
          (Leads-last scope.Block (behind c.split.ensures.whole c.split.ensures.kind c.in-Ok-parse_statements.ensures.1 (λ q. cc)) c.in-Ok-parse_statements.ensures.1 c.in-Ok.ensures.fits c.in-Ok-parse_enclosed.ensures.1)))),
    ))
    (record { fails = λ K. tt })

pub parse_braces-parse_loop-requires : goal.parse_braces-parse_loop-requires
parse_braces-parse_loop-requires t c =
    let is : first_kind c.split.result.1.list.now ≡ Key While = search rules in
    (grind (arith, common_steps), (c.requires.begins, ap second_kind (c.split.ensures.whole (λ q. cc)) ∙ is))

pub parse_braces-parse_for-requires : goal.parse_braces-parse_for-requires
parse_braces-parse_for-requires t c =
    let is : first_kind c.split.result.1.list.now ≡ Key For = search rules in
    (grind (arith, common_steps), (c.requires.begins, ap second_kind (c.split.ensures.whole (λ q. cc)) ∙ is))

pub parse_braces-parse_block-requires : goal.parse_braces-parse_block-requires
parse_braces-parse_block-requires t c =
    let no_while : first_kind c.split.result.1.list.now ≡ Key While → ⊥ = search rules in
    let no_for : first_kind c.split.result.1.list.now ≡ Key For → ⊥ = search rules in
    let at = ap second_kind (sym (c.split.ensures.whole (λ q. cc))) in
    (grind (arith, common_steps), (c.requires.begins, (λ q. no_while (at ∙ q), λ q. no_for (at ∙ q))))

pub parse_loop-returns-in-Err : goal.parse_loop-returns-in-Err
parse_loop-returns-in-Err t c =
    Fails-deep c.args.self.tokens.ends (opens_braces c.requires.begins) _ _ c.in-Err.ensures.err c.in-Err.ensures.deep

pub parse_loop-returns-in-Err-parse_enclosed : goal.parse_loop-returns-in-Err-parse_enclosed
parse_loop-returns-in-Err-parse_enclosed t c =
    Fails-enclosed (At-loop (c.in-Ok.ensures.whole (λ q. cc)) c.requires.begins c.in-Ok.ensures.fits (behind c.split.ensures.whole c.split.ensures.kind (sym (ap second_kind (c.in-Ok.ensures.whole (λ q. cc))) ∙ c.requires.loops) (λ q. cc))
    c.requires.loops) c.in-Err-parse_enclosed.ensures

pub parse_loop-returns-in-Err-parse_statements : goal.parse_loop-returns-in-Err-parse_statements
parse_loop-returns-in-Err-parse_statements t c =
    Fails-part (At-enclosed (At-loop (c.in-Ok.ensures.whole (λ q. cc)) c.requires.begins c.in-Ok.ensures.fits (behind c.split.ensures.whole c.split.ensures.kind (sym (ap second_kind (c.in-Ok.ensures.whole (λ q. cc))) ∙ c.requires.loops) (λ q. cc))
    c.requires.loops) c.in-Ok-parse_enclosed.ensures.1)
    c.in-Err-parse_statements.ensures

pub parse_loop-returns-in-Err-parse_enclosed-2 : goal.parse_loop-returns-in-Err-parse_enclosed-2
parse_loop-returns-in-Err-parse_enclosed-2 t c =
    Fails-part (At-enclosed (At-loop (c.in-Ok.ensures.whole (λ q. cc)) c.requires.begins c.in-Ok.ensures.fits (behind c.split.ensures.whole c.split.ensures.kind (sym (ap second_kind (c.in-Ok.ensures.whole (λ q. cc))) ∙ c.requires.loops) (λ q. cc))
    c.requires.loops) c.in-Ok-parse_enclosed.ensures.1)
    (Fails-gathered c.in-Ok-parse_statements.ensures.2
    (Fails-last scope.Loop (behind c.split-2.ensures.whole c.split-2.ensures.kind c.in-Ok-parse_statements.ensures.1 (λ q. cc)) c.in-Ok-parse_statements.ensures.1 c.in-Ok.ensures.fits c.in-Err-parse_enclosed-2.ensures))

pub parse_loop-returns : goal.parse_loop-returns
parse_loop-returns t c =
    MatchResult-whole c.whole_loop.result c.with_rest.result _ _ _ _ c.with_rest.ensures c.whole_loop.ensures (λ x p s. rw s (
      IsRead-inside (c.in-Ok.ensures.whole (λ q. cc))
          (IsRead-gathered (IsGathered-then (IsRead-next (behind c.split.ensures.whole c.split.ensures.kind (sym (ap second_kind (c.in-Ok.ensures.whole (λ q. cc))) ∙ c.requires.loops) (λ q. cc)) c.in-Ok-parse_enclosed.ensures.0) c.in-Ok-parse_statements.ensures.0)
          (behind c.split-2.ensures.whole c.split-2.ensures.kind c.in-Ok-parse_statements.ensures.1 (λ q. cc)) c.in-Ok-parse_enclosed-2.ensures.0) p.0,
      Leads-at p.1 (omega (arith, p.0))
          (Leads-done (At-part (At-enclosed (At-loop (c.in-Ok.ensures.whole (λ q. cc)) c.requires.begins c.in-Ok.ensures.fits (behind c.split.ensures.whole c.split.ensures.kind (sym (ap second_kind (c.in-Ok.ensures.whole (λ q. cc))) ∙ c.requires.loops) (λ q. cc))
          c.requires.loops) c.in-Ok-parse_enclosed.ensures.1)
          (Leads-gathered c.in-Ok-parse_statements.ensures.2
          (Leads-last scope.Loop (behind c.split-2.ensures.whole c.split-2.ensures.kind c.in-Ok-parse_statements.ensures.1 (λ q. cc)) c.in-Ok-parse_statements.ensures.1 c.in-Ok.ensures.fits c.in-Ok-parse_enclosed-2.ensures.1)))),
    ))
    (record { fails = λ K. tt })

pub parse_for-returns-in-Err : goal.parse_for-returns-in-Err
parse_for-returns-in-Err t c =
    Fails-deep c.args.self.tokens.ends (opens_braces c.requires.begins) _ _ c.in-Err.ensures.err c.in-Err.ensures.deep

pub parse_for-returns-in-Err-parse_index : goal.parse_for-returns-in-Err-parse_index
parse_for-returns-in-Err-parse_index t c =
    Fails-ranged (At-for (c.in-Ok.ensures.whole (λ q. cc)) c.requires.begins c.in-Ok.ensures.fits (behind c.split.ensures.whole c.split.ensures.kind (sym (ap second_kind (c.in-Ok.ensures.whole (λ q. cc))) ∙ c.requires.counts) (λ q. cc)) c.requires.counts) c.in-Err-parse_index.ensures

pub parse_for-returns-in-Err-parse_statements : goal.parse_for-returns-in-Err-parse_statements
parse_for-returns-in-Err-parse_statements t c =
    Fails-part (At-ranged (At-for (c.in-Ok.ensures.whole (λ q. cc)) c.requires.begins c.in-Ok.ensures.fits (behind c.split.ensures.whole c.split.ensures.kind (sym (ap second_kind (c.in-Ok.ensures.whole (λ q. cc))) ∙ c.requires.counts) (λ q. cc)) c.requires.counts)
    c.in-Ok-parse_index.ensures.1) c.in-Err-parse_statements.ensures

pub parse_for-returns-in-Err-parse_enclosed : goal.parse_for-returns-in-Err-parse_enclosed
parse_for-returns-in-Err-parse_enclosed t c =
    Fails-part (At-ranged (At-for (c.in-Ok.ensures.whole (λ q. cc)) c.requires.begins c.in-Ok.ensures.fits (behind c.split.ensures.whole c.split.ensures.kind (sym (ap second_kind (c.in-Ok.ensures.whole (λ q. cc))) ∙ c.requires.counts) (λ q. cc)) c.requires.counts)
    c.in-Ok-parse_index.ensures.1)
    (Fails-gathered c.in-Ok-parse_statements.ensures.2
    (Fails-last scope.Loop (behind c.split-2.ensures.whole c.split-2.ensures.kind c.in-Ok-parse_statements.ensures.1 (λ q. cc)) c.in-Ok-parse_statements.ensures.1 c.in-Ok.ensures.fits c.in-Err-parse_enclosed.ensures))

pub parse_for-returns : goal.parse_for-returns
parse_for-returns t c =
    MatchResult-whole c.whole_for.result c.with_rest.result _ _ _ _ c.with_rest.ensures c.whole_for.ensures (λ x p s. rw s (
      IsRead-inside (c.in-Ok.ensures.whole (λ q. cc))
          (IsRead-gathered (IsGathered-then (IsRead-next (behind c.split.ensures.whole c.split.ensures.kind (sym (ap second_kind (c.in-Ok.ensures.whole (λ q. cc))) ∙ c.requires.counts) (λ q. cc)) c.in-Ok-parse_index.ensures.0) c.in-Ok-parse_statements.ensures.0)
          (behind c.split-2.ensures.whole c.split-2.ensures.kind c.in-Ok-parse_statements.ensures.1 (λ q. cc)) c.in-Ok-parse_enclosed.ensures.0) p.0,
      Leads-at p.1 (omega (arith, p.0))
          (Leads-done (At-part (At-ranged (At-for (c.in-Ok.ensures.whole (λ q. cc)) c.requires.begins c.in-Ok.ensures.fits (behind c.split.ensures.whole c.split.ensures.kind (sym (ap second_kind (c.in-Ok.ensures.whole (λ q. cc))) ∙ c.requires.counts) (λ q. cc)) c.requires.counts)
          c.in-Ok-parse_index.ensures.1)
          (Leads-gathered c.in-Ok-parse_statements.ensures.2
          (Leads-last scope.Loop (behind c.split-2.ensures.whole c.split-2.ensures.kind c.in-Ok-parse_statements.ensures.1 (λ q. cc)) c.in-Ok-parse_statements.ensures.1 c.in-Ok.ensures.fits c.in-Ok-parse_enclosed.ensures.1)))),
    ))
    (record { fails = λ K. tt })

pub parse_index-returns-in-Err : goal.parse_index-returns-in-Err
parse_index-returns-in-Err t c =
    Misranges-name c.args.self.depth c.in-Err.ensures.err

pub parse_index-returns-in-Err-expect_word : goal.parse_index-returns-in-Err-expect_word
parse_index-returns-in-Err-expect_word t c =
    Misranges-arrow c.args.self.depth c.in-Ok.ensures.ok c.in-Err-expect_word.ensures.err

pub parse_index-returns-in-Err-parse_enclosed : goal.parse_index-returns-in-Err-parse_enclosed
parse_index-returns-in-Err-parse_enclosed t c =
    Misranges-low c.args.self.depth c.in-Ok.ensures.ok c.in-Ok-expect_word.ensures.ok c.in-Err-parse_enclosed.ensures

pub parse_index-returns-in-Err-parse_enclosed-2 : goal.parse_index-returns-in-Err-parse_enclosed-2
parse_index-returns-in-Err-parse_enclosed-2 t c =
    Misranges-high c.args.self.depth c.in-Ok.ensures.ok c.in-Ok-expect_word.ensures.ok c.in-Ok-parse_enclosed.ensures.1
    c.in-Err-parse_enclosed-2.ensures

pub parse_index-returns : goal.parse_index-returns
parse_index-returns t c =
    let e = c.indexed.ensures in (
      rw e.height (IsRead-behind c.in-Ok.ensures.behind
          (IsRead-behind c.in-Ok-expect_word.ensures.behind (IsRead-both c.in-Ok-parse_enclosed.ensures.0 c.in-Ok-parse_enclosed-2.ensures.0))),
      rw (e.name, e.place, e.low, e.high, e.height) (Ranges-done c.args.self.depth c.in-Ok.ensures.ok c.in-Ok-expect_word.ensures.ok
          c.in-Ok-parse_enclosed.ensures.1 c.in-Ok-parse_enclosed-2.ensures.1),
    )

pub parse_statements-stmts-init : goal.parse_statements-stmts-init
parse_statements-stmts-init t c = (
  rw c.no_statements-statements.ensures.height (record { shorter = omega arith; fits = omega arith }),
  rw (c.no_statements-statements.ensures.items, c.no_statements-statements.ensures.height) (Gathers-none c.args.self.tokens.list.now c.args.scope c.args.self.depth),
)

pub parse_statements-stmts-preserved : goal.parse_statements-stmts-preserved
parse_statements-stmts-preserved t c = (
  rw c.in-Ok-add_statement.ensures.1 (IsGathered-add c.stmts.invariant.0 c.in-Ok.ensures.0),
  rw (c.in-Ok-add_statement.ensures.1, c.in-Ok-add_statement.ensures.0) (Gathers-add c.in-Ok.found.0.stmt c.stmts.invariant.1 c.in-Ok.ensures.1),
)

pub parse_statements-returns-in-Err : goal.parse_statements-returns-in-Err
parse_statements-returns-in-Err t c =
    Fails-gathered c.stmts.invariant.1 c.in-Err.ensures

pub parse_statement-parse_store-requires : goal.parse_statement-parse_store-requires
parse_statement-parse_store-requires t c =
    let is : first_kind c.in-Ok.found.2.list.now ≡ Sign LeftBracket = search rules in
    (grind (arith, common_steps), is)

pub parse_statement-returns-then-begins_next : goal.parse_statement-returns-then-begins_next
parse_statement-returns-then-begins_next t c =
    let is : (c.args.scope ≡ scope.Loop) × (first_kind c.args.self.tokens.list.now ≡ Key Next) = search rules in
    rw is.0 c.parse_next.ensures

pub parse_statement-returns-in-Err : goal.parse_statement-returns-in-Err
parse_statement-returns-in-Err t c =
    let is_not : (c.args.scope ≡ scope.Loop) × (first_kind c.args.self.tokens.list.now ≡ Key Next) → ⊥ = search rules in
    Fails-tail c.args.scope c.args.self.depth c.requires.not_last is_not c.in-Err.ensures.err

pub parse_statement-returns-then-begins_with_sign : goal.parse_statement-returns-then-begins_with_sign
parse_statement-returns-then-begins_with_sign t c =
    MatchResult-weaker c.parse_store.result c.parse_store.ensures
    (λ y q. (
      IsRead-behind c.in-Ok.ensures.behind q.0,
      Adds-assigned c.args.scope c.args.self.depth (omega (arith, c.args.self.room)) c.in-Ok.ensures.ok q.1,
    ))
    (λ y q. Fails-assigned c.args.scope c.args.self.depth (omega (arith, c.args.self.room)) c.in-Ok.ensures.ok q)

pub parse_statement-returns-in-Err-parse_between : goal.parse_statement-returns-in-Err-parse_between
parse_statement-returns-in-Err-parse_between t c =
    let is_not : first_kind c.in-Ok.found.2.list.now ≡ Sign LeftBracket → ⊥ = search rules in
    Fails-surrounded (At-binding c.args.scope c.args.self.depth (omega arith) c.in-Ok.ensures.ok is_not) (Bares-tail c.in-Err-parse_between.ensures)

pub parse_statement-returns : goal.parse_statement-returns
parse_statement-returns t c =
    let is_not : first_kind c.in-Ok.found.2.list.now ≡ Sign LeftBracket → ⊥ = search rules in (
      rw c.binding.ensures.height (IsRead-behind c.in-Ok.ensures.behind c.in-Ok-parse_between.ensures.0),
      Adds-done c.binding.ensures.tree (omega (arith, c.binding.ensures.height))
          (At-surrounded (At-binding c.args.scope c.args.self.depth (omega arith) c.in-Ok.ensures.ok is_not) (Surrounds-tail c.in-Ok-parse_between.ensures.1)),
    )

pub parse_store-returns-in-Err : goal.parse_store-returns-in-Err
parse_store-returns-in-Err t c =
    Misassigns-sized (Behind-bracket c.args.scope c.args.self.depth c.args.x c.args.place (c.split.ensures.whole (λ q. cc)) c.requires.begins) c.in-Err.ensures

pub parse_store-returns-in-Err-expect_word : goal.parse_store-returns-in-Err-expect_word
parse_store-returns-in-Err-expect_word t c =
    Misassigns-word (Behind-sized (Behind-bracket c.args.scope c.args.self.depth c.args.x c.args.place (c.split.ensures.whole (λ q. cc)) c.requires.begins) c.in-Ok.ensures.1) c.in-Err-expect_word.ensures.err

pub parse_store-returns-in-Err-enter : goal.parse_store-returns-in-Err-enter
parse_store-returns-in-Err-enter t c =
    let is : first_kind c.in-Ok-expect_word.found.list.now ≡ Sign LeftBracket = search rules in
    Misassigns-deep (Behind-word (Behind-sized (Behind-bracket c.args.scope c.args.self.depth c.args.x c.args.place (c.split.ensures.whole (λ q. cc)) c.requires.begins) c.in-Ok.ensures.1)
    c.in-Ok-expect_word.ensures.ok) c.in-Ok-expect_word.found.ends is c.in-Err-enter.ensures.err c.in-Err-enter.ensures.deep

pub parse_store-returns-in-Err-parse_enclosed : goal.parse_store-returns-in-Err-parse_enclosed
parse_store-returns-in-Err-parse_enclosed t c =
    let is : first_kind c.in-Ok-expect_word.found.list.now ≡ Sign LeftBracket = search rules in
    Misassigns-enclosed (Behind-lifted (Behind-word (Behind-sized (Behind-bracket c.args.scope c.args.self.depth c.args.x c.args.place (c.split.ensures.whole (λ q. cc)) c.requires.begins) c.in-Ok.ensures.1)
    c.in-Ok-expect_word.ensures.ok) (c.in-Ok-enter.ensures.whole (λ q. cc)) is c.in-Ok-enter.ensures.fits)
    (Exposes-tail c.in-Err-parse_enclosed.ensures)

pub parse_store-returns-in-Ok-parse_enclosed : goal.parse_store-returns-in-Ok-parse_enclosed
parse_store-returns-in-Ok-parse_enclosed t c =
    let is : first_kind c.in-Ok-expect_word.found.list.now ≡ Sign LeftBracket = search rules in
    let target = c.in-Ok-fetch.ensures.1
    ∙ ap (λ a. fetch a (tree_of c.in-Ok.found.0.expr) c.split.result.0.now.start) c.name-target.ensures.tree in
    let behind = Behind-enclosed (Behind-lifted (Behind-word (Behind-sized (Behind-bracket c.args.scope c.args.self.depth c.args.x c.args.place (c.split.ensures.whole (λ q. cc)) c.requires.begins) c.in-Ok.ensures.1)
    c.in-Ok-expect_word.ensures.ok) (c.in-Ok-enter.ensures.whole (λ q. cc)) is c.in-Ok-enter.ensures.fits)
    (Encloses-tail c.in-Ok-parse_enclosed.ensures.1) in
    MatchResult-weaker c.parse_stored.result c.parse_stored.ensures
    (λ y q. (
      IsRead-next (c.split.ensures.whole (λ q. cc)) (IsRead-then (IsRead-closed c.in-Ok.ensures.0 c.in-Ok-expect_word.ensures.behind)
          (IsRead-then (IsRead-next (c.in-Ok-enter.ensures.whole (λ q. cc)) c.in-Ok-parse_enclosed.ensures.0) q.0)),
      Assigns-stored target (omega (arith, c.in-Ok-fetch.ensures.0, c.name-target.ensures.height, c.in-Ok.ensures.0.some)) behind (q.1 c.args.scope),
    ))
    (λ y q. Misassigns-stored target (omega (arith, c.in-Ok-fetch.ensures.0, c.name-target.ensures.height, c.in-Ok.ensures.0.some)) behind (q c.args.scope))

pub parse_store-returns-else-begins_with_sign : goal.parse_store-returns-else-begins_with_sign
parse_store-returns-else-begins_with_sign t c =
    let is_not : first_kind c.in-Ok-expect_word.found.list.now ≡ Sign LeftBracket → ⊥ = search rules in
    let behind = Behind-unlifted (Behind-word (Behind-sized (Behind-bracket c.args.scope c.args.self.depth c.args.x c.args.place (c.split.ensures.whole (λ q. cc)) c.requires.begins) c.in-Ok.ensures.1)
    c.in-Ok-expect_word.ensures.ok) is_not in
    MatchResult-weaker c.parse_stored-else-begins_with_sign.result c.parse_stored-else-begins_with_sign.ensures
    (λ y q. (
      IsRead-next (c.split.ensures.whole (λ q. cc)) (IsRead-then (IsRead-closed c.in-Ok.ensures.0 c.in-Ok-expect_word.ensures.behind) q.0),
      Assigns-stored c.name-target.ensures.tree (omega (arith, c.name-target.ensures.height, c.in-Ok.ensures.0.some)) behind (q.1 c.args.scope),
    ))
    (λ y q. Misassigns-stored c.name-target.ensures.tree (omega (arith, c.name-target.ensures.height, c.in-Ok.ensures.0.some)) behind (q c.args.scope))

pub parse_stored-returns-in-Err : goal.parse_stored-returns-in-Err
parse_stored-returns-in-Err t c =
    Misstores-value _ _ _ _ (Bares-tail c.in-Err.ensures)

pub parse_stored-returns : goal.parse_stored-returns
parse_stored-returns t c = (
  IsRead-higher _ c.in-Ok.ensures.0 (omega (arith, c.requires.target, c.requires.index)) c.in-Ok-store.ensures.0,
  Stores-done _ _ _ _ (Surrounds-tail c.in-Ok.ensures.1) c.in-Ok-store.ensures.1 c.in-Ok-store.ensures.0,
)

pub parse_next-returns-in-Err : goal.parse_next-returns-in-Err
parse_next-returns-in-Err t c =
    Fails-name (At-next c.args.self.depth (omega arith) (c.split.ensures.whole (λ q. cc)) c.requires.begins) c.in-Err.ensures.err

pub parse_next-returns-in-Err-parse_between : goal.parse_next-returns-in-Err-parse_between
parse_next-returns-in-Err-parse_between t c =
    Fails-surrounded (At-name (At-next c.args.self.depth (omega arith) (c.split.ensures.whole (λ q. cc)) c.requires.begins) c.in-Ok.ensures.ok)
    (Bares-tail c.in-Err-parse_between.ensures)

pub parse_next-returns : goal.parse_next-returns
parse_next-returns t c = (
  rw c.next.ensures.height (IsRead-next (c.split.ensures.whole (λ q. cc)) (IsRead-behind c.in-Ok.ensures.behind c.in-Ok-parse_between.ensures.0)),
  Adds-done c.next.ensures.tree (omega (arith, c.next.ensures.height))
      (At-surrounded (At-name (At-next c.args.self.depth (omega arith) (c.split.ensures.whole (λ q. cc)) c.requires.begins) c.in-Ok.ensures.ok)
      (Surrounds-tail c.in-Ok-parse_between.ensures.1)),
)
