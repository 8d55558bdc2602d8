-- How the readers' runs are put together behind a name, argument by argument.
use Rattle.std.proofs.Common.{◌≡◌, ℕ, ◌+◌, ◌≤◌, ◌<◌, max, Bool, true, false, Option, Some, None, List, [], ◌∷◌, ◌++◌}
use Rattle.std.proofs.Common.{length, refl, sym, ap, ◌∙◌, add-zero, arith}
use Rattle.id_text.specs.Tokens.{EndsOnce}
use Rattle.id_text.specs.declared.token.Token.{Token}
use Rattle.id_text.specs.declared.token.TokenKind.{TokenKind}
use Rattle.id_text.specs.declared.token.TokenKind.TheVariants.{Name, Number, Key, Sign}
use Rattle.id_text.specs.declared.token.Keyword.TheVariants.{If, Not, True, False, Array}
use Rattle.id_text.specs.declared.token.Symbol.TheVariants.{LeftParen, RightParen, LeftBrace, Comma, Minus}
use Rattle.id_grammar.specs.declared.tokens.Word.TheVariants as the
use Rattle.id_grammar.specs.declared.tree.Expr.{Expr}
use Rattle.id_grammar.specs.declared.tree.TreeError.{TreeError}
use Rattle.id_grammar.specs.declared.tree.TreeError.TheVariants.{Unexpected}
use Rattle.id_grammar.specs.Tree as tree
use Rattle.id_grammar.specs.Tree.{Tree, tree_of, call, none, more}
use Rattle.id_grammar.specs.Grammar.{Expression, Atom, Arguments, MoreArguments, Rest, done, part, named_of, argument_of}
use Rattle.id_grammar.specs.Grammar.{arguments_of, Opens, no_arguments, last_argument, next_argument}
use Rattle.id_grammar.specs.Machine.{opening, Frame, Inside, State, Move, Want, Have, Next, expresses, takes, Refused, run}
use Rattle.id_grammar.specs.Readers.{first_kind, first_start, IsRead, IsGathered, EndsBy, Leads, Fails}
use Rattle.id_grammar.specs.Readers.{begins_expression, no_room_at, Applies, Misapplies, passed, Hands}
use Rattle.id_grammar.proofs.RunLemmas.{Unopened, run-deep, run-none, run-done, run-part, run-inside, run-chosen, run-left_out, run-arguments}
use Rattle.id_grammar.proofs.ReaderLemmas.{EndsBy-at, At, At-opens, Leads-done, first_of, no_word, opens_name}

-- A name, and what stands behind it.
module _ {ts us : List Token} {t : Token} (e : ts ≡ t ∷ us) (d : ℕ) (w : d + 1 ≤ 200) (x : List ℕ) (q : first_kind ts ≡ Name x) where
  At-named : At ts Atom d us (named_of x t.start) 0
  At-named = At-opens e (opens_name x q) d (omega arith)

  pub Leads-named : {vs : List Token} {a : Tree} {h : ℕ} → Applies us d x t.start vs a h → Leads ts Atom d vs a h
  Leads-named p = record { comes = λ K. At-named.comes K ∙ p.comes K }

  pub Fails-named : {y : TreeError} → Misapplies us d x t.start y → Fails ts Atom d y
  Fails-named {y = y} p = record { fails = λ K. EndsBy-at y (At-named.comes K) (p.fails K) }

-- what was read behind the name was read from it on
pub IsRead-named : {ts us vs : List Token} {t : Token} {d h : ℕ} → ts ≡ t ∷ us → (0 < h) × IsGathered us vs d h → IsRead ts vs d h
IsRead-named e q = let l = ap length e in record {
  behind = record { shorter = omega (arith, q.1.shorter, l) };
  some = q.0;
  fits = q.1.fits;
}

-- no bracket comes behind the name
pub Applies-name : {ts : List Token} {x : List ℕ} {p : ℕ} (d : ℕ) {a : Tree} {h : ℕ} → (first_kind ts ≡ Sign LeftParen → ⊥) → a ≡ tree.name x p → h ≡ 1 →
    Applies ts d x p ts a h
Applies-name {ts = ts} {x = x} {p = p} d f i j = rw (i, j) (record {
  comes = λ K.
      let n = tree.name x p in
      run-left_out 200 ts (the.Sign LeftParen) (λ _. part Arguments (λ a. done (call x a p))) (done n) 0 (d + 1) 1 K (no_word (the.Sign LeftParen) ts f)
      ∙ run-done 200 ts n 0 (d + 1) 1 K;
})

-- a bracket comes, and arguments
module _ {ts us : List Token} {t : Token} (e : ts ≡ t ∷ us) (q : first_kind ts ≡ Sign LeftParen) (d : ℕ) (x : List ℕ) (p : ℕ) where
  bracket_comes : (K : List Frame) → run 200 ts (Next (named_of x p) 0 (d + 1) 1 K) ≡
      run 200 us (Want Arguments (d + 1) (Inside (λ a. done (call x a p)) 0 (d + 1) 1 ∷ K))
  bracket_comes K =
      let f : Tree → Rest = λ a. done (call x a p) in
      rw e (run-chosen 200 t us (the.Sign LeftParen) (λ _. part Arguments f) (done (tree.name x p)) 0 (d + 1) 1 K (first_of e q)
      ∙ run-part 200 us Arguments f 0 (d + 1) 1 K)

  pub Applies-call : {vs : List Token} {a b : Tree} {m h : ℕ} → Leads us Arguments (d + 1) vs a m → b ≡ call x a p → h ≡ m + 1 → Applies ts d x p vs b h
  Applies-call {vs = vs} {a = a} {m = m} r i j = rw (i, j) (record {
    comes = λ K.
        let f : Tree → Rest = λ a. done (call x a p) in
        bracket_comes K ∙ r.comes (Inside f 0 (d + 1) 1 ∷ K) ∙ run-inside 200 vs a m f 0 (d + 1) 1 K ∙ run-done 200 vs (call x a p) (max 0 m) (d + 1) 1 K
        ∙ ap (λ n. run 200 vs (Have (call x a p) n K)) (omega arith);
  })

  pub Misapplies-call : {y : TreeError} → Fails us Arguments (d + 1) y → Misapplies ts d x p y
  Misapplies-call {y = y} r = record { fails = λ K. EndsBy-at y (bracket_comes K) (r.fails (Inside (λ a. done (call x a p)) 0 (d + 1) 1 ∷ K)) }

-- Arguments.
opens_none : {k : TokenKind} {p : ℕ} → k ≡ Sign RightParen → Opens Arguments k p (done none)
opens_none q = rw q no_arguments

opens_last : {k : TokenKind} {p : ℕ} → k ≡ Sign RightParen → Opens MoreArguments k p (done none)
opens_last q = rw q last_argument

opens_next : {k : TokenKind} {p : ℕ} → k ≡ Sign Comma → Opens MoreArguments k p arguments_of
opens_next q = rw q next_argument

-- no argument comes
pub Leads-unpassed : {ts us : List Token} {t : Token} (d : ℕ) → d ≤ 200 → ts ≡ t ∷ us → t.kind ≡ Sign RightParen → Leads ts Arguments d us none 0
Leads-unpassed d w e q = Leads-done (At-opens e (opens_none (ap first_kind e ∙ q)) d (omega arith))

-- where an argument is wanted, one comes, and those behind it may
run-argument : {ts us : List Token} {d h : ℕ} {e : Tree} → Leads ts Expression d us e h → (K : List Frame) →
    run 200 ts (Next arguments_of 0 (d + 0) 0 K) ≡ run 200 us (Want MoreArguments d (Inside (λ a. done (more e a)) h d 0 ∷ K))
run-argument {ts = ts} {us = us} {d = d} {h = h} {e = e} q K =
    ap (λ n. run 200 ts (Next arguments_of 0 n 0 K)) (add-zero d)
    ∙ run-part 200 ts Expression argument_of 0 d 0 K ∙ q.comes (Inside argument_of 0 d 0 ∷ K) ∙ run-inside 200 us e h argument_of 0 d 0 K
    ∙ run-part 200 us MoreArguments (λ a. done (more e a)) (max 0 h) d 0 K
    ∙ ap (λ n. run 200 us (Want MoreArguments d (Inside (λ a. done (more e a)) n d 0 ∷ K))) (omega arith)

-- an argument is put before those behind it
folds_argument : (e : Tree) (h d : ℕ) (K : List Frame) (vs : List Token) (a : Tree) (m : ℕ) →
    run 200 vs (Have a m (Inside (λ a. done (more e a)) h d 0 ∷ K)) ≡ run 200 vs (Have (more e a) (max h m) K)
folds_argument e h d K vs a m =
    run-inside 200 vs a m (λ a. done (more e a)) h d 0 K ∙ run-done 200 vs (more e a) (max h m) d 0 K
    ∙ ap (λ n. run 200 vs (Have (more e a) n K)) (add-zero (max h m))

not_closed : (ts : List Token) → (first_kind ts ≡ Sign RightParen → ⊥) → Unopened Arguments ts
not_closed [] f = tt
not_closed (t ∷ ts) f = unopened t.kind t.start f
  where
    unopened : (k : TokenKind) (p : ℕ) → (k ≡ Sign RightParen → ⊥) → opening Arguments k p ≡ None
    unopened (Sign RightParen) p g = absurd (g refl)
    unopened _ p g = refl

-- the first argument
module _ {ts : List Token} (d : ℕ) (f : first_kind ts ≡ Sign RightParen → ⊥) where
  pub Hands-first : {us : List Token} {h : ℕ} (e a : Expr) → a ≡ e → Leads ts Expression d us (tree_of e) h → Hands ts d us (a ∷ []) h
  Hands-first {h = h} e a i q = rw i (record {
    passes = λ K. record {
      stack = Inside (λ a. done (more (tree_of e) a)) h d 0 ∷ K;
      comes = run-arguments 200 ts d K (not_closed ts f) ∙ run-argument q K;
      folds = λ vs a m. folds_argument (tree_of e) h d K vs a m;
    };
  })

  pub Fails-argument : {x : TreeError} → Fails ts Expression d x → Fails ts Arguments d x
  Fails-argument {x = x} q = record {
    fails = λ K.
        EndsBy-at x
        (run-arguments 200 ts d K (not_closed ts f) ∙ ap (λ n. run 200 ts (Next arguments_of 0 n 0 K)) (add-zero d)
        ∙ run-part 200 ts Expression argument_of 0 d 0 K)
        (q.fails (Inside argument_of 0 d 0 ∷ K));
  }

passed-append : (es : List Expr) (e : Expr) (a : Tree) → passed (es ++ e ∷ []) a ≡ passed es (more (tree_of e) a)
passed-append [] e a = refl
passed-append (b ∷ es) e a = ap (λ c. more (tree_of b) c) (passed-append es e a)

-- behind arguments
module _ {ts us : List Token} {d h : ℕ} {es : List Expr} (g : Hands ts d us es h) {ws : List Token} {t : Token} (whole : us ≡ t ∷ ws) where
  comma_comes : first_kind us ≡ Sign Comma → d + 1 ≤ 200 → At us MoreArguments d ws arguments_of 0
  comma_comes q w = At-opens whole (opens_next q) d (omega arith)

  -- one more
  pub Hands-add : {vs : List Token} {k : ℕ} (e a : Expr) → a ≡ e → first_kind us ≡ Sign Comma → d + 1 ≤ 200 → Leads ws Expression d vs (tree_of e) k →
      Hands ts d vs (es ++ a ∷ []) (max h k)
  Hands-add {k = k} e b j i w q = rw j (record {
    passes = λ K.
        let l = g.passes K in
        record {
          stack = Inside (λ a. done (more (tree_of e) a)) k d 0 ∷ l.stack;
          comes = l.comes ∙ (comma_comes i w).comes l.stack ∙ run-argument q l.stack;
          folds = λ vs a m.
              folds_argument (tree_of e) k d l.stack vs a m ∙ l.folds vs (more (tree_of e) a) (max k m)
              ∙ ap (λ b. run 200 vs (Have b (max h (max k m)) K)) (sym (passed-append es e a))
              ∙ ap (λ n. run 200 vs (Have (passed (es ++ e ∷ []) a) n K)) (omega arith);
        };
  })

  pub Fails-added : {x : TreeError} → first_kind us ≡ Sign Comma → d + 1 ≤ 200 → Fails ws Expression d x → Fails ts Arguments d x
  Fails-added {x = x} i w q = record {
    fails = λ K.
        let l = g.passes K in
        EndsBy-at x
        (l.comes ∙ (comma_comes i w).comes l.stack ∙ ap (λ n. run 200 ws (Next arguments_of 0 n 0 l.stack)) (add-zero d)
        ∙ run-part 200 ws Expression argument_of 0 d 0 l.stack)
        (q.fails (Inside argument_of 0 d 0 ∷ l.stack));
  }

  -- the closing bracket
  pub Leads-passed : d ≤ 200 → t.kind ≡ Sign RightParen → Leads ts Arguments d ws (passed es none) h
  Leads-passed w q = record {
    comes = λ K.
        let l = g.passes K in
        l.comes ∙ (Leads-done (At-opens whole (opens_last (ap first_kind whole ∙ q)) d (omega arith))).comes l.stack
        ∙ l.folds ws none (0 + 0) ∙ ap (λ n. run 200 ws (Have (passed es none) n K)) (omega arith);
  }

  not_more : (k : TokenKind) (p : ℕ) → (k ≡ Sign Comma → ⊥) → (k ≡ Sign RightParen → ⊥) → opening MoreArguments k p ≡ None
  not_more (Sign Comma) p f h = absurd (f refl)
  not_more (Sign RightParen) p f h = absurd (h refl)
  not_more _ p f h = refl

  pub Fails-passed : (x : TreeError) → x ≡ Unexpected (first_start us) → (first_kind us ≡ Sign Comma → ⊥) → (t.kind ≡ Sign RightParen → ⊥) →
      Fails ts Arguments d x
  Fails-passed x j f n = record {
    fails = λ K.
        let l = g.passes K in
        let i = not_more t.kind t.start (λ q. f (ap first_kind whole ∙ q)) n in
        EndsBy-at x l.comes (rw (j, whole) (run-none 200 t ws (Want MoreArguments d l.stack) (rw i refl)));
  }

-- what was read in front of the closing bracket
pub IsGathered-passed : {ts us ws : List Token} {t : Token} {d h : ℕ} → IsRead ts us d h → us ≡ t ∷ ws → IsGathered ts ws d h
IsGathered-passed p e = let l = ap length e in record { shorter = omega (arith, p.behind.shorter, l); fits = p.fits }

pub IsGathered-unpassed : {ts us : List Token} {t : Token} (d : ℕ) → d ≤ 200 → ts ≡ t ∷ us → IsGathered ts us d 0
IsGathered-unpassed d w e = let l = ap length e in record { shorter = omega (arith, l); fits = omega arith }

-- one argument more was read
pub IsRead-add : {ts us ws vs : List Token} {t : Token} {d h k : ℕ} → IsRead ts us d h → us ≡ t ∷ ws → IsRead ws vs d k → IsRead ts vs d (max h k)
IsRead-add p e q = let l = ap length e in record {
  behind = record { shorter = omega (arith, p.behind.shorter, q.behind.shorter, l) };
  some = omega (arith, p.some);
  fits = omega (arith, p.fits, q.fits);
}

-- a move that takes too much nesting
abbrev TakesTooMuch : Option Move → Type 0
TakesTooMuch None = ⊥
TakesTooMuch (Some m) = 200 < m.need

run-too_much : (t : Token) (ts : List Token) (S : State) → TakesTooMuch (takes t S) → run 200 (t ∷ ts) S ≡ Refused true t.start
run-too_much t ts S q = by_move (takes t S) refl q
  where
    by_move : (o : Option Move) → takes t S ≡ o → TakesTooMuch o → run 200 (t ∷ ts) S ≡ Refused true t.start
    by_move None e q = absurd q
    by_move (Some m) e q = run-deep 200 t ts S m e q

-- Without room each token with which an expression begins takes too much nesting.
wants_room : (t : Token) (d : ℕ) (K : List Frame) → begins_expression t.kind ≡ true → 200 ≤ d → TakesTooMuch (expresses t d K)
wants_room t d K b w = by_kind t.kind refl b
  where
    more : (x : ℕ) → 200 < d + 1 + x
    more x = omega arith

    by_kind : (k : TokenKind) → t.kind ≡ k → begins_expression k ≡ true → TakesTooMuch (expresses t d K)
    by_kind (Key If) e b = rw e (more _)
    by_kind (Key Not) e b = rw e (more _)
    by_kind (Key True) e b = rw e (more _)
    by_kind (Key False) e b = rw e (more _)
    by_kind (Key Array) e b = rw e (more _)
    by_kind (Number v) e b = rw e (more _)
    by_kind (Name x) e b = rw e (more _)
    by_kind (Sign Minus) e b = rw e (more _)
    by_kind (Sign LeftParen) e b = rw e (more _)
    by_kind (Sign LeftBrace) e b = rw e (more _)
    by_kind _ e b = cc

wants_none : (t : Token) (d : ℕ) (K : List Frame) → begins_expression t.kind ≡ false → expresses t d K ≡ None
wants_none t d K b = by_kind t.kind refl b
  where
    by_kind : (k : TokenKind) → t.kind ≡ k → begins_expression k ≡ false → expresses t d K ≡ None
    by_kind (Key If) e b = cc
    by_kind (Key Not) e b = cc
    by_kind (Key True) e b = cc
    by_kind (Key False) e b = cc
    by_kind (Key Array) e b = cc
    by_kind (Number v) e b = cc
    by_kind (Name x) e b = cc
    by_kind (Sign Minus) e b = cc
    by_kind (Sign LeftParen) e b = cc
    by_kind (Sign LeftBrace) e b = cc
    by_kind _ e b = rw e refl

pub Fails-full : {ts : List Token} (d : ℕ) (x : TreeError) → EndsOnce ts → 200 ≤ d → (first_kind ts ≡ Sign RightParen → ⊥) →
    x ≡ no_room_at (begins_expression (first_kind ts)) (first_start ts) → Fails ts Arguments d x
Fails-full {ts = []} d x w h f j = absurd w
Fails-full {ts = t ∷ ts} d x w h f j = Fails-argument d f (record { fails = λ K. by_test (begins_expression t.kind) refl K })
  where
    by_test : (b : Bool) → begins_expression t.kind ≡ b → (K : List Frame) → EndsBy (run 200 (t ∷ ts) (Want Expression d K)) x
    by_test true b K = rw (j, b) (run-too_much t ts (Want Expression d K) (wants_room t d K b h))
    by_test false b K = rw (j, b) (run-none 200 t ts (Want Expression d K) (wants_none t d K b))
