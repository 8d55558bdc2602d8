-- How the readers' runs are put together in a block or a loop, statement by statement.
use Rattle.std.proofs.Common.{◌≡◌, ℕ, ◌+◌, ◌≤◌, max, inl, inr, None, List, [], ◌∷◌, ◌++◌, refl, sym, ap, ◌∙◌, subst, add-zero, arith}
use Rattle.id_text.specs.declared.token.Token.{Token}
use Rattle.id_text.specs.declared.token.TokenKind.{TokenKind}
use Rattle.id_text.specs.declared.token.TokenKind.TheVariants.{Name, Key, Sign}
use Rattle.id_text.specs.declared.token.Keyword.TheVariants as keyword
use Rattle.id_text.specs.declared.token.Symbol.TheVariants.{LeftBrace, RightBrace, LeftBracket}
use Rattle.id_grammar.specs.declared.phrase.Scope.{Scope}
use Rattle.id_grammar.specs.declared.phrase.Scope.TheVariants as scope
use Rattle.id_grammar.specs.declared.tokens.Word.{Word}
use Rattle.id_grammar.specs.declared.tokens.Word.TheVariants as the
use Rattle.id_grammar.specs.declared.tree.Stmt.{Stmt}
use Rattle.id_grammar.specs.declared.tree.TreeError.{TreeError}
use Rattle.id_grammar.specs.Tree.{Tree, stmt_tree, binding, next, none, more}
use Rattle.id_grammar.specs.Grammar.{Atom, Tail, Rest, done, name, part, with_statement, statement_of}
use Rattle.id_grammar.specs.Grammar.{assigned_of, last_of, block_of, loop_of, for_of, braces_of, Opens, by_braces}
use Rattle.id_grammar.specs.Grammar.{by_statement, by_next, by_body, by_last}
use Rattle.id_grammar.specs.Machine.{opening, Inside, Want, Have, name_in, run}
use Rattle.id_grammar.specs.Readers.{first_kind, second_kind, IsRead, IsGathered, Leads, Fails, BeginsWithName}
use Rattle.id_grammar.specs.Readers.{LacksName, Encloses, Exposes, Surrounds, Bares, onto, last_word, Adds, Gathers}
use Rattle.id_grammar.proofs.RunLemmas.{run-none, run-done, run-part, run-inside}
use Rattle.id_grammar.proofs.ReaderLemmas.{EndsBy-at, At, At-opens, At-chosen, At-left_out, At-enclosed, Fails-enclosed, Leads-done, Leads-at}

pub opens_braces : {k : TokenKind} {p : ℕ} → k ≡ Sign LeftBrace → Opens Atom k p (braces_of p)
opens_braces q = rw q by_braces

opens_statement : {k : TokenKind} {p : ℕ} (o : Scope) (x : List ℕ) → k ≡ Name x → Opens (Tail o) k p (assigned_of o x p)
opens_statement o x q = rw q by_statement

opens_next : {k : TokenKind} {p : ℕ} → k ≡ Key keyword.Next → Opens (Tail scope.Loop) k p (name (λ x q. statement_of scope.Loop (λ e. next x e p)))
opens_next q = rw q by_next

opens_last : {k : TokenKind} {p : ℕ} (o : Scope) → k ≡ Key (last_word o) → Opens (Tail o) k p last_of
opens_last scope.Block q = rw q by_body
opens_last scope.Loop q = rw q by_last

-- behind a brace comes the word `while`, the word `for`, or a block
module _ {ts us : List Token} {t : Token} {d : ℕ} (e : ts ≡ t ∷ us) (is : first_kind ts ≡ Sign LeftBrace) (w : d + 1 + 1 ≤ 200) where
  At-braces : At ts Atom d us (braces_of t.start) 0
  At-braces = At-opens e (opens_braces is) d w

  pub At-block : (second_kind ts ≡ Key keyword.While → ⊥) → (second_kind ts ≡ Key keyword.For → ⊥) → At ts Atom d us (block_of t.start) 0
  At-block f g = At-left_out (At-left_out At-braces (λ q. f (ap second_kind e ∙ q))) (λ q. g (ap second_kind e ∙ q))

  pub At-loop : {v : Token} {vs : List Token} → us ≡ v ∷ vs → second_kind ts ≡ Key keyword.While → At ts Atom d vs (loop_of t.start) 0
  At-loop i q = At-chosen At-braces i (ap second_kind (sym e) ∙ q)

  pub At-for : {v : Token} {vs : List Token} → us ≡ v ∷ vs → second_kind ts ≡ Key keyword.For → At ts Atom d vs (for_of t.start) 0
  At-for i q =
      let is_for = ap second_kind (sym e) ∙ q in
      At-chosen (At-left_out At-braces (λ r. not_while is_for r)) i is_for
    where
      not_while : {k : TokenKind} → k ≡ Key keyword.For → k ≡ Key keyword.While → ⊥
      not_while p r = cc

-- what is read in a tail is read in as many expressions as the tail
pub Encloses-tail : {ts us : List Token} {d h : ℕ} {w : Word} {e : Tree} → Encloses ts d w us e h → Encloses ts (d + 0) w us e h
Encloses-tail {ts = ts} {us = us} {d = d} {h = h} {w = w} {e = e} q = subst (λ k. Encloses ts k w us e h) (sym (add-zero d)) q

pub Exposes-tail : {ts : List Token} {d : ℕ} {w : Word} {x : TreeError} → Exposes ts d w x → Exposes ts (d + 0) w x
Exposes-tail {ts = ts} {d = d} {w = w} {x = x} q = subst (λ k. Exposes ts k w x) (sym (add-zero d)) q

pub Surrounds-tail : {ts us : List Token} {d h : ℕ} {v w : Word} {e : Tree} → Surrounds ts d v w us e h → Surrounds ts (d + 0) v w us e h
Surrounds-tail {ts = ts} {us = us} {d = d} {h = h} {v = v} {w = w} {e = e} q = subst (λ k. Surrounds ts k v w us e h) (sym (add-zero d)) q

pub Bares-tail : {ts : List Token} {d : ℕ} {v w : Word} {x : TreeError} → Bares ts d v w x → Bares ts (d + 0) v w x
Bares-tail {ts = ts} {d = d} {v = v} {w = w} {x = x} q = subst (λ k. Bares ts k v w x) (sym (add-zero d)) q

-- a binding or a store begins with a name
pub At-statement : {ts us : List Token} {x : List ℕ} {p : ℕ} (o : Scope) (d : ℕ) → d + 1 ≤ 200 → BeginsWithName ts x p us →
    At ts (Tail o) d us (assigned_of o x p) 0
At-statement {x = x} o d w q = rw (← q.place) (At-opens q.whole (opens_statement o x (ap first_kind q.whole ∙ q.kind)) d (omega arith))

-- behind that of a binding stands no bracket
pub At-binding : {ts us : List Token} {x : List ℕ} {p : ℕ} (o : Scope) (d : ℕ) → d + 1 ≤ 200 → BeginsWithName ts x p us →
    (first_kind us ≡ Sign LeftBracket → ⊥) →
    At ts (Tail o) d us (statement_of o (λ e. binding x e p)) 0
At-binding o d w q f = At-left_out (At-statement o d w q) f

-- a next statement begins with its word
pub At-next : {ts us : List Token} {t : Token} (d : ℕ) → d + 1 ≤ 200 → ts ≡ t ∷ us → first_kind ts ≡ Key keyword.Next →
    At ts (Tail scope.Loop) d us (name (λ x q. statement_of scope.Loop (λ e. next x e t.start))) 0
At-next d w e q = At-opens e (opens_next q) d (omega arith)

unopened : (o : Scope) (k : TokenKind) (p : ℕ) → name_in k ≡ None → (k ≡ Key (last_word o) → ⊥) →
    ((o ≡ scope.Loop) × (k ≡ Key keyword.Next) → ⊥) → opening (Tail o) k p ≡ None
unopened scope.Block (Name x) p q f g = cc
unopened scope.Block (Key keyword.In) p q f g = absurd (f refl)
unopened scope.Block _ p q f g = refl
unopened scope.Loop (Name x) p q f g = cc
unopened scope.Loop (Key keyword.Next) p q f g = absurd (g (refl, refl))
unopened scope.Loop (Key keyword.Finally) p q f g = absurd (f refl)
unopened scope.Loop _ p q f g = refl

-- neither a statement nor the last word comes
pub Fails-tail : {ts : List Token} {x : TreeError} (o : Scope) (d : ℕ) → (first_kind ts ≡ Key (last_word o) → ⊥) →
    ((o ≡ scope.Loop) × (first_kind ts ≡ Key keyword.Next) → ⊥) → LacksName ts x → Fails ts (Tail o) d x
Fails-tail o d f g (inl e) = rw e (record { fails = λ K. tt })
Fails-tail {ts = ts} o d f g (inr q) = record {
  fails = λ K.
      let i = unopened o q.token.kind q.token.start q.kind (λ e. f (ap first_kind q.whole ∙ e)) (λ e. g (e.0, ap first_kind q.whole ∙ e.1)) in
      rw (q.error, q.whole) (run-none 200 q.token q.behind (Want (Tail o) d K) (rw i refl));
}

-- behind a statement the tail is wanted again
pub Adds-done : {o : Scope} {ts us : List Token} {d h k : ℕ} {s r : Tree} → r ≡ s → k ≡ h →
    At ts (Tail o) d us (part (Tail o) (λ a. done (with_statement s a))) h → Adds ts o d us r k
Adds-done {o = o} {us = us} {d = d} {h = h} {s = s} i j p = rw (i, j) (record {
  comes = λ K.
      p.comes K ∙ run-part 200 us (Tail o) (λ a. done (with_statement s a)) h (d + 0) 0 K
      ∙ ap (λ n. run 200 us (Want (Tail o) n (Inside (λ a. done (with_statement s a)) h n 0 ∷ K))) (add-zero d);
})

onto-append : (ss : List Stmt) (s : Stmt) (a : Tree) → onto (ss ++ s ∷ []) a ≡ onto ss (more (stmt_tree s) a)
onto-append [] s a = refl
onto-append (r ∷ ss) s a = ap (λ b. more (stmt_tree r) b) (onto-append ss s a)

-- one statement more was read
pub IsGathered-add : {ts us vs : List Token} {d h k : ℕ} → IsGathered ts us d h → IsRead us vs d k → IsGathered ts vs d (max h k)
IsGathered-add p q = record { shorter = omega (arith, p.shorter, q.behind.shorter); fits = omega (arith, p.fits, q.fits) }

-- no statement yet
pub Gathers-none : (ts : List Token) (o : Scope) (d : ℕ) → Gathers ts o d ts [] 0
Gathers-none ts o d = record {
  stacks = λ K. record { stack = K; comes = refl; folds = λ vs a e m. ap (λ n. run 200 vs (Have (more a e) n K)) (omega arith) };
}

-- one statement more
pub Gathers-add : {ts us vs : List Token} {o : Scope} {d h k : ℕ} {ss : List Stmt} (s : Stmt) → Gathers ts o d us ss h → Adds us o d vs (stmt_tree s) k →
    Gathers ts o d vs (ss ++ s ∷ []) (max h k)
Gathers-add {d = d} {h = h} {k = k} {ss = ss} s g q = record {
  stacks = λ K.
      let t = g.stacks K in
      let f : Tree → Rest = λ a. done (with_statement (stmt_tree s) a) in
      record {
        stack = Inside f k d 0 ∷ t.stack;
        comes = t.comes ∙ q.comes t.stack;
        folds = λ us a e m.
            run-inside 200 us (more a e) m f k d 0 t.stack
            ∙ run-done 200 us (more (more (stmt_tree s) a) e) (max k m) d 0 t.stack
            ∙ t.folds us (more (stmt_tree s) a) e (max k m + 0)
            ∙ ap (λ b. run 200 us (Have (more b e) (max h (max k m + 0)) K)) (sym (onto-append ss s a))
            ∙ ap (λ n. run 200 us (Have (more (onto (ss ++ s ∷ []) a) e) n K)) (omega arith);
      };
}

-- a tail of which statements are taken ends as its last tail does
pub Fails-gathered : {ts us : List Token} {o : Scope} {d h : ℕ} {ss : List Stmt} {x : TreeError} → Gathers ts o d us ss h → Fails us (Tail o) d x →
    Fails ts (Tail o) d x
Fails-gathered {x = x} g q = record { fails = λ K. EndsBy-at x (g.stacks K).comes (q.fails (g.stacks K).stack) }

pub Leads-gathered : {ts us vs : List Token} {o : Scope} {d h m : ℕ} {ss : List Stmt} {a e : Tree} → Gathers ts o d us ss h →
    Leads us (Tail o) d vs (more a e) m → Leads ts (Tail o) d vs (more (onto ss a) e) (max h m)
Leads-gathered {vs = vs} {m = m} {a = a} {e = e} g q = record { comes = λ K. (g.stacks K).comes ∙ q.comes (g.stacks K).stack ∙ (g.stacks K).folds vs a e m }

-- the last tail is the last word, and the expression that gives the value
module _ {ts us : List Token} {t : Token} (o : Scope) (whole : ts ≡ t ∷ us) (is : first_kind ts ≡ Key (last_word o)) {d : ℕ} (room : d + 1 ≤ 200) where
  At-last : At ts (Tail o) d us last_of 0
  At-last = At-opens whole (opens_last o is) d (omega arith)

  pub Leads-last : {vs : List Token} {e : Tree} {m : ℕ} → Encloses us d (the.Sign RightBrace) vs e m → Leads ts (Tail o) d vs (more none e) m
  Leads-last q = Leads-at refl (omega arith) (Leads-done (At-enclosed At-last (Encloses-tail q)))

  pub Fails-last : {x : TreeError} → Exposes us d (the.Sign RightBrace) x → Fails ts (Tail o) d x
  Fails-last q = Fails-enclosed At-last (Exposes-tail q)
