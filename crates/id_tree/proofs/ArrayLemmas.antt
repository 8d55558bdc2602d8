-- How the readers' runs are put together in an array, a fetch and a store.
use Rattle.std.proofs.Common.{◌≡◌, ◌≢◌, ◌↔◌, IsTrue, Bool, true, false, ℕ, ℤ, ◌+◌, ◌≤◌, ◌<◌, max, None, List, [], ◌∷◌, refl, sym, ap, ◌∙◌}
use Rattle.std.proofs.Common.{subst, add-zero, arith, rules}
use Rattle.id_text.specs.Tokens.{EndsOnce}
use Rattle.id_text.specs.declared.token.Token.{Token}
use Rattle.id_text.specs.declared.token.TokenKind.{TokenKind}
use Rattle.id_text.specs.declared.token.TokenKind.TheVariants.{Name, Number, Key, Sign}
use Rattle.id_text.specs.declared.token.Keyword.TheVariants.{Array}
use Rattle.id_text.specs.declared.token.Symbol.TheVariants.{LeftBracket, RightBracket, Becomes, Semicolon, Minus}
use Rattle.id_grammar.specs.declared.phrase.Scope.{Scope}
use Rattle.id_grammar.specs.declared.tokens.Word.{Word}
use Rattle.id_grammar.specs.declared.tokens.Word.TheVariants as the
use Rattle.id_grammar.specs.declared.tree.TreeError.{TreeError}
use Rattle.id_grammar.specs.declared.tree.TreeError.TheVariants.{TooDeep}
use Rattle.id_grammar.specs.Tree as tree
use Rattle.id_grammar.specs.Tree.{Tree, fetch, binding, store}
use Rattle.id_grammar.specs.Grammar.{Phrase, Unary, Postfix, Atom, Tail, kind_of, Rest, done, word, part, sized, raised, enclosed}
use Rattle.id_grammar.specs.Grammar.{with_statement, statement_of, bounds_of, array_of, fetch_of, store_of, assigned_of, Opens, by_array}
use Rattle.id_grammar.specs.Machine.{opening, Frame, Target, Inside, Sizing, Want, Have, Next, Refused, run}
use Rattle.id_grammar.specs.Readers.{first_kind, first_start, Leads, Fails, Takes, Misses, BeginsWithName, Encloses}
use Rattle.id_grammar.specs.Readers.{Exposes, Surrounds, Bares, Adds, Assigns, Misassigns, Stores, Misstores, Indexes, Misindexes}
use Rattle.id_grammar.proofs.RunLemmas.{Unopened, run-bare, run-postfix, run-target, run-fetch, run-fetch-deep, run-chosen, run-done, run-part}
use Rattle.id_grammar.proofs.RunLemmas.{run-sized, run-sizing, run-lifted, run-lifted-deep, run-unlifted}
use Rattle.id_grammar.proofs.ReaderLemmas.{EndsBy-at, At, At-opens, At-chosen, At-left_out, first_of, no_word}
use Rattle.id_tree.proofs.BlockLemmas.{At-statement}

-- Arrays.
pub opens_array : {k : TokenKind} {p : ℕ} → k ≡ Key Array → Opens Atom k p (array_of p)
opens_array q = rw q by_array

pub At-array : {ts us : List Token} {t : Token} {d : ℕ} → ts ≡ t ∷ us → first_kind ts ≡ Key Array → d + 1 + 1 ≤ 200 → At ts Atom d us (array_of t.start) 0
At-array e q w = At-opens e (opens_array q) _ w

-- behind the word come the bounds, by whether the word comes again
pub At-bounds : {ts us vs : List Token} {t : Token} {d : ℕ} (b : Bool) → ts ≡ t ∷ us → first_kind ts ≡ Key Array → d + 1 + 1 ≤ 200 →
    (IsTrue b ↔ (first_kind us ≡ Key Array)) → (first_kind us ≡ Key Array → (u : Token) × (us ≡ u ∷ vs)) → (first_kind us ≢ Key Array → vs ≡ us) →
    At ts Atom d vs (bounds_of b t.start) 0
At-bounds {us = us} true e q w i f g =
    let is : first_kind us ≡ Key Array = search rules in
    At-chosen (At-array e q w) (f is).1 is
At-bounds {us = us} false e q w i f g =
    let is_not : first_kind us ≡ Key Array → ⊥ = search rules in
    rw (g is_not) (At-left_out (At-array e q w) is_not)

-- Without `-` an operand that may be a fetch is read.
no_minus : (ts : List Token) → (first_kind ts ≡ Sign Minus → ⊥) → Unopened Unary ts
no_minus [] f = tt
no_minus (t ∷ ts) f = unopened t.kind t.start f
  where
    unopened : (k : TokenKind) (p : ℕ) → (k ≡ Sign Minus → ⊥) → opening Unary k p ≡ None
    unopened (Sign Minus) p g = absurd (g refl)
    unopened _ p g = refl

module _ {ts : List Token} {d : ℕ} where
  pub Unary-leads : {vs : List Token} {a : Tree} {h : ℕ} → (first_kind ts ≡ Sign Minus → ⊥) → Leads ts Postfix d vs a h → Leads ts Unary d vs a h
  Unary-leads f q = record { comes = λ K. run-bare 200 ts d K (no_minus ts f) ∙ q.comes K }

  pub Unary-fails : {x : TreeError} → (first_kind ts ≡ Sign Minus → ⊥) → Fails ts Postfix d x → Fails ts Unary d x
  Unary-fails {x = x} f q = record { fails = λ K. EndsBy-at x (run-bare 200 ts d K (no_minus ts f)) (q.fails K) }

-- Fetches: what may be the target of one has come.
pub record Pointed (ts : List Token) (d : ℕ) (us : List Token) (e : Tree) (h : ℕ) : Type 0 where
  pub comes : (K : List Frame) → run 200 ts (Want Postfix d K) ≡ run 200 us (Have e h (Target d ∷ K))

module _ {ts us : List Token} {d h : ℕ} {e : Tree} where
  pub Pointed-atom : Leads ts Atom d us e h → Pointed ts d us e h
  Pointed-atom q = record { comes = λ K. run-postfix 200 ts d K ∙ q.comes (Target d ∷ K) }

  pub Pointed-fetch : {vs : List Token} {a : Tree} {m : ℕ} → Pointed ts d us e h → Indexes us d e h vs a m → Pointed ts d vs a m
  Pointed-fetch p q = record { comes = λ K. p.comes K ∙ q.comes K }

  pub Pointed-fails : {x : TreeError} → Pointed ts d us e h → Misindexes us d e h x → Fails ts Postfix d x
  Pointed-fails {x = x} p q = record { fails = λ K. EndsBy-at x (p.comes K) (q.fails K) }

  pub Pointed-ends : Pointed ts d us e h → (first_kind us ≡ Sign LeftBracket → ⊥) → Leads ts Postfix d us e h
  Pointed-ends p f = record { comes = λ K. p.comes K ∙ run-target 200 us e h d K (no_word (the.Sign LeftBracket) us f) }

  -- a number or a name alone
  pub Unary-number : (v : ℤ) → first_kind ts ≡ Number v → Leads ts Atom d us e h → (first_kind us ≡ Sign LeftBracket → ⊥) → Leads ts Unary d us e h
  Unary-number v is q f = Unary-leads (λ r. cc) (Pointed-ends (Pointed-atom q) f)

  pub Unary-name : (x : List ℕ) → first_kind ts ≡ Name x → Leads ts Atom d us e h → (first_kind us ≡ Sign LeftBracket → ⊥) → Leads ts Unary d us e h
  Unary-name x is q f = Unary-leads (λ r. cc) (Pointed-ends (Pointed-atom q) f)

pub Postfix-fails : {ts : List Token} {d : ℕ} {x : TreeError} → Fails ts Atom d x → Fails ts Postfix d x
Postfix-fails {ts = ts} {d = d} {x = x} q = record { fails = λ K. EndsBy-at x (run-postfix 200 ts d K) (q.fails (Target d ∷ K)) }

-- a fetch that takes too much nesting
pub Fetch-deep : {ts : List Token} → EndsOnce ts → first_kind ts ≡ Sign LeftBracket → (d : ℕ) (a : Tree) (m : ℕ) (x : TreeError) →
    x ≡ TooDeep (first_start ts) → 200 < d + m + 1 → Misindexes ts d a m x
Fetch-deep {ts = []} w q d a m x j h = absurd w
Fetch-deep {ts = t ∷ us} w q d a m x j h = record { fails = λ K. rw j (run-fetch-deep 200 t us a m d K q h) }

-- the bracket and the index of a fetch
module _ {ts us : List Token} {t : Token} (e : ts ≡ t ∷ us) (is : first_kind ts ≡ Sign LeftBracket) (d : ℕ) (a : Tree) (m : ℕ) (w : d + m + 1 ≤ 200) where
  index_comes : (K : List Frame) → run 200 ts (Have a m (Target d ∷ K)) ≡ run 200 us (Next (fetch_of a t.start) m (d + 1) 1 (Target d ∷ K))
  index_comes K = rw e (run-fetch 200 t us a m d K (first_of e is) w)

  pub Fetch-fails : {x : TreeError} → Exposes us (d + 1) (the.Sign RightBracket) x → Misindexes ts d a m x
  Fetch-fails {x = x} q = record { fails = λ K. EndsBy-at x (index_comes K) (q.fails (λ i. done (fetch a i t.start)) m 1 (Target d ∷ K)) }

  pub Fetch-indexes : {vs : List Token} {i f : Tree} {k h : ℕ} → Encloses us (d + 1) (the.Sign RightBracket) vs i k →
      f ≡ fetch a i t.start → h ≡ max m k + 1 → Indexes ts d a m vs f h
  Fetch-indexes {vs = vs} {i = i} {k = k} q u v = rw (u, v) (record {
    comes = λ K.
        index_comes K ∙ q.comes (λ i. done (fetch a i t.start)) m 1 (Target d ∷ K)
        ∙ run-done 200 vs (fetch a i t.start) (max m k) (d + 1) 1 (Target d ∷ K);
  })

-- Stores: from behind the name the run has come to what is left of the statement.
pub record Behind (ts : List Token) (o : Scope) (d : ℕ) (x : List ℕ) (p : ℕ) (us : List Token) (r : Rest) (h : ℕ) : Type 0 where
  pub comes : (K : List Frame) → run 200 ts (Next (assigned_of o x p) 0 (d + 0) 0 K) ≡ run 200 us (Next r h (d + 0) 0 K)

-- the bracket comes
pub Behind-bracket : {ts us : List Token} {t : Token} (o : Scope) (d : ℕ) (x : List ℕ) (p : ℕ) → ts ≡ t ∷ us → first_kind ts ≡ Sign LeftBracket →
    Behind ts o d x p us (store_of o (tree.name x p) t.start) 0
Behind-bracket {us = us} {t = t} o d x p e q = record {
  comes = λ K.
      rw e (run-chosen 200 t us (the.Sign LeftBracket) (λ s. store_of o (tree.name x p) s)
      (statement_of o (λ e. binding x e p)) 0 (d + 0) 0 K (first_of e q));
}

module _ {ts us : List Token} {o : Scope} {d : ℕ} {x : List ℕ} {p h : ℕ} where
  pub Behind-word : {w : Word} {r : Rest} {vs : List Token} → Behind ts o d x p us (word w r) h → Takes (word w) us vs → Behind ts o d x p vs r h
  Behind-word {r = r} b q = record { comes = λ K. b.comes K ∙ q.comes r h (d + 0) 0 K }

  pub Misassigns-word : {w : Word} {r : Rest} {y : TreeError} → Behind ts o d x p us (word w r) h → Misses (word w) us y → Misassigns ts o d x p y
  Misassigns-word {r = r} {y = y} b q = record { fails = λ K. EndsBy-at y (b.comes K) (q.fails r h (d + 0) 0 K) }

  pub Behind-enclosed : {w : Word} {f : Tree → Rest} {vs : List Token} {a : Tree} {m : ℕ} →
      Behind ts o d x p us (enclosed w f) h → Encloses us (d + 0) w vs a m → Behind ts o d x p vs (f a) (max h m)
  Behind-enclosed {f = f} b q = record { comes = λ K. b.comes K ∙ q.comes f h 0 K }

  pub Misassigns-enclosed : {w : Word} {f : Tree → Rest} {y : TreeError} →
      Behind ts o d x p us (enclosed w f) h → Exposes us (d + 0) w y → Misassigns ts o d x p y
  Misassigns-enclosed {f = f} {y = y} b q = record { fails = λ K. EndsBy-at y (b.comes K) (q.fails f h 0 K) }

  -- a part whose height is asked for
  pub Behind-sized : {i : Phrase} {f : Tree → ℕ → Rest} {vs : List Token} {a : Tree} {m : ℕ} →
      Behind ts o d x p us (sized i f) h → Leads us i d vs a m → Behind ts o d x p vs (f a m) (max h m)
  Behind-sized {i = i} {f = f} {vs = vs} {a = a} {m = m} b q =
      let there : Leads us i (d + 0) vs a m = subst (λ k. Leads us i k vs a m) (sym (add-zero d)) q in
      record {
        comes = λ K.
            b.comes K ∙ run-sized 200 us i f h (d + 0) 0 K ∙ there.comes (Sizing f h (d + 0) 0 ∷ K)
            ∙ run-sizing 200 vs a m f h (d + 0) 0 K;
      }

  pub Misassigns-sized : {i : Phrase} {f : Tree → ℕ → Rest} {y : TreeError} →
      Behind ts o d x p us (sized i f) h → Fails us i d y → Misassigns ts o d x p y
  Misassigns-sized {i = i} {f = f} {y = y} b q =
      let there : Fails us i (d + 0) y = subst (λ k. Fails us i k y) (sym (add-zero d)) q in
      record { fails = λ K. EndsBy-at y (b.comes K ∙ run-sized 200 us i f h (d + 0) 0 K) (there.fails (Sizing f h (d + 0) 0 ∷ K)) }

  -- a word by which what stands before it becomes a part of an expression, which comes or does not
  module _ {m : ℕ} {w : Word} {r : ℕ → Rest} {q : Rest} (b : Behind ts o d x p us (raised m w r q) h) where
    pub Behind-lifted : {t : Token} {vs : List Token} → us ≡ t ∷ vs → first_kind us ≡ kind_of w → d + m + 1 ≤ 200 →
        Behind ts o d x p vs (r t.start) (max h (m + 1))
    Behind-lifted {t = t} {vs = vs} e is fits =
        let room : d + 0 + m + 1 ≤ 200 = omega (arith, fits) in
        record { comes = λ K. b.comes K ∙ rw e (run-lifted 200 t vs m w r q h (d + 0) 0 K (first_of e is) room) }

    pub Misassigns-deep : {y : TreeError} → EndsOnce us → first_kind us ≡ kind_of w → y ≡ TooDeep (first_start us) → 200 < d + m + 1 →
        Misassigns ts o d x p y
    Misassigns-deep {y = y} ends is j deep =
        rw j (record { fails = λ K. EndsBy-at (TooDeep (first_start us)) (b.comes K) (lifted_deep us ends is (omega (arith, deep)) K) })
      where
        lifted_deep : (vs : List Token) → EndsOnce vs → first_kind vs ≡ kind_of w → 200 < d + 0 + m + 1 → (K : List Frame) →
            run 200 vs (Next (raised m w r q) h (d + 0) 0 K) ≡ Refused true (first_start vs)
        lifted_deep [] v i k K = absurd v
        lifted_deep (t ∷ vs) v i k K = run-lifted-deep 200 t vs m w r q h (d + 0) 0 K i k

    pub Behind-unlifted : (first_kind us ≡ kind_of w → ⊥) → Behind ts o d x p us q h
    Behind-unlifted f = record { comes = λ K. b.comes K ∙ run-unlifted 200 us m w r q h (d + 0) 0 K (no_word w us f) }

  -- the rest of a store, whose target and height are as the reader has them
  module _ {a e i : Tree} {s k : ℕ} (is : e ≡ a) (high : k ≡ h) (b : Behind ts o d x p us (statement_of o (λ v. store a i v s)) h) where
    pub Assigns-stored : {vs : List Token} {r : Tree} {n : ℕ} → Stores us o d e i s k vs r n → Assigns ts o d x p vs r n
    Assigns-stored {vs = vs} {r = r} {n = n} q =
        let there : Stores us o d a i s h vs r n = subst (λ j. Stores us o d a i s j vs r n) high (subst (λ t. Stores us o d t i s k vs r n) is q) in
        record { comes = λ K. b.comes K ∙ there.comes K }

    pub Misassigns-stored : {y : TreeError} → Misstores us o d e i s k y → Misassigns ts o d x p y
    Misassigns-stored {y = y} q =
        let there : Misstores us o d a i s h y = subst (λ j. Misstores us o d a i s j y) high (subst (λ t. Misstores us o d t i s k y) is q) in
        record { fails = λ K. EndsBy-at y (b.comes K) (there.fails K) }

-- the rest of a store, from behind the `]` of its index
module _ {ts : List Token} {d : ℕ} (a i : Tree) (p m : ℕ) where
  pub Stores-done : {us : List Token} {v s : Tree} {k h : ℕ} → Surrounds ts (d + 0) (the.Sign Becomes) (the.Sign Semicolon) us v k →
      s ≡ store a i v p → h ≡ max m k → (o : Scope) → Stores ts o d a i p m us s h
  Stores-done {us = us} {v = v} {k = k} q e f o = rw (e, f) (record {
    comes = λ K.
        q.comes (λ e. part (Tail o) (λ b. done (with_statement (store a i e p) b))) m 0 K
        ∙ run-part 200 us (Tail o) (λ b. done (with_statement (store a i v p) b)) (max m k) (d + 0) 0 K
        ∙ ap (λ n. run 200 us (Want (Tail o) n (Inside (λ b. done (with_statement (store a i v p) b)) (max m k) n 0 ∷ K))) (add-zero d);
  })

  pub Misstores-value : {y : TreeError} → Bares ts (d + 0) (the.Sign Becomes) (the.Sign Semicolon) y → (o : Scope) → Misstores ts o d a i p m y
  Misstores-value q o = record { fails = λ K. q.fails (λ e. part (Tail o) (λ b. done (with_statement (store a i e p) b))) m 0 K }

-- a statement from its name on
module _ {ts us : List Token} {x : List ℕ} {p : ℕ} (o : Scope) (d : ℕ) (room : d + 1 ≤ 200) (named : BeginsWithName ts x p us) where
  pub Adds-assigned : {vs : List Token} {s : Tree} {h : ℕ} → Assigns us o d x p vs s h → Adds ts o d vs s h
  Adds-assigned q = record { comes = λ K. (At-statement o d room named).comes K ∙ q.comes K }

  pub Fails-assigned : {y : TreeError} → Misassigns us o d x p y → Fails ts (Tail o) d y
  Fails-assigned {y = y} q = record { fails = λ K. EndsBy-at y ((At-statement o d room named).comes K) (q.fails K) }
