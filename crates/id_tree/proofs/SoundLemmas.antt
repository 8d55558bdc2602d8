-- A step of the machine keeps that the tokens so far begin a program.
use Rattle.std.proofs.Common.{◌≡◌, ℕ, ◌+◌, ◌≤◌, max, Bool, true, false, cond, Option, Some, None, List, [], ◌∷◌, ◌++◌}
use Rattle.std.proofs.Common.{refl, sym, ap, ◌∙◌, subst, append_assoc, append-nil, arith, zero-le}
use Rattle.id_text.specs.declared.token.Token.{Token}
use Rattle.id_text.specs.declared.token.TokenKind.{TokenKind}
use Rattle.id_text.specs.declared.token.TokenKind.TheVariants.{Name, End}
use Rattle.id_text.specs.declared.token.Symbol.TheVariants.{LeftBracket}
use Rattle.id_grammar.specs.declared.tokens.Word.TheVariants as the
use Rattle.id_grammar.specs.declared.phrase.Level.{Level}
use Rattle.id_grammar.specs.declared.phrase.Level.TheVariants as level
use Rattle.id_grammar.specs.Tree.{Tree, binary, none, more}
use Rattle.id_grammar.specs.Grammar.{sized, raised, measured, lifted, unlifted}
use Rattle.id_grammar.specs.Grammar.{Phrase, Definition, Parameters, MoreParameters, Expression, Grouped, Negation}
use Rattle.id_grammar.specs.Grammar.{Unary, Postfix, Atom, Arguments, MoreArguments, Tail, argument_of, Rest, done, word}
use Rattle.id_grammar.specs.Grammar.{either, name, of_kind, part, kind_named, operand, left_operand, operator_of}
use Rattle.id_grammar.specs.Grammar.{own_height, Derives, opened, unconditional, single, grouped, plain, bare, atomic}
use Rattle.id_grammar.specs.Grammar.{fetched, some_arguments, ended, taken, chosen, left_out, named, kinded, given}
use Rattle.id_grammar.specs.Grammar.{Program, empty, defined}
use Rattle.id_grammar.specs.Machine.{opening, Move, pick, is_word, name_in, ahead, ends, defines, enters, points}
use Rattle.id_grammar.specs.Machine.{multiplies, sums, negates, expresses, wants, operates, repeats, indexes, nexts}
use Rattle.id_grammar.specs.Machine.{closes, takes, Frame, Left, Inside, Outer, State}
use Rattle.id_grammar.specs.Standing.{sizing, Begins, Defined, Roomy, Around, outermost, unconditionally, left, right, plainly}
use Rattle.id_grammar.specs.Standing.{barely, target, atomically, inside, Stands, begun, wanting, having, within}
use Rattle.id_grammar.specs.Standing.{finished}
use Rattle.id_grammar.proofs.RowLemmas.{valid, least-most, left_operand-least, Derives-height}
use Rattle.id_grammar.proofs.RowLemmas.{same-is_word}
use Rattle.id_tree.proofs.CompleteLemmas.{ahead-append}

-- a move within n leads on
abbrev pub Moves : ℕ → List Token → Option Move → Type 0
Moves n us None = Unit {0}
Moves n us (Some m) = m.need ≤ n → Stands n m.next us

Moves-pick : {A : Type 0} (n : ℕ) (us : List Token) (o : Option A) (f : A → Option Move) (d : Option Move) → ((a : A) → o ≡ Some a → Moves n us (f a)) →
    Moves n us d → Moves n us (pick o f d)
Moves-pick n us None f d p q = q
Moves-pick n us (Some a) f d p q = p a refl

Moves-cond : (n : ℕ) (us : List Token) (b : Bool) (x : Option Move) → (b ≡ true → Moves n us x) → Moves n us (cond b x None)
Moves-cond n us true x p = p refl
Moves-cond n us false x p = tt

Moves-if : (n : ℕ) (us : List Token) (b : Bool) (x y : Option Move) → (b ≡ true → Moves n us x) → Moves n us y → Moves n us (cond b x y)
Moves-if n us true x y p q = p refl
Moves-if n us false x y p q = q

Moves-at : (n : ℕ) {us vs : List Token} (o : Option Move) → us ≡ vs → Moves n us o → Moves n vs o
Moves-at n o e h = subst (λ xs. Moves n xs o) e h

Stands-at : {n : ℕ} {S : State} {us vs : List Token} → us ≡ vs → Stands n S us → Stands n S vs
Stands-at {n = n} {S = S} e h = subst (λ xs. Stands n S xs) e h

Derives-at : {s : Phrase} {us vs : List Token} {e : Tree} {h : ℕ} → us ≡ vs → Derives s us e h → Derives s vs e h
Derives-at {s = s} {e = e} {h = h} q d = subst (λ xs. Derives s xs e h) q d

Derives-of : {s : Phrase} {us : List Token} {e : Tree} {h k : ℕ} → h ≡ k → Derives s us e h → Derives s us e k
Derives-of {s = s} {us = us} {e = e} q d = subst (λ m. Derives s us e m) q d

-- a token is put behind a list
snoc-at : (vs ts : List Token) (t : Token) → (vs ++ t ∷ []) ++ ts ≡ vs ++ t ∷ ts
snoc-at vs ts t = append_assoc vs (t ∷ []) ts

name-from_in : (k : TokenKind) (x : List ℕ) → name_in k ≡ Some x → k ≡ Name x
name-from_in (Name y) x q = cc
name-from_in _ x q = cc

-- an operand of a level may stand before an operator of it
first_operand : (l : Level) {ts : List Token} {e : Tree} {h : ℕ} → Derives (operand l) ts e h → Derives (left_operand l) ts e h
first_operand level.Or x = single x
first_operand level.And x = single x
first_operand level.Comparison x = x
first_operand level.Sum x = single x
first_operand level.Product x = single x

-- what stands round a part has room for the expressions round it
Around-fits : {n : ℕ} {s : Phrase} {d : ℕ} {K : List Frame} {us : List Token} → Around n s d K us → d ≤ n
Around-fits (outermost p v) = zero-le
Around-fits (unconditionally a) = Around-fits a
Around-fits (left a) = Around-fits a
Around-fits (right a x t q fit) = omega arith
Around-fits (plainly a) = Around-fits a
Around-fits (barely a) = Around-fits a
Around-fits (target a) = Around-fits a
Around-fits (atomically a) = Around-fits a
Around-fits (inside a b fit roomy) = omega arith
Around-fits (sizing a b fit roomy) = omega arith

Around-at : {n : ℕ} {s : Phrase} {d : ℕ} {K : List Frame} {us vs : List Token} → us ≡ vs → Around n s d K us → Around n s d K vs
Around-at {n = n} {s = s} {d = d} {K = K} q a = subst (λ xs. Around n s d K xs) q a

-- round the first argument stand those behind it
Around-argument : {n d : ℕ} {K : List Frame} {us : List Token} → Around n Arguments d K us → Around n Expression (d + 0) (Inside argument_of 0 (d + 0) 0 ∷ K) us
Around-argument {us = us} a = Around-at (append-nil us)
    (inside a (record { completes = λ ts e m f. Derives-of (omega arith) (some_arguments f) }) (omega (arith, Around-fits a))
    (λ e. (omega (arith, Around-fits a), λ b. tt)))

Program-of : {us vs : List Token} {e f : Tree} {h k : ℕ} → us ≡ vs → e ≡ f → h ≡ k → Program us e h → Program vs f k
Program-of p q r x = rw (← p, ← q, ← r) x

-- one definition more
Defined-add : {ds : List Tree} {us vs : List Token} {e : Tree} {h k : ℕ} → Defined ds us h → Derives Definition vs e k →
    Defined (ds ++ e ∷ []) (us ++ vs) (max h k)
Defined-add {ds = ds} {us = us} {vs = vs} {e = e} {h = h} {k = k} p x = record {
  completes = λ ts f m q. Program-of (sym (append_assoc us vs ts)) (sym (ahead-append ds e f)) (omega arith)
      (p.completes (vs ++ ts) (more e f) (max k m) (defined x q));
}

-- no definition yet
pub Defined-none : Defined [] [] 0
Defined-none = record { completes = λ ts e m q. Program-of refl refl (omega arith) q }

module _ (n : ℕ) (t : Token) where
  -- a token begins a production, or else moves
  Moves-enters : {s : Phrase} {d : ℕ} {K : List Frame} {us : List Token} (other : Option Move) → Around n s d K us → Moves n (us ++ t ∷ []) other →
      Moves n (us ++ t ∷ []) (enters t s d K other)
  Moves-enters {s = s} {d = d} {K = K} {us = us} other a other_moves = Moves-pick n (us ++ t ∷ []) (opening s t.kind t.start) _ other (λ row q fits.
      within a (record { completes = λ ts e m f. Derives-of (omega arith) (opened row.opens f) }) (omega arith)
      ((valid row.opens).roomy n (d + own_height s) fits)) other_moves

  Moves-points : {d : ℕ} {K : List Frame} {us : List Token} → Around n Postfix d K us → Moves n (us ++ t ∷ []) (points t d K)
  Moves-points a = Moves-enters None (atomically (target a)) tt

  Moves-multiplies : {d : ℕ} {K : List Frame} {us : List Token} → Around n Unary d K us → Moves n (us ++ t ∷ []) (multiplies t d K)
  Moves-multiplies {d = d} {K = K} a = Moves-enters (points t d K) a (Moves-points (barely a))

  Moves-sums : {d : ℕ} {K : List Frame} {us : List Token} → Around n (Grouped level.Sum) d K us → Moves n (us ++ t ∷ []) (sums t d K)
  Moves-sums a = Moves-multiplies (left (left a))

  Moves-negates : {d : ℕ} {K : List Frame} {us : List Token} → Around n Negation d K us → Moves n (us ++ t ∷ []) (negates t d K)
  Moves-negates {d = d} {K = K} a = Moves-enters (sums t d (Left level.Comparison d ∷ K)) a (Moves-sums (left (plainly a)))

  Moves-expresses : {d : ℕ} {K : List Frame} {us : List Token} → Around n Expression d K us → Moves n (us ++ t ∷ []) (expresses t d K)
  Moves-expresses {d = d} {K = K} a =
      Moves-enters (negates t d (Left level.And d ∷ Left level.Or d ∷ K)) a (Moves-negates (left (left (unconditionally a))))

  Moves-wants : {s : Phrase} {d : ℕ} {K : List Frame} {us : List Token} → Around n s d K us → Moves n (us ++ t ∷ []) (wants t s d K)
  Moves-wants {s = Definition} a = Moves-enters None a tt
  Moves-wants {s = Parameters} a = Moves-enters None a tt
  Moves-wants {s = MoreParameters} a = Moves-enters None a tt
  Moves-wants {s = Unary} a = Moves-multiplies a
  Moves-wants {s = Postfix} a = Moves-points a
  Moves-wants {s = Atom} a = Moves-enters None a tt
  Moves-wants {s = Tail o} a = Moves-enters None a tt
  Moves-wants {s = Expression} a = Moves-expresses a
  Moves-wants {s = Arguments} {d = d} {K = K} a =
      Moves-enters (expresses t (d + 0) (Inside argument_of 0 (d + 0) 0 ∷ K)) a (Moves-expresses (Around-argument a))
  Moves-wants {s = MoreArguments} a = Moves-enters None a tt
  Moves-wants {s = Negation} a = Moves-negates a
  Moves-wants {s = Grouped level.Product} a = Moves-multiplies (left a)
  Moves-wants {s = Grouped level.Comparison} a = Moves-sums (left a)
  Moves-wants {s = Grouped level.Sum} a = Moves-sums a
  Moves-wants {s = Grouped level.And} a = Moves-negates (left a)
  Moves-wants {s = Grouped level.Or} a = Moves-negates (left (left a))

  -- an operator of a level, or what the level's end makes
  Moves-operates : {l : Level} {d h : ℕ} {K : List Frame} {us vs : List Token} {e : Tree} (other : Option Move) → Around n (Grouped l) d K us →
      Derives (left_operand l) vs e h → Moves n ((us ++ vs) ++ t ∷ []) other → Moves n ((us ++ vs) ++ t ∷ []) (operates t e h l d K other)
  Moves-operates {l = l} {d = d} {h = h} {K = K} {us = us} {vs = vs} {e = e} other a x other_moves = Moves-pick n _ (operator_of l t.kind) _ other (λ o q fits.
      Stands-at (sym (append_assoc us vs (t ∷ [])))
      (wanting (right a x t q fits) (omega (arith, least-most (operand l), left_operand-least l, Derives-height x)))) other_moves

  -- another operator of a level, or what the level's end makes
  Moves-repeats : (l : Level) {d h : ℕ} {K : List Frame} {us vs : List Token} {e : Tree} (other : Option Move) → Around n (Grouped l) d K us →
      Derives (Grouped l) vs e h → Moves n ((us ++ vs) ++ t ∷ []) other → Moves n ((us ++ vs) ++ t ∷ []) (repeats t e h l d K other)
  Moves-repeats level.Or other a x q = Moves-operates other a x q
  Moves-repeats level.And other a x q = Moves-operates other a x q
  Moves-repeats level.Comparison other a x q = q
  Moves-repeats level.Sum other a x q = Moves-operates other a x q
  Moves-repeats level.Product other a x q = Moves-operates other a x q

  -- the bracket of a fetch, or what the end of its target makes
  Moves-indexes : {d h : ℕ} {K : List Frame} {us vs : List Token} {e : Tree} (other : Option Move) → Around n Postfix d K us →
      Derives Postfix vs e h → Moves n ((us ++ vs) ++ t ∷ []) other → Moves n ((us ++ vs) ++ t ∷ []) (indexes t e h d K other)
  Moves-indexes {h = h} {us = us} {vs = vs} {e = e} other a x other_moves = Moves-if n _ (is_word (the.Sign LeftBracket) t.kind) _ other (λ q fits.
      Stands-at (sym (append_assoc us vs (t ∷ [])))
      (within (target a) (record { completes = λ ts f m g. Derives-at (sym (snoc-at vs ts t)) (fetched x t (same-is_word (the.Sign LeftBracket) t.kind q) g) })
      (omega arith) (omega (arith, Derives-height x), λ i. tt))) other_moves

  Moves-ends : (us : List Token) (e : Tree) (h : ℕ) (k : TokenKind) → (k ≡ End → Program us e h) → h ≤ n → Moves n us (ends k e)
  Moves-ends us e h End p w = λ fits. finished (p refl) w
  Moves-ends us e h _ p w = tt

  -- a token in a production
  Moves-nexts : {s : Phrase} {d : ℕ} {K : List Frame} {us vs : List Token} (r : Rest) (h : ℕ) (close : Tree → ℕ → Option Move) →
      Around n s d K us → Begins s vs r h → d + own_height s + h ≤ n → Roomy n (d + own_height s) r →
      ((ws : List Token) (e : Tree) (k : ℕ) → Derives s ws e k → d + k ≤ n → Moves n ((us ++ ws) ++ t ∷ []) (close e k)) →
      Moves n ((us ++ vs) ++ t ∷ []) (nexts t r h (d + own_height s) (own_height s) K close)
  Moves-nexts {s = s} {vs = vs} (done e) h close a b w roomy closing =
      closing vs e (h + own_height s) (Derives-at (append-nil vs) (Derives-of (omega arith) (b.completes [] e 0 ended))) (omega arith)
  Moves-nexts {s = s} {us = us} {vs = vs} (word v r) h close a b w roomy closing = Moves-cond n _ (is_word v t.kind) _ (λ q fits.
      Stands-at (sym (append_assoc us vs (t ∷ [])))
      (within a (record { completes = λ ts e m f. Derives-at (sym (snoc-at vs ts t)) (b.completes (t ∷ ts) e m (taken (same-is_word v t.kind q) f)) }) w roomy))
  Moves-nexts {s = s} {us = us} {vs = vs} (name g) h close a b w roomy closing = Moves-pick n _ (name_in t.kind) _ None (λ x q fits.
      Stands-at (sym (append_assoc us vs (t ∷ [])))
      (within a (record { completes = λ ts e m f. Derives-at (sym (snoc-at vs ts t)) (b.completes (t ∷ ts) e m (named (name-from_in t.kind x q) f)) }) w
      (roomy x t.start))) tt
  Moves-nexts {s = s} {us = us} {vs = vs} (of_kind g) h close a b w roomy closing = Moves-pick n _ (kind_named t.kind) _ None (λ k q fits.
      Stands-at (sym (append_assoc us vs (t ∷ [])))
      (within a (record { completes = λ ts e m f. Derives-at (sym (snoc-at vs ts t)) (b.completes (t ∷ ts) e m (kinded q f)) }) w (roomy k))) tt
  Moves-nexts {s = s} {d = d} {K = K} {us = us} {vs = vs} (either v r o) h close a b w roomy closing =
      Moves-if n _ (is_word v t.kind) _ (nexts t o h (d + own_height s) (own_height s) K close)
      (λ q fits.
      Stands-at (sym (append_assoc us vs (t ∷ [])))
      (within a (record { completes = λ ts f m g. Derives-at (sym (snoc-at vs ts t)) (b.completes (t ∷ ts) f m (chosen (same-is_word v t.kind q) g)) }) w
      (roomy.0 t.start)))
      (Moves-nexts o h close a (record { completes = λ ts f m g. b.completes ts f m (left_out g) }) w roomy.1 closing)
  Moves-nexts (part i g) h close a b w roomy closing = Moves-wants (inside a b w roomy.1)
  Moves-nexts (sized i g) h close a b w roomy closing = Moves-wants (sizing a b w roomy.1)
  Moves-nexts {s = s} {d = d} {K = K} {us = us} {vs = vs} (raised j v r o) h close a b w roomy closing =
      Moves-if n _ (is_word v t.kind) _ (nexts t o h (d + own_height s) (own_height s) K close)
      (λ q fits.
      Stands-at (sym (append_assoc us vs (t ∷ [])))
      (within a (record {
        completes = λ ts f m g. Derives-at (sym (snoc-at vs ts t))
            (Derives-of (omega arith) (b.completes (t ∷ ts) f (max (j + 1) m) (lifted (same-is_word v t.kind q) g)));
      }) (omega (arith, fits)) (roomy.0 t.start)))
      (Moves-nexts o h close a (record { completes = λ ts f m g. b.completes ts f m (unlifted g) }) w roomy.1 closing)

  -- a token behind definitions
  Moves-defines : {ds : List Tree} {us : List Token} {h : ℕ} → Defined ds us h → h ≤ n → Moves n (us ++ t ∷ []) (defines t ds)
  Moves-defines {ds = ds} {us = us} {h = h} p w = Moves-pick n (us ++ t ∷ []) (wants t Definition 0 (Outer ds ∷ [])) (λ m. Some m) (ends t.kind (ahead ds none))
      (λ m q. subst (λ o. Moves n (us ++ t ∷ []) o) q (Moves-wants (outermost p w)))
      (Moves-ends (us ++ t ∷ []) (ahead ds none) (max h 0) t.kind (λ q. p.completes (t ∷ []) none 0 (empty q)) (omega arith))

  -- a token behind a part
  Moves-closes : {s : Phrase} {d : ℕ} {K : List Frame} {us : List Token} → Around n s d K us →
      (vs : List Token) (e : Tree) (h : ℕ) → Derives s vs e h → d + h ≤ n → Moves n ((us ++ vs) ++ t ∷ []) (closes t e h K)
  Moves-closes (outermost p v) vs e h x w = Moves-defines (Defined-add p x) (omega arith)
  Moves-closes (left {l = l} {d = d} {K = K} a) vs e h x w = Moves-operates (closes t e h K) a (first_operand l x) (Moves-closes a vs e h (single x) w)
  Moves-closes (right {l = l} {d = d} {m = m} {K = K} {us = us} {vs = vs} {o = o} {a = b} a y i q fit) ws e k x w =
      let whole = grouped y i q x in
      Moves-at n (repeats t (binary o b e i.start) (max m k + 1) l d K (closes t (binary o b e i.start) (max m k + 1) K))
      (ap (λ xs. xs ++ t ∷ []) (ap (λ xs. us ++ xs) (sym (snoc-at vs ws i)) ∙ sym (append_assoc us (vs ++ i ∷ []) ws)))
      (Moves-repeats l (closes t (binary o b e i.start) (max m k + 1) K) a whole
      (Moves-closes a (vs ++ i ∷ ws) (binary o b e i.start) (max m k + 1) whole (omega arith)))
  Moves-closes (unconditionally a) vs e h x w = Moves-closes a vs e h (unconditional x) w
  Moves-closes (plainly a) vs e h x w = Moves-closes a vs e h (plain x) w
  Moves-closes (barely a) vs e h x w = Moves-closes a vs e h (bare x) w
  Moves-closes (atomically a) vs e h x w = Moves-closes a vs e h (atomic x) w
  Moves-closes (target {K = K} a) vs e h x w = Moves-indexes (closes t e h K) a x (Moves-closes a vs e h x w)
  Moves-closes (inside {s = s} {i = i} {f = f} {d = d} {h = h} {K = K} {us = us} {vs = vs} a b fit roomy) ws e k x w =
      Moves-at n (nexts t (f e) (max h k) (d + own_height s) (own_height s) K (λ u j. closes t u j K))
      (ap (λ xs. xs ++ t ∷ []) (sym (append_assoc us vs ws)))
      (Moves-nexts (f e) (max h k) (λ u j. closes t u j K) a
      (record { completes = λ ts u m g. Derives-at (sym (append_assoc vs ws ts)) (Derives-of (omega arith) (b.completes (ws ++ ts) u (max k m) (given x g))) })
      (omega arith) (roomy e) (λ zs u j y v. Moves-closes a zs u j y v))
  Moves-closes (sizing {s = s} {i = i} {f = f} {d = d} {h = h} {K = K} {us = us} {vs = vs} a b fit roomy) ws e k x w =
      Moves-at n (nexts t (f e k) (max h k) (d + own_height s) (own_height s) K (λ u j. closes t u j K))
      (ap (λ xs. xs ++ t ∷ []) (sym (append_assoc us vs ws)))
      (Moves-nexts (f e k) (max h k) (λ u j. closes t u j K) a
      (record { completes = λ ts u m g. Derives-at (sym (append_assoc vs ws ts)) (Derives-of (omega arith) (b.completes (ws ++ ts) u (max k m) (measured x g))) })
      (omega arith) (roomy e k) (λ zs u j y v. Moves-closes a zs u j y v))

  -- what a token leads to stands behind the token
  pub Moves-takes : {S : State} {us : List Token} → Stands n S us → Moves n (us ++ t ∷ []) (takes t S)
  Moves-takes (begun p w) = Moves-defines p w
  Moves-takes (wanting a w) = Moves-wants a
  Moves-takes (having {h = h} {e = e} {vs = vs} a x w) = Moves-closes a vs e h x w
  Moves-takes (within {r = r} {h = h} {K = K} a b w roomy) = Moves-nexts r h (λ u j. closes t u j K) a b w roomy (λ zs u j y v. Moves-closes a zs u j y v)
  Moves-takes (finished p w) = tt
