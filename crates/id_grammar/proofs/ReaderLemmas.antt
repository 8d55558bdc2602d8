-- How the readers' runs are put together, for each production and each way out of it.
use Rattle.std.proofs.Common.{◌≡◌, ℕ, ℤ, ◌+◌, ◌≤◌, ◌<◌, max, inl, inr, cond, Option, Some, None, List, [], ◌∷◌, ◌++◌}
use Rattle.std.proofs.Common.{true, false, Bool, refl, sym, ap, ◌∙◌, subst, arith, zero-le}
use Rattle.id_text.specs.Tokens.{EndsOnce}
use Rattle.id_text.specs.declared.token.Token.{Token}
use Rattle.id_text.specs.declared.token.TokenKind.{TokenKind}
use Rattle.id_text.specs.declared.token.TokenKind.TheVariants.{Name, Number, Key, Sign, End}
use Rattle.id_text.specs.declared.token.Keyword.{Keyword}
use Rattle.id_text.specs.declared.token.Keyword.TheVariants.{Def, If, True, False, Array, Not, Or, And, Div, Rem}
use Rattle.id_text.specs.declared.token.Symbol.{Symbol}
use Rattle.id_text.specs.declared.token.Symbol.TheVariants.{LeftParen, RightParen, LeftBrace, Minus, Plus, Star}
use Rattle.id_text.specs.declared.token.Symbol.TheVariants.{Equal, NotEqual, Less, LessEqual, Greater, GreaterEqual}
use Rattle.id_grammar.specs.declared.phrase.Level.{Level}
use Rattle.id_grammar.specs.declared.phrase.Level.TheVariants as level
use Rattle.id_grammar.specs.declared.tokens.Word.{Word}
use Rattle.id_grammar.specs.declared.tokens.Word.TheVariants as the
use Rattle.id_value.specs.declared.BinaryOp.{BinaryOp}
use Rattle.id_value.specs.declared.UnaryOp.{UnaryOp}
use Rattle.id_value.specs.declared.UnaryOp.TheVariants as unary_op
use Rattle.id_value.specs.declared.Constant.TheVariants as constant
use Rattle.id_grammar.specs.declared.tree.Def.{Def as Definition_}
use Rattle.id_grammar.specs.declared.tree.TreeError.{TreeError}
use Rattle.id_grammar.specs.declared.tree.TreeError.TheVariants.{Unexpected, TooDeep}
use Rattle.id_grammar.specs.Tree.{Tree, def_tree, defs_tree, literal, unary, binary, none, more}
use Rattle.id_grammar.specs.Grammar.{Phrase, Definition, Expression, Grouped, Negation, Unary, Atom, kind_of, Rest, done}
use Rattle.id_grammar.specs.Grammar.{word, name, part, enclosed, definition_of, named_of, conditional_of, either, Opens}
use Rattle.id_grammar.specs.Grammar.{definition, by_conditional, denied, negated, number, by_true, by_false, parens}
use Rattle.id_grammar.specs.Grammar.{by_name, operand, operator_of, own_height}
use Rattle.id_grammar.specs.Machine.{opening, room, Frame, Left, Right, Inside, Outer, again, Move, State, Begin, Want}
use Rattle.id_grammar.specs.Machine.{Have, Next, Finished, is_word, name_in, takes, ahead, ends, wants, Outcome}
use Rattle.id_grammar.specs.Machine.{Accepted, Refused, run}
use Rattle.id_grammar.specs.Readers.{first_kind, first_start, truth_in, IsBehind, IsRead, EndsBy, IsPrefix, Leads, Fails}
use Rattle.id_grammar.specs.Readers.{Defines, Grows, Stunts, Takes, Misses, BeginsWithName, NoName, LacksName, Encloses}
use Rattle.id_grammar.specs.Readers.{Exposes, Surrounds, Bares, def_trees, Amasses, is_within, rung, beyond, ladder, may_deny, open_behind}
use Rattle.id_grammar.specs.Readers.{operator_in, kept_within, operator_within, open_first, Rises}
use Rattle.id_grammar.proofs.RowLemmas.{opening-from_opens, same-is_word}
use Rattle.id_grammar.proofs.RunLemmas.{First, Unopened, run-step, run-deep, run-none, run-word, run-name, run-chosen}
use Rattle.id_grammar.proofs.RunLemmas.{run-left_out, run-opens, run-opens-deep, run-operator, run-done, run-part}
use Rattle.id_grammar.proofs.RunLemmas.{run-inside, run-outer, run-right, run-level, run-left, run-unconditional}
use Rattle.id_grammar.proofs.RunLemmas.{run-plain}

pub EndsBy-at : {o p : Outcome} (x : TreeError) → o ≡ p → EndsBy p x → EndsBy o x
EndsBy-at x e q = subst (λ r. EndsBy r x) (sym e) q

-- the first token's kind
pub first_of : {ts us : List Token} {t : Token} {k : TokenKind} → ts ≡ t ∷ us → first_kind ts ≡ k → t.kind ≡ k
first_of e q = ap first_kind (sym e) ∙ q

-- no word is the end
pub kind_of-not_end : (w : Word) → kind_of w ≡ End → ⊥
kind_of-not_end (the.Key k) q = cc
kind_of-not_end (the.Sign s) q = cc

-- Single tokens.
module _ {ts us : List Token} {t : Token} (e : ts ≡ t ∷ us) where
  pub Takes-word : (w : Word) → t.kind ≡ kind_of w → Takes (word w) ts us
  Takes-word w q = record { comes = λ r h d c K. rw e (run-word 200 t us w r h d c K q) }

  Word-missed : (w : Word) (b : Bool) → is_word w t.kind ≡ b → (t.kind ≡ kind_of w → ⊥) → is_word w t.kind ≡ false
  Word-missed w true i q = absurd (q (same-is_word w t.kind i))
  Word-missed w false i q = i

  pub Misses-word : (w : Word) (x : TreeError) → x ≡ Unexpected (first_start ts) → (t.kind ≡ kind_of w → ⊥) → Misses (word w) ts x
  Misses-word w x j q = record {
    fails = λ r h d c K. let i = Word-missed w (is_word w t.kind) refl q in
        rw (j, e) (run-none 200 t us (Next (word w r) h d c K) (rw i refl));
  }

  pub BeginsWithName-one : (x : List ℕ) → t.kind ≡ Name x → BeginsWithName ts x t.start us
  BeginsWithName-one x q = record { token = t; whole = e; kind = q; place = refl }

  pub NoName-one : (x : TreeError) → x ≡ Unexpected (first_start ts) → name_in t.kind ≡ None → NoName ts x
  NoName-one x j q = record { token = t; behind = us; whole = e; kind = q; error = j ∙ ap (λ xs. Unexpected (first_start xs)) e }

-- the tokens do not begin with a word that is not there
pub no_word : (w : Word) (ts : List Token) → (first_kind ts ≡ kind_of w → ⊥) → First (λ k. is_word w k ≡ false) ts
no_word w [] f = tt
no_word w (t ∷ ts) f = tested (is_word w t.kind) refl
  where
    tested : (b : Bool) → is_word w t.kind ≡ b → is_word w t.kind ≡ false
    tested true i = absurd (f (same-is_word w t.kind i))
    tested false i = i

-- Productions: from where the phrase is wanted the run has come to what is left of a production of it.
pub record At (ts : List Token) (s : Phrase) (d : ℕ) (us : List Token) (r : Rest) (h : ℕ) : Type 0 where
  pub comes : (K : List Frame) → run 200 ts (Want s d K) ≡ run 200 us (Next r h (d + own_height s) (own_height s) K)

-- a production that begins with the first token
pub At-opens : {ts us : List Token} {t : Token} {s : Phrase} {r : Rest} (e : ts ≡ t ∷ us) → Opens s (first_kind ts) t.start r → (d : ℕ) →
    d + own_height s + room r ≤ 200 → At ts s d us r 0
At-opens {us = us} {t = t} {s = s} {r = r} e o d w =
    let i : Opens s t.kind t.start r = subst (λ xs. Opens s (first_kind xs) t.start r) e o in
    record { comes = λ K. rw e (run-opens 200 t us s r d K i w) }

-- a production that takes too much nesting
pub Fails-deep : {ts : List Token} {s : Phrase} {r : Rest} → EndsOnce ts → Opens s (first_kind ts) (first_start ts) r → (d : ℕ) (x : TreeError) →
    x ≡ TooDeep (first_start ts) → 200 < d + own_height s + room r → Fails ts s d x
Fails-deep {ts = []} w o d x j i = absurd w
Fails-deep {ts = t ∷ us} {s = s} {r = r} w o d x j i = record { fails = λ K. rw j (run-opens-deep 200 t us s r d K o i) }

module _ {ts us : List Token} {s : Phrase} {d h : ℕ} where
  pub At-word : {w : Word} {r : Rest} {vs : List Token} → At ts s d us (word w r) h → Takes (word w) us vs → At ts s d vs r h
  At-word {r = r} p q = record { comes = λ K. p.comes K ∙ q.comes r h (d + own_height s) (own_height s) K }

  pub Fails-word : {w : Word} {r : Rest} {x : TreeError} → At ts s d us (word w r) h → Misses (word w) us x → Fails ts s d x
  Fails-word {r = r} {x = x} p q = record { fails = λ K. EndsBy-at x (p.comes K) (q.fails r h (d + own_height s) (own_height s) K) }

  -- a word that may be left out, which comes or does not
  pub At-chosen : {w : Word} {r : ℕ → Rest} {o : Rest} {t : Token} {vs : List Token} →
      At ts s d us (either w r o) h → us ≡ t ∷ vs → first_kind us ≡ kind_of w → At ts s d vs (r t.start) h
  At-chosen {w = w} {r = r} {o = o} {t = t} {vs = vs} p e q = record {
    comes = λ K. p.comes K ∙ rw e (run-chosen 200 t vs w r o h (d + own_height s) (own_height s) K (first_of e q));
  }

  pub At-left_out : {w : Word} {r : ℕ → Rest} {o : Rest} → At ts s d us (either w r o) h → (first_kind us ≡ kind_of w → ⊥) → At ts s d us o h
  At-left_out {w = w} {r = r} {o = o} p f = record {
    comes = λ K. p.comes K ∙ run-left_out 200 us w r o h (d + own_height s) (own_height s) K (no_word w us f);
  }

  pub At-name : {f : List ℕ → ℕ → Rest} {x : List ℕ} {p : ℕ} {vs : List Token} → At ts s d us (name f) h → BeginsWithName us x p vs → At ts s d vs (f x p) h
  At-name {f = f} {x = x} {vs = vs} p q = record {
    comes = λ K. p.comes K ∙
        rw (q.whole, ← q.place) (run-name 200 q.token vs x f h (d + own_height s) (own_height s) K q.kind);
  }

  pub Fails-name : {f : List ℕ → ℕ → Rest} {x : TreeError} → At ts s d us (name f) h → LacksName us x → Fails ts s d x
  Fails-name p (inl e) = rw e (record { fails = λ K. tt })
  Fails-name {f = f} {x = x} p (inr q) = record {
    fails = λ K. let i = q.kind in EndsBy-at x (p.comes K)
        (rw (q.error, q.whole) (run-none 200 q.token q.behind (Next (name f) h (d + own_height s) (own_height s) K) (rw i refl)));
  }

  pub At-part : {i : Phrase} {f : Tree → Rest} {vs : List Token} {a : Tree} {m : ℕ} → At ts s d us (part i f) h → Leads us i (d + own_height s) vs a m →
      At ts s d vs (f a) (max h m)
  At-part {i = i} {f = f} {vs = vs} {a = a} {m = m} p q = record {
    comes = λ K.
        p.comes K ∙ run-part 200 us i f h (d + own_height s) (own_height s) K ∙ q.comes (Inside f h (d + own_height s) (own_height s) ∷ K)
        ∙ run-inside 200 vs a m f h (d + own_height s) (own_height s) K;
  }

  pub Fails-part : {i : Phrase} {f : Tree → Rest} {x : TreeError} → At ts s d us (part i f) h → Fails us i (d + own_height s) x → Fails ts s d x
  Fails-part {i = i} {f = f} {x = x} p q = record {
    fails = λ K.
        EndsBy-at x (p.comes K ∙ run-part 200 us i f h (d + own_height s) (own_height s) K) (q.fails (Inside f h (d + own_height s) (own_height s) ∷ K));
  }

  pub At-enclosed : {w : Word} {f : Tree → Rest} {vs : List Token} {a : Tree} {m : ℕ} →
      At ts s d us (enclosed w f) h → Encloses us (d + own_height s) w vs a m → At ts s d vs (f a) (max h m)
  At-enclosed {f = f} p q = record { comes = λ K. p.comes K ∙ q.comes f h (own_height s) K }

  pub Fails-enclosed : {w : Word} {f : Tree → Rest} {x : TreeError} →
      At ts s d us (enclosed w f) h → Exposes us (d + own_height s) w x → Fails ts s d x
  Fails-enclosed {f = f} {x = x} p q = record { fails = λ K. EndsBy-at x (p.comes K) (q.fails f h (own_height s) K) }

  pub Leads-done : {e : Tree} → At ts s d us (done e) h → Leads ts s d us e (h + own_height s)
  Leads-done {e = e} p = record { comes = λ K. p.comes K ∙ run-done 200 us e h (d + own_height s) (own_height s) K }

  -- the tree and the height as the reader has them
  pub Leads-at : {e a : Tree} {m : ℕ} → a ≡ e → m ≡ h → Leads ts s d us e h → Leads ts s d us a m
  Leads-at p q f = rw (p, q) f

-- a token that begins no operand
pub Atom-fails : {ts us : List Token} {t : Token} (e : ts ≡ t ∷ us) (d : ℕ) (x : TreeError) → x ≡ Unexpected (first_start ts) →
    opening Atom t.kind t.start ≡ None → Fails ts Atom d x
Atom-fails {us = us} {t = t} e d x j q = record { fails = λ K. rw (j, e) (run-none 200 t us (Want Atom d K) (rw q refl)) }

-- no sign but these begins an operand
pub unopened : (s : Symbol) (p : ℕ) → (Sign s ≡ Sign LeftParen → ⊥) → (Sign s ≡ Sign LeftBrace → ⊥) → opening Atom (Sign s) p ≡ None
unopened LeftParen p g h = absurd (g refl)
unopened LeftBrace p g h = absurd (h refl)
unopened _ p g h = refl

-- the productions, at a token of the kind
pub opens_negated : {k : TokenKind} → k ≡ Sign Minus → IsPrefix level.Product unary_op.Neg k
opens_negated q = rw q (λ p. negated)

pub opens_parens : {k : TokenKind} {p : ℕ} → k ≡ Sign LeftParen → Opens Atom k p (enclosed (the.Sign RightParen) (λ e. done e))
opens_parens q = rw q parens

pub opens_number : {k : TokenKind} {p : ℕ} (v : ℤ) → k ≡ Number v → Opens Atom k p (done (literal (constant.Int v) p))
opens_number v q = rw q number

pub opens_name : {k : TokenKind} {p : ℕ} (x : List ℕ) → k ≡ Name x → Opens Atom k p (named_of x p)
opens_name x q = rw q by_name

pub opens_conditional : {k : TokenKind} {p : ℕ} → k ≡ Key If → Opens Expression k p (conditional_of p)
opens_conditional q = rw q by_conditional

pub opens_denied : {k : TokenKind} → k ≡ Key Not → IsPrefix level.And unary_op.Not k
opens_denied q = rw q (λ p. denied)

pub opens_truth : {k : TokenKind} {p : ℕ} (v : Bool) → truth_in k ≡ Some v → Opens Atom k p (done (literal (constant.Bool v) p))
opens_truth {k = Key True} v q = let i : true ≡ v = cc in rw (← i) by_true
opens_truth {k = Key False} v q = let i : false ≡ v = cc in rw (← i) by_false
opens_truth {k = _} v q = cc

-- no word but these begins an operand
pub untrue : (k : Keyword) (p : ℕ) → truth_in (Key k) ≡ None → (Key k ≡ Key Array → ⊥) → opening Atom (Key k) p ≡ None
untrue True p q f = cc
untrue False p q f = cc
untrue Array p q f = absurd (f refl)
untrue _ p q f = refl

pub opens_definition : {k : TokenKind} {p : ℕ} → k ≡ Key Def → Opens Definition k p (name definition_of)
opens_definition q = rw q definition

-- A prefix operator and its operand, at each level.
pub IsPrefix-begins : {k : TokenKind} (o : UnaryOp) (l : Level) → IsPrefix l o k → k ≡ End → ⊥
IsPrefix-begins {k = End} o level.Or f q = elim (f 0) [ ]
IsPrefix-begins {k = End} o level.And f q = elim (f 0) [ ]
IsPrefix-begins {k = End} o level.Comparison f q = elim (f 0) [ ]
IsPrefix-begins {k = End} o level.Sum f q = elim (f 0) [ ]
IsPrefix-begins {k = End} o level.Product f q = elim (f 0) [ ]
IsPrefix-begins {k = _} o l f q = cc

module _ {ts : List Token} (o : UnaryOp) (d : ℕ) where
  pub Prefix-deep : (l : Level) → EndsOnce ts → IsPrefix l o (first_kind ts) →
      (x : TreeError) → x ≡ TooDeep (first_start ts) → 200 < d + 1 + 1 → Fails ts (operand l) d x
  Prefix-deep level.Or w f x j h = Fails-deep w (f (first_start ts)) d x j h
  Prefix-deep level.And w f x j h = Fails-deep w (f (first_start ts)) d x j h
  Prefix-deep level.Comparison w f x j h = Fails-deep w (f (first_start ts)) d x j h
  Prefix-deep level.Sum w f x j h = Fails-deep w (f (first_start ts)) d x j h
  Prefix-deep level.Product w f x j h = Fails-deep w (f (first_start ts)) d x j h

  module _ {us : List Token} {t : Token} (e : ts ≡ t ∷ us) where
    pub Prefix-fails : (l : Level) → IsPrefix l o (first_kind ts) →
        {x : TreeError} → d + 1 + 1 ≤ 200 → Fails us (operand l) (d + 1) x → Fails ts (operand l) d x
    Prefix-fails level.Or f w q = Fails-part (At-opens e (f t.start) d w) q
    Prefix-fails level.And f w q = Fails-part (At-opens e (f t.start) d w) q
    Prefix-fails level.Comparison f w q = Fails-part (At-opens e (f t.start) d w) q
    Prefix-fails level.Sum f w q = Fails-part (At-opens e (f t.start) d w) q
    Prefix-fails level.Product f w q = Fails-part (At-opens e (f t.start) d w) q

    pub Prefix-leads : (l : Level) → IsPrefix l o (first_kind ts) → {vs : List Token} {a g : Tree} {m h : ℕ} → d + 1 + 1 ≤ 200 →
        Leads us (operand l) (d + 1) vs a m → g ≡ unary o a t.start → h ≡ m + 1 → Leads ts (operand l) d vs g h
    Prefix-leads level.Or f w q i j = Leads-at i (omega arith) (Leads-done (At-part (At-opens e (f t.start) d w) q))
    Prefix-leads level.And f w q i j = Leads-at i (omega arith) (Leads-done (At-part (At-opens e (f t.start) d w) q))
    Prefix-leads level.Comparison f w q i j = Leads-at i (omega arith) (Leads-done (At-part (At-opens e (f t.start) d w) q))
    Prefix-leads level.Sum f w q i j = Leads-at i (omega arith) (Leads-done (At-part (At-opens e (f t.start) d w) q))
    Prefix-leads level.Product f w q i j = Leads-at i (omega arith) (Leads-done (At-part (At-opens e (f t.start) d w) q))

-- productions that begin with a word or a sign
module _ {ts us : List Token} {t : Token} {d : ℕ} (e : ts ≡ t ∷ us) where
  pub At-conditional : first_kind ts ≡ Key If → d + 1 + 1 ≤ 200 → At ts Expression d us (conditional_of t.start) 0
  At-conditional q w = At-opens e (opens_conditional q) d w

  pub At-parens : first_kind ts ≡ Sign LeftParen → d + 1 + 1 ≤ 200 → At ts Atom d us (enclosed (the.Sign RightParen) (λ a. done a)) 0
  At-parens q w = At-opens e (opens_parens q) d w

-- An expression and the word behind it.
module _ {ts us : List Token} {d : ℕ} {w : Word} where
  pub Encloses-done : {vs : List Token} {e : Tree} {h : ℕ} → Leads ts Expression d us e h → Takes (word w) us vs → Encloses ts d w vs e h
  Encloses-done {e = e} {h = h} p q = record {
    comes = λ f m c K.
        run-part 200 ts Expression (λ a. word w (f a)) m d c K ∙ p.comes (Inside (λ a. word w (f a)) m d c ∷ K)
        ∙ run-inside 200 us e h (λ a. word w (f a)) m d c K ∙ q.comes (f e) (max m h) d c K;
  }

  pub Exposes-word : {e : Tree} {h : ℕ} {x : TreeError} → Leads ts Expression d us e h → Misses (word w) us x → Exposes ts d w x
  Exposes-word {e = e} {h = h} {x = x} p q = record {
    fails = λ f m c K.
        EndsBy-at x
        (run-part 200 ts Expression (λ a. word w (f a)) m d c K ∙ p.comes (Inside (λ a. word w (f a)) m d c ∷ K)
        ∙ run-inside 200 us e h (λ a. word w (f a)) m d c K)
        (q.fails (f e) (max m h) d c K);
  }

pub Exposes-part : (w : Word) {ts : List Token} {d : ℕ} {x : TreeError} → Fails ts Expression d x → Exposes ts d w x
Exposes-part w {ts = ts} {d = d} {x = x} q = record {
  fails = λ f m c K. EndsBy-at x (run-part 200 ts Expression (λ a. word w (f a)) m d c K) (q.fails (Inside (λ a. word w (f a)) m d c ∷ K));
}

-- The same, behind a word.
pub Bares-word : (v w : Word) {ts : List Token} {d : ℕ} {x : TreeError} → Misses (word v) ts x → Bares ts d v w x
Bares-word v w {d = d} q = record { fails = λ f m c K. q.fails (enclosed w f) m d c K }

module _ {ts us : List Token} {d : ℕ} {v w : Word} (p : Takes (word v) ts us) where
  pub Surrounds-done : {vs : List Token} {e : Tree} {h : ℕ} → Encloses us d w vs e h → Surrounds ts d v w vs e h
  Surrounds-done q = record { comes = λ f m c K. p.comes (enclosed w f) m d c K ∙ q.comes f m c K }

  pub Bares-part : {x : TreeError} → Exposes us d w x → Bares ts d v w x
  Bares-part {x = x} q = record { fails = λ f m c K. EndsBy-at x (p.comes (enclosed w f) m d c K) (q.fails f m c K) }

module _ {ts us : List Token} {s : Phrase} {d h : ℕ} where
  pub At-surrounded : {v w : Word} {f : Tree → Rest} {vs : List Token} {a : Tree} {m : ℕ} →
      At ts s d us (word v (enclosed w f)) h → Surrounds us (d + own_height s) v w vs a m → At ts s d vs (f a) (max h m)
  At-surrounded {f = f} p q = record { comes = λ K. p.comes K ∙ q.comes f h (own_height s) K }

  pub Fails-surrounded : {v w : Word} {f : Tree → Rest} {x : TreeError} →
      At ts s d us (word v (enclosed w f)) h → Bares us (d + own_height s) v w x → Fails ts s d x
  Fails-surrounded {f = f} {x = x} p q = record { fails = λ K. EndsBy-at x (p.comes K) (q.fails f h (own_height s) K) }

-- Levels: an operand has come, and the levels round it are open.
first-none : (l : Level) (vs : List Token) → operator_of l (first_kind vs) ≡ None → First (λ k. operator_of l k ≡ None) vs
first-none l [] q = tt
first-none l (t ∷ vs) q = q

-- what was read behind what was read
pub IsRead-then : {ts us vs : List Token} {d m n : ℕ} → IsRead ts us d m → IsRead us vs d n → IsRead ts vs d n
IsRead-then p q = record { behind = record { shorter = omega (arith, p.behind.shorter, q.behind.shorter) }; some = q.some; fits = q.fits }

-- the same, behind a name
pub IsRead-behind : {ts us vs : List Token} {d h : ℕ} → IsBehind us ts → IsRead us vs d h → IsRead ts vs d h
IsRead-behind b q = record { behind = record { shorter = omega (arith, b.shorter, q.behind.shorter) }; some = q.some; fits = q.fits }

-- what holds of an answer holds of the one that it is
some_is : {A : Type 0} (P : A → Type 0) {x y : A} → Some x ≡ Some y → P x → P y
some_is P {x = x} {y = y} q r = let i : x ≡ y = cc in subst P i r

-- the operator with its level
abbrev with_level : Level → Option BinaryOp → Option (Level × BinaryOp)
with_level l None = None
with_level l (Some p) = Some (l, p)

-- the operator of a level is the kind's, and the kind's is one of its level
operator_in-from_of : (l : Level) (k : TokenKind) (p : BinaryOp) → operator_of l k ≡ Some p → operator_in k ≡ Some (l, p)
operator_in-from_of level.Or (Key Or) p q = ap (with_level level.Or) q
operator_in-from_of level.And (Key And) p q = ap (with_level level.And) q
operator_in-from_of level.Comparison (Sign Equal) p q = ap (with_level level.Comparison) q
operator_in-from_of level.Comparison (Sign NotEqual) p q = ap (with_level level.Comparison) q
operator_in-from_of level.Comparison (Sign Less) p q = ap (with_level level.Comparison) q
operator_in-from_of level.Comparison (Sign LessEqual) p q = ap (with_level level.Comparison) q
operator_in-from_of level.Comparison (Sign Greater) p q = ap (with_level level.Comparison) q
operator_in-from_of level.Comparison (Sign GreaterEqual) p q = ap (with_level level.Comparison) q
operator_in-from_of level.Sum (Sign Plus) p q = ap (with_level level.Sum) q
operator_in-from_of level.Sum (Sign Minus) p q = ap (with_level level.Sum) q
operator_in-from_of level.Product (Sign Star) p q = ap (with_level level.Product) q
operator_in-from_of level.Product (Key Div) p q = ap (with_level level.Product) q
operator_in-from_of level.Product (Key Rem) p q = ap (with_level level.Product) q
operator_in-from_of _ _ p q = cc

operator_of-from_in : (k : TokenKind) (x : Level × BinaryOp) → operator_in k ≡ Some x → operator_of x.0 k ≡ Some x.1
operator_of-from_in (Key Or) x q = some_is (λ y. operator_of y.0 (Key Or) ≡ Some y.1) q refl
operator_of-from_in (Key And) x q = some_is (λ y. operator_of y.0 (Key And) ≡ Some y.1) q refl
operator_of-from_in (Sign Equal) x q = some_is (λ y. operator_of y.0 (Sign Equal) ≡ Some y.1) q refl
operator_of-from_in (Sign NotEqual) x q = some_is (λ y. operator_of y.0 (Sign NotEqual) ≡ Some y.1) q refl
operator_of-from_in (Sign Less) x q = some_is (λ y. operator_of y.0 (Sign Less) ≡ Some y.1) q refl
operator_of-from_in (Sign LessEqual) x q = some_is (λ y. operator_of y.0 (Sign LessEqual) ≡ Some y.1) q refl
operator_of-from_in (Sign Greater) x q = some_is (λ y. operator_of y.0 (Sign Greater) ≡ Some y.1) q refl
operator_of-from_in (Sign GreaterEqual) x q = some_is (λ y. operator_of y.0 (Sign GreaterEqual) ≡ Some y.1) q refl
operator_of-from_in (Sign Plus) x q = some_is (λ y. operator_of y.0 (Sign Plus) ≡ Some y.1) q refl
operator_of-from_in (Sign Minus) x q = some_is (λ y. operator_of y.0 (Sign Minus) ≡ Some y.1) q refl
operator_of-from_in (Sign Star) x q = some_is (λ y. operator_of y.0 (Sign Star) ≡ Some y.1) q refl
operator_of-from_in (Key Div) x q = some_is (λ y. operator_of y.0 (Key Div) ≡ Some y.1) q refl
operator_of-from_in (Key Rem) x q = some_is (λ y. operator_of y.0 (Key Rem) ≡ Some y.1) q refl
operator_of-from_in _ x q = cc

-- within the open levels: the operator is one of its level, which is one of them
operator_of-from_within : (o w : Level) (k : TokenKind) (x : Level × BinaryOp) → operator_within o w k ≡ Some x →
    (operator_of x.0 k ≡ Some x.1) × (is_within o w x.0 ≡ true)
operator_of-from_within o w k x q = found (operator_in k) refl q
  where
    kept : (b : Bool) (y : Level × BinaryOp) → is_within o w y.0 ≡ b → operator_in k ≡ Some y → cond b (Some y) None ≡ Some x →
        (operator_of x.0 k ≡ Some x.1) × (is_within o w x.0 ≡ true)
    kept true y i j q = some_is (λ z. (operator_of z.0 k ≡ Some z.1) × (is_within o w z.0 ≡ true)) q (operator_of-from_in k y j, i)
    kept false y i j q = cc

    found : (r : Option (Level × BinaryOp)) → operator_in k ≡ r → kept_within o w r ≡ Some x → (operator_of x.0 k ≡ Some x.1) × (is_within o w x.0 ≡ true)
    found None j q = cc
    found (Some y) j q = kept (is_within o w y.0) y refl j q

-- where none is within them, no open level has one
operator_of-none : (o w : Level) (k : TokenKind) → operator_within o w k ≡ None → (l : Level) → is_within o w l ≡ true → operator_of l k ≡ None
operator_of-none o w k q l i = tested (operator_of l k) refl
  where
    tested : (r : Option BinaryOp) → operator_of l k ≡ r → operator_of l k ≡ None
    tested None j = j
    tested (Some p) j =
        let y : Level × BinaryOp = (l, p) in
        let kept : kept_within o w (Some y) ≡ None = subst (λ r. kept_within o w r ≡ None) (operator_in-from_of l k p j) q in
        let none : Some y ≡ None = subst (λ b. cond b (Some y) None ≡ None) i kept in
        cc

-- a kind is an operator of one level
operator_of-other : (k : TokenKind) (l m : Level) (p : BinaryOp) → operator_of l k ≡ Some p → (m ≡ l → ⊥) → operator_of m k ≡ None
operator_of-other k l m p q f = tested (operator_of m k) refl
  where
    tested : (r : Option BinaryOp) → operator_of m k ≡ r → operator_of m k ≡ None
    tested None j = j
    tested (Some s) j =
        let i : Some (m, s) ≡ Some (l, p) = sym (operator_in-from_of m k s j) ∙ operator_in-from_of l k p q in
        absurd (f (some_is (λ y. m ≡ y.0) i refl))

cond-true : (b : Bool) (X Y : List Frame) → b ≡ true → cond b X Y ≡ X
cond-true true X Y q = refl
cond-true false X Y q = cc

-- the ladder, from the inside, where an operator of the level stands
module _ (o w : Level) (vs : List Token) (e : Tree) (h d : ℕ) where
  -- an open level ends where no operator of it stands
  rung-ends : (b : Bool) (l : Level) (K : List Frame) → (b ≡ true → operator_of l (first_kind vs) ≡ None) →
      run 200 vs (Have e h (cond b (Left l d ∷ K) K)) ≡ run 200 vs (Have e h K)
  rung-ends true l K f = run-left 200 vs l e h d K (first-none l vs (f refl))
  rung-ends false l K f = refl

  ladder-ends : operator_within o w (first_kind vs) ≡ None → (K : List Frame) → run 200 vs (Have e h (ladder o w d K)) ≡ run 200 vs (Have e h K)
  ladder-ends q K =
      let none = operator_of-none o w (first_kind vs) q in
      rung-ends (is_within o w level.Product) level.Product (beyond level.Product o w d K) (none level.Product)
      ∙ rung-ends (is_within o w level.Sum) level.Sum (beyond level.Sum o w d K) (none level.Sum)
      ∙ rung-ends (is_within o w level.Comparison) level.Comparison (beyond level.Comparison o w d K) (none level.Comparison)
      ∙ rung-ends (is_within o w level.And) level.And (beyond level.And o w d K) (none level.And)
      ∙ rung-ends (is_within o w level.Or) level.Or K (none level.Or)

  module _ (p : BinaryOp) (K : List Frame) where
    skip : (l m : Level) → operator_of l (first_kind vs) ≡ Some p → (m ≡ l → ⊥) → (L : List Frame) →
        run 200 vs (Have e h (cond (is_within o w m) (Left m d ∷ L) L)) ≡ run 200 vs (Have e h L)
    skip l m q f L = rung-ends (is_within o w m) m L (λ _. operator_of-other (first_kind vs) l m p q f)

    stay : (l : Level) (L : List Frame) → is_within o w l ≡ true → run 200 vs (Have e h (rung o w l d L)) ≡ run 200 vs (Have e h (Left l d ∷ L))
    stay l L i = ap (λ S. run 200 vs (Have e h S)) (cond-true (is_within o w l) (Left l d ∷ L) L i)

    ladder-reaches : (l : Level) → operator_of l (first_kind vs) ≡ Some p → is_within o w l ≡ true →
        run 200 vs (Have e h (ladder o w d K)) ≡ run 200 vs (Have e h (Left l d ∷ beyond l o w d K))
    ladder-reaches level.Product q i = stay level.Product (beyond level.Product o w d K) i
    ladder-reaches level.Sum q i = skip level.Sum level.Product q (λ r. cc) (beyond level.Product o w d K) ∙ stay level.Sum (beyond level.Sum o w d K) i
    ladder-reaches level.Comparison q i =
        skip level.Comparison level.Product q (λ r. cc) (beyond level.Product o w d K) ∙ skip level.Comparison level.Sum q (λ r. cc) (beyond level.Sum o w d K)
        ∙ stay level.Comparison (beyond level.Comparison o w d K) i
    ladder-reaches level.And q i =
        skip level.And level.Product q (λ r. cc) (beyond level.Product o w d K) ∙ skip level.And level.Sum q (λ r. cc) (beyond level.Sum o w d K)
        ∙ skip level.And level.Comparison q (λ r. cc) (beyond level.Comparison o w d K) ∙ stay level.And (beyond level.And o w d K) i
    ladder-reaches level.Or q i =
        skip level.Or level.Product q (λ r. cc) (beyond level.Product o w d K) ∙ skip level.Or level.Sum q (λ r. cc) (beyond level.Sum o w d K)
        ∙ skip level.Or level.Comparison q (λ r. cc) (beyond level.Comparison o w d K) ∙ skip level.Or level.And q (λ r. cc) (beyond level.And o w d K)
        ∙ stay level.Or K i

-- behind an operator of a level the ladder begins with it, or behind a comparison with the next one
ladder-again : (l o w : Level) (d : ℕ) (K : List Frame) → is_within o w l ≡ true → again l d (beyond l o w d K) ≡ ladder (open_behind l) w d K
ladder-again level.Or level.Or w d K i = sym (cond-true _ _ _ i)
ladder-again level.Or _ w d K i = sym (cond-true _ _ _ i)
ladder-again level.And level.Or w d K i = cc
ladder-again level.And _ w d K i = sym (cond-true _ _ _ i)
ladder-again level.Comparison level.Or w d K i = cc
ladder-again level.Comparison level.And w d K i = cc
ladder-again level.Comparison _ w d K i = refl
ladder-again level.Sum level.Sum w d K i = sym (cond-true _ _ _ i)
ladder-again level.Sum level.Product w d K i = sym (cond-true _ _ _ i)
ladder-again level.Sum _ w d K i = cc
ladder-again level.Product level.Product w d K i = sym (cond-true _ _ _ i)
ladder-again level.Product _ w d K i = cc

module _ {l o : Level} {d : ℕ} {ts us : List Token} {a : Tree} {m : ℕ} (p : Rises ts l d o us a m) where
  module _ (x : Level × BinaryOp) (q : operator_within o l (first_kind us) ≡ Some x) where
    reached : (K : List Frame) → run 200 ts (Want (Grouped l) d K) ≡ run 200 us (Have a m (Left x.0 d ∷ beyond x.0 o l d K))
    reached K = let i = operator_of-from_within o l (first_kind us) x q in p.comes K ∙ ladder-reaches o l us a m d x.1 K x.0 i.0 i.1

    -- a level goes on
    pub Rises-grows : {vs : List Token} {e : Tree} {h : ℕ} → Grows us x.0 d a m vs e h → Rises ts l d (open_behind x.0) vs e h
    Rises-grows {vs = vs} {e = e} {h = h} g = record {
      comes = λ K.
          let i = operator_of-from_within o l (first_kind us) x q in
          reached K ∙ g.comes (beyond x.0 o l d K) ∙ ap (λ S. run 200 vs (Have e h S)) (ladder-again x.0 o l d K i.1);
    }

    pub Rises-stunts : {y : TreeError} → Stunts us x.0 d a m y → Fails ts (Grouped l) d y
    Rises-stunts {y = y} f = record { fails = λ K. EndsBy-at y (reached K) (f.fails (beyond x.0 o l d K)) }

  -- all levels end
  pub Rises-ends : operator_within o l (first_kind us) ≡ None → Leads ts (Grouped l) d us a m
  Rises-ends q = record { comes = λ K. p.comes K ∙ ladder-ends o l us a m d q K }

-- the operator that is within the open levels is one of its level
pub operator-at : (o w : Level) (k : TokenKind) (x : Level × BinaryOp) → operator_within o w k ≡ Some x → operator_of x.0 k ≡ Some x.1
operator-at o w k x q = (operator_of-from_within o w k x q).0

-- no operator is the end
pub operator-begins : (l : Level) {k : TokenKind} {o : BinaryOp} → operator_of l k ≡ Some o → k ≡ End → ⊥
operator-begins level.Or {k = End} q e = cc
operator-begins level.And {k = End} q e = cc
operator-begins level.Comparison {k = End} q e = cc
operator-begins level.Sum {k = End} q e = cc
operator-begins level.Product {k = End} q e = cc
operator-begins l {k = _} q e = cc

-- an operator that takes too much nesting
pub Right-deep : {ts : List Token} → EndsOnce ts → (l : Level) (o : BinaryOp) → operator_of l (first_kind ts) ≡ Some o →
    (d : ℕ) (a : Tree) (m : ℕ) (x : TreeError) →
    x ≡ TooDeep (first_start ts) → 200 < d + m + 1 → Stunts ts l d a m x
Right-deep {ts = []} w l o i d a m x j h = absurd w
Right-deep {ts = t ∷ us} w l o i d a m x j h = record {
  fails = λ K.
      let move : Move = record { need = d + m + 1; next = Want (operand l) (d + 1) (Right l o a m t.start d ∷ K) } in
      rw j (run-deep 200 t us (Have a m (Left l d ∷ K)) move (rw i refl) h);
}

-- an operator and its right operand
module _ {ts us : List Token} {t : Token} (e : ts ≡ t ∷ us) (l : Level) (o : BinaryOp) (i : operator_of l (first_kind ts) ≡ Some o) (d : ℕ) (a : Tree) (m : ℕ)
  where
    operator_is : operator_of l t.kind ≡ Some o
    operator_is = ap (λ xs. operator_of l (first_kind xs)) (sym e) ∙ i

    right_wanted : d + m + 1 ≤ 200 → (K : List Frame) → run 200 ts (Have a m (Left l d ∷ K)) ≡
        run 200 us (Want (operand l) (d + 1) (Right l o a m t.start d ∷ K))
    right_wanted w K = rw e (run-operator 200 t us l o a m d K operator_is w)

    pub Right-fails : {x : TreeError} → d + m + 1 ≤ 200 → Fails us (operand l) (d + 1) x → Stunts ts l d a m x
    Right-fails {x = x} w f = record { fails = λ K. EndsBy-at x (right_wanted w K) (f.fails (Right l o a m t.start d ∷ K)) }

    pub Right-grows : {vs : List Token} {b f : Tree} {k h : ℕ} → d + m + 1 ≤ 200 → Leads us (operand l) (d + 1) vs b k → f ≡ binary o a b t.start →
        h ≡ max m k + 1 → Grows ts l d a m vs f h
    Right-grows {vs = vs} {b = b} {k = k} w q u v = record
        { comes = λ K. rw (u, v) (right_wanted w K ∙ q.comes (Right l o a m t.start d ∷ K) ∙ run-right 200 vs b k l o a m t.start d K) }

-- Without `if` operands of `or` are read, and without `not` a comparison is.
no_if : (ts : List Token) → (first_kind ts ≡ Key If → ⊥) → Unopened Expression ts
no_if [] f = tt
no_if (t ∷ ts) f = unopened t.kind t.start f
  where
    unopened : (k : TokenKind) (p : ℕ) → (k ≡ Key If → ⊥) → opening Expression k p ≡ None
    unopened (Key If) p g = absurd (g refl)
    unopened _ p g = refl

no_not : (ts : List Token) → (first_kind ts ≡ Key Not → ⊥) → Unopened Negation ts
no_not [] f = tt
no_not (t ∷ ts) f = unopened t.kind t.start f
  where
    unopened : (k : TokenKind) (p : ℕ) → (k ≡ Key Not → ⊥) → opening Negation k p ≡ None
    unopened (Key Not) p g = absurd (g refl)
    unopened _ p g = refl

-- The first operand of a level: all levels within it are open, unless it begins with `not`.
module _ (ts : List Token) (d : ℕ) where
  from_sum : (K : List Frame) → run 200 ts (Want (Grouped level.Sum) d K) ≡ run 200 ts (Want Unary d (ladder level.Product level.Sum d K))
  from_sum K = run-level 200 ts level.Sum d K ∙ run-level 200 ts level.Product d (Left level.Sum d ∷ K)

  from_comparison : (K : List Frame) → run 200 ts (Want (Grouped level.Comparison) d K) ≡ run 200 ts (Want Unary d (ladder level.Product level.Comparison d K))
  from_comparison K = run-level 200 ts level.Comparison d K ∙ from_sum (Left level.Comparison d ∷ K)

  module _ (f : first_kind ts ≡ Key Not → ⊥) where
    from_and : (K : List Frame) → run 200 ts (Want (Grouped level.And) d K) ≡ run 200 ts (Want Unary d (ladder level.Product level.And d K))
    from_and K = run-level 200 ts level.And d K ∙ run-plain 200 ts d (Left level.And d ∷ K) (no_not ts f) ∙ from_comparison (Left level.And d ∷ K)

    from_or : (K : List Frame) → run 200 ts (Want (Grouped level.Or) d K) ≡ run 200 ts (Want Unary d (ladder level.Product level.Or d K))
    from_or K = run-level 200 ts level.Or d K ∙ from_and (Left level.Or d ∷ K)

  inmost : (l : Level) → (may_deny l × (first_kind ts ≡ Key Not) → ⊥) → (K : List Frame) →
      run 200 ts (Want (Grouped l) d K) ≡ run 200 ts (Want Unary d (ladder level.Product l d K))
  inmost level.Or f K = from_or (λ q. f (tt, q)) K
  inmost level.And f K = from_and (λ q. f (tt, q)) K
  inmost level.Comparison f K = from_comparison K
  inmost level.Sum f K = from_sum K
  inmost level.Product f K = run-level 200 ts level.Product d K

  denial : (l : Level) → may_deny l → (K : List Frame) → run 200 ts (Want (Grouped l) d K) ≡ run 200 ts (Want Negation d (ladder level.And l d K))
  denial level.Or g K = run-level 200 ts level.Or d K ∙ run-level 200 ts level.And d (Left level.Or d ∷ K)
  denial level.And g K = run-level 200 ts level.And d K
  denial _ g K = absurd g

module _ {ts : List Token} {d : ℕ} where
  pub Rises-operand : {us : List Token} {e : Tree} {h : ℕ} (l : Level) (b : Bool) → b ≡ false → (may_deny l × (first_kind ts ≡ Key Not) → ⊥) →
      Leads ts Unary d us e h → Rises ts l d (open_first b) us e h
  Rises-operand l true i f q = cc
  Rises-operand l false i f q = record { comes = λ K. inmost ts d l f K ∙ q.comes (ladder level.Product l d K) }

  pub Operand-fails : {x : TreeError} (l : Level) → (may_deny l × (first_kind ts ≡ Key Not) → ⊥) → Fails ts Unary d x → Fails ts (Grouped l) d x
  Operand-fails {x = x} l f q = record { fails = λ K. EndsBy-at x (inmost ts d l f K) (q.fails (ladder level.Product l d K)) }

  pub Rises-denied : {us : List Token} {e : Tree} {h : ℕ} (l : Level) (b : Bool) → b ≡ true → may_deny l →
      Leads ts Negation d us e h → Rises ts l d (open_first b) us e h
  Rises-denied l false i g q = cc
  Rises-denied l true i g q = record { comes = λ K. denial ts d l g K ∙ q.comes (ladder level.And l d K) }

  pub Denied-fails : {x : TreeError} (l : Level) → may_deny l → Fails ts Negation d x → Fails ts (Grouped l) d x
  Denied-fails {x = x} l g q = record { fails = λ K. EndsBy-at x (denial ts d l g K) (q.fails (ladder level.And l d K)) }

module _ {ts : List Token} {d : ℕ} where
  pub Expression-leads : {vs : List Token} {a : Tree} {h : ℕ} → (first_kind ts ≡ Key If → ⊥) →
      Leads ts (Grouped level.Or) d vs a h → Leads ts Expression d vs a h
  Expression-leads f q = record { comes = λ K. run-unconditional 200 ts d K (no_if ts f) ∙ q.comes K }

  pub Expression-fails : {x : TreeError} → (first_kind ts ≡ Key If → ⊥) → Fails ts (Grouped level.Or) d x → Fails ts Expression d x
  Expression-fails {x = x} f q = record { fails = λ K. EndsBy-at x (run-unconditional 200 ts d K (no_if ts f)) (q.fails K) }

  pub Negation-leads : {vs : List Token} {a : Tree} {h : ℕ} → (first_kind ts ≡ Key Not → ⊥) →
      Leads ts (Grouped level.Comparison) d vs a h → Leads ts Negation d vs a h
  Negation-leads f q = record { comes = λ K. run-plain 200 ts d K (no_not ts f) ∙ q.comes K }

  pub Negation-fails : {x : TreeError} → (first_kind ts ≡ Key Not → ⊥) → Fails ts (Grouped level.Comparison) d x → Fails ts Negation d x
  Negation-fails {x = x} f q = record { fails = λ K. EndsBy-at x (run-plain 200 ts d K (no_not ts f)) (q.fails K) }

-- behind a program, only the end
ends-end : (k : TokenKind) (e : Tree) → k ≡ End → ends k e ≡ Some (record { need = 0; next = Finished e })
ends-end k e q = rw q refl

ends-none : (k : TokenKind) (e : Tree) → (k ≡ End → ⊥) → ends k e ≡ None
ends-none End e f = absurd (f refl)
ends-none _ e f = refl

-- the end is the last token
run-last : (ts : List Token) (S : State) (e : Tree) → EndsOnce ts → first_kind ts ≡ End →
    ((t : Token) → t.kind ≡ End → takes t S ≡ Some (record { need = 0; next = Finished e })) → run 200 ts S ≡ Accepted e
unfolding run
run-last [] S e w q f = absurd w
run-last (t ∷ []) S e w q f = run-step 200 t [] S (record { need = 0; next = Finished e }) (f t q) zero-le
run-last (t ∷ u ∷ ts) S e w q f = absurd (w.0 q)

run-early : (ts : List Token) (S : State) → EndsOnce ts → ((t : Token) → t.kind ≡ first_kind ts → takes t S ≡ None) →
    run 200 ts S ≡ Refused false (first_start ts)
run-early [] S w f = absurd w
run-early (t ∷ ts) S w f = run-none 200 t ts S (f t refl)

wants-none : (t : Token) (k : TokenKind) (ds : List Tree) → t.kind ≡ k → (k ≡ Key Def → ⊥) → wants t Definition 0 (Outer ds ∷ []) ≡ None
wants-none t k ds q f = rw (no_def t.kind t.start (λ i. f (sym q ∙ i))) refl
  where
    no_def : (k : TokenKind) (p : ℕ) → (k ≡ Key Def → ⊥) → opening Definition k p ≡ None
    no_def (Key Def) p g = absurd (g refl)
    no_def _ p g = refl

-- Definitions.
def_trees-append : (ds : List Definition_) (d : Definition_) → def_trees (ds ++ d ∷ []) ≡ def_trees ds ++ def_tree d ∷ []
def_trees-append [] d = refl
def_trees-append (a ∷ ds) d = ap (λ es. def_tree a ∷ es) (def_trees-append ds d)

ahead-none : (ds : List Definition_) → ahead (def_trees ds) none ≡ defs_tree ds
ahead-none [] = refl
ahead-none (d ∷ ds) = ap (λ e. more (def_tree d) e) (ahead-none ds)

-- a definition comes
Begin-def : (ts : List Token) (ds : List Tree) → first_kind ts ≡ Key Def → run 200 ts (Begin ds) ≡ run 200 ts (Want Definition 0 (Outer ds ∷ []))
Begin-def [] ds q = cc
Begin-def (t ∷ us) ds q =
    let r : Rest = name definition_of in
    let o : Opens Definition t.kind t.start r = rw q definition in
    run-step 200 t us (Begin ds) (record { need = 1; next = Next r 0 0 0 (Outer ds ∷ []) }) (rw (opening-from_opens o) refl) (omega arith) ∙
    sym (run-opens 200 t us Definition r 0 (Outer ds ∷ []) o (omega arith))

-- no definition yet
pub Amasses-none : (ts : List Token) → Amasses ts ts []
Amasses-none ts = record { comes = refl }

module _ {ts us : List Token} {ds : List Definition_} (g : Amasses ts us ds) where
  -- one definition more
  pub Amasses-add : {vs : List Token} (d : Definition_) → first_kind us ≡ Key Def → Defines us vs (def_tree d) → Amasses ts vs (ds ++ d ∷ [])
  Amasses-add {vs = vs} d q p = record {
    comes =
        g.comes ∙ Begin-def us (def_trees ds) q ∙ p.1.comes (Outer (def_trees ds) ∷ []) ∙ run-outer 200 vs (def_tree d) p.0 (def_trees ds)
        ∙ ap (λ es. run 200 vs (Begin es)) (sym (def_trees-append ds d));
  }

  -- a definition that is refused
  pub Amasses-fails : {x : TreeError} → first_kind us ≡ Key Def → Fails us Definition 0 x → EndsBy (run 200 ts (Begin [])) x
  Amasses-fails {x = x} q f = EndsBy-at x (g.comes ∙ Begin-def us (def_trees ds) q) (f.fails (Outer (def_trees ds) ∷ []))

  -- neither a definition comes nor the end
  pub Amasses-stops : (x : TreeError) → EndsOnce us → (first_kind us ≡ Key Def → ⊥) → (first_kind us ≡ End → ⊥) → x ≡ Unexpected (first_start us) →
      EndsBy (run 200 ts (Begin [])) x
  Amasses-stops x w q f j = EndsBy-at x g.comes (rw j (run-early us (Begin (def_trees ds)) w (λ t i.
      let n : wants t Definition 0 (Outer (def_trees ds) ∷ []) ≡ None = wants-none t (first_kind us) (def_trees ds) i q in
      rw (n, ends-none t.kind (ahead (def_trees ds) none) (λ k. f (sym i ∙ k))) refl)))

  -- the end comes
  pub Amasses-accepts : EndsOnce us → first_kind us ≡ End → run 200 ts (Begin []) ≡ Accepted (defs_tree ds)
  Amasses-accepts w q = g.comes ∙ run-last us (Begin (def_trees ds)) (ahead (def_trees ds) none) w q (λ t i.
      let n : wants t Definition 0 (Outer (def_trees ds) ∷ []) ≡ None = wants-none t End (def_trees ds) i (λ j. cc) in
      rw (n, ends-end t.kind (ahead (def_trees ds) none) i) refl) ∙ ap Accepted (ahead-none ds)
