-- The loops of a text's program stand where the text has a `{`.
use Rattle.std.proofs.Common.{◌≡◌, ℕ, zero, suc, ◌+◌, true, false, List, [], ◌∷◌, ◌++◌, drop, Option, Some, refl, ap}
use Rattle.std.proofs.Common.{subst, ◌∙◌, arith}
use Rattle.std.specs.Prelude.{slice_get}
use Rattle.std.specs.Option.{option_map_or}
use Rattle.std.specs.Prelude.{◌==◌}
use Rattle.id_value.specs.declared.Kind.{Kind}
use Rattle.id_value.specs.declared.Kind.TheVariants as kind
use Rattle.id_text.specs.declared.token.Token.{Token}
use Rattle.id_text.specs.declared.token.TokenKind.{TokenKind}
use Rattle.id_text.specs.declared.token.TokenKind.TheVariants.{Sign}
use Rattle.id_text.specs.declared.token.Symbol.{Symbol}
use Rattle.id_text.specs.declared.token.Symbol.TheVariants.{Becomes, LeftBrace}
use Rattle.id_text.specs.Bytes.{sign_of}
use Rattle.id_text.specs.Lexes.{Begins, Ending, Lexes}
use Rattle.id_text.specs.Lexes.Begins.{blank, comment, word as keyword, name as identifier, number as digits}
use Rattle.id_text.specs.Lexes.Begins.{sign as symbol}
use Rattle.id_text.specs.Lexes.Lexes.{end, gap, token, too_large, bad_byte}
use Rattle.id_text.specs.Lexes.Ending.{Whole}
use Rattle.id_grammar.specs.Tree as tree
use Rattle.id_grammar.specs.Tree.{Tree, literal, unary, binary, conditional, call, block, loop, for_loop, array}
use Rattle.id_grammar.specs.Tree.{binding, fetch, next, store, param, define, none, more}
use Rattle.id_grammar.specs.Grammar.{MoreParameters, body_of, sign, sized, raised, measured, lifted, unlifted, deepened}
use Rattle.id_grammar.specs.Grammar.{Phrase, Rest, done, word, either, name, of_kind, part, with_statement, with_tail}
use Rattle.id_grammar.specs.Grammar.{loop_with_tail, for_with_tail, Opens, definition, no_parameters, first_parameter}
use Rattle.id_grammar.specs.Grammar.{last_parameter}
use Rattle.id_grammar.specs.Grammar.{next_parameter, by_conditional, denied, negated, number, by_true, by_false, parens}
use Rattle.id_grammar.specs.Grammar.{by_name, by_array, by_braces, no_arguments, last_argument, next_argument}
use Rattle.id_grammar.specs.Grammar.{by_statement, by_next, by_body, by_last, Derives, opened, unconditional, single}
use Rattle.id_grammar.specs.Grammar.{grouped, plain, bare, atomic, fetched, some_arguments, Follows, ended, taken}
use Rattle.id_grammar.specs.Grammar.{chosen, left_out, named, kinded, given, Program, empty, defined}
use Rattle.id_table.specs.Rows.{at}
use Rattle.id_sink.specs.Texts.{has_brace}

-- each loop of the tree stands where the fact holds
abbrev pub Loops : (ℕ → Type 0) → Tree → Type 0
Loops P (literal v p) = Unit {0}
Loops P (unary o a p) = Loops P a
Loops P (binary o a b p) = Loops P a × Loops P b
Loops P (tree.name x p) = Unit {0}
Loops P (conditional t x y p) = Loops P t × Loops P x × Loops P y
Loops P (call x a p) = Loops P a
Loops P (block a b p) = Loops P a × Loops P b
Loops P (loop t a b p) = P p × Loops P t × Loops P a × Loops P b
Loops P (for_loop x i a b c d p) = P p × Loops P a × Loops P b × Loops P c × Loops P d
Loops P (array nested a b p) = Loops P a × Loops P b
Loops P (fetch t i p) = Loops P t × Loops P i
Loops P (binding x a p) = Loops P a
Loops P (next x a p) = Loops P a
Loops P (store t i a p) = Loops P t × Loops P i × Loops P a
Loops P (param x k p) = Unit {0}
Loops P (define x a k b p) = Loops P a × Loops P b
Loops P none = Unit {0}
Loops P (more a b) = Loops P a × Loops P b

-- ---- the tree of tokens

-- the fact holds where each `{` among the tokens starts
abbrev pub AllBraces : (ℕ → Type 0) → List Token → Type 0
AllBraces P [] = Unit {0}
AllBraces P (t ∷ ts) = (t.kind ≡ Sign LeftBrace → P t.start) × AllBraces P ts

-- it holds of what is made, where it holds of each of the parts
abbrev Fills : (ℕ → Type 0) → Rest → Type 0
Fills P (done e) = Loops P e
Fills P (word w r) = Fills P r
Fills P (either w r q) = Fills P q × ((p : ℕ) → Fills P (r p))
Fills P (name f) = (x : List ℕ) (p : ℕ) → Fills P (f x p)
Fills P (of_kind f) = (k : Kind) → Fills P (f k)
Fills P (part s f) = (a : Tree) → Loops P a → Fills P (f a)
Fills P (sized s f) = (a : Tree) (m : ℕ) → Loops P a → Fills P (f a m)
Fills P (raised m w r q) = Fills P q × ((p : ℕ) → Fills P (r p))

module _ (P : ℕ → Type 0) where
  of_loop : {p : ℕ} (t a : Tree) → P p → Loops P t → Loops P a → Loops P (loop_with_tail t a p)
  of_loop t (more a e) g h i = (g, h, i.0, i.1)
  of_loop t a g h i = tt

  of_for : (x : List ℕ) (i p : ℕ) (low high a : Tree) → P p → Loops P low → Loops P high → Loops P a
      → Loops P (for_with_tail x i low high a p)
  of_for x i p low high (more a e) g h k l = (g, h, k, l.0, l.1)
  of_for x i p low high a g h k l = tt

  of_block : (p : ℕ) (a : Tree) → Loops P a → Loops P (with_tail a p)
  of_block p (more a e) h = h
  of_block p a h = tt

  of_statement : (s a : Tree) → Loops P s → Loops P a → Loops P (with_statement s a)
  of_statement s (more a e) g h = ((g, h.0), h.1)
  of_statement s a g h = tt

  deepened_fills : (f : Kind → Rest) → ((k : Kind) → Fills P (f k)) → (k : Kind) → Fills P (deepened f k)
  deepened_fills f h kind.Int = h kind.Int
  deepened_fills f h kind.Bool = h kind.Bool
  deepened_fills f h kind.Array = (h kind.Array, λ p. h kind.Nested)
  deepened_fills f h kind.Nested = h kind.Nested

  Opens-fills : {s : Phrase} {k : TokenKind} {p : ℕ} {r : Rest} → Opens s k p r → (k ≡ Sign LeftBrace → P p) → Fills P r
  Opens-fills definition g = λ x q a h. deepened_fills (λ k. sign Becomes (body_of x a k q)) (λ k e j. (h, j))
  Opens-fills no_parameters g = tt
  Opens-fills (first_parameter {x = x} {p = p}) g =
      deepened_fills (λ k. part MoreParameters (λ a. done (more (param x k p) a))) (λ k a h. (tt, h))
  Opens-fills last_parameter g = tt
  Opens-fills next_parameter g =
      λ x p. deepened_fills (λ k. part MoreParameters (λ a. done (more (param x k p) a))) (λ k a h. (tt, h))
  Opens-fills by_conditional g = λ t h x i y j. (h, i, j)
  Opens-fills denied g = λ e h. h
  Opens-fills negated g = λ e h. h
  Opens-fills number g = tt
  Opens-fills by_true g = tt
  Opens-fills by_false g = tt
  Opens-fills parens g = λ e h. h
  Opens-fills by_name g = (tt, λ p a h. h)
  Opens-fills by_array g = (λ a h b i. (h, i), λ p a h b i. (h, i))
  Opens-fills no_arguments g = tt
  Opens-fills last_argument g = tt
  Opens-fills next_argument g = λ e h a i. (h, i)
  Opens-fills (by_braces {p = p}) g = (
    (λ a h. of_block p a h, λ q x j low h high k a l. of_for x j p low high a (g refl) h k l),
    λ q t h a i. of_loop t a (g refl) h i,
  )
  Opens-fills (by_statement {x = x} {p = p}) g = (
    λ e i a h. of_statement (binding x e p) a i h,
    λ q i m h. (
      λ e k a l. of_statement (store (tree.name x p) i e q) a (tt, h, k) l,
      λ o b f e k a l. of_statement (store (fetch (tree.name x p) i q) b e o) a ((tt, h), f, k) l,
    ),
  )
  Opens-fills (by_next {p = p}) g = λ x q e h a j. of_statement (next x e p) a h j
  Opens-fills by_body g = λ e h. (tt, h)
  Opens-fills by_last g = λ e h. (tt, h)

  AllBraces-front : (us vs : List Token) → AllBraces P (us ++ vs) → AllBraces P us
  AllBraces-front [] vs h = tt
  AllBraces-front (t ∷ us) vs h = (h.0, AllBraces-front us vs h.1)

  AllBraces-back : (us vs : List Token) → AllBraces P (us ++ vs) → AllBraces P vs
  AllBraces-back [] vs h = h
  AllBraces-back (t ∷ us) vs h = AllBraces-back us vs h.1

  mutual
    Derives-loops : {s : Phrase} {ts : List Token} {e : Tree} {h : ℕ} → Derives s ts e h → AllBraces P ts → Loops P e
    Derives-loops (opened o f) g = Follows-loops f (Opens-fills o g.0) g.1
    Derives-loops (unconditional d) g = Derives-loops d g
    Derives-loops (single d) g = Derives-loops d g
    Derives-loops (grouped {us = us} {vs = vs} x t i y) g =
        (Derives-loops x (AllBraces-front us (t ∷ vs) g), Derives-loops y (AllBraces-back us (t ∷ vs) g).1)
    Derives-loops (plain d) g = Derives-loops d g
    Derives-loops (bare d) g = Derives-loops d g
    Derives-loops (atomic d) g = Derives-loops d g
    Derives-loops (fetched {us = us} {vs = vs} x t i f) g =
        let front = Derives-loops x (AllBraces-front us (t ∷ vs) g) in
        Follows-loops f (λ j h. (front, h)) (AllBraces-back us (t ∷ vs) g).1
    Derives-loops (some_arguments f) g = Follows-loops f (λ e h a i. (h, i)) g

    Follows-loops : {r : Rest} {ts : List Token} {e : Tree} {h : ℕ} → Follows r ts e h → Fills P r → AllBraces P ts
        → Loops P e
    Follows-loops ended k g = k
    Follows-loops (taken i f) k g = Follows-loops f k g.1
    Follows-loops (chosen {t = t} i f) k g = Follows-loops f (k.1 t.start) g.1
    Follows-loops (left_out f) k g = Follows-loops f k.0 g
    Follows-loops (named {t = t} {x = x} i f) k g = Follows-loops f (k x t.start) g.1
    Follows-loops (kinded {k = j} i f) k g = Follows-loops f (k j) g.1
    Follows-loops (given {us = us} {ts = ts} {a = a} d f) k g =
        Follows-loops f (k a (Derives-loops d (AllBraces-front us ts g))) (AllBraces-back us ts g)
    Follows-loops (measured {us = us} {ts = ts} {a = a} {m = m} d f) k g =
        Follows-loops f (k a m (Derives-loops d (AllBraces-front us ts g))) (AllBraces-back us ts g)
    Follows-loops (lifted {t = t} i f) k g = Follows-loops f (k.1 t.start) g.1
    Follows-loops (unlifted f) k g = Follows-loops f k.0 g

  pub Program-loops : {ts : List Token} {e : Tree} {h : ℕ} → Program ts e h → AllBraces P ts → Loops P e
  Program-loops (empty i) g = tt
  Program-loops (defined {us = us} {ts = ts} d p) g =
      (Derives-loops d (AllBraces-front us ts g), Program-loops p (AllBraces-back us ts g))

-- ---- the tokens of a text

-- a `{` of the text, whose first byte has this place, stands there
record IsBraceIn (text : List ℕ) (at q : ℕ) : Type 0 where
  index : ℕ
  there : q ≡ at + index
  is : slice_get text index ≡ Some 123

AllBraces-to : (P Q : ℕ → Type 0) → ((q : ℕ) → P q → Q q) → (ts : List Token) → AllBraces P ts → AllBraces Q ts
AllBraces-to P Q f [] h = tt
AllBraces-to P Q f (t ∷ ts) h = (λ e. f t.start (h.0 e), AllBraces-to P Q f ts h.1)

first_is : (text rest : List ℕ) (s : Symbol) → s ≡ LeftBrace → text ≡ sign_of s ++ rest → slice_get text 0 ≡ Some 123
first_is text rest s e h =
    ap (λ x. slice_get x 0) (h ∙ ap (λ x. sign_of x ++ rest) e)

brace_begins : {text : List ℕ} {k : Option TokenKind} {n : ℕ} → Begins text k n → k ≡ Some (Sign LeftBrace)
    → slice_get text 0 ≡ Some 123
brace_begins (blank o) e = absurd cc
brace_begins (comment o) e = absurd cc
brace_begins (keyword k o is) e = absurd cc
brace_begins (identifier o other) e = absurd cc
brace_begins (digits o small) e = absurd cc
brace_begins {text} (symbol s h) e = let same : s ≡ LeftBrace = cc in first_is text h.stands.0 s same h.stands.1

behind_drop : (n : ℕ) (text : List ℕ) (j : ℕ) → slice_get (drop n text) j ≡ Some 123 → slice_get text (n + j) ≡ Some 123
behind_drop zero text j h =
    subst (λ (i : ℕ). slice_get text i ≡ Some 123) (let same : j ≡ 0 + j = omega arith in same) h
behind_drop (suc n) [] j h = absurd cc
behind_drop (suc n) (b ∷ text) j h =
    subst (λ (i : ℕ). slice_get (b ∷ text) i ≡ Some 123) (let same : suc (n + j) ≡ suc n + j = omega arith in
    same) (behind_drop n text j h)

later : (text : List ℕ) (at n : ℕ) (ts : List Token) → AllBraces (IsBraceIn (drop n text) (at + n)) ts
    → AllBraces (IsBraceIn text at) ts
later text at n ts h =
    AllBraces-to (IsBraceIn (drop n text) (at + n)) (IsBraceIn text at)
    (λ q b. record { index = n + b.index; there = omega (arith, b.there); is = behind_drop n text b.index b.is }) ts h

braces_from : {at : ℕ} {text : List ℕ} {ts : List Token} {e : Ending} → Lexes at text ts e
    → AllBraces (IsBraceIn text at) ts
braces_from {at} end = (λ e. absurd cc, tt)
braces_from {at} {text} {ts} (gap n b rest) = later text at n ts (braces_from rest)
braces_from {at} {text} (token {ts = us} k n b rest) = (
  λ e. record { index = 0; there = omega arith; is = brace_begins b (ap (λ x. Some x) e) },
  later text at n us (braces_from rest),
)
braces_from (too_large large) = tt
braces_from (bad_byte nothing) = tt

pub braces_there : (text : List ℕ) (ts : List Token) → Lexes 0 text ts Whole
    → AllBraces (λ q. has_brace text q ≡ true) ts
braces_there text ts h =
    AllBraces-to (IsBraceIn text 0) (λ q. has_brace text q ≡ true)
    (λ q b. (let same : q ≡ b.index = omega (arith, b.there) in
    let is : slice_get text q ≡ Some 123 = ap (slice_get text) same ∙ b.is in
    ap (λ o. option_map_or (λ c. c == 123) o false) is)) ts (braces_from h)
