-- The places of a tree are starts of the tokens that it was made of.
use Rattle.std.proofs.Common.{◌≡◌, ◌⊎◌, ℕ, ◌≤◌, List, [], ◌∷◌, ◌++◌, All, inl, inr, refl, subst, arith}
use Rattle.std.proofs.lemmas.List.Elements.{All-head, All-tail}
use Rattle.id_text.specs.Tokens.{IsWithin}
use Rattle.id_text.specs.declared.token.Token.{Token}
use Rattle.id_text.specs.declared.token.TokenKind.{TokenKind}
use Rattle.id_value.specs.declared.Kind.{Kind}
use Rattle.id_value.specs.declared.Kind.TheVariants as kind
use Rattle.id_grammar.specs.Tree as tree
use Rattle.id_grammar.specs.Tree.{Tree, binding, fetch, next, store, param, none, more}
use Rattle.id_text.specs.declared.token.Symbol.TheVariants.{Becomes}
use Rattle.id_grammar.specs.Grammar.{MoreParameters, body_of, sign, sized, raised, measured, lifted, unlifted, deepened}
use Rattle.id_grammar.specs.Grammar.{Phrase, Rest, done, word, either, name, of_kind, part, with_statement, with_tail}
use Rattle.id_grammar.specs.Grammar.{loop_with_tail, for_with_tail, Opens, definition, no_parameters, first_parameter, last_parameter}
use Rattle.id_grammar.specs.Grammar.{next_parameter, by_conditional, denied, negated, number, by_true, by_false, parens}
use Rattle.id_grammar.specs.Grammar.{by_name, by_array, by_braces, no_arguments, last_argument, next_argument}
use Rattle.id_grammar.specs.Grammar.{by_statement, by_next, by_body, by_last, Derives, opened, unconditional, single}
use Rattle.id_grammar.specs.Grammar.{grouped, plain, bare, atomic, fetched, some_arguments, Follows, ended, taken}
use Rattle.id_grammar.specs.Grammar.{chosen, left_out, named, kinded, given, Program, empty, defined}
use Rattle.id_tree.specs.Distinct.{HasPlace}
use Rattle.id_tree.specs.Starts.{StartsAt, PlacesAreStarts}

-- the fact holds of each token's start
abbrev AllStart : (ℕ → Type 0) → List Token → Type 0
AllStart P [] = Unit {0}
AllStart P (t ∷ ts) = P t.start × AllStart P ts

-- the fact holds of each place of the tree
abbrev AllPlaced : (ℕ → Type 0) → Tree → Type 0
AllPlaced P e = (q : ℕ) → HasPlace e q → P q

-- it holds of each place of what is made, where it holds of each of the parts
abbrev Fills : (ℕ → Type 0) → Rest → Type 0
Fills P (done e) = AllPlaced P e
Fills P (word w r) = Fills P r
Fills P (either w r q) = Fills P q × ((p : ℕ) → P p → Fills P (r p))
Fills P (name f) = (x : List ℕ) (p : ℕ) → P p → Fills P (f x p)
Fills P (of_kind f) = (k : Kind) → Fills P (f k)
Fills P (part s f) = (a : Tree) → AllPlaced P a → Fills P (f a)
Fills P (sized s f) = (a : Tree) (m : ℕ) → AllPlaced P a → Fills P (f a m)
Fills P (raised m w r q) = Fills P q × ((p : ℕ) → P p → Fills P (r p))

module _ (P : ℕ → Type 0) where
  at_own : {p q : ℕ} → p ≡ q → P p → P q
  at_own e h = subst P e h

  of_both : (a b : Tree) → AllPlaced P a → AllPlaced P b → AllPlaced P (more a b)
  of_both a b g h q (inl i) = g q i
  of_both a b g h q (inr i) = h q i

  -- behind a thing's own place come those of its part
  of_part : {p : ℕ} (a : Tree) → P p → AllPlaced P a → (q : ℕ) → (p ≡ q) ⊎ HasPlace a q → P q
  of_part a g h q (inl i) = at_own i g
  of_part a g h q (inr i) = h q i

  of_parts : {p : ℕ} (a b : Tree) → P p → AllPlaced P a → AllPlaced P b → (q : ℕ) → (p ≡ q) ⊎ (HasPlace a q ⊎ HasPlace b q) → P q
  of_parts a b u v w q (inl i) = at_own i u
  of_parts a b u v w q (inr (inl i)) = v q i
  of_parts a b u v w q (inr (inr i)) = w q i

  of_three : {p : ℕ} (t x y : Tree) → P p → AllPlaced P t → AllPlaced P x → AllPlaced P y →
      (q : ℕ) → (p ≡ q) ⊎ (HasPlace t q ⊎ (HasPlace x q ⊎ HasPlace y q)) → P q
  of_three t x y u v w z q (inl i) = at_own i u
  of_three t x y u v w z q (inr (inl i)) = v q i
  of_three t x y u v w z q (inr (inr (inl i))) = w q i
  of_three t x y u v w z q (inr (inr (inr i))) = z q i

  of_loop : {p : ℕ} (t a : Tree) → P p → AllPlaced P t → AllPlaced P a → AllPlaced P (loop_with_tail t a p)
  of_loop t (more a e) g h i q j = of_three t a e g h (λ r k. i r (inl k)) (λ r k. i r (inr k)) q j
  of_loop t a g h i q j = absurd j

  of_for : (x : List ℕ) {i p : ℕ} (low high a : Tree) → P p → P i → AllPlaced P low → AllPlaced P high → AllPlaced P a →
      AllPlaced P (for_with_tail x i low high a p)
  of_for x low high (more a e) g h l u k q (inl j) = at_own j g
  of_for x low high (more a e) g h l u k q (inr (inl j)) = at_own j h
  of_for x low high (more a e) g h l u k q (inr (inr (inl j))) = l q j
  of_for x low high (more a e) g h l u k q (inr (inr (inr (inl j)))) = u q j
  of_for x low high (more a e) g h l u k q (inr (inr (inr (inr (inl j))))) = k q (inl j)
  of_for x low high (more a e) g h l u k q (inr (inr (inr (inr (inr j))))) = k q (inr j)
  of_for x low high a g h l u k q j = absurd j

  of_block : {p : ℕ} (a : Tree) → P p → AllPlaced P a → AllPlaced P (with_tail a p)
  of_block (more a e) g h q (inl i) = at_own i g
  of_block (more a e) g h q (inr i) = h q i
  of_block a g h q i = absurd i

  of_statement : (s a : Tree) → AllPlaced P s → AllPlaced P a → AllPlaced P (with_statement s a)
  of_statement s (more a e) g h q (inl (inl i)) = g q i
  of_statement s (more a e) g h q (inl (inr i)) = h q (inl i)
  of_statement s (more a e) g h q (inr i) = h q (inr i)
  of_statement s a g h q i = absurd i

  deepened_fills : (f : Kind → Rest) → ((k : Kind) → Fills P (f k)) → (k : Kind) → Fills P (deepened f k)
  deepened_fills f h kind.Int = h kind.Int
  deepened_fills f h kind.Bool = h kind.Bool
  deepened_fills f h kind.Array = (h kind.Array, λ p i. h kind.Nested)
  deepened_fills f h kind.Nested = h kind.Nested

  Opens-fills : {s : Phrase} {k : TokenKind} {p : ℕ} {r : Rest} → Opens s k p r → P p → Fills P r
  Opens-fills definition g = λ x q i a h. deepened_fills (λ k. sign Becomes (body_of x a k q)) (λ k e j. of_parts a e i h j)
  Opens-fills no_parameters g = λ q h. absurd h
  Opens-fills (first_parameter {x = x} {p = p}) g = deepened_fills (λ k. part MoreParameters (λ a. done (more (param x k p) a))) (λ k a h. of_both (param x k p) a (λ q i. at_own i g) h)
  Opens-fills last_parameter g = λ q h. absurd h
  Opens-fills next_parameter g = λ x p i. deepened_fills (λ k. part MoreParameters (λ a. done (more (param x k p) a))) (λ k a h. of_both (param x k p) a (λ q j. at_own j i) h)
  Opens-fills by_conditional g = λ t h x i y j. of_three t x y g h i j
  Opens-fills denied g = λ e h. of_part e g h
  Opens-fills negated g = λ e h. of_part e g h
  Opens-fills number g = λ q i. at_own i g
  Opens-fills by_true g = λ q i. at_own i g
  Opens-fills by_false g = λ q i. at_own i g
  Opens-fills parens g = λ e h. h
  Opens-fills by_name g = (λ q i. at_own i g, λ p i a h. of_part a g h)
  Opens-fills by_array g = (λ a h b i. of_parts a b g h i, λ p j a h b i. of_parts a b g h i)
  Opens-fills no_arguments g = λ q h. absurd h
  Opens-fills last_argument g = λ q h. absurd h
  Opens-fills next_argument g = λ e h a i. of_both e a h i
  Opens-fills by_braces g = (
    (λ a h. of_block a g h, λ q i x p j low h high k a l. of_for x low high a g j h k l),
    λ p j t h a i. of_loop t a g h i,
  )
  Opens-fills (by_statement {x = x} {p = p}) g = (
    λ e i a h. of_statement (binding x e p) a (of_part e g i) h,
    λ q j i m h. (
      λ e k a l. of_statement (store (tree.name x p) i e q) a (of_three (tree.name x p) i e j (λ r n. at_own n g) h k) l,
      λ o n b f e k a l. of_statement (store (fetch (tree.name x p) i q) b e o) a
          (of_three (fetch (tree.name x p) i q) b e n (λ r z. of_parts (tree.name x p) i j (λ v y. at_own y g) h r z) f k) l,
    ),
  )
  Opens-fills (by_next {p = p}) g = λ x q i e h a j. of_statement (next x e p) a (of_part e g h) j
  Opens-fills by_body g = λ e h. of_both none e (λ q i. absurd i) h
  Opens-fills by_last g = λ e h. of_both none e (λ q i. absurd i) h

  AllStart-front : (us vs : List Token) → AllStart P (us ++ vs) → AllStart P us
  AllStart-front [] vs h = tt
  AllStart-front (t ∷ us) vs h = (h.0, AllStart-front us vs h.1)

  AllStart-back : (us vs : List Token) → AllStart P (us ++ vs) → AllStart P vs
  AllStart-back [] vs h = h
  AllStart-back (t ∷ us) vs h = AllStart-back us vs h.1

  mutual
    Derives-placed : {s : Phrase} {ts : List Token} {e : Tree} {h : ℕ} → Derives s ts e h → AllStart P ts → AllPlaced P e
    Derives-placed (opened o f) g = Follows-placed f (Opens-fills o g.0) g.1
    Derives-placed (unconditional d) g = Derives-placed d g
    Derives-placed (single d) g = Derives-placed d g
    Derives-placed (grouped {us = us} {vs = vs} {a = a} {b = b} x t i y) g = of_parts a b
        (AllStart-back us (t ∷ vs) g).0 (Derives-placed x (AllStart-front us (t ∷ vs) g)) (Derives-placed y (AllStart-back us (t ∷ vs) g).1)
    Derives-placed (plain d) g = Derives-placed d g
    Derives-placed (bare d) g = Derives-placed d g
    Derives-placed (atomic d) g = Derives-placed d g
    Derives-placed (fetched {us = us} {vs = vs} {a = a} x t i f) g =
        let back = AllStart-back us (t ∷ vs) g in
        Follows-placed f (λ j h. of_parts a j back.0 (Derives-placed x (AllStart-front us (t ∷ vs) g)) h) back.1
    Derives-placed (some_arguments f) g = Follows-placed f (λ e h a i. of_both e a h i) g

    Follows-placed : {r : Rest} {ts : List Token} {e : Tree} {h : ℕ} → Follows r ts e h → Fills P r → AllStart P ts → AllPlaced P e
    Follows-placed ended k g = k
    Follows-placed (taken i f) k g = Follows-placed f k g.1
    Follows-placed (chosen {t = t} i f) k g = Follows-placed f (k.1 t.start g.0) g.1
    Follows-placed (left_out f) k g = Follows-placed f k.0 g
    Follows-placed (named {t = t} {x = x} i f) k g = Follows-placed f (k x t.start g.0) g.1
    Follows-placed (kinded {k = j} i f) k g = Follows-placed f (k j) g.1
    Follows-placed (given {us = us} {ts = ts} {a = a} d f) k g = Follows-placed f (k a (Derives-placed d (AllStart-front us ts g))) (AllStart-back us ts g)
    Follows-placed (measured {us = us} {ts = ts} {a = a} {m = m} d f) k g =
        Follows-placed f (k a m (Derives-placed d (AllStart-front us ts g))) (AllStart-back us ts g)
    Follows-placed (lifted {t = t} i f) k g = Follows-placed f (k.1 t.start g.0) g.1
    Follows-placed (unlifted f) k g = Follows-placed f k.0 g

  Program-placed : {ts : List Token} {e : Tree} {h : ℕ} → Program ts e h → AllStart P ts → AllPlaced P e
  Program-placed (empty i) g = λ q h. absurd h
  Program-placed (defined {us = us} {ts = ts} {a = a} {e = e} d p) g =
      of_both a e (Derives-placed d (AllStart-front us ts g)) (Program-placed p (AllStart-back us ts g))

AllStart-weaker : (P Q : ℕ → Type 0) → ((q : ℕ) → P q → Q q) → (ts : List Token) → AllStart P ts → AllStart Q ts
AllStart-weaker P Q f [] h = tt
AllStart-weaker P Q f (t ∷ ts) h = (f t.start h.0, AllStart-weaker P Q f ts h.1)

-- each token starts at the start of a token
AllStart-own : (ts : List Token) → AllStart (λ q. StartsAt q ts) ts
AllStart-own [] = tt
AllStart-own (t ∷ ts) = (inl refl, AllStart-weaker (λ q. StartsAt q ts) (λ q. StartsAt q (t ∷ ts)) (λ q h. inr h) ts (AllStart-own ts))

-- a program's things stand at starts of its tokens
pub Program-starts : {ts : List Token} {e : Tree} {h : ℕ} → Program ts e h → PlacesAreStarts ts e
Program-starts {ts = ts} p = Program-placed (λ q. StartsAt q ts) p (AllStart-own ts)

-- where each token lies within the first n bytes, so does each start
pub StartsAt-within : (n : ℕ) (ts : List Token) → All (IsWithin n) ts → (q : ℕ) → StartsAt q ts → q ≤ n
StartsAt-within n [] a q h = absurd h
StartsAt-within n (t ∷ ts) a q (inl e) = omega (arith, All-head (IsWithin n) t ts a, e)
StartsAt-within n (t ∷ ts) a q (inr h) = StartsAt-within n ts (All-tail (IsWithin n) t ts a) q h
