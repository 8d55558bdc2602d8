-- What rises gives things different places.
use Rattle.std.proofs.Common.{Bool, true, false, ℕ, ◌+◌, ◌≤◌, ◌<◌, List, [], ◌∷◌, ◌++◌, inl, inr, arith}
use Rattle.id_text.specs.declared.token.Token.{Token}
use Rattle.id_text.specs.declared.token.TokenKind.{TokenKind}
use Rattle.id_value.specs.declared.Kind.{Kind}
use Rattle.id_value.specs.declared.Kind.TheVariants as kind
use Rattle.id_grammar.specs.Tree as tree
use Rattle.id_grammar.specs.Tree.{Tree, literal, unary, binary, conditional, call, block, loop, for_loop, array, fetch, binding, store, param, define, none, more}
use Rattle.id_text.specs.declared.token.Symbol.TheVariants.{Becomes}
use Rattle.id_grammar.specs.Grammar.{MoreParameters, body_of, sign, bounds_of, deepened, sized, raised, measured, lifted, unlifted}
use Rattle.id_grammar.specs.Grammar.{Phrase, Rest, done, word, either, name, of_kind, part, with_statement, with_tail}
use Rattle.id_grammar.specs.Grammar.{loop_with_tail, for_with_tail, Opens, definition, no_parameters, first_parameter, last_parameter}
use Rattle.id_grammar.specs.Grammar.{next_parameter, by_conditional, denied, negated, number, by_true, by_false, parens}
use Rattle.id_grammar.specs.Grammar.{by_name, by_array, by_braces, no_arguments, last_argument, next_argument}
use Rattle.id_grammar.specs.Grammar.{by_statement, by_next, by_body, by_last, Derives, opened, unconditional, single}
use Rattle.id_grammar.specs.Grammar.{grouped, plain, bare, atomic, fetched, some_arguments, Follows, ended, taken}
use Rattle.id_grammar.specs.Grammar.{chosen, left_out, named, kinded, given, Program, empty, defined}
use Rattle.id_tree.specs.Distinct.{HasPlace, Apart, Spares, Distinct}
use Rattle.id_tree.proofs.FinishLemmas.{Laid}

-- the places rise in the order of the text, from the first number on and below the second
abbrev Spans : ℕ → Tree → ℕ → Type 0
Spans low (literal v p) high = (low ≤ p) × (p < high)
Spans low (unary o a p) high = (low ≤ p) × Spans (p + 1) a high
Spans low (binary o a b p) high = Spans low a p × Spans (p + 1) b high
Spans low (tree.name x p) high = (low ≤ p) × (p < high)
Spans low (conditional t x y p) high = (low ≤ p) × ((mid : ℕ) × (next : ℕ) × Spans (p + 1) t mid × Spans mid x next × Spans next y high)
Spans low (call x a p) high = (low ≤ p) × Spans (p + 1) a high
Spans low (block a b p) high = (low ≤ p) × ((mid : ℕ) × Spans (p + 1) a mid × Spans mid b high)
Spans low (loop t x y p) high = (low ≤ p) × ((mid : ℕ) × (next : ℕ) × Spans (p + 1) t mid × Spans mid x next × Spans next y high)
Spans low (for_loop x i a b c d p) high =
    (low ≤ p) × (p + 1 ≤ i) × ((m : ℕ) × (n : ℕ) × (o : ℕ) × Spans (i + 1) a m × Spans m b n × Spans n c o × Spans o d high)
Spans low (array nested a b p) high = (low ≤ p) × ((mid : ℕ) × Spans (p + 1) a mid × Spans mid b high)
Spans low (fetch t i p) high = Spans low t p × Spans (p + 1) i high
Spans low (binding x a p) high = (low ≤ p) × Spans (p + 1) a high
Spans low (tree.next x a p) high = (low ≤ p) × Spans (p + 1) a high
Spans low (store t i a p) high = Spans low t p × ((mid : ℕ) × Spans (p + 1) i mid × Spans mid a high)
Spans low (param x k p) high = (low ≤ p) × (p < high)
Spans low (define x a k b p) high = (low ≤ p) × ((mid : ℕ) × Spans (p + 1) a mid × Spans mid b high)
Spans low none high = low ≤ high
Spans low (more a b) high = (mid : ℕ) × Spans low a mid × Spans mid b high

-- the two numbers are in order
Spans-order : (e : Tree) (low high : ℕ) → Spans low e high → low ≤ high
Spans-order (literal v p) low high q = omega (arith, q.0, q.1)
Spans-order (unary o a p) low high q = omega (arith, q.0, Spans-order a (p + 1) high q.1)
Spans-order (binary o a b p) low high q = omega (arith, Spans-order a low p q.0, Spans-order b (p + 1) high q.1)
Spans-order (tree.name x p) low high q = omega (arith, q.0, q.1)
Spans-order (conditional t x y p) low high (u, (mid, next, v, w, z)) =
    omega (arith, u, Spans-order t (p + 1) mid v, Spans-order x mid next w, Spans-order y next high z)
Spans-order (call x a p) low high q = omega (arith, q.0, Spans-order a (p + 1) high q.1)
Spans-order (block a b p) low high (u, (mid, v, w)) = omega (arith, u, Spans-order a (p + 1) mid v, Spans-order b mid high w)
Spans-order (loop t x y p) low high (u, (mid, next, v, w, z)) =
    omega (arith, u, Spans-order t (p + 1) mid v, Spans-order x mid next w, Spans-order y next high z)
Spans-order (for_loop x i a b c d p) low high (u, v, (m, n, o, w, y, z, t)) =
    omega (arith, u, v, Spans-order a (i + 1) m w, Spans-order b m n y, Spans-order c n o z, Spans-order d o high t)
Spans-order (array nested a b p) low high (u, (mid, v, w)) = omega (arith, u, Spans-order a (p + 1) mid v, Spans-order b mid high w)
Spans-order (fetch t i p) low high q = omega (arith, Spans-order t low p q.0, Spans-order i (p + 1) high q.1)
Spans-order (binding x a p) low high q = omega (arith, q.0, Spans-order a (p + 1) high q.1)
Spans-order (tree.next x a p) low high q = omega (arith, q.0, Spans-order a (p + 1) high q.1)
Spans-order (store t i a p) low high (u, (mid, v, w)) = omega (arith, Spans-order t low p u, Spans-order i (p + 1) mid v, Spans-order a mid high w)
Spans-order (param x k p) low high q = omega (arith, q.0, q.1)
Spans-order (define x a k b p) low high (u, (mid, v, w)) = omega (arith, u, Spans-order a (p + 1) mid v, Spans-order b mid high w)
Spans-order none low high q = q
Spans-order (more a b) low high q = omega (arith, Spans-order a low q.0 q.1, Spans-order b q.0 high q.2)

-- the two numbers may be further apart
Spans-wider : (e : Tree) (low high below above : ℕ) → below ≤ low → high ≤ above → Spans low e high → Spans below e above
Spans-wider (literal v p) low high below above u v' q = (omega (arith, q.0), omega (arith, q.1))
Spans-wider (unary o a p) low high below above u v q = (omega (arith, q.0), Spans-wider a (p + 1) high (p + 1) above (omega arith) v q.1)
Spans-wider (binary o a b p) low high below above u v q =
    (Spans-wider a low p below p u (omega arith) q.0, Spans-wider b (p + 1) high (p + 1) above (omega arith) v q.1)
Spans-wider (tree.name x p) low high below above u v' q = (omega (arith, q.0), omega (arith, q.1))
Spans-wider (conditional t x y p) low high below above u v (o, (mid, next, w, s, z)) =
    (omega (arith, o), (mid, next, w, s, Spans-wider y next high next above (omega arith) v z))
Spans-wider (call x a p) low high below above u v q = (omega (arith, q.0), Spans-wider a (p + 1) high (p + 1) above (omega arith) v q.1)
Spans-wider (block a b p) low high below above u v (o, (mid, s, t)) = (omega (arith, o), (mid, s, Spans-wider b mid high mid above (omega arith) v t))
Spans-wider (loop t x y p) low high below above u v (o, (mid, next, w, s, z)) =
    (omega (arith, o), (mid, next, w, s, Spans-wider y next high next above (omega arith) v z))
Spans-wider (for_loop x i a b c d p) low high below above u v (k, l, (m, n, o, w, y, z, t)) =
    (omega (arith, k), l, (m, n, o, w, y, z, Spans-wider d o high o above (omega arith) v t))
Spans-wider (array nested a b p) low high below above u v (o, (mid, s, t)) = (omega (arith, o), (mid, s, Spans-wider b mid high mid above (omega arith) v t))
Spans-wider (fetch t i p) low high below above u v q =
    (Spans-wider t low p below p u (omega arith) q.0, Spans-wider i (p + 1) high (p + 1) above (omega arith) v q.1)
Spans-wider (binding x a p) low high below above u v q = (omega (arith, q.0), Spans-wider a (p + 1) high (p + 1) above (omega arith) v q.1)
Spans-wider (tree.next x a p) low high below above u v q = (omega (arith, q.0), Spans-wider a (p + 1) high (p + 1) above (omega arith) v q.1)
Spans-wider (store t i a p) low high below above u v (o, (mid, s, w)) =
    (Spans-wider t low p below p u (omega arith) o, (mid, s, Spans-wider a mid high mid above (omega arith) v w))
Spans-wider (param x k p) low high below above u v' q = (omega (arith, q.0), omega (arith, q.1))
Spans-wider (define x a k b p) low high below above u v (o, (mid, s, t)) = (omega (arith, o), (mid, s, Spans-wider b mid high mid above (omega arith) v t))
Spans-wider none low high below above u v q = omega arith
Spans-wider (more a b) low high below above u v q = (
  q.0,
  Spans-wider a low q.0 below q.0 u (omega arith) q.1,
  Spans-wider b q.0 high q.0 above (omega arith) v q.2,
)

-- a thing's place is between the two
Spans-place : (e : Tree) (low high q : ℕ) → Spans low e high → HasPlace e q → (low ≤ q) × (q < high)
Spans-place (literal v p) low high q s h = (omega (arith, s.0, h), omega (arith, s.1, h))
Spans-place (unary o a p) low high q s (inl h) = (omega (arith, s.0, h), omega (arith, Spans-order a (p + 1) high s.1, h))
Spans-place (unary o a p) low high q s (inr h) = let r = Spans-place a (p + 1) high q s.1 h in (omega (arith, s.0, r.0), r.1)
Spans-place (binary o a b p) low high q s (inl h) = (omega (arith, Spans-order a low p s.0, h), omega (arith, Spans-order b (p + 1) high s.1, h))
Spans-place (binary o a b p) low high q s (inr (inl h)) = let r = Spans-place a low p q s.0 h in (r.0, omega (arith, r.1, Spans-order b (p + 1) high s.1))
Spans-place (binary o a b p) low high q s (inr (inr h)) = let r = Spans-place b (p + 1) high q s.1 h in (omega (arith, r.0, Spans-order a low p s.0), r.1)
Spans-place (tree.name x p) low high q s h = (omega (arith, s.0, h), omega (arith, s.1, h))
Spans-place (conditional t x y p) low high q (o, (mid, next, u, v, w)) (inl h) =
    (omega (arith, o, h), omega (arith, Spans-order t (p + 1) mid u, Spans-order x mid next v, Spans-order y next high w, h))
Spans-place (conditional t x y p) low high q (o, (mid, next, u, v, w)) (inr (inl h)) =
    let r = Spans-place t (p + 1) mid q u h in (omega (arith, o, r.0), omega (arith, r.1, Spans-order x mid next v, Spans-order y next high w))
Spans-place (conditional t x y p) low high q (o, (mid, next, u, v, w)) (inr (inr (inl h))) =
    let r = Spans-place x mid next q v h in (omega (arith, o, r.0, Spans-order t (p + 1) mid u), omega (arith, r.1, Spans-order y next high w))
Spans-place (conditional t x y p) low high q (o, (mid, next, u, v, w)) (inr (inr (inr h))) =
    let r = Spans-place y next high q w h in (omega (arith, o, r.0, Spans-order t (p + 1) mid u, Spans-order x mid next v), r.1)
Spans-place (call x a p) low high q s (inl h) = (omega (arith, s.0, h), omega (arith, Spans-order a (p + 1) high s.1, h))
Spans-place (call x a p) low high q s (inr h) = let r = Spans-place a (p + 1) high q s.1 h in (omega (arith, s.0, r.0), r.1)
Spans-place (block a b p) low high q (o, (mid, s, t)) (inl h) = (omega (arith, o, h), omega (arith, Spans-order a (p + 1) mid s, Spans-order b mid high t, h))
Spans-place (block a b p) low high q (o, (mid, s, t)) (inr (inl h)) = let r = Spans-place a (p + 1) mid q s h in
    (omega (arith, o, r.0), omega (arith, r.1, Spans-order b mid high t))
Spans-place (block a b p) low high q (o, (mid, s, t)) (inr (inr h)) = let r = Spans-place b mid high q t h in
    (omega (arith, o, r.0, Spans-order a (p + 1) mid s), r.1)
Spans-place (loop t x y p) low high q (o, (mid, next, u, v, w)) (inl h) =
    (omega (arith, o, h), omega (arith, Spans-order t (p + 1) mid u, Spans-order x mid next v, Spans-order y next high w, h))
Spans-place (loop t x y p) low high q (o, (mid, next, u, v, w)) (inr (inl h)) =
    let r = Spans-place t (p + 1) mid q u h in (omega (arith, o, r.0), omega (arith, r.1, Spans-order x mid next v, Spans-order y next high w))
Spans-place (loop t x y p) low high q (o, (mid, next, u, v, w)) (inr (inr (inl h))) =
    let r = Spans-place x mid next q v h in (omega (arith, o, r.0, Spans-order t (p + 1) mid u), omega (arith, r.1, Spans-order y next high w))
Spans-place (loop t x y p) low high q (o, (mid, next, u, v, w)) (inr (inr (inr h))) =
    let r = Spans-place y next high q w h in (omega (arith, o, r.0, Spans-order t (p + 1) mid u, Spans-order x mid next v), r.1)
Spans-place (for_loop x i a b c d p) low high q (u, v, (m, n, o, w, y, z, t)) (inl h) =
    (omega (arith, u, h), omega (arith, v, Spans-order a (i + 1) m w, Spans-order b m n y, Spans-order c n o z, Spans-order d o high t, h))
Spans-place (for_loop x i a b c d p) low high q (u, v, (m, n, o, w, y, z, t)) (inr (inl h)) =
    (omega (arith, u, v, h), omega (arith, Spans-order a (i + 1) m w, Spans-order b m n y, Spans-order c n o z, Spans-order d o high t, h))
Spans-place (for_loop x i a b c d p) low high q (u, v, (m, n, o, w, y, z, t)) (inr (inr (inl h))) =
    let r = Spans-place a (i + 1) m q w h in
    (omega (arith, u, v, r.0), omega (arith, r.1, Spans-order b m n y, Spans-order c n o z, Spans-order d o high t))
Spans-place (for_loop x i a b c d p) low high q (u, v, (m, n, o, w, y, z, t)) (inr (inr (inr (inl h)))) =
    let r = Spans-place b m n q y h in
    (omega (arith, u, v, r.0, Spans-order a (i + 1) m w), omega (arith, r.1, Spans-order c n o z, Spans-order d o high t))
Spans-place (for_loop x i a b c d p) low high q (u, v, (m, n, o, w, y, z, t)) (inr (inr (inr (inr (inl h))))) =
    let r = Spans-place c n o q z h in
    (omega (arith, u, v, r.0, Spans-order a (i + 1) m w, Spans-order b m n y), omega (arith, r.1, Spans-order d o high t))
Spans-place (for_loop x i a b c d p) low high q (u, v, (m, n, o, w, y, z, t)) (inr (inr (inr (inr (inr h))))) =
    let r = Spans-place d o high q t h in
    (omega (arith, u, v, r.0, Spans-order a (i + 1) m w, Spans-order b m n y, Spans-order c n o z), r.1)
Spans-place (array nested a b p) low high q (o, (mid, s, t)) (inl h) = (omega (arith, o, h), omega (arith, Spans-order a (p + 1) mid s, Spans-order b mid high t, h))
Spans-place (array nested a b p) low high q (o, (mid, s, t)) (inr (inl h)) =
    let r = Spans-place a (p + 1) mid q s h in (omega (arith, o, r.0), omega (arith, r.1, Spans-order b mid high t))
Spans-place (array nested a b p) low high q (o, (mid, s, t)) (inr (inr h)) =
    let r = Spans-place b mid high q t h in (omega (arith, o, r.0, Spans-order a (p + 1) mid s), r.1)
Spans-place (fetch t i p) low high q s (inl h) = (omega (arith, Spans-order t low p s.0, h), omega (arith, Spans-order i (p + 1) high s.1, h))
Spans-place (fetch t i p) low high q s (inr (inl h)) = let r = Spans-place t low p q s.0 h in (r.0, omega (arith, r.1, Spans-order i (p + 1) high s.1))
Spans-place (fetch t i p) low high q s (inr (inr h)) = let r = Spans-place i (p + 1) high q s.1 h in (omega (arith, r.0, Spans-order t low p s.0), r.1)
Spans-place (binding x a p) low high q s (inl h) = (omega (arith, s.0, h), omega (arith, Spans-order a (p + 1) high s.1, h))
Spans-place (binding x a p) low high q s (inr h) = let r = Spans-place a (p + 1) high q s.1 h in (omega (arith, s.0, r.0), r.1)
Spans-place (tree.next x a p) low high q s (inl h) = (omega (arith, s.0, h), omega (arith, Spans-order a (p + 1) high s.1, h))
Spans-place (tree.next x a p) low high q s (inr h) = let r = Spans-place a (p + 1) high q s.1 h in (omega (arith, s.0, r.0), r.1)
Spans-place (store t i a p) low high q (o, (mid, s, w)) (inl h) =
    (omega (arith, Spans-order t low p o, h), omega (arith, Spans-order i (p + 1) mid s, Spans-order a mid high w, h))
Spans-place (store t i a p) low high q (o, (mid, s, w)) (inr (inl h)) =
    let r = Spans-place t low p q o h in (r.0, omega (arith, r.1, Spans-order i (p + 1) mid s, Spans-order a mid high w))
Spans-place (store t i a p) low high q (o, (mid, s, w)) (inr (inr (inl h))) =
    let r = Spans-place i (p + 1) mid q s h in (omega (arith, r.0, Spans-order t low p o), omega (arith, r.1, Spans-order a mid high w))
Spans-place (store t i a p) low high q (o, (mid, s, w)) (inr (inr (inr h))) =
    let r = Spans-place a mid high q w h in (omega (arith, r.0, Spans-order t low p o, Spans-order i (p + 1) mid s), r.1)
Spans-place (param x k p) low high q s h = (omega (arith, s.0, h), omega (arith, s.1, h))
Spans-place (define x a k b p) low high q (o, (mid, s, t)) (inl h) =
    (omega (arith, o, h), omega (arith, Spans-order a (p + 1) mid s, Spans-order b mid high t, h))
Spans-place (define x a k b p) low high q (o, (mid, s, t)) (inr (inl h)) = let r = Spans-place a (p + 1) mid q s h in
    (omega (arith, o, r.0), omega (arith, r.1, Spans-order b mid high t))
Spans-place (define x a k b p) low high q (o, (mid, s, t)) (inr (inr h)) = let r = Spans-place b mid high q t h in
    (omega (arith, o, r.0, Spans-order a (p + 1) mid s), r.1)
Spans-place none low high q s h = absurd h
Spans-place (more a b) low high q s (inl h) = let r = Spans-place a low s.0 q s.1 h in (r.0, omega (arith, r.1, Spans-order b s.0 high s.2))
Spans-place (more a b) low high q s (inr h) = let r = Spans-place b s.0 high q s.2 h in (omega (arith, r.0, Spans-order a low s.0 s.1), r.1)

-- of two trees one behind the other no two things have one place
Spans-apart : (a b : Tree) (low mid next high : ℕ) → mid ≤ next → Spans low a mid → Spans next b high → Apart a b
Spans-apart a b low mid next high w s t = λ q g h. omega (arith, (Spans-place a low mid q s g).1, (Spans-place b next high q t h).0)

-- a tree behind two places has neither
Spares-before : (a : Tree) (p i low high : ℕ) → p < low → i < low → Spans low a high → Spares p i a
Spares-before a p i low high u v s = (λ h. omega (arith, (Spans-place a low high p s h).0), λ h. omega (arith, (Spans-place a low high i s h).0))

-- what spans has different places
pub Distinct-spans : (e : Tree) (low high : ℕ) → Spans low e high → Distinct e
Distinct-spans (literal v p) low high s = tt
Distinct-spans (unary o a p) low high s = (λ h. omega (arith, (Spans-place a (p + 1) high p s.1 h).0), Distinct-spans a (p + 1) high s.1)
Distinct-spans (binary o a b p) low high s = (
  λ h. omega (arith, (Spans-place a low p p s.0 h).1),
  λ h. omega (arith, (Spans-place b (p + 1) high p s.1 h).0),
  Spans-apart a b low p (p + 1) high (omega arith) s.0 s.1,
  Distinct-spans a low p s.0,
  Distinct-spans b (p + 1) high s.1,
)
Distinct-spans (tree.name x p) low high s = tt
Distinct-spans (conditional t x y p) low high (o, (mid, next, u, v, w)) = (
  λ h. omega (arith, (Spans-place t (p + 1) mid p u h).0),
  λ h. omega (arith, (Spans-place x mid next p v h).0, Spans-order t (p + 1) mid u),
  λ h. omega (arith, (Spans-place y next high p w h).0, Spans-order t (p + 1) mid u, Spans-order x mid next v),
  Spans-apart t x (p + 1) mid mid next (omega arith) u v,
  Spans-apart t y (p + 1) mid next high (Spans-order x mid next v) u w,
  Spans-apart x y mid next next high (omega arith) v w,
  Distinct-spans t (p + 1) mid u,
  Distinct-spans x mid next v,
  Distinct-spans y next high w,
)
Distinct-spans (call x a p) low high s = (λ h. omega (arith, (Spans-place a (p + 1) high p s.1 h).0), Distinct-spans a (p + 1) high s.1)
Distinct-spans (block a b p) low high (o, (mid, s, t)) = (
  λ h. omega (arith, (Spans-place a (p + 1) mid p s h).0),
  λ h. omega (arith, (Spans-place b mid high p t h).0, Spans-order a (p + 1) mid s),
  Spans-apart a b (p + 1) mid mid high (omega arith) s t,
  Distinct-spans a (p + 1) mid s,
  Distinct-spans b mid high t,
)
Distinct-spans (loop t x y p) low high (o, (mid, next, u, v, w)) = (
  λ h. omega (arith, (Spans-place t (p + 1) mid p u h).0),
  λ h. omega (arith, (Spans-place x mid next p v h).0, Spans-order t (p + 1) mid u),
  λ h. omega (arith, (Spans-place y next high p w h).0, Spans-order t (p + 1) mid u, Spans-order x mid next v),
  Spans-apart t x (p + 1) mid mid next (omega arith) u v,
  Spans-apart t y (p + 1) mid next high (Spans-order x mid next v) u w,
  Spans-apart x y mid next next high (omega arith) v w,
  Distinct-spans t (p + 1) mid u,
  Distinct-spans x mid next v,
  Distinct-spans y next high w,
)
Distinct-spans (for_loop x i a b c d p) low high (u, v, (m, n, o, w, y, z, t)) =
    let k = Spans-order a (i + 1) m w in
    let l = Spans-order b m n y in
    let j = Spans-order c n o z in (
      λ e. omega (arith, v, e),
      Spares-before a p i (i + 1) m (omega (arith, v)) (omega arith) w,
      Spares-before b p i m n (omega (arith, v, k)) (omega (arith, k)) y,
      Spares-before c p i n o (omega (arith, v, k, l)) (omega (arith, k, l)) z,
      Spares-before d p i o high (omega (arith, v, k, l, j)) (omega (arith, k, l, j)) t,
      Spans-apart a b (i + 1) m m n (omega arith) w y,
      Spans-apart a c (i + 1) m n o l w z,
      Spans-apart a d (i + 1) m o high (omega (arith, l, j)) w t,
      Spans-apart b c m n n o (omega arith) y z,
      Spans-apart b d m n o high j y t,
      Spans-apart c d n o o high (omega arith) z t,
      Distinct-spans a (i + 1) m w,
      Distinct-spans b m n y,
      Distinct-spans c n o z,
      Distinct-spans d o high t,
    )
Distinct-spans (array nested a b p) low high (o, (mid, s, t)) = (
  λ h. omega (arith, (Spans-place a (p + 1) mid p s h).0),
  λ h. omega (arith, (Spans-place b mid high p t h).0, Spans-order a (p + 1) mid s),
  Spans-apart a b (p + 1) mid mid high (omega arith) s t,
  Distinct-spans a (p + 1) mid s,
  Distinct-spans b mid high t,
)
Distinct-spans (fetch t i p) low high s = (
  λ h. omega (arith, (Spans-place t low p p s.0 h).1),
  λ h. omega (arith, (Spans-place i (p + 1) high p s.1 h).0),
  Spans-apart t i low p (p + 1) high (omega arith) s.0 s.1,
  Distinct-spans t low p s.0,
  Distinct-spans i (p + 1) high s.1,
)
Distinct-spans (binding x a p) low high s = (λ h. omega (arith, (Spans-place a (p + 1) high p s.1 h).0), Distinct-spans a (p + 1) high s.1)
Distinct-spans (tree.next x a p) low high s = (λ h. omega (arith, (Spans-place a (p + 1) high p s.1 h).0), Distinct-spans a (p + 1) high s.1)
Distinct-spans (store t i a p) low high (o, (mid, s, w)) = (
  λ h. omega (arith, (Spans-place t low p p o h).1),
  λ h. omega (arith, (Spans-place i (p + 1) mid p s h).0),
  λ h. omega (arith, (Spans-place a mid high p w h).0, Spans-order i (p + 1) mid s),
  Spans-apart t i low p (p + 1) mid (omega arith) o s,
  Spans-apart t a low p mid high (omega (arith, Spans-order i (p + 1) mid s)) o w,
  Spans-apart i a (p + 1) mid mid high (omega arith) s w,
  Distinct-spans t low p o,
  Distinct-spans i (p + 1) mid s,
  Distinct-spans a mid high w,
)
Distinct-spans (param x k p) low high s = tt
Distinct-spans (define x a k b p) low high (o, (mid, s, t)) = (
  λ h. omega (arith, (Spans-place a (p + 1) mid p s h).0),
  λ h. omega (arith, (Spans-place b mid high p t h).0, Spans-order a (p + 1) mid s),
  Spans-apart a b (p + 1) mid mid high (omega arith) s t,
  Distinct-spans a (p + 1) mid s,
  Distinct-spans b mid high t,
)
Distinct-spans none low high s = tt
Distinct-spans (more a b) low high s = (Spans-apart a b low s.0 s.0 high (omega arith) s.1 s.2, Distinct-spans a low s.0 s.1, Distinct-spans b s.0 high s.2)

-- whatever is laid from low on, the tree that is made spans what there is from the first number on
abbrev Keeps : ℕ → ℕ → Rest → Type 0
Keeps from low (done e) = (high : ℕ) → low ≤ high → Spans from e high
Keeps from low (word w r) = (mid : ℕ) → low ≤ mid → Keeps from mid r
Keeps from low (either w r q) = Keeps from low q × ((p : ℕ) → low ≤ p → Keeps from (p + 1) (r p))
Keeps from low (name f) = (x : List ℕ) (p : ℕ) → low ≤ p → Keeps from (p + 1) (f x p)
Keeps from low (of_kind f) = (k : Kind) (mid : ℕ) → low ≤ mid → Keeps from mid (f k)
Keeps from low (part s f) = (a : Tree) (mid : ℕ) → Spans low a mid → Keeps from mid (f a)
Keeps from low (sized s f) = (a : Tree) (m mid : ℕ) → Spans low a mid → Keeps from mid (f a m)
Keeps from low (raised m w r q) = Keeps from low q × ((p : ℕ) → low ≤ p → Keeps from (p + 1) (r p))

-- a block spans what its brace and its tail do
Spans-with_tail : (a : Tree) (p mid high : ℕ) → mid ≤ high → Spans (p + 1) a mid → Spans p (with_tail a p) high
Spans-with_tail (more a e) p mid high w (i, s, t) = (omega arith, (i, s, Spans-wider e i mid i high (omega arith) w t))
Spans-with_tail a p mid high w s = omega (arith, Spans-order a (p + 1) mid s)

-- a loop spans what its brace, its predicate and its tail do
Spans-loop_with_tail : (t a : Tree) (p low mid high : ℕ) → mid ≤ high → Spans (p + 1) t low → Spans low a mid → Spans p (loop_with_tail t a p) high
Spans-loop_with_tail t (more a e) p low mid high w u (i, s, v) = (omega arith, (low, i, u, s, Spans-wider e i mid i high (omega arith) w v))
Spans-loop_with_tail t a p low mid high w u s = omega (arith, Spans-order t (p + 1) low u, Spans-order a low mid s)

-- a `for` spans what its brace, its index, its bounds and its tail do
Spans-for_with_tail : (x : List ℕ) (i : ℕ) (a b t : Tree) (p m n mid high : ℕ) → mid ≤ high → p + 1 ≤ i → Spans (i + 1) a m → Spans m b n → Spans n t mid →
    Spans p (for_with_tail x i a b t p) high
Spans-for_with_tail x i a b (more c d) p m n mid high w l u v (o, s, t) = (omega arith, l, (m, n, o, u, v, s, Spans-wider d o mid o high (omega arith) w t))
Spans-for_with_tail x i a b t p m n mid high w l u v s = omega (arith, l, Spans-order a (i + 1) m u, Spans-order b m n v, Spans-order t n mid s)

-- a tail spans what its first statement and the tail behind it do
Spans-with_statement : (b a : Tree) (from low mid high : ℕ) → mid ≤ high → Spans from b low → Spans low a mid → Spans from (with_statement b a) high
Spans-with_statement b (more a e) from low mid high w u (i, s, t) = (i, (low, u, s), Spans-wider e i mid i high (omega arith) w t)
Spans-with_statement b a from low mid high w u s = omega (arith, Spans-order b from low u, Spans-order a low mid s)

-- parameters span what the first one and those behind it do
Spans-param : (x : List ℕ) (k : Kind) (p : ℕ) (a : Tree) (from low mid high : ℕ) → from ≤ p → p < low → mid ≤ high → Spans low a mid →
    Spans from (more (param x k p) a) high
Spans-param x k p a from low mid high u v w s = (p + 1, (u, omega arith), Spans-wider a low mid (p + 1) high (omega arith) w s)

-- what is kept behind each kind is kept behind its first word
deepened_keeps : (from low : ℕ) (f : Kind → Rest) → ((k : Kind) (mid : ℕ) → low ≤ mid → Keeps from mid (f k)) →
    (k : Kind) (mid : ℕ) → low ≤ mid → Keeps from mid (deepened f k)
deepened_keeps from low f h kind.Int mid w = h kind.Int mid w
deepened_keeps from low f h kind.Bool mid w = h kind.Bool mid w
deepened_keeps from low f h kind.Array mid w = (h kind.Array mid w, λ p u. h kind.Nested (p + 1) (omega (arith, w, u)))
deepened_keeps from low f h kind.Nested mid w = h kind.Nested mid w

-- an array spans what its word and its bounds do
bounds_keep : (nested : Bool) (p low : ℕ) → p < low → Keeps p low (bounds_of nested p)
bounds_keep nested p low v = λ q1 u1 a m1 s q2 u2 b m2 t q3 u3 high w.
    (omega arith, (q2, Spans-wider a q1 m1 (p + 1) q2 (omega (arith, v, u1)) u2 s, Spans-wider b q2 m2 q2 high (omega arith) (omega arith) t))

-- each production keeps this
Opens-keeps : {s : Phrase} {k : TokenKind} {p : ℕ} {r : Rest} → Opens s k p r → Keeps p (p + 1) r
Opens-keeps (definition {p = p}) = λ x q u a1 u1 a next t a2 u2. deepened_keeps p a2 (λ k. sign Becomes (body_of x a k q)) λ k a3 u3 a4 u4 e mid s z v high w.
    (omega arith, (next, Spans-wider a a1 next (q + 1) next (omega arith) (omega arith) t, Spans-wider e a4 mid next high (omega arith) (omega arith) s))
Opens-keeps (no_parameters {p = p}) = λ high w. omega arith
Opens-keeps (first_parameter {x = x} {p = p}) = λ a1 u1. deepened_keeps p a1 (λ k. part MoreParameters (λ a. done (more (param x k p) a))) λ k a2 u2 a mid s high w. Spans-param x k p a p a2 mid high (omega arith) (omega arith) w s
Opens-keeps (last_parameter {p = p}) = λ high w. omega arith
Opens-keeps (next_parameter {p = p}) = λ x q u a1 u1. deepened_keeps p a1 (λ k. part MoreParameters (λ a. done (more (param x k q) a))) λ k a2 u2 a mid s high w. Spans-param x k q a p a2 mid high (omega arith) (omega arith) w s
Opens-keeps (by_conditional {p = p}) = λ t a r b u x c s d v y mid z high w. (
  omega arith,
  (
    b,
    d,
    Spans-wider t (p + 1) a (p + 1) b (omega arith) u r,
    Spans-wider x b c b d (omega arith) v s,
    Spans-wider y d mid d high (omega arith) w z,
  ),
)
Opens-keeps (denied {p = p}) = λ e mid s high w. (omega arith, Spans-wider e (p + 1) mid (p + 1) high (omega arith) w s)
Opens-keeps (negated {p = p}) = λ e mid s high w. (omega arith, Spans-wider e (p + 1) mid (p + 1) high (omega arith) w s)
Opens-keeps (number {p = p}) = λ high w. (omega arith, omega arith)
Opens-keeps (by_true {p = p}) = λ high w. (omega arith, omega arith)
Opens-keeps (by_false {p = p}) = λ high w. (omega arith, omega arith)
Opens-keeps (parens {p = p}) = λ e mid s z v high w. Spans-wider e (p + 1) mid p high (omega arith) (omega arith) s
Opens-keeps (by_name {p = p}) = (
  λ high w. (omega arith, omega arith),
  λ q u a next s high w. (omega arith, Spans-wider a (q + 1) next (p + 1) high (omega arith) w s),
)
Opens-keeps (by_array {p = p}) = (bounds_keep false p (p + 1) (omega arith), λ o v. bounds_keep true p (o + 1) (omega (arith, v)))
Opens-keeps (no_arguments {p = p}) = λ high w. omega arith
Opens-keeps (last_argument {p = p}) = λ high w. omega arith
Opens-keeps (next_argument {p = p}) = λ e mid s a next t high w.
    (mid, Spans-wider e (p + 1) mid p mid (omega arith) (omega arith) s, Spans-wider a mid next mid high (omega arith) w t)
Opens-keeps (by_braces {p = p}) = (
  (
    λ a mid s high w. Spans-with_tail a p mid high w s,
    λ q1 u1 x i u2 q2 u3 a m1 s1 m2 u4 b m3 s2 m4 u5 t mid s3 high w. Spans-for_with_tail x i a b t p m2 m4 mid high w (omega arith)
        (Spans-wider a q2 m1 (i + 1) m2 u3 u4 s1) (Spans-wider b m2 m3 m2 m4 (omega arith) u5 s2) s3,
  ),
  λ q1 u1 e q2 v q3 u2 a mid s high w. Spans-loop_with_tail e a p q3 mid high w (Spans-wider e (q1 + 1) q2 (p + 1) q3 (omega arith) u2 v) s,
)
Opens-keeps (by_statement {x = x} {p = p}) = (
  λ q1 u1 e mid s q2 u2 a next t high w. Spans-with_statement (binding x e p) a p q2 next high w (omega arith, Spans-wider e q1 mid (p + 1) q2 u1 u2 s) t,
  λ q u i m m1 s1 q1 u1. (
    λ q2 u2 e m2 s2 q3 u3 a next t high w.
        Spans-with_statement (store (tree.name x p) i e q) a p q3 next high w (
          (omega arith, omega (arith, u)),
          (
            q2,
            Spans-wider i (q + 1) m1 (q + 1) q2 (omega arith) (omega (arith, u1, u2)) s1,
            Spans-wider e q2 m2 q2 q3 (omega arith) u3 s2,
          ),
        ) t,
    λ o v j m3 s3 q4 u4 q2 u2 e m2 s2 q3 u3 a next t high w.
        Spans-with_statement (store (fetch (tree.name x p) i q) j e o) a p q3 next high w (
          ((omega arith, omega (arith, u)), Spans-wider i (q + 1) m1 (q + 1) o (omega arith) (omega (arith, u1, v)) s1),
          (
            q2,
            Spans-wider j (o + 1) m3 (o + 1) q2 (omega arith) (omega (arith, u4, u2)) s3,
            Spans-wider e q2 m2 q2 q3 (omega arith) u3 s2,
          ),
        ) t,
  ),
)
Opens-keeps (by_next {p = p}) = λ x q u q1 u1 e mid s q2 u2 a after t high w.
    Spans-with_statement (tree.next x e p) a p q2 after high w (omega arith, Spans-wider e q1 mid (p + 1) q2 (omega arith) u2 s) t
Opens-keeps (by_body {p = p}) = λ e mid s z v high w. (p + 1, omega arith, Spans-wider e (p + 1) mid (p + 1) high (omega arith) (omega arith) s)
Opens-keeps (by_last {p = p}) = λ e mid s z v high w. (p + 1, omega arith, Spans-wider e (p + 1) mid (p + 1) high (omega arith) (omega arith) s)

-- what is laid is laid in both halves
Laid-split : (us vs : List Token) (low high : ℕ) → Laid low (us ++ vs) high → (mid : ℕ) × Laid low us mid × Laid mid vs high
Laid-split [] vs low high p = (low, omega arith, p)
Laid-split (t ∷ us) vs low high p = let q = Laid-split us vs (t.start + 1) high p.1 in (q.0, (p.0, q.1), q.2)

mutual
  Derives-spans : {s : Phrase} {ts : List Token} {e : Tree} {h : ℕ} → Derives s ts e h → (low high : ℕ) → Laid low ts high → Spans low e high
  Derives-spans (opened {t = t} {e = e} o f) low high p = Spans-wider e t.start high low high p.0 (omega arith)
      (Follows-spans f t.start (t.start + 1) high (Opens-keeps o) p.1)
  Derives-spans (unconditional d) low high p = Derives-spans d low high p
  Derives-spans (single d) low high p = Derives-spans d low high p
  Derives-spans (grouped {us = us} {vs = vs} {a = a} x t q y) low high p =
      let l = Laid-split us (t ∷ vs) low high p in
      (Spans-wider a low l.0 low t.start (omega arith) l.2.0 (Derives-spans x low l.0 l.1), Derives-spans y (t.start + 1) high l.2.1)
  Derives-spans (plain d) low high p = Derives-spans d low high p
  Derives-spans (bare d) low high p = Derives-spans d low high p
  Derives-spans (atomic d) low high p = Derives-spans d low high p
  Derives-spans (fetched {us = us} {vs = vs} {a = a} x t q f) low high p =
      let l = Laid-split us (t ∷ vs) low high p in
      let target = Spans-wider a low l.0 low t.start (omega arith) l.2.0 (Derives-spans x low l.0 l.1) in
      Follows-spans f low (t.start + 1) high (λ i mid s q1 u1 above w.
      (target, Spans-wider i (t.start + 1) mid (t.start + 1) above (omega arith) (omega arith) s)) l.2.1
  Derives-spans (some_arguments f) low high p = Follows-spans f low low high
      (λ e mid s a next t high w. (mid, s, Spans-wider a mid next mid high (omega arith) w t)) p

  Follows-spans : {r : Rest} {ts : List Token} {e : Tree} {h : ℕ} → Follows r ts e h → (from low high : ℕ) → Keeps from low r → Laid low ts high →
      Spans from e high
  Follows-spans ended from low high k p = k high p
  Follows-spans (taken {t = t} q f) from low high k p = Follows-spans f from (t.start + 1) high (k (t.start + 1) (omega (arith, p.0))) p.1
  Follows-spans (chosen {t = t} q f) from low high k p = Follows-spans f from (t.start + 1) high (k.1 t.start p.0) p.1
  Follows-spans (left_out f) from low high k p = Follows-spans f from low high k.0 p
  Follows-spans (named {t = t} {x = x} q f) from low high k p = Follows-spans f from (t.start + 1) high (k x t.start p.0) p.1
  Follows-spans (kinded {t = t} {k = j} q f) from low high k p = Follows-spans f from (t.start + 1) high (k j (t.start + 1) (omega (arith, p.0))) p.1
  Follows-spans (given {us = us} {ts = ts} {a = a} d f) from low high k p =
      let l = Laid-split us ts low high p in
      Follows-spans f from l.0 high (k a l.0 (Derives-spans d low l.0 l.1)) l.2
  Follows-spans (measured {us = us} {ts = ts} {a = a} {m = m} d f) from low high k p =
      let l = Laid-split us ts low high p in
      Follows-spans f from l.0 high (k a m l.0 (Derives-spans d low l.0 l.1)) l.2
  Follows-spans (lifted {t = t} q f) from low high k p = Follows-spans f from (t.start + 1) high (k.1 t.start p.0) p.1
  Follows-spans (unlifted f) from low high k p = Follows-spans f from low high k.0 p

-- a program spans what its tokens do
Program-spans : {ts : List Token} {e : Tree} {h : ℕ} → Program ts e h → (low high : ℕ) → Laid low ts high → Spans low e high
Program-spans (empty q) low high p = omega (arith, p.0, p.1)
Program-spans (defined {us = us} {ts = ts} x q) low high p =
    let l = Laid-split us ts low high p in
    (l.0, Derives-spans x low l.0 l.1, Program-spans q l.0 high l.2)

-- a program's things have different places
pub Program-distinct : {ts : List Token} {e : Tree} {h : ℕ} → Program ts e h → (low high : ℕ) → Laid low ts high → Distinct e
Program-distinct {e = e} q low high p = Distinct-spans e low high (Program-spans q low high p)
