-- That no two things of a tree have one place can be kept by a type: there is at most one proof of it.
use Rattle.std.specs.Prelude.{ℕ}
use Rattle.std.specs.Coded.{×_prop, Π_prop, →_prop, Unit-prop}
use Rattle.id_grammar.specs.Tree.{Tree, literal, unary, binary, name, conditional, call, block, binding, param, define}
use Rattle.id_grammar.specs.Tree.{none, more, loop, next, array, fetch, store, for_loop}
use Rattle.id_tree.specs.Distinct.{Apart, Distinct, HasPlace, Spares}

-- there is at most one proof that nothing stands in a type
not-prop : {A : Type 0} → IsProp (A → ⊥)
not-prop = →_prop (λ x y. absurd x)

-- there is at most one proof that two trees are apart
Apart-prop : (a b : Tree) → IsProp (Apart a b)
Apart-prop a b = Π_prop (λ q. →_prop not-prop)

-- there is at most one proof that a tree has neither of two places
Spares-prop : (p i : ℕ) (a : Tree) → IsProp (Spares p i a)
Spares-prop p i a = ×_prop not-prop not-prop

-- there is at most one proof that the places of two trees and another one are distinct
two-prop : (a b : Tree) (p : ℕ) → IsProp (Distinct a) → IsProp (Distinct b)
    → IsProp ((¬ HasPlace a p) × (¬ HasPlace b p) × Apart a b × Distinct a × Distinct b)
two-prop a b p f g = λ x y i.
    (not-prop x.0 y.0 i, not-prop x.1 y.1 i, Apart-prop a b x.2 y.2 i, f x.3 y.3 i, g x.4 y.4 i)

-- there is at most one proof that the places of three trees and another one are distinct
three-prop : (t x y : Tree) (p : ℕ) → IsProp (Distinct t) → IsProp (Distinct x) → IsProp (Distinct y)
    → IsProp ((¬ HasPlace t p) × (¬ HasPlace x p) × (¬ HasPlace y p) × Apart t x × Apart t y × Apart x y
    × Distinct t × Distinct x × Distinct y)
three-prop t x y p f g h = λ d e i. (
  not-prop d.0 e.0 i,
  not-prop d.1 e.1 i,
  not-prop d.2 e.2 i,
  Apart-prop t x d.3 e.3 i,
  Apart-prop t y d.4 e.4 i,
  Apart-prop x y d.5 e.5 i,
  f d.6 e.6 i,
  g d.7 e.7 i,
  h d.8 e.8 i,
)

-- there is at most one proof that no two things of a tree have one place
pub Distinct-prop : (e : Tree) → IsProp (Distinct e)
Distinct-prop (literal v p) = Unit-prop
Distinct-prop (unary o a p) = ×_prop not-prop (Distinct-prop a)
Distinct-prop (binary o a b p) = two-prop a b p (Distinct-prop a) (Distinct-prop b)
Distinct-prop (name x p) = Unit-prop
Distinct-prop (conditional t x y p) = three-prop t x y p (Distinct-prop t) (Distinct-prop x) (Distinct-prop y)
Distinct-prop (call x a p) = ×_prop not-prop (Distinct-prop a)
Distinct-prop (block a b p) = two-prop a b p (Distinct-prop a) (Distinct-prop b)
Distinct-prop (loop t a b p) = three-prop t a b p (Distinct-prop t) (Distinct-prop a) (Distinct-prop b)
Distinct-prop (for_loop x q a b c d p) = λ v w j. (
  not-prop v.0 w.0 j,
  Spares-prop p q a v.1 w.1 j,
  Spares-prop p q b v.2 w.2 j,
  Spares-prop p q c v.3 w.3 j,
  Spares-prop p q d v.4 w.4 j,
  Apart-prop a b v.5 w.5 j,
  Apart-prop a c v.6 w.6 j,
  Apart-prop a d v.7 w.7 j,
  Apart-prop b c v.8 w.8 j,
  Apart-prop b d v.9 w.9 j,
  Apart-prop c d v.10 w.10 j,
  Distinct-prop a v.11 w.11 j,
  Distinct-prop b v.12 w.12 j,
  Distinct-prop c v.13 w.13 j,
  Distinct-prop d v.14 w.14 j,
)
Distinct-prop (array nested a b p) = two-prop a b p (Distinct-prop a) (Distinct-prop b)
Distinct-prop (fetch t i p) = two-prop t i p (Distinct-prop t) (Distinct-prop i)
Distinct-prop (store t i a p) = three-prop t i a p (Distinct-prop t) (Distinct-prop i) (Distinct-prop a)
Distinct-prop (next x a p) = ×_prop not-prop (Distinct-prop a)
Distinct-prop (binding x a p) = ×_prop not-prop (Distinct-prop a)
Distinct-prop (param x k p) = Unit-prop
Distinct-prop (define n a k b p) = two-prop a b p (Distinct-prop a) (Distinct-prop b)
Distinct-prop none = Unit-prop
Distinct-prop (more a b) = λ x y i. (Apart-prop a b x.0 y.0 i, Distinct-prop a x.1 y.1 i, Distinct-prop b x.2 y.2 i)
