-- Places of things: no two things of a tree have one (docs/LANGUAGE.md, "Place").
use Rattle.std.specs.Prelude.{◌≡◌, ◌⊎◌, ℕ}
use Rattle.id_grammar.specs.Tree.{Tree, literal, unary, binary, name, conditional, call, block, loop, array, fetch}
use Rattle.id_grammar.specs.Tree.{binding, next, store, param, define, none, more, for_loop}

-- a thing of the tree has this place
abbrev pub HasPlace : Tree → ℕ → Type 0
HasPlace (literal v p) q = p ≡ q
HasPlace (unary o a p) q = (p ≡ q) ⊎ HasPlace a q
HasPlace (binary o a b p) q = (p ≡ q) ⊎ (HasPlace a q ⊎ HasPlace b q)
HasPlace (name x p) q = p ≡ q
HasPlace (conditional t x y p) q = (p ≡ q) ⊎ (HasPlace t q ⊎ (HasPlace x q ⊎ HasPlace y q))
HasPlace (call x a p) q = (p ≡ q) ⊎ HasPlace a q
HasPlace (block a b p) q = (p ≡ q) ⊎ (HasPlace a q ⊎ HasPlace b q)
HasPlace (loop t a b p) q = (p ≡ q) ⊎ (HasPlace t q ⊎ (HasPlace a q ⊎ HasPlace b q))
HasPlace (for_loop x i a b c d p) q =
    (p ≡ q) ⊎ ((i ≡ q) ⊎ (HasPlace a q ⊎ (HasPlace b q ⊎ (HasPlace c q ⊎ HasPlace d q))))
HasPlace (array nested a b p) q = (p ≡ q) ⊎ (HasPlace a q ⊎ HasPlace b q)
HasPlace (fetch t i p) q = (p ≡ q) ⊎ (HasPlace t q ⊎ HasPlace i q)
HasPlace (binding x a p) q = (p ≡ q) ⊎ HasPlace a q
HasPlace (next x a p) q = (p ≡ q) ⊎ HasPlace a q
HasPlace (store t i a p) q = (p ≡ q) ⊎ (HasPlace t q ⊎ (HasPlace i q ⊎ HasPlace a q))
HasPlace (param x k p) q = p ≡ q
HasPlace (define x a k b p) q = (p ≡ q) ⊎ (HasPlace a q ⊎ HasPlace b q)
HasPlace none q = ⊥
HasPlace (more a b) q = HasPlace a q ⊎ HasPlace b q

-- no thing of the one tree has the place of one of the other
abbrev pub Apart : Tree → Tree → Type 0
Apart a b = (q : ℕ) → HasPlace a q → HasPlace b q → ⊥

-- no thing of the tree has the place p or the place i
abbrev pub Spares : ℕ → ℕ → Tree → Type 0
Spares p i a = (¬ HasPlace a p) × (¬ HasPlace a i)

-- no two things of the tree have one place
abbrev pub Distinct : Tree → Type 0
Distinct (literal v p) = Unit {0}
Distinct (unary o a p) = (¬ HasPlace a p) × Distinct a
Distinct (binary o a b p) = (¬ HasPlace a p) × (¬ HasPlace b p) × Apart a b × Distinct a × Distinct b
Distinct (name x p) = Unit {0}
Distinct (conditional t x y p) =
    (¬ HasPlace t p) × (¬ HasPlace x p) × (¬ HasPlace y p) × Apart t x × Apart t y × Apart x y
    × Distinct t × Distinct x × Distinct y
Distinct (call x a p) = (¬ HasPlace a p) × Distinct a
Distinct (block a b p) = (¬ HasPlace a p) × (¬ HasPlace b p) × Apart a b × Distinct a × Distinct b
Distinct (loop t a b p) =
    (¬ HasPlace t p) × (¬ HasPlace a p) × (¬ HasPlace b p) × Apart t a × Apart t b × Apart a b
    × Distinct t × Distinct a × Distinct b
Distinct (for_loop x i a b c d p) =
    (¬ (p ≡ i)) × Spares p i a × Spares p i b × Spares p i c × Spares p i d
    × Apart a b × Apart a c × Apart a d × Apart b c × Apart b d × Apart c d
    × Distinct a × Distinct b × Distinct c × Distinct d
Distinct (array nested a b p) = (¬ HasPlace a p) × (¬ HasPlace b p) × Apart a b × Distinct a × Distinct b
Distinct (fetch t i p) = (¬ HasPlace t p) × (¬ HasPlace i p) × Apart t i × Distinct t × Distinct i
Distinct (binding x a p) = (¬ HasPlace a p) × Distinct a
Distinct (next x a p) = (¬ HasPlace a p) × Distinct a
Distinct (store t i a p) =
    (¬ HasPlace t p) × (¬ HasPlace i p) × (¬ HasPlace a p) × Apart t i × Apart t a × Apart i a
    × Distinct t × Distinct i × Distinct a
Distinct (param x k p) = Unit {0}
Distinct (define x a k b p) = (¬ HasPlace a p) × (¬ HasPlace b p) × Apart a b × Distinct a × Distinct b
Distinct none = Unit {0}
Distinct (more a b) = Apart a b × Distinct a × Distinct b
