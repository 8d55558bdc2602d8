-- Paths that are the same are one.
use Rattle.std.proofs.Common.{◌≡◌, ℕ, Bool as Truth, true, false, ◌&&◌, nat_eq}
use Rattle.std.proofs.Common.{refl, ap, ◌∙◌}
use Rattle.std.proofs.lemmas.Bool.{eqb-true, eqb-false}
use Rattle.id_facts.specs.declared.facts.RowFact.{RowFact}
use Rattle.id_facts.specs.declared.facts.RowFact.TheVariants.{On, Has, Shape, Put, Ask}
use Rattle.id_facts.specs.declared.facts.Trail.{Trail}
use Rattle.id_facts.specs.declared.facts.Trail.TheVariants.{Outermost, Below}
use Rattle.id_facts.specs.RowFacts.{is_on}
use Rattle.id_facts.specs.RowFacts.{same_trail}

-- ---- what is one

pub both : (a b : Truth) → a && b ≡ true → (a ≡ true) × (b ≡ true)
both true b h = (refl, h)
both false b h = cc

pub and-is : (a b : Truth) → a ≡ true → b ≡ true → a && b ≡ true
and-is true b e h = h
and-is false b e h = cc

pub eq-itself : (a : ℕ) → nat_eq a a ≡ true
eq-itself a = go (nat_eq a a) refl
  where
    go : (t : Truth) → nat_eq a a ≡ t → nat_eq a a ≡ true
    go true e = e
    go false e = absurd (eqb-false a a e refl)

pub trail-itself : (p : Trail) → same_trail p p ≡ true
trail-itself Outermost = refl
trail-itself (Below i k) = and-is (nat_eq i i) (nat_eq k k) (eq-itself i) (eq-itself k)

pub trail-true : (p q : Trail) → same_trail p q ≡ true → p ≡ q
trail-true Outermost Outermost h = refl
trail-true Outermost (Below i k) h = cc
trail-true (Below i k) Outermost h = cc
trail-true (Below i k) (Below j m) h =
    let t = both (nat_eq i j) (nat_eq k m) h in
    ap (λ a. Below a k) (eqb-true i j t.0) ∙ ap (λ b. Below j b) (eqb-true k m t.1)

-- ---- what a fact tells

pub on-true : (p : Trail) (n : ℕ) (f : RowFact) → is_on p n f ≡ true → f ≡ On p n
on-true p n (On q m) h =
    let t = both (same_trail q p) (nat_eq m n) h in
    ap (λ r. On r m) (trail-true q p t.0) ∙ ap (λ r. On p r) (eqb-true m n t.1)
on-true p n (Has q m v) h = cc
on-true p n (Shape s lo hi) h = cc
on-true p n (Put q m s i v) h = cc
on-true p n (Ask q m s i) h = cc

pub on-is : (p : Trail) (n : ℕ) → is_on p n (On p n) ≡ true
on-is p n = and-is (same_trail p p) (nat_eq n n) (trail-itself p) (eq-itself n)
