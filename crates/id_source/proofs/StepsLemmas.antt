-- Paths of the source: without their last steps, and with one more.
use Rattle.std.proofs.Common.{◌≡◌, ℕ, zero, suc, ◌-◌, ◌≤◌, List, [], ◌∷◌, ◌++◌, length, take, reverse, refl, ap, sym}
use Rattle.std.proofs.Common.{◌∙◌, arith}
use Rattle.std.proofs.lemmas.List.{length-append, reverse-append}
use Rattle.id_source.specs.declared.Path.{Path}
use Rattle.id_source.specs.declared.PathStep.{PathStep}
use Rattle.id_source.specs.Facts.{below, outermost, without}

take-whole : (ss : List PathStep) (n : ℕ) → n ≡ length ss → take n ss ≡ ss
take-whole [] zero e = refl
take-whole [] (suc n) e = absurd (omega arith)
take-whole (s ∷ ss) zero e = absurd (omega arith)
take-whole (s ∷ ss) (suc n) e = ap (λ xs. s ∷ xs) (take-whole ss n (omega arith))

path_from : List PathStep → Path
path_from ss = record { steps = ss }

-- without no steps it is the path
pub without-none : (p : Path) → without 0 p ≡ p
unfolding path_from
without-none p = ap path_from (take-whole p.steps (length p.steps - 0) (omega arith))

pub take-nil : (n : ℕ) → take {A = PathStep} n [] ≡ []
take-nil zero = refl
take-nil (suc n) = refl

take-front : (xs : List PathStep) (x : PathStep) (n m : ℕ) → n ≡ m → m ≤ length xs → take n (xs ++ x ∷ []) ≡ take m xs
take-front [] x zero m e l = let q : m ≡ 0 = omega arith in sym (take-nil m)
take-front [] x (suc n) m e l = absurd (omega arith)
take-front (y ∷ xs) x zero zero e l = refl
take-front (y ∷ xs) x zero (suc m) e l = absurd (omega arith)
take-front (y ∷ xs) x (suc n) zero e l = absurd (omega arith)
take-front (y ∷ xs) x (suc n) (suc m) e l = ap (λ ys. y ∷ ys) (take-front xs x n m (omega arith) (omega arith))

pub without-more : (d : ℕ) (ss ts : List PathStep) (x : PathStep) → ts ≡ ss ++ x ∷ []
    → take (length ts - suc d) ts ≡ take (length ss - d) ss
without-more d ss ts x e =
    let l : length ts ≡ suc (length ss) = ap length e ∙ (let q = length-append ss (x ∷ []) in omega (arith, q)) in
    ap (λ us. take (length ts - suc d) us) e
    ∙ take-front ss x (length ts - suc d) (length ss - d) (omega (arith, l)) (omega arith)

pub last-same : (xs ys : List PathStep) (x y : PathStep) → xs ++ x ∷ [] ≡ ys ++ y ∷ [] → (xs ≡ ys) × (x ≡ y)
last-same [] [] x y e = (refl, let q : x ≡ y = cc in q)
last-same [] (z ∷ []) x y e = cc
last-same [] (z ∷ w ∷ ys) x y e = cc
last-same (z ∷ []) [] x y e = cc
last-same (z ∷ w ∷ xs) [] x y e = cc
last-same (z ∷ xs) (w ∷ ys) x y e =
    let q : z ≡ w = cc in
    let t : xs ++ x ∷ [] ≡ ys ++ y ∷ [] = cc in
    let r = last-same xs ys x y t in
    ((λ i. q i ∷ r.0 i), r.1)

pub none-last : (xs : List PathStep) (x : PathStep) → [] ≡ xs ++ x ∷ [] → ⊥
none-last [] x e = cc
none-last (y ∷ xs) x e = cc

-- a path with one more step is not the empty one, and has one such step
pub none-below : (p : Path) (e k : ℕ) → outermost ≡ below p e k → ⊥
none-below p e k h = none-last p.steps (record { place = e; number = k }) (ap (λ q. q.steps) h)

pub below-once : (p q : Path) (e f k j : ℕ) → below p e k ≡ below q f j → (p ≡ q) × (e ≡ f) × (k ≡ j)
unfolding path_from
below-once p q e f k j h =
    let z = last-same p.steps q.steps (record { place = e; number = k }) (record { place = f; number = j })
    (ap (λ r. r.steps) h) in
    (ap path_from z.0, ap (λ s. s.place) z.1, ap (λ s. s.number) z.1)

pub reverse-last : (ss : List PathStep) (x : PathStep) → reverse (ss ++ x ∷ []) ≡ x ∷ reverse ss
reverse-last ss x = reverse-append ss (x ∷ [])

pub append-one : (xs ys : List PathStep) (x : PathStep) → (xs ++ x ∷ []) ++ ys ≡ xs ++ x ∷ ys
append-one [] ys x = refl
append-one (z ∷ xs) ys x = ap (λ l. z ∷ l) (append-one xs ys x)
