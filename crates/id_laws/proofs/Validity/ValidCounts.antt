-- Lemmas on counts over lists: at least one, and at most one.
use Rattle.std.proofs.Common.{◌≡◌, ℕ, zero, suc, ◌≤◌, Bool, true, false, ◌||◌, cond, Some, List, [], ◌∷◌, slice_get}
use Rattle.std.proofs.Common.{inl, inr, refl, sym, ap, subst, ◌∙◌, arith}
use Rattle.std.specs.List.{list_any, sum_by, count_by, All}
use Rattle.std.proofs.lemmas.List.Sums.{sum_by-cons}
use Rattle.std.proofs.lemmas.Option.{slice_get-get_or}
use Rattle.id_value.specs.List.{Among, AllDiffer}
use Rattle.id_value.proofs.AmongLemmas.{Among-from_at, at-from_Among}

or_later : (a : Bool) {b : Bool} → b ≡ true → (a || b) ≡ true
or_later true e = refl
or_later false e = e

-- something in the list passes the test, and so one does
pub any_among : {X : Type 0} (p : X → Bool) (x : X) (xs : List X) → Among x xs → p x ≡ true → list_any p xs ≡ true
any_among p x [] h e = absurd h
any_among p x (y ∷ xs) (inl i) e = let here : p y ≡ true = ap p (sym i) ∙ e in rw here refl
any_among p x (y ∷ xs) (inr h) e = or_later (p y) (any_among p x xs h e)

pub among_any : {X : Type 0} (p : X → Bool) (xs : List X) → list_any p xs ≡ true → (x : X) × Among x xs × (p x ≡ true)
among_any p [] e = cc
among_any {X} p (y ∷ xs) e = go (p y) refl e (among_any p xs)
  where
    go : (b : Bool) → p y ≡ b → (b || list_any p xs) ≡ true
        → (list_any p xs ≡ true → (x : X) × Among x xs × (p x ≡ true))
        → (x : X) × Among x (y ∷ xs) × (p x ≡ true)
    go true f e rest = (y, inl refl, f)
    go false f e rest = let t = rest e in (t.0, inr t.1, t.2)

-- what holds of all that is in a list
pub all_among : {X : Type 0} (P : X → Type 0) (xs : List X) → ((x : X) → Among x xs → P x) → All P xs
all_among P xs h = λ k d within. h _ (Among-from_at _ xs k (slice_get-get_or xs k d within))

-- a sum is not less than any of its terms
pub sum_at : {X : Type 0} (f : X → ℕ) (xs : List X) (n : ℕ) (x : X) → slice_get xs n ≡ Some x → f x ≤ sum_by f xs
sum_at f [] n x e = cc
sum_at f (y ∷ xs) zero x e =
    let is : y ≡ x = cc in
    let same : f y ≡ f x = ap f is in
    omega (arith, sum_by-cons f y xs)
sum_at f (y ∷ xs) (suc n) x e = omega (arith, sum_by-cons f y xs, sum_at f xs n x e)

-- a place of the list where the term is not 0
record IsTerm {X : Type 0} (f : X → ℕ) (xs : List X) : Type 0 where
  index : ℕ
  item : X
  at : slice_get xs index ≡ Some item
  some : 1 ≤ f item

-- a sum that is not 0 has a term that is not
sum_some : {X : Type 0} (f : X → ℕ) (xs : List X) → 1 ≤ sum_by f xs → IsTerm f xs
sum_some f [] h = absurd (omega arith)
sum_some f (y ∷ xs) h = go (f y) refl (sum_some f xs)
  where
    go : (k : ℕ) → f y ≡ k → (1 ≤ sum_by f xs → IsTerm f xs) → IsTerm f (y ∷ xs)
    go zero e rest =
        let t = rest (omega (arith, sum_by-cons f y xs)) in
        record { index = suc t.index; item = t.item; at = t.at; some = t.some }
    go (suc k) e rest = record { index = 0; item = y; at = refl; some = omega arith }

-- where no term is above 1, and no two are not 0, the sum is at most 1
pub sum_once : {X : Type 0} (f : X → ℕ) (xs : List X) → ((n : ℕ) (x : X) → slice_get xs n ≡ Some x → f x ≤ 1)
    → ((n m : ℕ) (x y : X) → slice_get xs n ≡ Some x → slice_get xs m ≡ Some y → 1 ≤ f x → 1 ≤ f y → n ≡ m)
    → sum_by f xs ≤ 1
sum_once f [] few apart = omega arith
sum_once f (x ∷ xs) few apart =
    go (f x) (sum_by f xs) refl refl (few 0 x refl)
    (sum_once f xs (λ n y e. few (suc n) y e) (λ n m y z e d i j. (let s : suc n ≡ suc m =
    apart (suc n) (suc m) y z e d i j in omega arith)))
  where
    go : (k s : ℕ) → f x ≡ k → sum_by f xs ≡ s → k ≤ 1 → s ≤ 1 → sum_by f (x ∷ xs) ≤ 1
    go zero s e d a b = omega (arith, sum_by-cons f x xs)
    go (suc k) zero e d a b = omega (arith, sum_by-cons f x xs)
    go (suc k) (suc s) e d a b =
        let t : IsTerm f xs = sum_some f xs (omega arith) in
        let same : 0 ≡ suc t.index = apart 0 (suc t.index) x t.item refl t.at (omega arith) t.some in
        absurd (omega arith)

-- in a list where all differ, one thing has one place
pub differ_at : {X : Type 0} (xs : List X) (n m : ℕ) (x : X) → AllDiffer xs → slice_get xs n ≡ Some x
    → slice_get xs m ≡ Some x → n ≡ m
differ_at [] n m x d a b = cc
differ_at (y ∷ xs) zero zero x d a b = refl
differ_at (y ∷ xs) zero (suc m) x d a b =
    let is : x ≡ y = cc in absurd (d.0 (subst (λ z. Among z xs) is (Among-from_at x xs m b)))
differ_at (y ∷ xs) (suc n) zero x d a b =
    let is : x ≡ y = cc in absurd (d.0 (subst (λ z. Among z xs) is (Among-from_at x xs n a)))
differ_at (y ∷ xs) (suc n) (suc m) x d a b = ap suc (differ_at xs n m x d.1 a b)

counted : (b : Bool) → 1 ≤ cond b 1 0 → b ≡ true
counted true h = refl
counted false h = absurd (omega arith)

small : (b : Bool) → cond b 1 0 ≤ 1
small true = omega arith
small false = omega arith

-- what passes is counted
pub count_among : {X : Type 0} (p : X → Bool) (x : X) (xs : List X) → Among x xs → p x ≡ true → 1 ≤ count_by p xs
count_among p x xs h e =
    let k = at-from_Among x xs h in
    subst (λ (b : Bool). cond b 1 0 ≤ count_by p xs) e (sum_at (λ y. cond (p y) 1 0) xs k.0 x k.1)

-- what is counted passes
pub count_some : {X : Type 0} (p : X → Bool) (xs : List X) → 1 ≤ count_by p xs → (x : X) × Among x xs × (p x ≡ true)
count_some p xs h =
    let t : IsTerm (λ y. cond (p y) 1 0) xs = sum_some (λ y. cond (p y) 1 0) xs h in
    (t.item, Among-from_at t.item xs t.index t.at, counted (p t.item) t.some)

-- where all differ and those that pass are one, at most one passes
pub count_once : {X : Type 0} (p : X → Bool) (xs : List X) → AllDiffer xs
    → ((x y : X) → p x ≡ true → p y ≡ true → x ≡ y) → count_by p xs ≤ 1
count_once p xs differ one =
    sum_once (λ y. cond (p y) 1 0) xs (λ n x e. small (p x))
    (λ n m x y a b i j. differ_at xs n m y differ (a ∙ ap (λ z. Some z) (one x y (counted (p x) i) (counted (p y) j)))
    b)
