-- Lemmas on what stands at a place of a list, and on lists of which one place was set or taken out.
use Rattle.std.proofs.Common.{◌≡◌, ◌⊎◌, inl, inr, ℕ, zero, suc, ◌+◌, ◌<◌, Some, List, [], ◌∷◌, ◌++◌, length, get_or, set, refl, ap, ◌∙◌, arith}
use Rattle.std.specs.List.{remove}
use Rattle.std.specs.Prelude.{map, slice_get}
use Rattle.std.proofs.lemmas.Option.{slice_get-get_or}
use Rattle.id_value.specs.List.{Among}

-- what stands in a list stands there in a longer one
pub slice_get-left : {A : Type 0} (x : A) (xs ys : List A) (k : ℕ) → slice_get xs k ≡ Some x → slice_get (xs ++ ys) k ≡ Some x
slice_get-left x [] ys k h = cc
slice_get-left x (y ∷ xs) ys zero h = h
slice_get-left x (y ∷ xs) ys (suc k) h = slice_get-left x xs ys k h

-- what stands behind the first list
pub slice_get-right : {A : Type 0} (xs ys : List A) (k : ℕ) → slice_get (xs ++ ys) (length xs + k) ≡ slice_get ys k
slice_get-right [] ys k = let e : 0 + k ≡ k = omega arith in rw e refl
slice_get-right (x ∷ xs) ys k = let e : suc (length xs) + k ≡ suc (length xs + k) = omega arith in rw e (slice_get-right xs ys k)

-- what is added to a list stands at its end
pub slice_get-last : {A : Type 0} (x : A) (xs : List A) → slice_get (xs ++ (x ∷ [])) (length xs) ≡ Some x
slice_get-last x [] = refl
slice_get-last x (y ∷ xs) = slice_get-last x xs

-- the image of what stands in a list stands there in the list of the images
pub slice_get-image : {A B : Type 0} (f : A → B) (xs : List A) (k : ℕ) (x : A) → slice_get xs k ≡ Some x → slice_get (map f xs) k ≡ Some (f x)
slice_get-image f [] k x e = cc
slice_get-image f (y ∷ xs) zero x e = let q : y ≡ x = cc in ap (λ z. Some (f z)) q
slice_get-image f (y ∷ xs) (suc k) x e = slice_get-image f xs k x e

-- an element of a list that is read there and added to another
pub read-and-added : {A : Type 0} (xs ys zs : List A) (i : ℕ) (d : A) → i < length xs → zs ≡ ys ++ (get_or xs i d ∷ []) →
    (x : A) × (slice_get xs i ≡ Some x) × (zs ≡ ys ++ (x ∷ []))
read-and-added xs ys zs i d inside added = (get_or xs i d, slice_get-get_or xs i d inside, added)

-- what stands in a list of which one place was set
pub slice_get-set : {A : Type 0} (xs : List A) (n m : ℕ) (a b : A) → slice_get (set xs n a) m ≡ Some b → ((m ≡ n) × (b ≡ a)) ⊎ (slice_get xs m ≡ Some b)
slice_get-set [] n m a b e = inr e
slice_get-set (x ∷ xs) zero zero a b e = inl (refl, cc)
slice_get-set (x ∷ xs) zero (suc m) a b e = inr e
slice_get-set (x ∷ xs) (suc n) zero a b e = inr e
slice_get-set (x ∷ xs) (suc n) (suc m) a b e = elim (slice_get-set xs n m a b e) [ inl t ↦ inl (ap suc t.0, t.1) | inr k ↦ inr k ]

-- at the place that was set
pub set-here : {A : Type 0} (xs : List A) (n : ℕ) (a b : A) → slice_get xs n ≡ Some b → slice_get (set xs n a) n ≡ Some a
set-here [] n a b e = cc
set-here (x ∷ xs) zero a b e = refl
set-here (x ∷ xs) (suc n) a b e = set-here xs n a b e

-- at the other places
pub set-elsewhere : {A : Type 0} (xs : List A) (n m : ℕ) (a : A) → (m ≡ n → ⊥) → slice_get (set xs n a) m ≡ slice_get xs m
set-elsewhere [] n m a d = refl
set-elsewhere (x ∷ xs) zero zero a d = absurd (d refl)
set-elsewhere (x ∷ xs) zero (suc m) a d = refl
set-elsewhere (x ∷ xs) (suc n) zero a d = refl
set-elsewhere (x ∷ xs) (suc n) (suc m) a d = set-elsewhere xs n m a (λ e. d (ap suc e))

-- what is left after one thing was taken out was among the list
pub Among-from_remove : {A : Type 0} (y : A) (xs : List A) (k : ℕ) → Among y (remove xs k) → Among y xs
Among-from_remove y [] zero h = h
Among-from_remove y [] (suc k) h = h
Among-from_remove y (x ∷ xs) zero h = inr h
Among-from_remove y (x ∷ xs) (suc k) (inl e) = inl e
Among-from_remove y (x ∷ xs) (suc k) (inr h) = inr (Among-from_remove y xs k h)

-- what is among a list is what was taken out, or is left
pub taken-or-left : {A : Type 0} (y x : A) (xs : List A) (k : ℕ) → slice_get xs k ≡ Some x → Among y xs → (y ≡ x) ⊎ Among y (remove xs k)
taken-or-left y x [] k e h = absurd h
taken-or-left y x (z ∷ xs) zero e (inl p) = inl (let q : z ≡ x = cc in p ∙ q)
taken-or-left y x (z ∷ xs) zero e (inr h) = inr h
taken-or-left y x (z ∷ xs) (suc k) e (inl p) = inr (inl p)
taken-or-left y x (z ∷ xs) (suc k) e (inr h) = elim (taken-or-left y x xs k e h) [ inl p ↦ inl p | inr j ↦ inr (inr j) ]

pub map-remove : {A B : Type 0} (f : A → B) (xs : List A) (k : ℕ) → map f (remove xs k) ≡ remove (map f xs) k
map-remove f [] zero = refl
map-remove f [] (suc k) = refl
map-remove f (x ∷ xs) zero = refl
map-remove f (x ∷ xs) (suc k) = ap (λ ys. f x ∷ ys) (map-remove f xs k)
