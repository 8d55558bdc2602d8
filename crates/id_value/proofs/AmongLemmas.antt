-- Lemmas on what is among a list.
use Rattle.std.proofs.Common.{◌≡◌, ◌⊎◌, inl, inr, ℕ, zero, suc, Some, List, [], ◌∷◌, ◌++◌, refl, ap, sym}
use Rattle.std.specs.Prelude.{map, slice_get}
use Rattle.id_value.specs.List.{Among}

pub Among-left : {A : Type 0} (x : A) (xs ys : List A) → Among x xs → Among x (xs ++ ys)
Among-left x [] ys h = absurd h
Among-left x (y ∷ xs) ys (inl e) = inl e
Among-left x (y ∷ xs) ys (inr h) = inr (Among-left x xs ys h)

pub Among-right : {A : Type 0} (x : A) (xs ys : List A) → Among x ys → Among x (xs ++ ys)
Among-right x [] ys h = h
Among-right x (y ∷ xs) ys h = inr (Among-right x xs ys h)

-- what is among two lists together is among one of them
pub Among-either : {A : Type 0} (x : A) (xs ys : List A) → Among x (xs ++ ys) → Among x xs ⊎ Among x ys
Among-either x [] ys h = inr h
Among-either x (y ∷ xs) ys (inl e) = inl (inl e)
Among-either x (y ∷ xs) ys (inr h) = elim (Among-either x xs ys h) [ inl k ↦ inl (inr k) | inr k ↦ inr k ]

-- what is among a list of one is that one
pub Among-one : {A : Type 0} (x y : A) → Among x (y ∷ []) → x ≡ y
Among-one x y (inl e) = e
Among-one x y (inr h) = absurd h

pub Among-map : {A B : Type 0} (f : A → B) (x : A) (xs : List A) → Among x xs → Among (f x) (map f xs)
Among-map f x [] h = absurd h
Among-map f x (y ∷ xs) (inl e) = inl (ap f e)
Among-map f x (y ∷ xs) (inr h) = inr (Among-map f x xs h)

-- what is among the images is the image of one
pub Among-from_map : {A B : Type 0} (f : A → B) (y : B) (xs : List A) → Among y (map f xs) → (x : A) × Among x xs × (y ≡ f x)
Among-from_map f y [] h = absurd h
Among-from_map f y (x ∷ xs) (inl e) = (x, inl refl, e)
Among-from_map f y (x ∷ xs) (inr h) = let r = Among-from_map f y xs h in (r.0, inr r.1, r.2)

-- what stands somewhere in the list is among it
pub Among-from_at : {A : Type 0} (x : A) (xs : List A) (k : ℕ) → slice_get xs k ≡ Some x → Among x xs
Among-from_at x [] k h = cc
Among-from_at x (y ∷ xs) zero h = inl cc
Among-from_at x (y ∷ xs) (suc k) h = inr (Among-from_at x xs k h)

-- what is among a list stands somewhere in it
pub at-from_Among : {A : Type 0} (x : A) (xs : List A) → Among x xs → (k : ℕ) × (slice_get xs k ≡ Some x)
at-from_Among x [] h = absurd h
at-from_Among x (y ∷ xs) (inl e) = (0, ap (λ z. Some z) (sym e))
at-from_Among x (y ∷ xs) (inr h) = let r = at-from_Among x xs h in (suc r.0, r.1)

-- all of the second list is in the first
abbrev pub Inside : {A : Type 0} → List A → List A → Type 0
Inside {A} xs ys = (x : A) → Among x ys → Among x xs
