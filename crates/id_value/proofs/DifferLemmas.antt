-- Lemmas on lists in which nothing stands twice.
use Rattle.std.proofs.Common.{◌≡◌, inl, inr, ◌≤◌, List, [], ◌∷◌, ◌++◌, length, refl, ap, sym, subst, ◌∙◌, arith}
use Rattle.std.specs.List.{remove}
use Rattle.std.specs.Prelude.{map}
use Rattle.std.proofs.lemmas.List.Edits.{length-remove}
use Rattle.std.proofs.lemmas.Option.{slice_get_within}
use Rattle.id_value.specs.List.{AllDiffer, Among}
use Rattle.id_value.proofs.AmongLemmas.{Among-either, Among-left, Among-map, Among-right, at-from_Among}
use Rattle.id_value.proofs.PlacesLemmas.{taken-or-left}

-- two lists where all differ and that have nothing in common
pub AllDiffer-append : {A : Type 0} (xs ys : List A) → AllDiffer xs → AllDiffer ys → ((x : A) → Among x xs → Among x ys → ⊥) → AllDiffer (xs ++ ys)
AllDiffer-append [] ys hx hy apart = hy
AllDiffer-append (x ∷ xs) ys hx hy apart = (
  λ h. elim (Among-either x xs ys h) [ inl k ↦ hx.0 k | inr k ↦ apart x (inl refl) k ],
  AllDiffer-append xs ys hx.1 hy (λ z k l. apart z (inr k) l),
)

pub AllDiffer-left : {A : Type 0} (xs ys : List A) → AllDiffer (xs ++ ys) → AllDiffer xs
AllDiffer-left [] ys h = tt
AllDiffer-left (x ∷ xs) ys h = (λ k. h.0 (Among-left x xs ys k), AllDiffer-left xs ys h.1)

pub AllDiffer-right : {A : Type 0} (xs ys : List A) → AllDiffer (xs ++ ys) → AllDiffer ys
AllDiffer-right [] ys h = h
AllDiffer-right (x ∷ xs) ys h = AllDiffer-right xs ys h.1

-- two parts of a list where all differ have nothing in common
pub AllDiffer-apart : {A : Type 0} (xs ys : List A) → AllDiffer (xs ++ ys) → (x : A) → Among x xs → Among x ys → ⊥
AllDiffer-apart [] ys h x k l = k
AllDiffer-apart {A = A} (y ∷ xs) ys h x (inl e) l =
    let P : A → Type 0 = λ z. Among z (xs ++ ys) in
    h.0 (subst P e (Among-right x xs ys l))
AllDiffer-apart (y ∷ xs) ys h x (inr k) l = AllDiffer-apart xs ys h.1 x k l

-- the last one is not among those before
pub AllDiffer-last : {A : Type 0} (xs : List A) (x : A) → AllDiffer (xs ++ x ∷ []) → Among x xs → ⊥
AllDiffer-last xs x h k = AllDiffer-apart xs (x ∷ []) h x k (inl refl)

-- things differ where their images do
pub AllDiffer-from_map : {A B : Type 0} (f : A → B) (xs : List A) → AllDiffer (map f xs) → AllDiffer xs
AllDiffer-from_map f [] d = tt
AllDiffer-from_map f (x ∷ xs) d = (λ h. d.0 (Among-map f x xs h), AllDiffer-from_map f xs d.1)

-- where all images differ, things with one image are one
pub same-from_map : {A B : Type 0} (f : A → B) (xs : List A) (x y : A) → AllDiffer (map f xs) → Among x xs → Among y xs → f x ≡ f y → x ≡ y
same-from_map f [] x y d h k e = absurd h
same-from_map f (z ∷ xs) x y d (inl h) (inl k) e = h ∙ sym k
same-from_map {B = B} f (z ∷ xs) x y d (inl h) (inr k) e =
    let P : B → Type 0 = λ w. Among w (map f xs) in
    absurd (d.0 (subst P (sym e ∙ ap f h) (Among-map f y xs k)))
same-from_map {B = B} f (z ∷ xs) x y d (inr h) (inl k) e =
    let P : B → Type 0 = λ w. Among w (map f xs) in
    absurd (d.0 (subst P (e ∙ ap f k) (Among-map f x xs h)))
same-from_map f (z ∷ xs) x y d (inr h) (inr k) e = same-from_map f xs x y d.1 h k e

-- where all differ, there are no more than in a list that has each of them
pub AllDiffer-few : {A : Type 0} (xs ys : List A) → AllDiffer xs → ((x : A) → Among x xs → Among x ys) → length xs ≤ length ys
AllDiffer-few [] ys d each = omega arith
AllDiffer-few {A = A} (x ∷ xs) ys d each =
    let P : A → Type 0 = λ z. Among z xs in
    let at = at-from_Among x ys (each x (inl refl)) in
    let rest = AllDiffer-few xs (remove ys at.0) d.1
    (λ y h. elim (taken-or-left y x ys at.0 at.1 (each y (inr h))) [ inl e ↦ absurd (d.0 (subst P e h)) | inr k ↦ k ]) in
    omega (arith, rest, length-remove ys at.0 (slice_get_within ys at.0 x at.1))
