-- What a loop over a list gathers of its items, and what an error says nothing of.
use Rattle.std.proofs.Common.{◌≡◌, ◌+◌, ◌<◌, ◌≤◌, ℕ, List, [], ◌∷◌, ◌++◌, Result, Ok, Err, length, get_or, drop}
use Rattle.std.proofs.Common.{sym, ap, ◌∙◌, add-one, drop-cons, drop_of_length-le, append_assoc, append-nil}
use Rattle.std.specs.Prelude.{IfOk, IsErr, OnOk}

module _ {A B : Type 0} (F : List A → List B) where
  -- one more item gives what it gives
  pub gathered-more : (f : A → List B) → ((y : A) (ys : List A) → F (y ∷ ys) ≡ f y ++ F ys)
      → (xs : List A) (i : ℕ) (d : A) (old now whole : List B) → i < length xs
      → now ≡ old ++ f (get_or xs i d) → old ++ F (drop i xs) ≡ whole → now ++ F (drop (i + 1) xs) ≡ whole
  gathered-more f step xs i d old now whole within given so_far =
      ap (λ ys. ys ++ F (drop (i + 1) xs)) given
      ∙ append_assoc old (f (get_or xs i d)) (F (drop (i + 1) xs))
      ∙ ap (λ ys. old ++ ys) (sym (step (get_or xs i d) (drop (i + 1) xs)))
      ∙ ap (λ ys. old ++ F ys) (rw add-one (sym (drop-cons xs i d within)))
      ∙ so_far

  -- and after the last there are no more
  pub gathered-all : F [] ≡ [] → (xs : List A) (i : ℕ) (now whole : List B) → length xs ≤ i
      → now ++ F (drop i xs) ≡ whole → now ≡ whole
  gathered-all none xs i now whole end so_far =
      sym (append-nil now) ∙ ap (λ ys. now ++ ys) (sym none) ∙ ap (λ ys. now ++ F ys) (sym (drop_of_length-le xs end))
      ∙ so_far

-- where there are none yet
pub gathered-none : {B : Type 0} → (now rest : List B) → now ≡ [] → now ++ rest ≡ rest
gathered-none now rest none = ap (λ ys. ys ++ rest) none

-- what an error says nothing of
pub if_err : {A E : Type 0} → (P : A → Type 0) (r : Result A E) → IsErr r → IfOk r P
if_err P (Ok a) is = cc
if_err P (Err e) is = tt

pub on_ok : {A E : Type 0} → (P : Type 0) (r : Result A E) → IsErr r → OnOk r P
on_ok P (Ok a) is = cc
on_ok P (Err e) is = tt
