-- A list is written from one number on: each element below has its new value, and each other its old one. Or it grows
-- by one element, and each has its value.
use Rattle.std.proofs.Common.{◌≡◌, ◌⊎◌, inl, inr, ◌+◌, ◌<◌, ◌≤◌, ℕ, List, length, get_or, set, ap, ◌∙◌, sym, subst}
use Rattle.std.proofs.Common.{arith}
use Rattle.std.proofs.lemmas.Bool.{cases_lt}
use Rattle.std.proofs.lemmas.List.{get_or-set_same, get_or-set_other}

pub fill_done : {A : Type 0} (d : A) (F : ℕ → A) (xs : List A) (b n : ℕ) (y : A) → length xs ≡ n → b < n → y ≡ F b →
    ((i : ℕ) → i < b → i < n → get_or xs i d ≡ F i)
    → (i : ℕ) → i < b + 1 → i < n → get_or (set xs b y) i d ≡ F i
fill_done d F xs b n y long less e h i c k = at (cases_lt i b)
  where
    at : (i < b) ⊎ (b ≤ i) → get_or (set xs b y) i d ≡ F i
    at (inl g) = get_or-set_other xs b i y d (λ z. omega arith) ∙ h i g k
    at (inr g) =
        let same : i ≡ b = omega arith in
        ap (λ z. get_or (set xs b y) z d) same
        ∙ (get_or-set_same xs b y d (subst (λ m. b < m) (sym long) less) ∙ (e ∙ ap F (sym same)))

pub fill_rest : {A : Type 0} (d : A) (G : ℕ → A) (xs : List A) (b n : ℕ) (y : A)
    → ((i : ℕ) → b ≤ i → i < n → get_or xs i d ≡ G i) → (i : ℕ) → b + 1 ≤ i → i < n → get_or (set xs b y) i d ≡ G i
fill_rest d G xs b n y h i c k = get_or-set_other xs b i y d (λ z. omega arith) ∙ h i (omega arith) k
