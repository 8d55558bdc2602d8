-- How long a list is whose things differ, where each has a place in one of some lists.
use Rattle.std.proofs.Common.{◌≡◌, ◌⊎◌, inl, inr, ℕ, ◌+◌, ◌*◌, ◌≤◌, List, [], ◌∷◌, length, refl, sym, ◌∙◌, ap, subst}
use Rattle.std.proofs.Common.{arith, length-append}
use Rattle.std.specs.Prelude.{sum_by, flat_map}
use Rattle.std.proofs.lemmas.List.Sums.{sum_by-cons}
use Rattle.id_value.specs.List.{Among, AllDiffer}
use Rattle.id_value.proofs.AmongLemmas.{Among-left, Among-right}
use Rattle.id_value.proofs.DifferLemmas.{AllDiffer-few}

-- any two things are one or not
abbrev pub Decides : Type 0 → Type 0
Decides A = (x y : A) → (x ≡ y) ⊎ (x ≡ y → ⊥)

-- whether it is among the list
among_or_not : {A : Type 0} → Decides A → (x : A) (xs : List A) → Among x xs ⊎ (Among x xs → ⊥)
among_or_not test x [] = inr (λ h. h)
among_or_not test x (y ∷ xs) = elim (test x y) [
  | inl e ↦ inl (inl e)
  | inr other ↦ elim (among_or_not test x xs) [
    | inl h ↦ inl (inr h)
    | inr none ↦ inr (λ h. elim h [ inl e ↦ other e | inr k ↦ none k ])
  ]
]

-- the things of a list, each once
pub record EachOnce (A : Type 0) (xs : List A) : Type 0 where
  pub list : List A
  pub differ : AllDiffer list
  pub all : (x : A) → Among x xs → Among x list
  pub only : (x : A) → Among x list → Among x xs

pub each_once : (A : Type 0) → Decides A → (xs : List A) → EachOnce A xs
each_once A test [] = record { list = []; differ = tt; all = λ x h. h; only = λ x h. h }
each_once A test (x ∷ xs) =
    let rest = each_once A test xs in
    elim (among_or_not test x rest.list) [
      | inl h ↦ record {
        list = rest.list;
        differ = rest.differ;
        all = λ y k. elim k [ inl e ↦ subst (λ z. Among z rest.list) (sym e) h | inr l ↦ rest.all y l ];
        only = λ y k. inr (rest.only y k);
      }
      | inr other ↦ record {
        list = x ∷ rest.list;
        differ = (other, rest.differ);
        all = λ y k. elim k [ inl e ↦ inl e | inr l ↦ inr (rest.all y l) ];
        only = λ y k. elim k [ inl e ↦ inl e | inr l ↦ inr (rest.only y l) ];
      }
    ]

-- lists one behind another are as long as all of them
pub length-flat_map : {A B : Type 0} (f : A → List B) (xs : List A)
    → length (flat_map f xs) ≡ sum_by (λ x. length (f x)) xs
length-flat_map f [] = refl
length-flat_map f (x ∷ xs) =
    length-append (f x) (flat_map f xs) ∙ ap (λ n. length (f x) + n) (length-flat_map f xs)
    ∙ sym (sum_by-cons (λ x. length (f x)) x xs)

pub Among-flat_map : {A B : Type 0} (f : A → List B) (y : B) (x : A) (xs : List A) → Among x xs → Among y (f x)
    → Among y (flat_map f xs)
Among-flat_map f y x [] h k = absurd h
Among-flat_map {B = B} f y x (z ∷ xs) (inl e) k = Among-left y (f z) (flat_map f xs) (subst (λ w. Among y (f w)) e k)
Among-flat_map f y x (z ∷ xs) (inr h) k = Among-right y (f z) (flat_map f xs) (Among-flat_map f y x xs h k)

-- the sum of what is one number each time
pub sum_by_same : {A : Type 0} (f : A → ℕ) (n : ℕ) (xs : List A) → ((x : A) → f x ≡ n) → sum_by f xs ≡ n * length xs
sum_by_same f n [] each = omega arith
sum_by_same f n (x ∷ xs) each =
    let a = sum_by-cons f x xs in let b = sum_by_same f n xs each in let c = each x in omega arith

-- where all of a list differ and each stands in the list of a thing of another, there are no more than those lists have
pub few_by : {A B : Type 0} (f : A → List B) (ys : List B) (xs : List A) → AllDiffer ys
    → ((y : B) → Among y ys → (x : A) × Among x xs × Among y (f x)) → length ys ≤ sum_by (λ x. length (f x)) xs
few_by f ys xs differ each =
    subst (λ n. length ys ≤ n) (length-flat_map f xs)
    (AllDiffer-few ys (flat_map f xs) differ (λ y h. let z = each y h in Among-flat_map f y z.0 xs z.1 z.2))
