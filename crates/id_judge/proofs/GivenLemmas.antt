-- Lists that are the same as far as they were looked at, and events that are the one that is given.
use Rattle.std.proofs.Common.{◌≡◌, ℕ, ◌+◌, ◌<◌, ◌≤◌, Bool, false, Some, List, [], ◌∷◌, ◌++◌, length, take, slice_get}
use Rattle.std.proofs.Common.{sym, ap, ◌∙◌, subst, arith, ⊎_elim}
use Rattle.std.specs.Prelude.{IsTrue}
use Rattle.std.proofs.lemmas.Bool.{cases_lt}
use Rattle.std.proofs.lemmas.Option.{slice_get_within}
use Rattle.id_value.specs.List.{Among}
use Rattle.id_value.proofs.AmongLemmas.{at-from_Among}
use Rattle.id_observe.proofs.WalksLemmas.{take-next}
use Rattle.id_tag.specs.declared.Message.{Message}

pub none_true : {P : Type 0} → (P → ⊥) → (IsTrue false → P) × (P → IsTrue false)
none_true never = ((λ f. absurd cc), λ p. absurd (never p))

pub same_some : {A : Type 0} (x y : A) → Some x ≡ Some y → x ≡ y
same_some x y h = cc

pub not_false : (b : Bool) → b ≡ false → IsTrue b → ⊥
not_false b f t = cc

-- two lists that differ at a place
pub differ : {A : Type 0} (xs ys : List A) (k : ℕ) (x y : A) → slice_get xs k ≡ Some x → slice_get ys k ≡ Some y
    → (x ≡ y → ⊥) → xs ≡ ys → ⊥
differ xs ys k x y at there never same = never (same_some x y (sym at ∙ ap (λ zs. slice_get zs k) same ∙ there))

-- and two that are the same one place further
pub same_further : {A : Type 0} (xs ys : List A) (k : ℕ) (x y : A) → take k xs ≡ take k ys → slice_get xs k ≡ Some x
    → slice_get ys k ≡ Some y → x ≡ y → take (k + 1) xs ≡ take (k + 1) ys
same_further xs ys k x y before at there same =
    take-next xs k x at ∙ (λ i. before i ++ same i ∷ []) ∙ sym (take-next ys k y there)

-- a message that stands at none of the first places, and not at the next
pub none_more : (ms : List Message) (m x : Message) (k : ℕ) → ((j : ℕ) → j < k → slice_get ms j ≡ Some m → ⊥)
    → slice_get ms k ≡ Some x → (x ≡ m → ⊥) → (j : ℕ) → j < k + 1 → slice_get ms j ≡ Some m → ⊥
none_more ms m x k before at never j lt h = ⊎_elim
    (λ (below : j < k). before j below h)
    (λ (le : k ≤ j).
    let is : j ≡ k = omega (arith, le, lt) in
    never (same_some x m (sym at ∙ subst (λ i. slice_get ms i ≡ Some m) is h)))
    (cases_lt j k)

pub not_among : (ms : List Message) (m : Message) (n : ℕ) → length ms ≤ n
    → ((j : ℕ) → j < n → slice_get ms j ≡ Some m → ⊥) → Among m ms → ⊥
not_among ms m n all before a =
    let f = at-from_Among m ms a in
    let within : f.0 < length ms = slice_get_within ms f.0 m f.1 in
    before f.0 (omega (arith, within, all)) f.1
