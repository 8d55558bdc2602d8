-- A list in two parts, with a gap between them.
use Rattle.std.proofs.Common.{◌≡◌, ◌+◌, ◌-◌, ◌++◌, ◌∷◌, [], ℕ, List, Option, Some, None, IsSome, length, length-append, drop, get_or, sym, ap, ◌∙◌}
use Rattle.std.proofs.Common.{append_assoc, arith}
use Rattle.std.specs.List.{slice_get}
use Rattle.std.specs.Prelude.{option_to_list}
use Rattle.std.proofs.Math.Seq.{get_or-append_seam}
use Rattle.std.proofs.lemmas.Option.{get_or_from_slice_get}

-- the last of the first part goes to the front of the second
module _ {X : Type 0} (xs ys : List X) (m : X) (n : ℕ) (last : n ≡ length xs - 1) (is : slice_get xs n ≡ Some m) where
  pub last_moves : (o : Option X) (front : List X) → xs ≡ front ++ option_to_list o → IsSome o → (length front + 1 ≡ length xs) × (front ++ m ∷ ys ≡ xs ++ ys)
  last_moves None front e some = cc
  last_moves (Some p) front e some =
      let len : length xs ≡ length front + 1 = ap length e ∙ length-append front (p ∷ []) in
      let at : n ≡ length front = omega (arith, last, len) in
      let same : m ≡ p = sym (get_or_from_slice_get xs n m p is) ∙ ap (λ k. get_or xs k p) at ∙ ap (λ l. get_or l (length front) p) e
      ∙ get_or-append_seam front p [] p in
      (sym len, ap (λ x. front ++ x ∷ ys) same ∙ sym (append_assoc front (p ∷ []) ys) ∙ ap (λ l. l ++ ys) (sym e))

-- the first of the second part goes to the end of the first
pub first_moves : {X : Type 0} (xs ys : List X) (m : X) → slice_get ys 0 ≡ Some m → (xs ++ m ∷ []) ++ drop 1 ys ≡ xs ++ ys
first_moves xs [] m at = cc
first_moves xs (y ∷ ys) m at =
    let same : y ≡ m = cc in
    append_assoc xs (m ∷ []) ys ∙ ap (λ x. xs ++ x ∷ ys) (sym same)
