-- Lemmas on the list of a row.
use Rattle.std.proofs.Common.{◌≡◌, ℕ, zero, suc, ◌+◌, ◌<◌, List, [], ◌∷◌, length, drop, refl, ap, ◌∙◌, arith}
use Rattle.std.specs.List.{remove}
use Rattle.id_flight.specs.declared.parcel.Parcel.{Parcel}

next-left : (left : ℕ) (ps : List Parcel) → left < length ps → drop (suc left) ps ≡ drop 1 (drop left ps)
next-left zero (p ∷ ps) there = refl
next-left (suc left) (p ∷ ps) there = next-left left ps (omega arith)
next-left left [] there = absurd (omega arith)

-- one more has left
pub one-left : (left : ℕ) (ps : List Parcel) → left < length ps → drop (left + 1) ps ≡ drop 1 (drop left ps)
one-left left ps there =
    let more : left + 1 ≡ suc left = omega arith in
    ap (λ k. drop k ps) more ∙ next-left left ps there

last-left : (left : ℕ) (ps : List Parcel) → length ps < suc (suc left) → drop 1 (drop left ps) ≡ []
last-left zero [] few = refl
last-left zero (p ∷ []) few = refl
last-left zero (p ∷ q ∷ ps) few = absurd (omega arith)
last-left (suc left) [] few = refl
last-left (suc left) (p ∷ ps) few = last-left left ps (omega arith)

-- none is left where at most one was
pub none-left : (left : ℕ) (ps : List Parcel) → length ps < left + 2 → drop 1 (drop left ps) ≡ []
none-left left ps few = last-left left ps (omega (arith, few))

none-removed : (k : ℕ) → remove {X = Parcel} [] k ≡ []
none-removed zero = refl
none-removed (suc k) = refl

-- one of those that have not left leaves
pub one-removed : (left k : ℕ) (ps : List Parcel) → drop left (remove ps (left + k)) ≡ remove (drop left ps) k
one-removed zero k ps = grind arith
one-removed (suc left) k [] = grind (arith, none-removed (suc left + k), none-removed k)
one-removed (suc left) k (p ∷ ps) =
    let at : suc left + k ≡ suc (left + k) = omega arith in
    rw at (one-removed left k ps)
