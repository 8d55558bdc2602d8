-- The numbers of the instructions of rows that are made in an order: for any rows, whatever each makes.
use Rattle.std.proofs.Common.{◌≡◌, ◌≢◌, ◌⊎◌, inl, inr, ℕ, zero, suc, ◌+◌, ◌<◌, ◌≤◌, Bool, true, false, cond, eqb}
use Rattle.std.proofs.Common.{List, [], ◌∷◌, ◌++◌, length, length-append, refl, ap, sym, subst, append_assoc}
use Rattle.std.proofs.Common.{append-nil, ◌∙◌, arith, Some, eq-eqb}
use Rattle.std.specs.Prelude.{slice_get}
use Rattle.std.proofs.lemmas.Bool.{eqb-true}
use Rattle.std.proofs.lemmas.Bool.Decides.{eqb_tells}
use Rattle.id_check.specs.declared.checked.Checked.{Checked}
use Rattle.id_build.specs.declared.arc.Piece.{Piece}
use Rattle.id_build.specs.Made.{first_in, pieces_in}
use Rattle.id_build.specs.Rows.{made}
use Rattle.id_value.proofs.PlacesLemmas.{slice_get-left, slice_get-right}
use Rattle.id_value.specs.List.{AllDiffer, Among}

abbrev count : Checked → ℕ → ℕ
count P x = length (made P x)

pub in_either : {A : Type 0} (xs ys : List A) (j : ℕ) (x : A) → slice_get (xs ++ ys) j ≡ Some x →
    (slice_get xs j ≡ Some x) ⊎ ((i : ℕ) × (j ≡ length xs + i) × (slice_get ys i ≡ Some x))
in_either [] ys j x h = inr (j, omega arith, h)
in_either (y ∷ xs) ys zero x h = inl h
in_either (y ∷ xs) ys (suc j) x h =
    elim (in_either xs ys j x h) [ inl i ↦ inl i | inr i ↦ inr (i.0, omega (arith, i.1), i.2) ]

-- an instruction of one of the rows stands at its number
pub pieces_in-at : (P : Checked) (order : List ℕ) (m n k : ℕ) (p : Piece) → Among n order
    → slice_get (made P n) k ≡ Some p →
    (j : ℕ) × (first_in P m order n + k ≡ m + j) × (slice_get (pieces_in P order) j ≡ Some p)
pieces_in-at P [] m n k p h i = absurd h
pieces_in-at P (x ∷ xs) m n k p h i = at (eqb x n) refl (λ g. pieces_in-at P xs (m + count P x) n k p g i)
  where
    at : (t : Bool) → eqb x n ≡ t → (Among n xs → (j : ℕ) × (first_in P (m + count P x) xs n + k ≡ m + count P x + j) ×
        (slice_get (pieces_in P xs) j ≡ Some p)) → (j : ℕ) × (cond t m (first_in P (m + count P x) xs n) + k ≡ m + j) ×
        (slice_get (pieces_in P (x ∷ xs)) j ≡ Some p)
    at true e f =
        let Z : ℕ → Type 0 = λ z. slice_get (made P z) k ≡ Some p in
        (k, refl, slice_get-left p (made P x) (pieces_in P xs) k (subst Z (sym (eqb-true x n e)) i))
    at false e f =
        let rest = f (elim h [ inl j ↦ absurd (let is = eq-eqb x n (sym j) in cc) | inr j ↦ j ]) in
        (count P x + rest.0, omega (arith, rest.1), slice_get-right (made P x) (pieces_in P xs) rest.0 ∙ rest.2)

-- each instruction is one of a row
pub record StandsIn (P : Checked) (order : List ℕ) (m j : ℕ) (p : Piece) : Type 0 where
  pub n : ℕ
  pub k : ℕ
  pub among : Among n order
  pub makes : slice_get (made P n) k ≡ Some p
  pub is : first_in P m order n + k ≡ m + j

pub pieces_in-from : (P : Checked) (order : List ℕ) (m j : ℕ) (p : Piece) → AllDiffer order
    → slice_get (pieces_in P order) j ≡ Some p → StandsIn P order m j p
pieces_in-from P [] m j p d h = cc
pieces_in-from P (x ∷ xs) m j p d h =
    elim (in_either (made P x) (pieces_in P xs) j p h) [
      | inl i ↦ (
          let here : first_in P m (x ∷ xs) x ≡ m =
          ap (λ t. cond t m (first_in P (m + count P x) xs x)) (eq-eqb x x refl) in
          record { n = x; k = j; among = inl refl; makes = i; is = omega (arith, here) }
          )
      | inr i ↦ (
          let rest = pieces_in-from P xs (m + count P x) i.0 p d.1 i.2 in
          let A : ℕ → Type 0 = λ z. Among z xs in
          let ne : x ≢ rest.n = λ e. d.0 (subst A (sym e) rest.among) in
          let other = other_first x rest.n ne m (first_in P (m + count P x) xs rest.n) in
          record {
            n = rest.n;
            k = rest.k;
            among = inr rest.among;
            makes = rest.makes;
            is =
                omega (arith, rest.is, other, i.1);
          }
          )
    ]
  where
    other_first : (x n : ℕ) → x ≢ n → (a b : ℕ) → cond (eqb x n) a b ≡ b
    other_first x n ne a b = elim (eqb_tells x n) [ inl h ↦ absurd (ne h.1) | inr h ↦ ap (λ t. cond t a b) h.0 ]

first-least : (P : Checked) (order : List ℕ) (m n : ℕ) → Among n order → m ≤ first_in P m order n
first-least P [] m n h = absurd h
first-least P (x ∷ xs) m n h = at (eqb x n) refl (first-least P xs (m + count P x) n)
  where
    at : (t : Bool) → eqb x n ≡ t → (Among n xs → m + count P x ≤ first_in P (m + count P x) xs n)
        → m ≤ cond t m (first_in P (m + count P x) xs n)
    at true e f = omega arith
    at false e f =
        let rest = f (elim h [ inl j ↦ absurd (let is = eq-eqb x n (sym j) in cc) | inr j ↦ j ]) in omega arith

later : (x n : ℕ) (xs : List ℕ) → eqb x n ≡ false → Among n (x ∷ xs) → Among n xs
later x n xs e (inl j) = absurd (let is = eq-eqb x n (sym j) in cc)
later x n xs e (inr j) = j

-- two instructions have two numbers
pub first_in-apart : (P : Checked) (order : List ℕ) (m n k n' k' : ℕ) → Among n order → Among n' order → k < count P n
    → k' < count P n' →
    first_in P m order n + k ≡ first_in P m order n' + k' → (n ≡ n') × (k ≡ k')
first_in-apart P [] m n k n' k' h h' l l' e = absurd h
first_in-apart P (x ∷ xs) m n k n' k' h h' l l' e =
    at (eqb x n) (eqb x n') refl refl (λ g g' i. first_in-apart P xs (m + count P x) n k n' k' g g' l l' i) e
  where
    at : (t t' : Bool) → eqb x n ≡ t → eqb x n' ≡ t' → (Among n xs → Among n' xs →
        first_in P (m + count P x) xs n + k ≡ first_in P (m + count P x) xs n' + k' → (n ≡ n') × (k ≡ k')) →
        cond t m (first_in P (m + count P x) xs n) + k ≡ cond t' m (first_in P (m + count P x) xs n') + k'
        → (n ≡ n') × (k ≡ k')
    at true true i i' f g = (sym (eqb-true x n i) ∙ eqb-true x n' i', omega arith)
    at true false i i' f g =
        let least = first-least P xs (m + count P x) n' (later x n' xs i' h') in
        let same = ap (count P) (eqb-true x n i) in
        absurd (omega arith)
    at false true i i' f g =
        let least = first-least P xs (m + count P x) n (later x n xs i h) in
        let same = ap (count P) (eqb-true x n' i') in
        absurd (omega arith)
    at false false i i' f g = f (later x n xs i h) (later x n' xs i' h') g

-- one more row has the next number
pub first_in-push : (P : Checked) (xs : List ℕ) (m y n : ℕ) → (Among y xs → ⊥) →
    first_in P m (xs ++ y ∷ []) n ≡ cond (eqb y n) (m + length (pieces_in P xs)) (first_in P m xs n)
first_in-push P [] m y n d = let e : m ≡ m + 0 = omega arith in ap (λ z. cond (eqb y n) z 0) e
first_in-push P (x ∷ xs) m y n d =
    at (eqb x n) (eqb y n) refl refl (first_in-push P xs (m + count P x) y n (λ h. d (inr h)))
  where
    at : (t u : Bool) → eqb x n ≡ t → eqb y n ≡ u → first_in P (m + count P x) (xs ++ y ∷ []) n ≡
        cond u (m + count P x + length (pieces_in P xs)) (first_in P (m + count P x) xs n) →
        cond t m (first_in P (m + count P x) (xs ++ y ∷ []) n)
        ≡ cond u (m + length (made P x ++ pieces_in P xs)) (cond t m (first_in P (m + count P x) xs n))
    at true true i j e = absurd (d (inl (eqb-true y n j ∙ sym (eqb-true x n i))))
    at true false i j e = refl
    at false true i j e = omega (arith, e, length-append (made P x) (pieces_in P xs))
    at false false i j e = e

pub pieces_in-push : (P : Checked) (xs : List ℕ) (y : ℕ) → pieces_in P (xs ++ y ∷ []) ≡ pieces_in P xs ++ made P y
pieces_in-push P [] y = append-nil (made P y)
pieces_in-push P (x ∷ xs) y =
    ap (λ l. made P x ++ l) (pieces_in-push P xs y) ∙ sym (append_assoc (made P x) (pieces_in P xs) (made P y))
