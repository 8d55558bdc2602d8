-- The numbers of rows as the builder writes them.
use Rattle.std.proofs.Common.{◌≡◌, ◌≢◌, ◌⊎◌, inl, inr, ℕ, zero, suc, ◌+◌, ◌<◌, ◌≤◌, true, false, cond, eqb, List, []}
use Rattle.std.proofs.Common.{◌∷◌, ◌++◌, length, length-append, get_or, take, refl, ap, sym, subst, ◌∙◌, arith}
use Rattle.std.proofs.Common.{get_or-set_other, get_or-set_same}
use Rattle.std.proofs.Math.ListN.{set}
use Rattle.std.proofs.lemmas.List.{take_more}
use Rattle.std.proofs.lemmas.Bool.Decides.{eqb_tells}
use Rattle.std.proofs.lemmas.Option.{slice_get-get_or, unwrap_or-slice_get}
use Rattle.id_build.proofs.NumberLemmas.{first_in-push, pieces_in-push}
use Rattle.id_check.specs.declared.checked.Checked.{Checked}
use Rattle.id_build.specs.Made.{first_in, number_by, pieces_in}
use Rattle.id_build.specs.Rows.{made}
use Rattle.id_value.proofs.AmongLemmas.{Among-from_at}
use Rattle.id_value.specs.List.{AllDiffer, Among}
use Rattle.id_check.specs.Programs.{rows}

pub Among-get_or : (xs : List ℕ) (i : ℕ) → i < length xs → Among (get_or xs i 0) xs
Among-get_or xs i h = Among-from_at (get_or xs i 0) xs i (slice_get-get_or xs i 0 h)

-- one more row adds its instructions
pub pieces_in-next : (P : Checked) (order : List ℕ) (i : ℕ) → i < length order
    → pieces_in P (take (i + 1) order) ≡ pieces_in P (take i order) ++ made P (get_or order i 0)
pieces_in-next P order i h =
    ap (pieces_in P) (take_more order i 0 h) ∙ pieces_in-push P (take i order) (get_or order i 0)

-- as many as it makes
pub count_in-next : (P : Checked) (order : List ℕ) (i : ℕ) → i < length order
    → length (pieces_in P (take (i + 1) order)) ≡ length (pieces_in P (take i order))
    + length (made P (get_or order i 0))
count_in-next P order i h =
    ap length (pieces_in-next P order i h) ∙ length-append (pieces_in P (take i order)) (made P (get_or order i 0))

among_take : (xs : List ℕ) (i n : ℕ) → Among n (take i xs) → Among n xs
among_take [] zero n h = absurd h
among_take [] (suc i) n h = absurd h
among_take (x ∷ xs) zero n h = absurd h
among_take (x ∷ xs) (suc i) n (inl e) = inl e
among_take (x ∷ xs) (suc i) n (inr h) = inr (among_take xs i n h)

not_before : (xs : List ℕ) (i : ℕ) → AllDiffer xs → i < length xs → Among (get_or xs i 0) (take i xs) → ⊥
not_before [] i d h a = absurd (omega arith)
not_before (x ∷ xs) zero d h a = a
not_before (x ∷ xs) (suc i) d h (inl e) =
    let A : ℕ → Type 0 = λ z. Among z xs in d.0 (subst A e (Among-get_or xs i (omega arith)))
not_before (x ∷ xs) (suc i) d h (inr a) = not_before xs i d.1 (omega arith) a

read : (F : List ℕ) (m : ℕ) → number_by F m 0 ≡ get_or F m 0
read F m = let e = unwrap_or-slice_get F m 0 in omega arith

-- one more row has its number
pub first_in-next : (P : Checked) (order F : List ℕ) (i v : ℕ) → AllDiffer order → i < length order
    → get_or order i 0 < length F →
    v ≡ length (pieces_in P (take i order))
    → ((m : ℕ) → m < length (rows P) → number_by F m 0 ≡ first_in P 0 (take i order) m) → (m : ℕ) →
    m < length (rows P) → number_by (set F (get_or order i 0) v) m 0 ≡ first_in P 0 (take (i + 1) order) m
first_in-next P order F i v d h l e f m lt =
    let n = get_or order i 0 in
    read (set F n v) m ∙ at (eqb_tells n m)
    ∙ sym (first_in-push P (take i order) 0 n m (not_before order i d h))
    ∙ ap (λ l. first_in P 0 l m) (sym (take_more order i 0 h))
  where
    at : ((eqb (get_or order i 0) m ≡ true) × (get_or order i 0 ≡ m))
        ⊎ ((eqb (get_or order i 0) m ≡ false) × (get_or order i 0 ≢ m)) →
        get_or (set F (get_or order i 0) v) m 0
        ≡ cond (eqb (get_or order i 0) m) (0 + length (pieces_in P (take i order))) (first_in P 0 (take i order) m)
    at (inl t) =
        let here : get_or (set F (get_or order i 0) v) (get_or order i 0) 0 ≡ v = rw get_or-set_same refl in
        let G : ℕ → Type 0 = λ z. get_or (set F (get_or order i 0) v) z 0 ≡ v in
        let value : v ≡ 0 + length (pieces_in P (take i order)) = omega arith in
        rw t.0 (subst G t.1 here ∙ value)
    at (inr t) =
        let ne : m ≢ get_or order i 0 = λ z. t.1 (sym z) in
        let same : get_or (set F (get_or order i 0) v) m 0 ≡ get_or F m 0 = rw get_or-set_other refl in
        rw t.0 (same ∙ sym (read F m) ∙ f m lt)

-- the first rows have no more instructions than all
pub pieces_in-take : (P : Checked) (k : ℕ) (ns : List ℕ) → length (pieces_in P (take k ns)) ≤ length (pieces_in P ns)
pieces_in-take P zero [] = omega arith
pieces_in-take P (suc k) [] = omega arith
pieces_in-take P zero (n ∷ ns) = omega arith
pieces_in-take P (suc k) (n ∷ ns) =
    let rest = pieces_in-take P k ns in
    omega (arith, length-append (made P n) (pieces_in P ns), length-append (made P n) (pieces_in P (take k ns)))

-- before the first row all are 0
pub zeros : (n m : ℕ) (F : List ℕ) → ((k : ℕ) → get_or F k 0 ≡ 0) → number_by F m 0 ≡ 0
zeros n m F h = read F m ∙ h m
