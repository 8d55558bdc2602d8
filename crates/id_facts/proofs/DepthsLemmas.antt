-- Lemmas on specs/Depths.antt.
use Rattle.std.proofs.Common.{◌≡◌, ℕ, zero, suc, ◌≤◌, ◌<◌, ◌+◌, ◌⊎◌, inl, inr, List, [], ◌∷◌, ◌++◌, length, get_or}
use Rattle.std.proofs.Common.{refl, ap, sym, ◌∙◌, subst, arith}
use Rattle.std.proofs.lemmas.Bool.{cases_lt}
use Rattle.std.proofs.lemmas.List.{get_or_append_left, get_or_past, length-append}
use Rattle.id_check.specs.declared.checked.Checked.{Checked}
use Rattle.id_facts.specs.declared.facts.RowFact.{RowFact}
use Rattle.id_facts.specs.declared.facts.RowFact.TheVariants.{On}
use Rattle.id_facts.specs.declared.facts.Trail.{Trail}
use Rattle.id_facts.specs.declared.facts.Trail.TheVariants.{Outermost, Below}
use Rattle.id_facts.specs.RowFacts.{AreBefore, fact_at, path_of, row_of}
use Rattle.id_facts.proofs.FactsLemmas.{Inside, fact-before}
use Rattle.id_facts.specs.Listed.{step_at, steps_in_all, steps_of}
use Rattle.id_facts.specs.Depths.{AreDepths, IsTree, depth_at, depth_by, depth_in}

-- it has no more steps than its spot says
fits : (i : ℕ) (p : Trail) → Inside i p → steps_in_all p ≤ i
fits i Outermost h = omega arith
fits i (Below j k) h = omega arith

pub depth-small : (fs : List RowFact) (j : ℕ) (q : Trail) → depth_in fs j q ≤ j
depth-small fs zero q = omega arith
depth-small fs (suc j) Outermost = omega arith
depth-small fs (suc j) (Below i k) = let r = depth-small fs j (path_of (fact_at fs i)) in omega (arith, r)

depth-same : (fs : List RowFact) → AreBefore fs → (k j : ℕ) (q : Trail) → steps_in_all q ≤ k → steps_in_all q ≤ j
    → depth_in fs k q ≡ depth_in fs j q
depth-same fs b zero zero q l m = refl
depth-same fs b zero (suc j) Outermost l m = refl
depth-same fs b zero (suc j) (Below i n) l m = absurd (omega arith)
depth-same fs b (suc k) zero Outermost l m = refl
depth-same fs b (suc k) zero (Below i n) l m = absurd (omega arith)
depth-same fs b (suc k) (suc j) Outermost l m = refl
depth-same fs b (suc k) (suc j) (Below i n) l m =
    let p = path_of (fact_at fs i) in
    let w = fits i p (fact-before fs b i) in
    ap (λ x. x + 1) (depth-same fs b k j p (omega arith) (omega arith))

-- one more than that of the path of its spot
pub depth-suc : (fs : List RowFact) → AreBefore fs → (i k : ℕ)
    → depth_at fs (Below i k) ≡ depth_at fs (path_of (fact_at fs i)) + 1
depth-suc fs b i k =
    let p = path_of (fact_at fs i) in
    let w = fits i p (fact-before fs b i) in
    ap (λ x. x + 1) (depth-same fs b i (steps_in_all p) p (omega arith) (omega arith))

length-one : {A : Type 0} (xs : List A) (x : A) → length (xs ++ x ∷ []) ≡ length xs + 1
length-one xs x = length-append xs (x ∷ [])

-- the depth is the number of steps
pub depth-steps : (P : Checked) (fs : List RowFact) (j : ℕ) (q : Trail) → length (steps_of P fs j q) ≡ depth_in fs j q
depth-steps P fs zero q = refl
depth-steps P fs (suc j) Outermost = refl
depth-steps P fs (suc j) (Below i k) =
    length-one (steps_of P fs j (path_of (fact_at fs i))) (step_at P (row_of (fact_at fs i)) k)
    ∙ ap (λ x. x + 1) (depth-steps P fs j (path_of (fact_at fs i)))

-- ---- by the depths of facts

depth-within : (fs : List RowFact) (n : ℕ) (ds : List ℕ) → AreBefore fs → AreDepths fs n ds → (q : Trail) → Inside n q
    → depth_by ds q ≡ depth_at fs q
depth-within fs n ds b d Outermost h = refl
depth-within fs n ds b d (Below i k) h = ap (λ x. x + 1) (d.depths i h) ∙ sym (depth-suc fs b i k)

past : (fs : List RowFact) (ds : List ℕ) (i k : ℕ) → AreBefore fs → length fs ≤ i → length ds ≤ i
    → depth_by ds (Below i k) ≡ depth_at fs (Below i k)
past fs ds i k b l m =
    ap (λ x. x + 1) (get_or_past ds i 0 m)
    ∙ sym (depth-suc fs b i k ∙ ap (λ f. depth_at fs (path_of f) + 1) (get_or_past fs i (On Outermost 0) l))

depth-tree : (fs : List RowFact) (ds : List ℕ) → IsTree fs ds → (q : Trail) → depth_by ds q ≡ depth_at fs q
depth-tree fs ds t Outermost = refl
depth-tree fs ds t (Below i k) = elim (cases_lt i (length fs)) [
  | inl l ↦ depth-within fs (length fs) ds t.before t.depths (Below i k) l
  | inr l ↦ past fs ds i k t.before l (let c = t.depths.count in omega (arith, c, l))
]

pub depth-known : (fs : List RowFact) (ds es : List ℕ) → IsTree fs ds → es ≡ ds → (q : Trail) (r : ℕ)
    → r ≡ depth_by es q → r ≡ depth_at fs q
depth-known fs ds es t e q r h = h ∙ ap (λ xs. depth_by xs q) e ∙ depth-tree fs ds t q

-- ---- one fact more

get_or_last : {A : Type 0} (xs : List A) (x d : A) (i : ℕ) → length xs ≡ i → get_or (xs ++ x ∷ []) i d ≡ x
get_or_last [] x d zero e = refl
get_or_last [] x d (suc i) e = absurd (omega arith)
get_or_last (y ∷ xs) x d zero e = absurd (omega arith)
get_or_last (y ∷ xs) x d (suc i) e = get_or_last xs x d i (omega arith)

pub no-depths : (fs : List RowFact) → AreDepths fs 0 []
no-depths fs = record { count = refl; small = λ i l. absurd (omega arith); depths = λ i l. absurd (omega arith) }

pub all-depths : (fs : List RowFact) (n m : ℕ) (ds : List ℕ) → AreDepths fs n ds → n ≡ m → AreDepths fs m ds
all-depths fs n m ds d e = subst (λ k. AreDepths fs k ds) e d

pub depths-more : (fs : List RowFact) (n m : ℕ) (ds es : List ℕ) (d : ℕ) (q : Trail) → AreBefore fs → AreDepths fs n ds
    → q ≡ path_of (fact_at fs n) → d ≡ depth_by ds q → es ≡ ds ++ d ∷ [] → m ≡ n + 1 → AreDepths fs m es
depths-more fs n m ds es d q b h e f g k =
    let F : ℕ → List ℕ → Type 0 =
    λ x xs. AreDepths fs x xs in subst (λ x. F x es) (sym k) (subst (λ xs. F (n + 1) xs) (sym g) more)
  where
    p : Trail
    p = path_of (fact_at fs n)

    new : d ≡ depth_at fs p
    new = f ∙ ap (λ r. depth_by ds r) e ∙ depth-within fs n ds b h p (fact-before fs b n)

    low : d ≤ n
    low =
        let w = fits n p (fact-before fs b n) in
        let s = depth-small fs (steps_in_all p) p in
        omega (arith, new, w, s)

    small : (i : ℕ) → i < n + 1 → (i < n) ⊎ (n ≤ i) → get_or (ds ++ d ∷ []) i 0 ≤ i
    small i less (inl c) =
        let l = h.count in
        let a = get_or_append_left ds (d ∷ []) 0 i (omega (arith, l, c)) in
        let s = h.small i c in
        omega (arith, a, s)
    small i less (inr c) =
        let l = h.count in
        let a = get_or_last ds d 0 i (omega (arith, l, c, less)) in
        omega (arith, a, low, c)

    depths : (i : ℕ) → i < n + 1 → (i < n) ⊎ (n ≤ i) → get_or (ds ++ d ∷ []) i 0 ≡ depth_at fs (path_of (fact_at fs i))
    depths i less (inl c) = let l = h.count in get_or_append_left ds (d ∷ []) 0 i (omega (arith, l, c)) ∙ h.depths i c
    depths i less (inr c) =
        let l = h.count in
        let same : n ≡ i = omega (arith, c, less) in
        get_or_last ds d 0 i (omega (arith, l, c, less)) ∙ new ∙ ap (λ j. depth_at fs (path_of (fact_at fs j))) same

    more : AreDepths fs (n + 1) (ds ++ d ∷ [])
    more = record {
      count = length-one ds d ∙ ap (λ x. x + 1) h.count;
      small = λ i less. small i less (cases_lt i n);
      depths = λ i less. depths i less (cases_lt i n);
    }
