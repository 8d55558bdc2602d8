-- Lemmas on specs/Listing.antt, in the order of its definitions.
use Rattle.std.proofs.Common.{◌≡◌, Ordering, Less, nat_lt, suc, get_or, ◌==◌, ◌+◌, ◌*◌, ℕ, ◌≤◌, ◌<◌, cond, true}
use Rattle.std.proofs.Common.{false, nat_le, length, List, [], ◌∷◌, sum_by, arith, refl, inl, inr, sym, ap, ◌∙◌}
use Rattle.std.proofs.lemmas.Bool.{cases_lt}
use Rattle.std.proofs.lemmas.Bool.Decides.{nat_tests}
use Rattle.std.proofs.lemmas.List.Sums.{sum_by-cons}
use Rattle.std.proofs.lemmas.List.Sorted.{sum_by-IsPermutation, IsNonDecreasingBy-from_all_adjacent}
use Rattle.std.specs.List.Sorted.{IsPermutation, IsSorted, IsNonDecreasingBy}
use Rattle.id_instr.specs.declared.dests.Dest.{Dest}
use Rattle.id_instr.specs.declared.dests.Port.{Port}
use Rattle.id_instr.specs.declared.dests.Port.TheVariants.{Zero, One}
use Rattle.std.specs.Cmp.{IsTotalOrder}
use Rattle.std.specs.Ordering.{is_lt, ordering_then, nat_cmp}
use Rattle.id_graph.specs.Listing.{port_number, rank, placed, in_order}

-- two destinations of one rank are one
rank-same : (m n : ℕ) (p q : Port) → 2 * m + port_number p ≡ 2 * n + port_number q → (m ≡ n) × (p ≡ q)
rank-same m n Zero Zero same = (omega arith, refl)
rank-same m n Zero One same = absurd (omega arith)
rank-same m n One Zero same = absurd (omega arith)
rank-same m n One One same = (omega arith, refl)

rank-injective : (d e : Dest) → rank d ≡ rank e → d ≡ e
rank-injective d e same =
    let make : ℕ → Port → Dest = λ n p. record { instr = n; port = p }
    in let parts = rank-same d.instr e.instr d.port e.port same
    in ap (λ n. make n d.port) parts.0 ∙ ap (λ p. make e.instr p) parts.1

-- what a comparison says of the ranks, by the ports of the two destinations
pub record RanksBy (cmp : Dest → Dest → Ordering) : Type 0 where
  pub both_zero : (m n : ℕ) → is_lt (cmp (record { instr = m; port = Zero }) (record { instr = n; port = Zero })) ≡ false → n ≤ m
  pub zero_one : (m n : ℕ) → is_lt (cmp (record { instr = m; port = Zero }) (record { instr = n; port = One })) ≡ false → n < m
  pub one_zero : (m n : ℕ) → is_lt (cmp (record { instr = m; port = One }) (record { instr = n; port = Zero })) ≡ false → n ≤ m
  pub both_one : (m n : ℕ) → is_lt (cmp (record { instr = m; port = One }) (record { instr = n; port = One })) ≡ false → n ≤ m

rank-from_parts : {cmp : Dest → Dest → Ordering} → RanksBy cmp → (m n : ℕ) (p q : Port) →
    is_lt (cmp (record { instr = m; port = p }) (record { instr = n; port = q })) ≡ false → 2 * n + port_number q ≤ 2 * m + port_number p
rank-from_parts by m n Zero Zero least = omega (arith, by.both_zero m n least)
rank-from_parts by m n Zero One least = omega (arith, by.zero_one m n least)
rank-from_parts by m n One Zero least = omega (arith, by.one_zero m n least)
rank-from_parts by m n One One least = omega (arith, by.both_one m n least)

-- along a sorted list the ranks do not fall
pub IsNonDecreasingBy-from_sorted : {cmp : Dest → Dest → Ordering} → IsTotalOrder cmp → (ds : List Dest) → RanksBy cmp → IsSorted cmp ds →
    IsNonDecreasingBy rank ds
IsNonDecreasingBy-from_sorted _ ds by sorted =
    IsNonDecreasingBy-from_all_adjacent rank ds (λ k d h.
    let later = get_or ds (k + 1) d in let one = get_or ds k d
    in rank-from_parts by later.instr one.instr later.port one.port (sorted k d (omega arith) h))

-- a number that does not compare less is not less, whatever a tie gives
pub not_less : (m n : ℕ) (o : Ordering) → is_lt (ordering_then (nat_cmp m n) o) ≡ false → n ≤ m
not_less m n o h =
    elim (cases_lt m n) [
      | inl lt ↦ let less : nat_lt m n ≡ true = grind (arith, nat_tests) in let h' = rw less at h in cc
      | inr ge ↦ ge
    ]

-- a number that does not compare less, where a tie does, is more
pub not_less_tie : (m n : ℕ) → is_lt (ordering_then (nat_cmp m n) Less) ≡ false → n < m
not_less_tie m n h =
    elim (cases_lt n m) [
      | inl lt ↦ lt
      | inr ge ↦
          elim (cases_lt m n) [
            | inl lt ↦ absurd (omega (arith, not_less m n Less h))
            | inr ge' ↦
                let none : nat_lt m n ≡ false = grind (arith, nat_tests)
                in let tie : (m == n) ≡ true = grind (arith, nat_tests)
                in let h' = rw (none, tie) at h in cc
          ]
    ]

-- no destination of the list is below the rank
AllFrom : ℕ → List Dest → Type 0
AllFrom r [] = Unit {0}
AllFrom r (d ∷ ds) = (r ≤ rank d) × AllFrom r ds

-- the ranks rise along the list
Rises : List Dest → Type 0
Rises [] = Unit {0}
Rises (d ∷ ds) = AllFrom (rank d) ds × Rises ds

-- how many destinations have the rank
abbrev count : ℕ → List Dest → ℕ
count r [] = 0
count r (d ∷ ds) = cond (rank d == r) 1 0 + count r ds

-- a list has a destination of its head's rank
count-head : (d : Dest) (ds : List Dest) → 0 < count (rank d) (d ∷ ds)
count-head d ds = let same : (rank d == rank d) ≡ true = grind (arith, nat_tests) in rw same (omega arith)

-- below all ranks there is none
count-below : (r s : ℕ) (ds : List Dest) → AllFrom s ds → r < s → count r ds ≡ 0
unfolding AllFrom
count-below r s [] from below = refl
count-below r s (d ∷ ds) from below =
    let high : s ≤ rank d = from.0
    in let other : (rank d == r) ≡ false = grind (arith, nat_tests)
    in rw other (omega (arith, count-below r s ds from.1 below))

-- the head of a list is not below the head of one that rises and has the same destinations
head_not_below : (d e : Dest) (ds es : List Dest) → Rises (e ∷ es) → ((r : ℕ) → count r (d ∷ ds) ≡ count r (e ∷ es)) → rank d < rank e → ⊥
unfolding AllFrom Rises
head_not_below d e ds es up same below =
    let none = count-below (rank d) (rank e) (e ∷ es) (omega arith, up.0) below
    in omega (arith, none, count-head d ds, same (rank d))

-- two lists that rise and have the same destinations are one
same_lists : (ds es : List Dest) → Rises ds → Rises es → ((r : ℕ) → count r ds ≡ count r es) → ds ≡ es
unfolding Rises
same_lists [] [] up up' same = refl
same_lists [] (e ∷ es) up up' same = absurd (omega (arith, count-head e es, same (rank e)))
same_lists (d ∷ ds) [] up up' same = absurd (omega (arith, count-head d ds, same (rank d)))
same_lists (d ∷ ds) (e ∷ es) up up' same =
    let ranks : rank d ≡ rank e =
    elim (cases_lt (rank d) (rank e)) [
      | inl below ↦ absurd (head_not_below d e ds es up' same below)
      | inr above ↦ elim (cases_lt (rank e) (rank d)) [
        | inl below ↦ absurd (head_not_below e d es ds up (λ r. sym (same r)) below)
        | inr equal ↦ omega arith
      ]
    ]
    in let heads = rank-injective d e ranks
    in let tails = same_lists ds es up.1 up'.1 (λ r. let both = rw ranks at (same r) in omega arith)
    in cc

-- placing a destination adds it
count-placed : (r : ℕ) (d : Dest) (es : List Dest) → count r (placed d es) ≡ cond (rank d == r) 1 0 + count r es
count-placed r d [] = refl
count-placed r d (e ∷ es) =
    elim (nat_le (rank d) (rank e)) as (λ t. count r (cond t (d ∷ e ∷ es) (e ∷ placed d es)) ≡ cond (rank d == r) 1 0 + (cond (rank e == r) 1 0 + count r es)) [
      | true ↦ refl
      | false ↦ omega (arith, count-placed r d es)
    ]

-- putting in order keeps the destinations
count-in_order : (r : ℕ) (ds : List Dest) → count r (in_order ds) ≡ count r ds
count-in_order r [] = refl
count-in_order r (d ∷ ds) = omega (arith, count-placed r d (in_order ds), count-in_order r ds)

-- what is from a rank on is from a lower one on
AllFrom-lower : (r s : ℕ) (ds : List Dest) → r ≤ s → AllFrom s ds → AllFrom r ds
unfolding AllFrom
AllFrom-lower r s [] low from = tt
AllFrom-lower r s (d ∷ ds) low from = let high : s ≤ rank d = from.0 in (omega arith, AllFrom-lower r s ds low from.1)

-- placing keeps a lower bound
AllFrom-placed : (r : ℕ) (d : Dest) (es : List Dest) → r ≤ rank d → AllFrom r es → AllFrom r (placed d es)
unfolding AllFrom
AllFrom-placed r d [] low from = (low, tt)
AllFrom-placed r d (e ∷ es) low from =
    elim (nat_le (rank d) (rank e)) as (λ t. AllFrom r (cond t (d ∷ e ∷ es) (e ∷ placed d es))) [
      | true ↦ (low, from)
      | false ↦ (from.0, AllFrom-placed r d es low from.1)
    ]

-- what is placed rises
Rises-placed : (d : Dest) (es : List Dest) → Rises es → Rises (placed d es)
unfolding AllFrom Rises
Rises-placed d [] up = (tt, tt)
Rises-placed d (e ∷ es) up =
    elim (nat_le (rank d) (rank e)) as (λ t. nat_le (rank d) (rank e) ≡ t → Rises (cond t (d ∷ e ∷ es) (e ∷ placed d es))) [
      | true ↦ λ is.
          let low : rank d ≤ rank e = grind (arith, nat_tests)
          in ((low, AllFrom-lower (rank d) (rank e) es low up.0), up)
      | false ↦ λ is.
          let high : rank e ≤ rank d = grind (arith, nat_tests)
          in (AllFrom-placed (rank e) d es high up.0, Rises-placed d es up.1)
    ] refl

-- what is put in order rises
Rises-in_order : (ds : List Dest) → Rises (in_order ds)
unfolding Rises
Rises-in_order [] = tt
Rises-in_order (d ∷ ds) = Rises-placed d (in_order ds) (Rises-in_order ds)

-- a count by recursion is one by a fold
count-sum_by : (r : ℕ) (ds : List Dest) → count r ds ≡ sum_by (λ d. cond (rank d == r) 1 0) ds
count-sum_by r [] = refl
count-sum_by r (d ∷ ds) = ap (λ n. cond (rank d == r) 1 0 + n) (count-sum_by r ds) ∙ sym (sum_by-cons (λ d. cond (rank d == r) 1 0) d ds)

-- a bound at each index is a bound along the list
AllFrom-from_index : (r : ℕ) (ds : List Dest) → ((k : ℕ) (d : Dest) → k < length ds → r ≤ rank (get_or ds k d)) → AllFrom r ds
unfolding AllFrom
AllFrom-from_index r [] from = tt
AllFrom-from_index r (d ∷ ds) from = (from 0 d (omega arith), AllFrom-from_index r ds (λ k x h. from (suc k) x (omega arith)))

-- a list whose ranks do not fall rises
Rises-from_index : (ds : List Dest) → IsNonDecreasingBy rank ds → Rises ds
unfolding Rises
Rises-from_index [] up = tt
Rises-from_index (d ∷ ds) up = (
  AllFrom-from_index (rank d) ds (λ k x h. up 0 (suc k) x (omega arith) (omega arith)),
  Rises-from_index ds (λ i j x le h. up (suc i) (suc j) x (omega arith) (omega arith)),
)

-- a sort puts in order
pub in_order-from_sort : (ds es : List Dest) → IsPermutation ds es → IsNonDecreasingBy rank es → es ≡ in_order ds
in_order-from_sort ds es moved up =
    same_lists es (in_order ds) (Rises-from_index es up) (Rises-in_order ds)
    (λ r. count-sum_by r es ∙ sum_by-IsPermutation (λ d. cond (rank d == r) 1 0) ds es moved ∙ sym (count-sum_by r ds) ∙ sym (count-in_order r ds))

-- a list of one destination or none is in order
pub in_order-short : (ds : List Dest) → length ds < 2 → in_order ds ≡ ds
in_order-short [] short = refl
in_order-short (d ∷ []) short = refl
in_order-short (d ∷ e ∷ es) short = absurd (omega arith)
