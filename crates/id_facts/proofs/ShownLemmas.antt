-- Facts by path and row that a sort leaves are in the order of the facts of the source that they are.
use Rattle.std.proofs.Common.{◌≡◌, ℕ, zero, suc, ◌<◌, Bool as Truth, false, List, [], ◌∷◌, length, get_or, map}
use Rattle.std.proofs.Common.{refl, ap, ◌∙◌, subst, arith}
use Rattle.std.specs.Prelude.{AllPairs, IsPermutation}
use Rattle.std.specs.Ordering.{is_lt}
use Rattle.std.specs.List.Sorted.{IsSortedBy}
use Rattle.std.proofs.lemmas.List.Sorted.{IsPermutation-map, ranks_by, sorted_far}
use Rattle.id_check.specs.declared.checked.Checked.{Checked}
use Rattle.id_source.specs.declared.Fact.{Fact}
use Rattle.id_facts.specs.declared.facts.RowFact.{RowFact}
use Rattle.id_facts.specs.RowFacts.{fact_at}
use Rattle.id_facts.specs.Listed.{AreShown, fact_cmp, fact_of, facts_in}
use Rattle.id_facts.proofs.OrdersLemmas.{fact_total}

-- whether the first comes before the second, as the sort asks
abbrev pub row_lt : Checked → List RowFact → RowFact → RowFact → Truth
row_lt P fs f g = is_lt (fact_cmp (fact_of P fs f) (fact_of P fs g))

module _ (P : Checked) (fs : List RowFact) where
  facts-map : (gs : List RowFact) → map (fact_of P fs) gs ≡ facts_in P fs gs
  facts-map [] = refl
  facts-map (g ∷ gs) = ap (λ xs. fact_of P fs g ∷ xs) (facts-map gs)

  facts-count : (gs : List RowFact) → length (facts_in P fs gs) ≡ length gs
  facts-count [] = refl
  facts-count (g ∷ gs) = let r = facts-count gs in omega (arith, r)

  in-at : (gs : List RowFact) (i : ℕ) (d : Fact) → i < length gs
      → get_or (facts_in P fs gs) i d ≡ fact_of P fs (fact_at gs i)
  in-at [] i d l = absurd (omega arith)
  in-at (g ∷ gs) zero d l = refl
  in-at (g ∷ gs) (suc i) d l = in-at gs i d (omega arith)

  same : (gs : List RowFact) → IsPermutation fs gs → IsPermutation (facts_in P fs fs) (facts_in P fs gs)
  same gs p =
      subst (λ xs. IsPermutation xs (facts_in P fs gs)) (facts-map fs)
      (subst (λ ys. IsPermutation (map (fact_of P fs) fs) ys) (facts-map gs) (IsPermutation-map (fact_of P fs) fs gs p))

  up : (gs : List RowFact) → IsSortedBy (row_lt P fs) gs
      → AllPairs (λ f g. is_lt (fact_cmp g f) ≡ false) (facts_in P fs gs)
  up gs s i j d below within =
      let c = facts-count gs in
      let w : j < length gs = omega (arith, c, within) in
      let a = in-at gs j d w in
      let b = in-at gs i d (omega (arith, w, below)) in
      ap (λ f. is_lt (fact_cmp f (get_or (facts_in P fs gs) i d))) a
      ∙ ap (λ g. is_lt (fact_cmp (fact_of P fs (fact_at gs j)) g)) b
      ∙ sorted_far (row_lt P fs) (ranks_by fact_total (λ f. fact_of P fs f)) gs s i j _ (omega (arith, below)) w

pub shown-sorted : (P : Checked) (fs gs : List RowFact) → IsPermutation fs gs → IsSortedBy (row_lt P fs) gs
    → AreShown P fs (facts_in P fs gs)
shown-sorted P fs gs p s = record { same = same P fs gs p; up = up P fs gs s }
