-- What a loop over the numbers of facts gathers of what they tell.
use Rattle.std.proofs.Common.{◌≡◌, ◌+◌, ◌<◌, ◌≤◌, ℕ, List, [], ◌∷◌, ◌++◌, length, get_or, drop}
use Rattle.std.proofs.Common.{refl, sym, ap, subst, ◌∙◌, append-nil}
use Rattle.std.specs.Prelude.{Option, Some, None}
use Rattle.id_facts.specs.declared.facts.RowFact.{RowFact}
use Rattle.id_facts.specs.RowFacts.{fact_at}
use Rattle.id_facts.specs.Cells.{listed, told}
use Rattle.id_source.proofs.TurnsLemmas.{gathered-more, gathered-all}

-- one more fact tells what it tells, and after the last there are no more
module _ {A : Type 0} (f : RowFact → Option A) (fs : List RowFact) where
  pub told-more : (is numbers : List ℕ) (i d : ℕ) (old now whole : List A) → numbers ≡ is → i < length numbers
      → now ≡ old ++ listed (f (fact_at fs (get_or numbers i d))) → old ++ told f fs (drop i is) ≡ whole
      → now ++ told f fs (drop (i + 1) is) ≡ whole
  told-more is numbers i d old now whole same within given so_far =
      gathered-more (told f fs) (λ n. listed (f (fact_at fs n))) (λ _ _. refl) is i d old now whole
      (subst (λ ns. i < length ns) same within)
      (subst (λ ns. now ≡ old ++ listed (f (fact_at fs (get_or ns i d)))) same given) so_far

  pub told-all : (is numbers : List ℕ) (i : ℕ) (now whole : List A) → numbers ≡ is → length numbers ≤ i
      → now ++ told f fs (drop i is) ≡ whole → now ≡ whole
  told-all is numbers i now whole same end so_far =
      gathered-all (told f fs) refl is i now whole (subst (λ ns. length ns ≤ i) same end) so_far

-- what the fact tells, and where it tells nothing
pub listed-some : {A : Type 0} → (x y : Option A) (a : A) (old now : List A) → x ≡ y → x ≡ Some a → now ≡ old ++ a ∷ []
    → now ≡ old ++ listed y
listed-some x y a old now own is added = added ∙ ap (λ z. old ++ listed z) (sym is ∙ own)

pub listed-none : {A : Type 0} → (x y : Option A) (old now : List A) → x ≡ y → x ≡ None → now ≡ old
    → now ≡ old ++ listed y
listed-none x y old now own is same = same ∙ sym (append-nil old) ∙ ap (λ z. old ++ listed z) (sym is ∙ own)
