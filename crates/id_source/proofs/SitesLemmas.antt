-- Of two sites one comes before the other, or they are one.
use Rattle.std.proofs.Common.{◌≡◌, ◌⊎◌, inl, inr, Ordering, Less, Equal, Greater, List, refl, sym, ap, ◌∙◌}
use Rattle.std.specs.Ordering.{nat_cmp, ordering_reverse}
use Rattle.std.specs.Cmp.Lexicographic.{slice_cmp, lists_total}
use Rattle.std.proofs.lemmas.Cmp.{nat_cmp_total}
use Rattle.id_source.specs.declared.Path.{Path}
use Rattle.id_source.specs.declared.PathStep.{PathStep}
use Rattle.id_source.specs.declared.Site.{Site}
use Rattle.id_source.specs.Orders.{SiteBefore, step_cmp}
use Rattle.id_source.proofs.PathOrderLemmas.{less_number, less_steps, same_number, same_steps, step_total}

path_from : List PathStep → Path
path_from ss = record { steps = ss }

same_path : (p q : Path) → p.steps ≡ q.steps → p ≡ q
unfolding path_from
same_path p q e = ap path_from e

same_site : (a b : Site) → a.path ≡ b.path → a.place ≡ b.place → a ≡ b
same_site a b p e = λ i. record { path = p i; place = e i }

pub site-order : (a b : Site) → SiteBefore a b ⊎ ((a ≡ b) ⊎ SiteBefore b a)
site-order a b = by (slice_cmp step_cmp a.path.steps b.path.steps) refl
  where
    back : slice_cmp step_cmp a.path.steps b.path.steps ≡ Greater → SiteBefore b a
    back e = inl
        (less_steps b.path.steps a.path.steps ((lists_total step_total).antisymm b.path.steps a.path.steps
        ∙ ap ordering_reverse e))

    along : a.path ≡ b.path → (o : Ordering) → nat_cmp a.place b.place ≡ o → SiteBefore a b ⊎ ((a ≡ b) ⊎ SiteBefore b a)
    along p Less e = inl (inr (p, less_number a.place b.place e))
    along p Equal e = inr (inl (same_site a b p (same_number a.place b.place e)))
    along p Greater e =
        inr (inr (inr (
          sym p,
          less_number b.place a.place (nat_cmp_total.antisymm b.place a.place ∙ ap ordering_reverse e),
        )))

    by : (o : Ordering) → slice_cmp step_cmp a.path.steps b.path.steps ≡ o → SiteBefore a b ⊎ ((a ≡ b) ⊎ SiteBefore b a)
    by Less e = inl (inl (less_steps a.path.steps b.path.steps e))
    by Equal e = along (same_path a.path b.path (same_steps a.path.steps b.path.steps e)) (nat_cmp a.place b.place) refl
    by Greater e = inr (inr (back e))
