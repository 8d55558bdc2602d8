-- Before any row is passed, no name has a binder, and no use waits for one.
use Rattle.std.proofs.Common.{◌≡◌, ◌<◌, ◌≤◌, ◌⊎◌, inl, inr, ℕ, List, Option, None, get_or, length, replicate, sym, ap}
use Rattle.std.proofs.Common.{subst, ◌∙◌, arith}
use Rattle.std.proofs.lemmas.Bool.{cases_lt}
use Rattle.std.proofs.lemmas.List.{get_or-replicate, get_or_past, length-replicate}
use Rattle.id_table.specs.declared.row.Row.{Row}
use Rattle.id_check.specs.Names.{AreBound, AreWaiting}
use Rattle.id_check.proofs.ScopesLemmas.{binder_at-none}

pub all_same : {A : Type 0} (xs : List A) (n i : ℕ) (x : A) → xs ≡ replicate n x → get_or xs i x ≡ x
all_same xs n i x e = ap (λ ys. get_or ys i x) e ∙ at (cases_lt i n)
  where
    at : (i < n) ⊎ (n ≤ i) → get_or (replicate n x) i x ≡ x
    at (inl h) = get_or-replicate n i x x h
    at (inr h) = get_or_past (replicate n x) i x (subst (λ k. k ≤ i) (sym (length-replicate n x)) h)

pub bound_none : (R : List Row) (os : List (Option ℕ)) → os ≡ replicate (length R) None → AreBound R 0 os
bound_none R os e = record {
  long = ap length e ∙ length-replicate (length R) None;
  each = λ i less. all_same os (length R) i None e ∙ sym (binder_at-none R 0 i (omega arith));
}

pub waiting_none : (R : List Row) (m : ℕ) (os ls es : List (Option ℕ)) → os ≡ replicate (length R) None
    → ls ≡ replicate m None → es ≡ replicate (length R) None
    → AreWaiting R 0 m os ls es
waiting_none R m os ls es e f g = record {
  long_binders = ap length e ∙ length-replicate (length R) None;
  long_last = ap length f ∙ length-replicate m None;
  long_earlier = ap length g ∙ length-replicate (length R) None;
  last = λ x less. all_same ls m x None f;
  earlier = λ x u less b w. absurd (omega arith);
}
