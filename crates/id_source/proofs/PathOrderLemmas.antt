-- How paths compare: by their steps, a prefix first.
use Rattle.std.proofs.Common.{◌≡◌, ℕ, ◌<◌, List, [], ◌∷◌, Ordering, Less, Equal, Greater, ◌⊎◌, inl, inr, refl, sym, ap}
use Rattle.std.proofs.Common.{◌∙◌, arith}
use Rattle.std.specs.Ordering.{nat_cmp, ordering_then}
use Rattle.std.specs.Cmp.{IsTotalOrder}
use Rattle.std.specs.Cmp.Lexicographic.{slice_cmp}
use Rattle.std.proofs.lemmas.Cmp.{ranked, nat_cmp_total, on_total, then_total, tied_itself}
use Rattle.id_source.specs.declared.PathStep.{PathStep}
use Rattle.id_source.specs.Orders.{StepBefore, StepsBefore, step_cmp}

-- a comparison by two in turn is less by the first, or by the second at a tie
pub then_less : (o p : Ordering) → ordering_then o p ≡ Less → (o ≡ Less) ⊎ ((o ≡ Equal) × (p ≡ Less))
then_less Less p e = inl refl
then_less Equal p e = inr (refl, e)
then_less Greater p e = cc

-- it is a tie where both are
pub then_equal : (o p : Ordering) → ordering_then o p ≡ Equal → (o ≡ Equal) × (p ≡ Equal)
then_equal Less p e = cc
then_equal Equal p e = (refl, e)
then_equal Greater p e = cc

-- what the comparison of two numbers says
pub less_number : (m n : ℕ) → nat_cmp m n ≡ Less → m < n
less_number m n e = ranked m n Less (sym e)

pub same_number : (m n : ℕ) → nat_cmp m n ≡ Equal → m ≡ n
same_number m n e = ranked m n Equal (sym e)

pub number_less : (m n : ℕ) → m < n → nat_cmp m n ≡ Less
number_less m n h = at (nat_cmp m n) refl
  where
    at : (o : Ordering) → nat_cmp m n ≡ o → nat_cmp m n ≡ Less
    at Less e = e
    at Equal e = let same = same_number m n e in absurd (omega arith)
    at Greater e = let back : n < m = ranked m n Greater (sym e) in absurd (omega arith)

pub number_same : (m n : ℕ) → m ≡ n → nat_cmp m n ≡ Equal
number_same m n e = ap (λ k. nat_cmp m k) (sym e) ∙ tied_itself nat_cmp_total m

-- what the comparison of two steps says
pub step_total : IsTotalOrder step_cmp
step_total = then_total (on_total (λ s. s.place) nat_cmp_total) (on_total (λ s. s.number) nat_cmp_total)

pub step_less : (s t : PathStep) → StepBefore s t → step_cmp s t ≡ Less
step_less s t (inl h) = ap (λ o. ordering_then o (nat_cmp s.number t.number)) (number_less s.place t.place h)
step_less s t (inr h) =
    ap (λ o. ordering_then o (nat_cmp s.number t.number)) (number_same s.place t.place h.0)
    ∙ number_less s.number t.number h.1

pub less_step : (s t : PathStep) → step_cmp s t ≡ Less → StepBefore s t
less_step s t e = at (then_less (nat_cmp s.place t.place) (nat_cmp s.number t.number) e)
  where
    at : (nat_cmp s.place t.place ≡ Less) ⊎ ((nat_cmp s.place t.place ≡ Equal) × (nat_cmp s.number t.number ≡ Less))
        → StepBefore s t
    at (inl h) = inl (less_number s.place t.place h)
    at (inr h) = inr (same_number s.place t.place h.0, less_number s.number t.number h.1)

pub same_step : (s t : PathStep) → step_cmp s t ≡ Equal → s ≡ t
same_step s t e =
    let both = then_equal (nat_cmp s.place t.place) (nat_cmp s.number t.number) e in
    let place = same_number s.place t.place both.0 in
    let number = same_number s.number t.number both.1 in
    λ i. record { place = place i; number = number i }

-- what the comparison of two lists of steps says
pub steps_less : (ss ts : List PathStep) → StepsBefore ss ts → slice_cmp step_cmp ss ts ≡ Less
steps_less [] [] h = absurd h
steps_less [] (t ∷ ts) h = refl
steps_less (s ∷ ss) [] h = absurd h
steps_less (s ∷ ss) (t ∷ ts) (inl h) = ap (λ o. ordering_then o (slice_cmp step_cmp ss ts)) (step_less s t h)
steps_less (s ∷ ss) (t ∷ ts) (inr h) =
    ap (λ o. ordering_then o (slice_cmp step_cmp ss ts)) (ap (step_cmp s) (sym h.0) ∙ tied_itself step_total s)
    ∙ steps_less ss ts h.1

pub less_steps : (ss ts : List PathStep) → slice_cmp step_cmp ss ts ≡ Less → StepsBefore ss ts
less_steps [] [] e = cc
less_steps [] (t ∷ ts) e = tt
less_steps (s ∷ ss) [] e = cc
less_steps (s ∷ ss) (t ∷ ts) e = at (less_steps ss ts) (then_less (step_cmp s t) (slice_cmp step_cmp ss ts) e)
  where
    at : (slice_cmp step_cmp ss ts ≡ Less → StepsBefore ss ts)
        → (step_cmp s t ≡ Less) ⊎ ((step_cmp s t ≡ Equal) × (slice_cmp step_cmp ss ts ≡ Less))
        → StepsBefore (s ∷ ss) (t ∷ ts)
    at rest (inl h) = inl (less_step s t h)
    at rest (inr h) = inr (same_step s t h.0, rest h.1)

pub same_steps : (ss ts : List PathStep) → slice_cmp step_cmp ss ts ≡ Equal → ss ≡ ts
same_steps [] [] e = refl
same_steps [] (t ∷ ts) e = cc
same_steps (s ∷ ss) [] e = cc
same_steps (s ∷ ss) (t ∷ ts) e =
    let both = then_equal (step_cmp s t) (slice_cmp step_cmp ss ts) e in
    let first = same_step s t both.0 in
    let rest = same_steps ss ts both.1 in
    λ i. first i ∷ rest i
