-- How two paths compare, from their last steps outwards.
use Rattle.std.proofs.Common.{◌≡◌, ℕ, ◌≤◌, ◌<◌, ◌+◌, true, false, List, [], ◌∷◌, ◌++◌, length, Ordering, Less, Equal}
use Rattle.std.proofs.Common.{Greater}
use Rattle.std.proofs.Common.{refl, ap, sym, ◌∙◌, arith}
use Rattle.std.specs.Ordering.{ordering_then}
use Rattle.std.specs.Cmp.Lexicographic.{slice_cmp, lists_total}
use Rattle.std.proofs.lemmas.Cmp.{tied_itself}
use Rattle.id_check.specs.declared.checked.Checked.{Checked}
use Rattle.id_source.specs.declared.PathStep.{PathStep}
use Rattle.id_source.specs.Orders.{step_cmp}
use Rattle.id_source.proofs.PathOrderLemmas.{step_total}
use Rattle.id_facts.specs.declared.facts.RowFact.{RowFact}
use Rattle.id_facts.specs.declared.facts.Trail.{Trail}
use Rattle.id_facts.specs.declared.facts.Trail.TheVariants.{Outermost, Below}
use Rattle.id_facts.specs.RowFacts.{AreBefore, fact_at, path_of, same_trail}
use Rattle.id_facts.proofs.FactsLemmas.{fact-before}
use Rattle.id_facts.proofs.OneLemmas.{trail-true}
use Rattle.id_facts.specs.Listed.{steps_in_all}
use Rattle.id_facts.proofs.PathsLemmas.{all_steps, step-smaller, steps-suc}
use Rattle.id_facts.specs.Depths.{compared, depth_at, last_step, outside}
use Rattle.id_facts.proofs.DepthsLemmas.{depth-steps, depth-suc}

-- ---- comparisons in turn

then-assoc : (a b c : Ordering) → ordering_then (ordering_then a b) c ≡ ordering_then a (ordering_then b c)
then-assoc Less b c = refl
then-assoc Equal b c = refl
then-assoc Greater b c = refl

then-nothing : (o : Ordering) → ordering_then o Equal ≡ o
then-nothing Less = refl
then-nothing Equal = refl
then-nothing Greater = refl

-- ---- lists with one thing more

module _ {A : Type 0} (R : A → A → Ordering) where
  last-more : (xs ys : List A) (x : A) → length ys ≤ length xs
      → slice_cmp R (xs ++ x ∷ []) ys ≡ ordering_then (slice_cmp R xs ys) Greater
  last-more [] [] x l = refl
  last-more [] (y ∷ ys) x l = absurd (omega arith)
  last-more (a ∷ xs) [] x l = refl
  last-more (a ∷ xs) (y ∷ ys) x l =
      ap (λ o. ordering_then (R a y) o) (last-more xs ys x (omega arith))
      ∙ sym (then-assoc (R a y) (slice_cmp R xs ys) Greater)

  last-less : (xs ys : List A) (y : A) → length xs ≤ length ys
      → slice_cmp R xs (ys ++ y ∷ []) ≡ ordering_then (slice_cmp R xs ys) Less
  last-less [] [] y l = refl
  last-less [] (b ∷ ys) y l = refl
  last-less (a ∷ xs) [] y l = absurd (omega arith)
  last-less (a ∷ xs) (b ∷ ys) y l =
      ap (λ o. ordering_then (R a b) o) (last-less xs ys y (omega arith))
      ∙ sym (then-assoc (R a b) (slice_cmp R xs ys) Less)

  last-both : (xs ys : List A) (x y : A) → length xs ≡ length ys
      → slice_cmp R (xs ++ x ∷ []) (ys ++ y ∷ []) ≡ ordering_then (slice_cmp R xs ys) (R x y)
  last-both [] [] x y e = then-nothing (R x y)
  last-both [] (b ∷ ys) x y e = absurd (omega arith)
  last-both (a ∷ xs) [] x y e = absurd (omega arith)
  last-both (a ∷ xs) (b ∷ ys) x y e =
      ap (λ o. ordering_then (R a b) o) (last-both xs ys x y (omega arith))
      ∙ sym (then-assoc (R a b) (slice_cmp R xs ys) (R x y))

-- ---- paths

module _ (P : Checked) (fs : List RowFact) (b : AreBefore fs) where
  steps : Trail → List PathStep
  steps q = all_steps P fs q

  count : (q : Trail) → length (steps q) ≡ depth_at fs q
  unfolding steps
  count q = depth-steps P fs (steps_in_all q) q

  whole : (q : Trail) → 0 < depth_at fs q → steps q ≡ steps (outside fs q) ++ last_step P fs q ∷ []
  unfolding steps
  whole Outermost l = absurd (omega arith)
  whole (Below i k) l = steps-suc P fs b i k

  depth-out : (q : Trail) → 0 < depth_at fs q → depth_at fs q ≡ depth_at fs (outside fs q) + 1
  depth-out Outermost l = absurd (omega arith)
  depth-out (Below i k) l = depth-suc fs b i k

  nearer : (q : Trail) → 0 < depth_at fs q → steps_in_all (outside fs q) < steps_in_all q
  nearer Outermost l = absurd (omega arith)
  nearer (Below i k) l = step-smaller i k (Below i k) (path_of (fact_at fs i)) refl (fact-before fs b i)

  -- of the deeper path the last step is left out
  out-first : (p q : Trail) (o : Ordering) → depth_at fs q < depth_at fs p
      → compared P fs (outside fs p) q Greater ≡ compared P fs p q o
  unfolding steps
  out-first p q o l =
      let e = depth-out p (omega (arith, l)) in
      let c = count (outside fs p) in
      let d = count q in
      sym
      (ap (λ ss. ordering_then (slice_cmp step_cmp ss (steps q)) o) (whole p (omega (arith, l)))
      ∙ ap (λ r. ordering_then r o)
      (last-more step_cmp (steps (outside fs p)) (steps q) (last_step P fs p) (omega (arith, e, c, d, l)))
      ∙ then-assoc (slice_cmp step_cmp (steps (outside fs p)) (steps q)) Greater o)

  out-second : (p q : Trail) (o : Ordering) → depth_at fs p < depth_at fs q
      → compared P fs p (outside fs q) Less ≡ compared P fs p q o
  unfolding steps
  out-second p q o l =
      let e = depth-out q (omega (arith, l)) in
      let c = count (outside fs q) in
      let d = count p in
      sym
      (ap (λ ss. ordering_then (slice_cmp step_cmp (steps p) ss) o) (whole q (omega (arith, l)))
      ∙ ap (λ r. ordering_then r o)
      (last-less step_cmp (steps p) (steps (outside fs q)) (last_step P fs q) (omega (arith, e, c, d, l)))
      ∙ then-assoc (slice_cmp step_cmp (steps p) (steps (outside fs q))) Less o)

  -- of two that are as deep both
  out-both : (p q : Trail) (o : Ordering) → 0 < depth_at fs p → depth_at fs p ≡ depth_at fs q →
      compared P fs (outside fs p) (outside fs q) (ordering_then (step_cmp (last_step P fs p) (last_step P fs q)) o)
      ≡ compared P fs p q o
  unfolding steps
  out-both p q o l m =
      let e = depth-out p l in
      let f = depth-out q (omega (arith, l, m)) in
      let c = count (outside fs p) in
      let d = count (outside fs q) in
      sym
      (ap (λ ss. ordering_then (slice_cmp step_cmp ss (steps q)) o) (whole p l)
      ∙ ap (λ ss. ordering_then (slice_cmp step_cmp (steps (outside fs p) ++ last_step P fs p ∷ []) ss) o)
      (whole q (omega (arith, l, m))) ∙ ap (λ r. ordering_then r o)
      (last-both step_cmp (steps (outside fs p)) (steps (outside fs q)) (last_step P fs p) (last_step P fs q)
      (omega (arith, e, f, c, d, m)))
      ∙ then-assoc (slice_cmp step_cmp (steps (outside fs p)) (steps (outside fs q)))
      (step_cmp (last_step P fs p) (last_step P fs q)) o)

  -- two that are as deep and not one have a last step
  apart-deep : (p q : Trail) → same_trail p q ≡ false → depth_at fs p ≡ depth_at fs q → 0 < depth_at fs p
  apart-deep Outermost Outermost h e = cc
  apart-deep Outermost (Below j m) h e = let s = depth-suc fs b j m in absurd (omega (arith, s, e))
  apart-deep (Below i k) q h e = let s = depth-suc fs b i k in omega (arith, s)

  pub step-first : (p q : Trail) (o : Ordering) (m n : ℕ) → m ≡ depth_at fs p → n ≡ depth_at fs q → n < m
      → (compared P fs (outside fs p) q Greater ≡ compared P fs p q o)
      × (steps_in_all (outside fs p) + steps_in_all q < steps_in_all p + steps_in_all q)
  step-first p q o m n d e l =
      let w = nearer p (omega (arith, d, e, l)) in (out-first p q o (omega (arith, d, e, l)), omega (arith, w))

  pub step-second : (p q : Trail) (o : Ordering) (m n : ℕ) → m ≡ depth_at fs p → n ≡ depth_at fs q → m < n
      → (compared P fs p (outside fs q) Less ≡ compared P fs p q o)
      × (steps_in_all p + steps_in_all (outside fs q) < steps_in_all p + steps_in_all q)
  step-second p q o m n d e l =
      let w = nearer q (omega (arith, d, e, l)) in (out-second p q o (omega (arith, d, e, l)), omega (arith, w))

  pub step-both : (p q : Trail) (o : Ordering) (m n : ℕ) → m ≡ depth_at fs p → n ≡ depth_at fs q → m ≡ n
      → same_trail p q ≡ false
      → (compared P fs (outside fs p) (outside fs q) (ordering_then (step_cmp (last_step P fs p) (last_step P fs q)) o)
      ≡ compared P fs p q o)
      × (steps_in_all (outside fs p) + steps_in_all (outside fs q) < steps_in_all p + steps_in_all q)
  step-both p q o m n d e l h =
      let same : depth_at fs p ≡ depth_at fs q = omega (arith, d, e, l) in
      let deep = apart-deep p q h same in
      let v = nearer p deep in
      let w = nearer q (omega (arith, same, deep)) in
      (out-both p q o deep same, omega (arith, v, w))

-- paths that are one tie
pub compared-one : (P : Checked) (fs : List RowFact) (p q : Trail) (o : Ordering) → same_trail p q ≡ true
    → compared P fs p q o ≡ o
compared-one P fs p q o h =
    ap (λ r. ordering_then (slice_cmp step_cmp (all_steps P fs p) (all_steps P fs r)) o) (sym (trail-true p q h))
    ∙ ap (λ r. ordering_then r o) (tied_itself (lists_total step_total) (all_steps P fs p))

-- where nothing was found so far
pub compared-first : (P : Checked) (fs : List RowFact) (p q : Trail)
    → compared P fs p q Equal ≡ slice_cmp step_cmp (all_steps P fs p) (all_steps P fs q)
compared-first P fs p q = then-nothing (slice_cmp step_cmp (all_steps P fs p) (all_steps P fs q))
