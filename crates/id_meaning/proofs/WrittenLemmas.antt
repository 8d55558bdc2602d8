-- Steps of a path that are written from the last of them on.
use Rattle.std.proofs.Common.{◌≡◌, ℕ, zero, suc, ◌≤◌, ◌<◌, ◌+◌, inl, inr, List, [], ◌∷◌, ◌++◌, length, drop}
use Rattle.std.proofs.Common.{append_assoc}
use Rattle.std.proofs.Common.{refl, ap, sym, ◌∙◌, arith}
use Rattle.std.proofs.Math.ListN.{drop_of_length-le, set}
use Rattle.std.proofs.lemmas.Bool.{cases_lt}
use Rattle.std.proofs.lemmas.List.{append-nil, drop-set, get_or_past, length-set, nil_from_length}
use Rattle.id_check.specs.declared.checked.Checked.{Checked}
use Rattle.id_source.specs.declared.PathStep.{PathStep}
use Rattle.id_facts.specs.declared.facts.RowFact.{RowFact}
use Rattle.id_facts.specs.declared.facts.RowFact.TheVariants.{On}
use Rattle.id_facts.specs.declared.facts.Trail.{Trail}
use Rattle.id_facts.specs.declared.facts.Trail.TheVariants.{Outermost, Below}
use Rattle.id_facts.specs.RowFacts.{AreBefore, fact_at, path_of}
use Rattle.id_facts.specs.Listed.{steps_in_all}
use Rattle.id_facts.proofs.PathsLemmas.{all_steps, steps-suc}
use Rattle.id_facts.specs.Depths.{depth_at, depth_in, last_step, outside}
use Rattle.id_facts.proofs.DepthsLemmas.{depth-small, depth-steps, depth-suc}

depth-none : (fs : List RowFact) (j : ℕ) → depth_in fs j Outermost ≡ 0
depth-none fs zero = refl
depth-none fs (suc j) = refl

-- no path has more steps than there are facts, but one that begins past the last fact, which has one
pub depth-most : (fs : List RowFact) (q : Trail) → depth_at fs q ≤ length fs + 1
depth-most fs Outermost = omega arith
depth-most fs (Below i k) = elim (cases_lt i (length fs)) [
  | inl l ↦ (let s = depth-small fs i (path_of (fact_at fs i)) in omega (arith, s, l))
  | inr l ↦ (let e = ap (λ f. depth_in fs i (path_of f)) (get_or_past fs i (On Outermost 0) l) in
      let z = depth-none fs i in
      omega (arith, e, z))
]

whole : (P : Checked) (fs : List RowFact) → AreBefore fs → (q : Trail) → 0 < depth_at fs q
    → all_steps P fs q ≡ all_steps P fs (outside fs q) ++ last_step P fs q ∷ []
whole P fs b Outermost l = absurd (omega arith)
whole P fs b (Below i k) l = steps-suc P fs b i k

-- the path without its last step has one step less
pub depth-out : (fs : List RowFact) → AreBefore fs → (q : Trail) → 0 < depth_at fs q
    → depth_at fs q ≡ depth_at fs (outside fs q) + 1
depth-out fs b Outermost l = absurd (omega arith)
depth-out fs b (Below i k) l = depth-suc fs b i k

-- a path that has no step is written
pub steps-none : (P : Checked) (fs : List RowFact) (q : Trail) → depth_at fs q ≤ 0 → all_steps P fs q ≡ []
steps-none P fs q l =
    let c = depth-steps P fs (steps_in_all q) q in
    let none : length (all_steps P fs q) ≡ 0 = omega (arith, c, l) in
    nil_from_length (all_steps P fs q) none

-- those of the path that is left, and behind the place those that are written, are all
pub record AreWritten (P : Checked) (fs : List RowFact) (q : Trail) (rest : Trail) (n size : ℕ)
    (xs : List PathStep) : Type 0 where
  pub same : length xs ≡ size
  pub room : depth_at fs rest ≤ n
  pub within : n ≤ length xs
  pub all : all_steps P fs rest ++ drop n xs ≡ all_steps P fs q

-- one step more is written
pub written-more : (P : Checked) (fs : List RowFact) → AreBefore fs
    → (q rest out : Trail) (n m size : ℕ) (xs ys : List PathStep) (s : PathStep)
    → AreWritten P fs q rest n size xs → 0 < depth_at fs rest → out ≡ outside fs rest → s ≡ last_step P fs rest
    → n ≡ m + 1 → ys ≡ set xs m s → AreWritten P fs q out m size ys
written-more P fs b q rest out n m size xs ys s h more e f g k = record {
  same = ap length k ∙ length-set xs m s ∙ h.same;
  room = (let d = depth-out fs b rest more in
      let o = ap (depth_at fs) e in
      let r = h.room in
      omega (arith, d, o, r, g));
  within = (let c = ap length k ∙ length-set xs m s in
      let w = h.within in
      omega (arith, c, w, g));
  all = ap (λ p. all_steps P fs p ++ drop m ys) e
      ∙ ap (λ zs. all_steps P fs (outside fs rest) ++ drop m zs) k
      ∙ ap (λ zs. all_steps P fs (outside fs rest) ++ zs) (drop-set xs m s (let w = h.within in omega (arith, w, g)))
      ∙ ap (λ t. all_steps P fs (outside fs rest) ++ t ∷ drop (m + 1) xs) f
      ∙ sym (append_assoc (all_steps P fs (outside fs rest)) (last_step P fs rest ∷ []) (drop (m + 1) xs))
      ∙ ap (λ zs. zs ++ drop (m + 1) xs) (sym (whole P fs b rest more))
      ∙ ap (λ i. all_steps P fs rest ++ drop i xs) (sym g)
      ∙ h.all;
}

-- where no step is left, all are written
pub written-all : (P : Checked) (fs : List RowFact) (q rest : Trail) (n size : ℕ) (xs : List PathStep)
    → AreWritten P fs q rest n size xs → depth_at fs rest ≤ 0 → drop n xs ≡ all_steps P fs q
written-all P fs q rest n size xs h none = ap (λ zs. zs ++ drop n xs) (sym (steps-none P fs rest none)) ∙ h.all

-- none is written so far
pub written-none : (P : Checked) (fs : List RowFact) (q : Trail) (n : ℕ) (xs : List PathStep) → length fs < length xs
    → n ≡ length xs → AreWritten P fs q q n (length xs) xs
written-none P fs q n xs l e = record {
  same = refl;
  room = (let m = depth-most fs q in omega (arith, m, l, e));
  within = omega (arith, e);
  all = ap (λ zs. all_steps P fs q ++ zs) (drop_of_length-le xs (omega (arith, e))) ∙ append-nil (all_steps P fs q);
}
