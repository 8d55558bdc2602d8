-- How many loops are round a row: one more than round the `Start` of the innermost.
use Rattle.std.proofs.Common.{◌≡◌, ◌⊎◌, inl, inr, ◌+◌, ◌<◌, ◌≤◌, ℕ, zero, suc, List, [], ◌∷◌, ◌++◌, length}
use Rattle.std.proofs.Common.{get_or, refl, ap, sym, ◌∙◌, subst, arith}
use Rattle.std.proofs.lemmas.Bool.{cases_lt}
use Rattle.std.proofs.lemmas.List.{get_or_append_left, get_or_past, get_or_push, length_push}
use Rattle.id_table.specs.declared.row.Row.{Row}
use Rattle.id_table.specs.declared.row.Node.{Node}
use Rattle.id_table.specs.declared.row.Node.TheVariants.{Head, LoopHead}
use Rattle.id_table.specs.Rows.{at, no_row}
use Rattle.id_table.specs.Loops.{depth, loops_from}
use Rattle.id_table.specs.Tables.{AreInBlocks}
use Rattle.id_check.specs.Depths.{AreDepths}

-- where a block's head is below two bounds, as many loops are counted up to either
loops_more : (R : List Row) → AreInBlocks R → (h j k : ℕ) → h < length R → h < j → h < k
    → loops_from R j (at R h).node ≡ loops_from R k (at R h).node
loops_more R a h zero k less low high = absurd (omega arith)
loops_more R a h (suc j) zero less low high = absurd (omega arith)
loops_more R a h (suc j) (suc k) less low high = by (at R h).node refl (λ t b c d. loops_more R a t j k b c d)
  where
    by : (n : Node) → (at R h).node ≡ n
        → ((t : ℕ) → t < length R → t < j → t < k → loops_from R j (at R t).node ≡ loops_from R k (at R t).node)
        → loops_from R (suc j) n ≡ loops_from R (suc k) n
    by (LoopHead s) e r =
        let c = a.start h s less e in
        let d = a.head s (omega arith) in
        ap (λ n. suc n) (r (at R s).block (omega arith) (omega arith) (omega arith))
    by _ e r = refl

-- the depth of a row is no more than the row's number
loops_low : (R : List Row) → AreInBlocks R → (h k : ℕ) → h < length R → loops_from R k (at R h).node ≤ h
loops_low R a h zero less = by (at R h).node
  where
    by : (n : Node) → loops_from R zero n ≤ h
    by (LoopHead s) = omega arith
    by _ = omega arith
loops_low R a h (suc k) less = by (at R h).node refl (λ t b. loops_low R a t k b)
  where
    by : (n : Node) → (at R h).node ≡ n → ((t : ℕ) → t < length R → loops_from R k (at R t).node ≤ t)
        → loops_from R (suc k) n ≤ h
    by (LoopHead s) e r =
        let c = a.start h s less e in
        let d = a.head s (omega arith) in
        let f = r (at R s).block (omega arith) in
        omega arith
    by _ e r = omega arith

depth_low : (R : List Row) (i : ℕ) → AreInBlocks R → i < length R → depth R i ≤ i
depth_low R i a less =
    let d = a.head i less in let e = loops_low R a (at R i).block (length R) (omega arith) in omega arith

depth_loop_in : (R : List Row) (i s : ℕ) → AreInBlocks R → i < length R → (at R (at R i).block).node ≡ LoopHead s
    → (s < i) × (depth R i ≡ suc (depth R s))
depth_loop_in R i s a less e = by (length R) refl
  where
    low : (at R i).block ≤ i
    low = a.head i less

    start : s < (at R i).block
    start = a.start (at R i).block s (omega arith) e

    by : (n : ℕ) → length R ≡ n → (s < i) × (depth R i ≡ suc (depth R s))
    by zero f = absurd (omega arith)
    by (suc k) f =
        let x = low in
        let y = start in
        let d = a.head s (omega arith) in (
          omega arith,
          ap (λ n. loops_from R n (at R (at R i).block).node) f
              ∙ (ap (loops_from R (suc k)) e
              ∙ ap (λ n. suc n) (loops_more R a (at R s).block k (length R) (omega arith) (omega arith) (omega arith))),
        )

-- the depth of what stands in a loop's block, which is a row, and the depth of the loop's `Start`
pub depth_loop : (R : List Row) (i s : ℕ) → AreInBlocks R → (at R (at R i).block).node ≡ LoopHead s
    → (s < i) × (depth R i ≡ suc (depth R s)) × (depth R s ≤ s)
depth_loop R i s a e = by (cases_lt i (length R))
  where
    by : (i < length R) ⊎ (length R ≤ i) → (s < i) × (depth R i ≡ suc (depth R s)) × (depth R s ≤ s)
    by (inl less) = let w = depth_loop_in R i s a less e in (w.0, w.1, depth_low R s a (omega (arith, less, w.0)))
    by (inr past) = absurd (first (cases_lt 0 (length R)))
      where
        outside : (at R 0).node ≡ LoopHead s
        outside = ap (λ b. (at R b).node) (sym (ap (λ (r : Row). r.block) (get_or_past R i no_row past))) ∙ e

        first : (0 < length R) ⊎ (length R ≤ 0) → ⊥
        first (inl some) = let low = a.start 0 s some outside in absurd (omega (arith, low))
        first (inr none) =
            let d : Head ≡ LoopHead s = sym (ap (λ (r : Row). r.node) (get_or_past R 0 no_row none)) ∙ outside in cc

-- a row of any other block is in none
loops_none : (R : List Row) (k : ℕ) (n : Node) → ((s : ℕ) → n ≡ LoopHead s → ⊥) → loops_from R k n ≡ 0
loops_none R zero (LoopHead s) h = refl
loops_none R zero _ h = refl
loops_none R (suc k) (LoopHead s) h = absurd (h s refl)
loops_none R (suc k) _ h = refl

pub depth_none : (R : List Row) (i : ℕ) → ((s : ℕ) → (at R (at R i).block).node ≡ LoopHead s → ⊥) → depth R i ≡ 0
depth_none R i h = loops_none R (length R) (at R (at R i).block).node h

-- ---- the column

pub depths_more : (R : List Row) (n d : ℕ) (ds : List ℕ) → d ≡ depth R n → AreDepths R n ds
    → AreDepths R (n + 1) (ds ++ d ∷ [])
depths_more R n d ds e h = record {
  long = length_push ds d ∙ ap (λ k. k + 1) h.long;
  each = λ i less. by i less (cases_lt i n);
}
  where
    by : (i : ℕ) → i < n + 1 → (i < n) ⊎ (n ≤ i) → get_or (ds ++ d ∷ []) i 0 ≡ depth R i
    by i less (inl c) = get_or_append_left ds (d ∷ []) 0 i (subst (λ k. i < k) (sym h.long) c) ∙ h.each i c
    by i less (inr c) =
        let same : n ≡ i = omega arith in
        get_or_push ds d 0 i (h.long ∙ same) ∙ (e ∙ ap (depth R) same)
