-- The order in which rows are made has each row once, the answer's first.
use Rattle.std.proofs.Common.{◌≡◌, ◌⊎◌, inl, inr, ℕ, zero, suc, ◌+◌, ◌<◌, Bool, true, false, List, [], ◌∷◌, ◌++◌}
use Rattle.std.proofs.Common.{length, cond}
use Rattle.std.proofs.Common.{refl, ap, sym, subst, ◌∙◌, arith, eq-eqb, length-append}
use Rattle.std.specs.Prelude.{not, ◌==◌}
use Rattle.std.proofs.lemmas.Bool.{cases_lt, eqb-true, false≢true}
use Rattle.std.proofs.lemmas.Bool.Decides.{nat_tests}
use Rattle.id_value.specs.List.{Among, AllDiffer}
use Rattle.id_value.proofs.AmongLemmas.{Among-either, Among-left, Among-right}
use Rattle.id_value.proofs.DifferLemmas.{AllDiffer-append}
use Rattle.id_table.specs.Rows.{at}
use Rattle.id_check.specs.declared.checked.Checked.{Checked}
use Rattle.id_check.specs.Programs.{rows}
use Rattle.id_check.proofs.ProgramsLemmas.{table_of}
use Rattle.id_desugar.specs.Regions.{has, in_block, in_procedure, is_loop_head, loop_heads, loops_by, order_by}
use Rattle.id_desugar.specs.Regions.{order_of, those}
use Rattle.id_desugar.proofs.HeadsLemmas.{loop_heads-differ, loop_heads-has, loop_heads-is}
use Rattle.id_build.specs.Made.{first_in, pieces_in}
use Rattle.id_build.specs.Rows.{answer_row, block, made, node, size, size_below}

-- each row is there once, the answer's first
pub record IsOrder (P : Checked) (order : List ℕ) : Type 0 where
  pub differ : AllDiffer order
  pub covers : (n : ℕ) → n < length (rows P) → Among n order
  pub within : (n : ℕ) → Among n order → n < length (rows P)
  pub answer_within : answer_row P < length (rows P)
  pub answer_first : first_in P 0 order (answer_row P) ≡ 0

-- ---- the numbers of which something is true

those-is : (f : ℕ → Bool) (n k : ℕ) → Among k (those f n) → (k < n) × (f k ≡ true)
those-is f zero k h = absurd h
those-is f (suc n) k h = go (f n) refl h (those-is f n k)
  where
    go : (t : Bool) → f n ≡ t → Among k (cond t (those f n ++ n ∷ []) (those f n))
        → (Among k (those f n) → (k < n) × (f k ≡ true)) → (k < suc n) × (f k ≡ true)
    go true e h rest = elim (Among-either k (those f n) (n ∷ []) h) [
      | inl i ↦ (let z = rest i in (omega (arith, z.0), z.1))
      | inr (inl i) ↦ (omega (arith, i), ap f i ∙ e)
      | inr (inr i) ↦ absurd i
    ]
    go false e h rest = let z = rest h in (omega (arith, z.0), z.1)

those-has : (f : ℕ → Bool) (n k : ℕ) → k < n → f k ≡ true → Among k (those f n)
those-has f zero k l e = absurd (omega (arith, l))
those-has f (suc n) k l e = go (f n) refl (those-has f n k)
  where
    here : k < n ⊎ (n ≡ k) → (k < n → f k ≡ true → Among k (those f n)) → Among k (those f n ++ n ∷ [])
    here (inl i) rest = Among-left k (those f n) (n ∷ []) (rest i e)
    here (inr i) rest = Among-right k (those f n) (n ∷ []) (inl (sym i))

    which : k < n ⊎ (n ≡ k)
    which = elim (cases_lt k n) [ inl i ↦ inl i | inr i ↦ inr (omega (arith, i, l)) ]

    there : f n ≡ false → k < n ⊎ (n ≡ k) → (k < n → f k ≡ true → Among k (those f n)) → Among k (those f n)
    there g (inl i) rest = rest i e
    there g (inr i) rest = absurd (false≢true (sym g ∙ ap f i ∙ e))

    go : (t : Bool) → f n ≡ t → (k < n → f k ≡ true → Among k (those f n))
        → Among k (cond t (those f n ++ n ∷ []) (those f n))
    go true g rest = here which rest
    go false g rest = there g which rest

those-differ : (f : ℕ → Bool) (n : ℕ) → AllDiffer (those f n)
those-differ f zero = tt
those-differ f (suc n) = go (f n) (those-differ f n)
  where
    go : (t : Bool) → AllDiffer (those f n) → AllDiffer (cond t (those f n ++ n ∷ []) (those f n))
    go true d =
        AllDiffer-append (those f n) (n ∷ []) d ((λ h. h), tt)
        (λ x i j. elim j [ inl e ↦ (let l = (those-is f n x i).0 in absurd (omega (arith, e, l))) | inr z ↦ absurd z ])
    go false d = d

-- ---- what a list has

pub has_among : (bs : List ℕ) (b : ℕ) → has bs b ≡ true → Among b bs
has_among [] b e = cc
has_among (x ∷ xs) b e = go (x == b) refl e (has_among xs b)
  where
    go : (t : Bool) → (x == b) ≡ t → cond t true (has xs b) ≡ true → (has xs b ≡ true → Among b xs) → Among b (x ∷ xs)
    go true f e rest = inl (sym (eqb-true x b f))
    go false f e rest = inr (rest e)

among_has : (bs : List ℕ) (b : ℕ) → Among b bs → has bs b ≡ true
among_has [] b h = absurd h
among_has (x ∷ xs) b (inl e) = ap (λ t. cond t true (has xs b)) (eq-eqb x b (sym e))
among_has (x ∷ xs) b (inr h) = go (x == b) (among_has xs b h)
  where
    go : (t : Bool) → has xs b ≡ true → cond t true (has xs b) ≡ true
    go true e = refl
    go false e = e

has_not : (bs : List ℕ) (b : ℕ) → (Among b bs → ⊥) → has bs b ≡ false
has_not bs b never = go (has bs b) refl
  where
    go : (t : Bool) → has bs b ≡ t → t ≡ false
    go true e = absurd (never (has_among bs b e))
    go false e = refl

-- ---- the rows of the blocks of loops

module _ (P : Checked) where
  in_block-is : (h i : ℕ) → in_block P h i ≡ true → block P i ≡ h
  in_block-is h i e = eqb-true (at (rows P) i).block h e

  in_block-has : (h i : ℕ) → block P i ≡ h → in_block P h i ≡ true
  in_block-has h i e = eq-eqb (at (rows P) i).block h e

  loops-is : (n : ℕ) (hs : List ℕ) (x : ℕ) → Among x (loops_by P n hs) → (x < n) × Among (block P x) hs
  loops-is n [] x h = absurd h
  loops-is n (g ∷ hs) x h = elim (Among-either x (those (in_block P g) n) (loops_by P n hs) h) [
    | inl i ↦ (let z = those-is (in_block P g) n x i in (z.0, inl (in_block-is g x z.1)))
    | inr i ↦ (let z = loops-is n hs x i in (z.0, inr z.1))
  ]

  loops-has : (n : ℕ) (hs : List ℕ) (x : ℕ) → x < n → Among (block P x) hs → Among x (loops_by P n hs)
  loops-has n [] x l h = absurd h
  loops-has n (g ∷ hs) x l (inl e) =
      Among-left x (those (in_block P g) n) (loops_by P n hs) (those-has (in_block P g) n x l (in_block-has g x e))
  loops-has n (g ∷ hs) x l (inr h) = Among-right x (those (in_block P g) n) (loops_by P n hs) (loops-has n hs x l h)

  loops-differ : (n : ℕ) (hs : List ℕ) → AllDiffer hs → AllDiffer (loops_by P n hs)
  loops-differ n [] d = tt
  loops-differ n (g ∷ hs) d =
      AllDiffer-append (those (in_block P g) n) (loops_by P n hs) (those-differ (in_block P g) n)
      (loops-differ n hs d.1)
      (λ x i j. (
      let is = in_block-is g x (those-is (in_block P g) n x i).1 in
      d.0 (subst (λ z. Among z hs) is (loops-is n hs x j).1)))

  -- the rows but the last, in their order
  abbrev inner : ℕ → List ℕ
  inner n = those (in_procedure P) n ++ loops_by P n (loop_heads P)

  inner-within : (n x : ℕ) → Among x (inner n) → x < n
  inner-within n x h = elim (Among-either x (those (in_procedure P) n) (loops_by P n (loop_heads P)) h) [
    | inl i ↦ (those-is (in_procedure P) n x i).0
    | inr i ↦ (loops-is n (loop_heads P) x i).0
  ]

  inner-has : (n x : ℕ) → x < n → block P x < length (rows P) → Among x (inner n)
  inner-has n x l b = go (is_loop_head (node P (block P x))) refl
    where
      go : (t : Bool) → is_loop_head (node P (block P x)) ≡ t → Among x (inner n)
      go true e =
          Among-right x (those (in_procedure P) n) (loops_by P n (loop_heads P))
          (loops-has n (loop_heads P) x l (loop_heads-has P (block P x) b e))
      go false e =
          Among-left x (those (in_procedure P) n) (loops_by P n (loop_heads P))
          (those-has (in_procedure P) n x l (ap not e))

  inner-differ : (n : ℕ) → AllDiffer (inner n)
  inner-differ n =
      AllDiffer-append (those (in_procedure P) n) (loops_by P n (loop_heads P)) (those-differ (in_procedure P) n)
      (loops-differ n (loop_heads P) (loop_heads-differ P))
      (λ x i j. (
      let no = (those-is (in_procedure P) n x i).1 in
      let yes = (loop_heads-is P (block P x) (loops-is n (loop_heads P) x j).1).1 in
      absurd (false≢true (sym (ap not yes) ∙ no))))

  IsOrder-by : (n : ℕ) → length (rows P) ≡ suc n → IsOrder P (n ∷ inner n)
  IsOrder-by n e = record {
    differ = (λ h. (let l = inner-within n n h in absurd (omega (arith, l))), inner-differ n);
    covers = λ k l. elim (cases_lt k n) [
      | inl i ↦ (let b = ((table_of P).block k (omega (arith, i, e))).0 in
          inr (inner-has n k i (omega (arith, b, i, e))))
      | inr i ↦ inl (omega (arith, e, l, i))
    ];
    within = λ k h. elim h [
      | inl i ↦ omega (arith, e, i)
      | inr i ↦ (let l = inner-within n k i in
          omega (arith, e, l))
    ];
    answer_within = omega (arith, e);
    answer_first = (let is : n ≡ answer_row P = omega (arith, e) in
        ap (λ t. cond t 0 (first_in P (0 + length (made P n)) (inner n) (answer_row P))) (eq-eqb n (answer_row P) is));
  }

-- the order of the program's rows is such
pub IsOrder-order_of : (P : Checked) → 0 < length (rows P) → IsOrder P (order_of P)
IsOrder-order_of P l =
    let n = answer_row P in
    let e : length (rows P) ≡ suc n = omega (arith, l) in
    let Z : ℕ → Type 0 = λ k. IsOrder P (order_by P k) in
    subst Z (sym e) (IsOrder-by P n e)

-- ---- how many instructions rows make in an order

module _ (P : Checked) where
  -- those of the rows below n that are in the list
  abbrev counted : List ℕ → ℕ
  counted xs = length (pieces_in P xs)

  counted-append : (xs ys : List ℕ) → counted (xs ++ ys) ≡ counted xs + counted ys
  counted-append [] ys = omega arith
  counted-append (x ∷ xs) ys =
      let rest = counted-append xs ys in
      omega (arith, rest, length-append (made P x) (pieces_in P (xs ++ ys)), length-append (made P x) (pieces_in P xs))

  counted-one : (x : ℕ) → counted (x ∷ []) ≡ length (made P x)
  counted-one x = omega (arith, length-append (made P x) [])

  -- what the row n makes, if f is true of it
  abbrev if_so : Bool → ℕ → ℕ
  if_so t n = cond t (length (made P n)) 0

  those-next : (f : ℕ → Bool) (n : ℕ) → counted (those f (suc n)) ≡ counted (those f n) + if_so (f n) n
  those-next f n = go (f n)
    where
      go : (t : Bool) → counted (cond t (those f n ++ n ∷ []) (those f n)) ≡ counted (those f n) + if_so t n
      go true = omega (arith, counted-append (those f n) (n ∷ []), counted-one n)
      go false = omega arith

  -- a row is counted in the blocks with these heads where its own is one of them
  loops-next : (n : ℕ) (hs : List ℕ) → AllDiffer hs
      → counted (loops_by P (suc n) hs) ≡ counted (loops_by P n hs) + if_so (has hs (block P n)) n
  loops-next n [] d = refl
  loops-next n (g ∷ hs) d =
      omega (
        arith,
        counted-append (those (in_block P g) (suc n)) (loops_by P (suc n) hs),
        counted-append (those (in_block P g) n) (loops_by P n hs),
        those-next (in_block P g) n,
        loops-next n hs d.1,
        split (g == block P n) refl,
      )
    where
      -- exactly one of the two is so, or none
      split : (t : Bool) → (g == block P n) ≡ t
          → if_so (in_block P g n) n + if_so (has hs (block P n)) n ≡ if_so (cond t true (has hs (block P n))) n
      split true e =
          let same : g ≡ block P n = eqb-true g (block P n) e in
          let yes = in_block-has P g n (sym same) in
          let no = has_not hs (block P n) (λ h. d.0 (subst (λ z. Among z hs) (sym same) h)) in
          omega (arith, ap (λ t. if_so t n) yes, ap (λ t. if_so t n) no)
      split false e =
          let no : in_block P g n ≡ false = grind (arith, nat_tests, e) in
          omega (arith, ap (λ t. if_so t n) no)

  -- the blocks of loops are those whose heads are listed
  has_heads : (h : ℕ) → h < length (rows P) → has (loop_heads P) h ≡ is_loop_head (node P h)
  has_heads h l = go (is_loop_head (node P h)) refl
    where
      go : (t : Bool) → is_loop_head (node P h) ≡ t → has (loop_heads P) h ≡ t
      go true e = among_has (loop_heads P) h (loop_heads-has P h l e)
      go false e = has_not (loop_heads P) h (λ i. false≢true (sym e ∙ (loop_heads-is P h i).1))

  -- a row is in the block of a procedure, or in that of a loop
  one_of : (m : ℕ) → block P m < length (rows P)
      → if_so (in_procedure P m) m + if_so (has (loop_heads P) (block P m)) m ≡ length (made P m)
  one_of m l = omega (arith, ap (λ t. if_so t m) (has_heads (block P m) l), go (is_loop_head (node P (block P m))))
    where
      go : (t : Bool) → if_so (not t) m + if_so t m ≡ length (made P m)
      go true = omega arith
      go false = omega arith

  -- the first m rows make what the sizes say
  sum-below : (m : ℕ) → ((i : ℕ) → i < m → block P i < length (rows P))
      → counted (those (in_procedure P) m) + counted (loops_by P m (loop_heads P)) ≡ size_below P m
  sum-below zero low = omega (arith, no_loops (loop_heads P))
    where
      no_loops : (hs : List ℕ) → counted (loops_by P 0 hs) ≡ 0
      no_loops [] = refl
      no_loops (g ∷ hs) = no_loops hs
  sum-below (suc m) low =
      let rest = sum-below m (λ i l. low i (omega (arith, l))) in
      omega (
        arith,
        rest,
        those-next (in_procedure P) m,
        loops-next m (loop_heads P) (loop_heads-differ P),
        one_of m (low m (omega arith)),
      )

  order-count : (n : ℕ) → n ≡ length (rows P) → counted (order_by P n) ≡ size_below P n
  order-count zero e = refl
  order-count (suc n) e =
      let below : (i : ℕ) → i < n → block P i < length (rows P) =
      λ i l. (let b = ((table_of P).block i (omega (arith, l, e))).0 in omega (arith, b, l, e)) in
      omega (
        arith,
        length-append (made P n) (pieces_in P (inner P n)),
        counted-append (those (in_procedure P) n) (loops_by P n (loop_heads P)),
        sum-below n below,
      )

-- the size is the number of instructions
pub length-pieces_in : (P : Checked) → length (pieces_in P (order_of P)) ≡ size P
length-pieces_in P = order-count P (length (rows P)) refl
