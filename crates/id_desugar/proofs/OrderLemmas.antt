-- The rows of blocks, chain by chain.
use Rattle.std.proofs.Common.{◌≡◌, inl, inr, ℕ, zero, suc, ◌+◌, ◌-◌, ◌<◌, ◌≤◌, Bool, true, false, List, [], ◌∷◌, ◌++◌}
use Rattle.std.proofs.Common.{Option, Some, None}
use Rattle.std.proofs.Common.{refl, ap, sym, ◌∙◌, append-nil, append_assoc, subst, arith, length, get_or, slice_set}
use Rattle.std.specs.Prelude.{◌==◌, if◌then◌else◌, take}
use Rattle.std.proofs.Math.Seq.{take-suc}
use Rattle.std.proofs.lemmas.Bool.{cases_lt}
use Rattle.std.proofs.lemmas.Grind.{common_steps}
use Rattle.std.proofs.lemmas.Bool.{eqb-true}
use Rattle.std.proofs.lemmas.Bool.Decides.{nat_tests}
use Rattle.std.proofs.lemmas.List.{get_or-set_same, get_or-set_other}
use Rattle.id_table.specs.Rows.{at}
use Rattle.id_check.specs.declared.checked.Checked.{Checked}
use Rattle.id_check.specs.Programs.{rows}
use Rattle.id_check.proofs.ProgramsLemmas.{table_of}
use Rattle.id_desugar.specs.Regions.{in_block, loops_by, those}
use Rattle.id_desugar.specs.Gathering.{AreChains, IsFirstFrom}

-- one more number
pub those-yes : (f : ℕ → Bool) (n : ℕ) → f n ≡ true → those f (n + 1) ≡ those f n ++ n ∷ []
those-yes f n e =
    let next : n + 1 ≡ suc n = omega arith in
    ap (those f) next ∙ ap (λ t. if t then those f n ++ n ∷ [] else those f n) e

pub those-no : (f : ℕ → Bool) (n : ℕ) → f n ≡ false → those f (n + 1) ≡ those f n
those-no f n e =
    let next : n + 1 ≡ suc n = omega arith in
    ap (those f) next ∙ ap (λ t. if t then those f n ++ n ∷ [] else those f n) e

-- where f is true of none from lo up to n, those below n are those below lo
pub those-same : (f : ℕ → Bool) (lo n : ℕ) → lo ≤ n → ((i : ℕ) → lo ≤ i → i < n → f i ≡ false) → those f n ≡ those f lo
those-same f lo zero l none = let e : 0 ≡ lo = omega (arith, l) in ap (those f) e
those-same f lo (suc n) l none = elim (cases_lt n lo) [
  | inl m ↦ let e : suc n ≡ lo = omega (arith, l, m) in ap (those f) e
  | inr m ↦ ap (λ t. if t then those f n ++ n ∷ [] else those f n) (none n m (omega arith))
      ∙ those-same f lo n m (λ i a b. none i a (omega (arith, b)))
]

-- ---- a block's rows so far, where its chain goes on at a row, or ends

abbrev pub AreReached : (ℕ → Bool) → ℕ → List ℕ → List ℕ → Option ℕ → Type 0
AreReached f n old new None = new ≡ old ++ those f n
AreReached f n old new (Some j) = (j < n) × (f j ≡ true) × (new ≡ old ++ those f j)

-- how far it is to the end
abbrev pub rest : ℕ → Option ℕ → ℕ
rest n None = 0
rest n (Some j) = suc (n - j)

pub AreReached-from : (f : ℕ → Bool) (lo n : ℕ) (old new : List ℕ) (o : Option ℕ) → lo ≤ n → IsFirstFrom f lo n o
    → new ≡ old ++ those f lo → AreReached f n old new o
AreReached-from f lo n old new None l h e = e ∙ ap (λ z. old ++ z) (sym (those-same f lo n l h))
AreReached-from f lo n old new (Some j) l h e = (h.1, h.2, e ∙ ap (λ z. old ++ z) (sym (those-same f lo j h.0 h.3)))

pub rest-less : (f : ℕ → Bool) (n j : ℕ) (o : Option ℕ) → j < n → IsFirstFrom f (j + 1) n o → rest n o < rest n (Some j)
rest-less f n j None l h = omega arith
rest-less f n j (Some k) l h = omega (arith, l, h.0, h.1)

-- ---- chains

-- before the last row there is none
pub AreChains-none : (P : Checked) (n : ℕ) (F N : List (Option ℕ)) → length F ≡ length (rows P)
    → length N ≡ length (rows P) → ((h : ℕ) → get_or F h None ≡ None)
    → AreChains P n n F N
AreChains-none P n F N many nexts none = record {
  many_firsts = many;
  many_nexts = nexts;
  first = λ h l. subst (IsFirstFrom (in_block P h) n n) (sym (none h)) (λ i a b. absurd (omega (arith, a, b)));
  next = λ i a b. absurd (omega (arith, a, b));
}

-- a block's head is a row before, or it itself
pub block_low : (P : Checked) (i : ℕ) → i + 1 < length (rows P) → (at (rows P) i).block ≤ i
block_low P i l = ((table_of P).block i l).0

one_more : (f : ℕ → Bool) (lo n : ℕ) (o : Option ℕ) → f lo ≡ false → IsFirstFrom f (lo + 1) n o → IsFirstFrom f lo n o
one_more f lo n None e h = λ i a b. elim (cases_lt lo i) [
  | inl l ↦ h i (omega (arith, l)) b
  | inr l ↦ let is : lo ≡ i = omega (arith, a, l) in subst (λ z. f z ≡ false) is e
]
one_more f lo n (Some j) e h = (
  omega (arith, h.0),
  h.1,
  h.2,
  λ i a b. elim (cases_lt lo i) [
    | inl l ↦ h.3 i (omega (arith, l)) b
    | inr l ↦ let is : lo ≡ i = omega (arith, a, l) in subst (λ z. f z ≡ false) is e
  ],
)

-- one more row is put before the chain of its block
pub AreChains-next : (P : Checked) (lo n b : ℕ) (F N : List (Option ℕ)) → lo < n → n + 1 ≡ length (rows P)
    → b ≡ (at (rows P) lo).block → AreChains P (lo + 1) n F N
    → AreChains P lo n (slice_set F b (Some lo)) (slice_set N lo (get_or F b None))
AreChains-next P lo n b F N low last is c = record {
  many_firsts = long_firsts ∙ c.many_firsts;
  many_nexts = long_nexts ∙ c.many_nexts;
  first = λ h l. first h l (h == b) refl;
  next = λ i a m. next i a m (i == lo) refl;
}
  where
    long_firsts : length (slice_set F b (Some lo)) ≡ length F
    long_firsts = grind (arith, common_steps)

    long_nexts : length (slice_set N lo (get_or F b None)) ≡ length N
    long_nexts = grind (arith, common_steps)

    within : b < length (rows P)
    within = omega (arith, is, block_low P lo (omega (arith, low, last)), low, last)

    unlike : (h k : ℕ) → (h == k) ≡ false → (h ≡ k → ⊥)
    unlike h k e same = grind (arith, nat_tests)

    inside : in_block P b lo ≡ true
    inside = let same : (at (rows P) lo).block ≡ b = sym is in grind (arith, nat_tests)

    outside : (h : ℕ) → (h == b) ≡ false → in_block P h lo ≡ false
    outside h e = let same : (at (rows P) lo).block ≡ b = sym is in grind (arith, nat_tests)

    first : (h : ℕ) → h < length (rows P) → (t : Bool) → (h == b) ≡ t
        → IsFirstFrom (in_block P h) lo n (get_or (slice_set F b (Some lo)) h None)
    first h l true e =
        let same : b ≡ h = sym (eqb-true h b e) in
        subst (λ z. IsFirstFrom (in_block P z) lo n (get_or (slice_set F b (Some lo)) z None)) same
        (subst (IsFirstFrom (in_block P b) lo n)
        (sym (get_or-set_same F b (Some lo) None (omega (arith, within, c.many_firsts))))
        (omega arith, low, inside, λ i x y. absurd (omega (arith, x, y))))
    first h l false e =
        subst (IsFirstFrom (in_block P h) lo n) (sym (get_or-set_other F b h (Some lo) None (unlike h b e)))
        (one_more (in_block P h) lo n (get_or F h None) (outside h e) (c.first h l))

    next : (i : ℕ) → lo ≤ i → i < n → (t : Bool) → (i == lo) ≡ t
        → IsFirstFrom (in_block P (at (rows P) i).block) (i + 1) n (get_or (slice_set N lo (get_or F b None)) i None)
    next i a m true e =
        let same : lo ≡ i = sym (eqb-true i lo e) in
        subst (λ z. IsFirstFrom (in_block P (at (rows P) z).block) (z + 1) n
        (get_or (slice_set N lo (get_or F b None)) z None)) same
        (subst (IsFirstFrom (in_block P (at (rows P) lo).block) (lo + 1) n)
        (sym (get_or-set_same N lo (get_or F b None) None (omega (arith, c.many_nexts, low, last))))
        (subst (λ z. IsFirstFrom (in_block P z) (lo + 1) n (get_or F b None)) is (c.first b within)))
    next i a m false e =
        subst (IsFirstFrom (in_block P (at (rows P) i).block) (i + 1) n)
        (sym (get_or-set_other N lo i (get_or F b None) None (unlike i lo e)))
        (c.next i (behind (unlike i lo e)) m)
      where
        behind : (i ≡ lo → ⊥) → lo + 1 ≤ i
        behind unlike = omega (arith, a, unlike)

-- the next of its block, behind the row j
pub next_of_block : (P : Checked) (h n j : ℕ) (F N : List (Option ℕ)) → AreChains P 0 n F N → j < n
    → in_block P h j ≡ true → IsFirstFrom (in_block P h) (j + 1) n (get_or N j None)
next_of_block P h n j F N c l e =
    subst (λ z. IsFirstFrom (in_block P z) (j + 1) n (get_or N j None)) (eqb-true (at (rows P) j).block h e)
    (c.next j (omega arith) l)

-- ---- blocks of loops

pub loops_by-append : (P : Checked) (n : ℕ) (hs gs : List ℕ)
    → loops_by P n (hs ++ gs) ≡ loops_by P n hs ++ loops_by P n gs
loops_by-append P n [] gs = refl
loops_by-append P n (h ∷ hs) gs =
    ap (λ z. those (in_block P h) n ++ z) (loops_by-append P n hs gs)
    ∙ sym (append_assoc (those (in_block P h) n) (loops_by P n hs) (loops_by P n gs))

-- one more block
pub loops_by-next : (P : Checked) (n i : ℕ) (hs : List ℕ) → i < length hs
    → loops_by P n (take (suc i) hs) ≡ loops_by P n (take i hs) ++ those (in_block P (get_or hs i 0)) n
loops_by-next P n i hs l =
    let h = get_or hs i 0 in
    ap (loops_by P n) (take-suc hs i 0 l) ∙ loops_by-append P n (take i hs) (h ∷ [])
    ∙ ap (λ z. loops_by P n (take i hs) ++ z) (append-nil (those (in_block P h) n))

-- without heads there is none
pub loops_by-none : (P : Checked) (n : ℕ) (hs : List ℕ) → (length hs == 0) ≡ true → loops_by P n hs ≡ []
loops_by-none P n [] e = refl
loops_by-none P n (h ∷ hs) e = let no = eqb-true (length (h ∷ hs)) 0 e in absurd (omega (arith, no))
