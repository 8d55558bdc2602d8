-- The heads of loops, by place: each is listed, and once, since no two of them have one place.
use Rattle.std.proofs.Common.{◌≡◌, ◌⊎◌, inl, inr, ℕ, zero, suc, ◌+◌, ◌-◌, ◌<◌, ◌≤◌, Bool, true, false, Option, Some}
use Rattle.std.proofs.Common.{None}
use Rattle.std.proofs.Common.{refl, ap, sym, ◌∙◌, subst, arith, length, eq-eqb}
use Rattle.std.specs.Prelude.{◌&&◌, max, nat_eq, if◌then◌else◌}
use Rattle.std.specs.Option.{option_or}
use Rattle.std.proofs.Math.Nat.{le-max_left, le-max_right}
use Rattle.std.proofs.lemmas.Bool.{cases_lt, eqb-true, false≢true}
use Rattle.id_value.specs.List.{Among, AllDiffer}
use Rattle.id_value.proofs.AmongLemmas.{Among-either, Among-left, Among-right}
use Rattle.id_value.proofs.DifferLemmas.{AllDiffer-append}
use Rattle.id_table.specs.declared.row.Node.{Node}
use Rattle.id_table.specs.declared.row.Node.TheVariants.{LoopHead, Loop}
use Rattle.id_table.specs.Loops.{IsLoopOf}
use Rattle.id_table.specs.Rows.{at}
use Rattle.id_table.specs.Tables.{AreApart, is_thing}
use Rattle.id_table.proofs.PlacesLemmas.{AreApart-rows_of}
use Rattle.id_check.specs.Scopes.{first_of}
use Rattle.id_check.proofs.ScopesLemmas.{first_of-some}
use Rattle.id_check.specs.declared.checked.Checked.{Checked}
use Rattle.id_check.specs.Programs.{rows, tree}
use Rattle.id_check.proofs.ProgramsLemmas.{table_of}
use Rattle.id_desugar.specs.Regions.{head_at, is_loop_head, loop_heads, loop_heads_by, only, reach}

-- a loop's block begins at the row
abbrev IsHead : Checked → ℕ → Type 0
IsHead P h = (h < length (rows P)) × (is_loop_head (at (rows P) h).node ≡ true)

-- ---- one place, one head

apart_of : (P : Checked) → AreApart (rows P)
apart_of P = subst AreApart (sym P.tabled) (AreApart-rows_of (tree P) P.distinct)

-- the loop of a head, which has its place
loop_at : (P : Checked) (h : ℕ) → h < length (rows P) → is_loop_head (at (rows P) h).node ≡ true
    → (n : ℕ) × IsLoopOf (rows P) n h × ((at (rows P) h).place ≡ (at (rows P) n).place)
loop_at P h l e = by (at (rows P) h).node refl e
  where
    by : (m : Node) → (at (rows P) h).node ≡ m → is_loop_head m ≡ true
        → (n : ℕ) × IsLoopOf (rows P) n h × ((at (rows P) h).place ≡ (at (rows P) n).place)
    by (LoopHead s) is f =
        let w = (table_of P).has_loop h s l is in (w.0, w.1, ((table_of P).loop_is w.0 h w.1).place.head)
    by _ is f = absurd (false≢true f)

-- a head stands before the last row
pub head_inner : (P : Checked) (h : ℕ) → h < length (rows P) → is_loop_head (at (rows P) h).node ≡ true
    → h + 1 < length (rows P)
head_inner P h l e = elim (cases_lt (h + 1) (length (rows P))) [
  | inl m ↦ m
  | inr m ↦ let last : h ≡ length (rows P) - 1 = omega (arith, l, m) in
      absurd (false≢true (sym (ap is_loop_head (ap (λ z. (at (rows P) z).node) last ∙ (table_of P).ends)) ∙ e))
]

-- no two heads have one place
heads_apart : (P : Checked) (h g : ℕ) → IsHead P h → IsHead P g → (at (rows P) h).place ≡ (at (rows P) g).place → h ≡ g
heads_apart P h g a b e =
    let v = loop_at P h a.0 a.1 in
    let w = loop_at P g b.0 b.1 in
    let same =
    (apart_of P).apart v.0 w.0 v.1.within w.1.within (ap is_thing v.1.node) (ap is_thing w.1.node) (sym v.2 ∙ e
    ∙ w.2) in
    let is : Loop h v.1.switches v.1.last ≡ Loop g w.1.switches w.1.last =
    sym v.1.node ∙ ap (λ z. (at (rows P) z).node) same ∙ w.1.node in
    cc

-- ---- the head of a place

one : (a b : ℕ) → Some a ≡ Some b → a ≡ b
one a b e = cc

-- whose head is found there
head_at-is : (P : Checked) (p n h : ℕ) → head_at P p n ≡ Some h → (n ≡ h) × (is_loop_head (at (rows P) n).node ≡ true)
    × ((at (rows P) n).place ≡ p)
head_at-is P p n h e = by (is_loop_head (at (rows P) n).node) refl (nat_eq (at (rows P) n).place p) refl e
  where
    by : (t : Bool) → is_loop_head (at (rows P) n).node ≡ t → (u : Bool) → nat_eq (at (rows P) n).place p ≡ u
        → (if t && u then Some n else None) ≡ Some h → (n ≡ h) × (is_loop_head (at (rows P) n).node ≡ true)
        × ((at (rows P) n).place ≡ p)
    by true f true g i = (one n h i, f, eqb-true (at (rows P) n).place p g)
    by true f false g i = cc
    by false f u g i = cc

head_of : (P : Checked) (p n h : ℕ) → first_of (head_at P p) n ≡ Some h
    → (h < n) × (is_loop_head (at (rows P) h).node ≡ true) × ((at (rows P) h).place ≡ p)
head_of P p n h e =
    let w = first_of-some (head_at P p) n h e in
    let v = head_at-is P p w.0 h w.2 in (
      subst (λ z. z < n) v.0 w.1,
      subst (λ z. is_loop_head (at (rows P) z).node ≡ true) v.0 v.1,
      subst (λ z. (at (rows P) z).place ≡ p) v.0 v.2,
    )

-- a head has one at its place
head_found : (P : Checked) (n h : ℕ) → h < n → is_loop_head (at (rows P) h).node ≡ true
    → (g : ℕ) × (first_of (head_at P (at (rows P) h).place) n ≡ Some g)
head_found P zero h l e = absurd (omega (arith, l))
head_found P (suc n) h l e = by (first_of (head_at P p) n) refl (cases_lt h n) (λ m. head_found P n h m e)
  where
    p : ℕ
    p = (at (rows P) h).place

    here : head_at P p h ≡ Some h
    here = ap (λ t. if t && nat_eq p p then Some h else None) e ∙ ap (λ t. if t then Some h else None) (eq-eqb p p refl)

    none_some : (g : ℕ) → None ≡ Some g → ⊥
    none_some g i = cc

    by : (o : Option ℕ) → first_of (head_at P p) n ≡ o → h < n ⊎ (n ≤ h)
        → (h < n → (g : ℕ) × (first_of (head_at P p) n ≡ Some g))
        → (g : ℕ) × (option_or o (head_at P p n) ≡ Some g)
    by (Some g) f c rest = (g, refl)
    by None f (inl m) rest = let w = rest m in absurd (none_some w.0 (sym f ∙ w.1))
    by None f (inr m) rest = let is : n ≡ h = omega (arith, l, m) in (h, ap (head_at P p) is ∙ here)

-- ---- the list

Among-only : (h : ℕ) (o : Option ℕ) → Among h (only o) → o ≡ Some h
Among-only h None a = absurd a
Among-only h (Some g) (inl e) = ap (λ z. Some z) (sym e)
Among-only h (Some g) (inr a) = absurd a

only-differ : (o : Option ℕ) → AllDiffer (only o)
only-differ None = tt
only-differ (Some g) = ((λ h. h), tt)

heads_by-is : (P : Checked) (k h : ℕ) → Among h (loop_heads_by P k) → IsHead P h × ((at (rows P) h).place < k)
heads_by-is P zero h a = absurd a
heads_by-is P (suc k) h a =
    elim (Among-either h (loop_heads_by P k) (only (first_of (head_at P k) (length (rows P)))) a) [
      | inl b ↦ let w = heads_by-is P k h b in (w.0, omega (arith, w.1))
      | inr b ↦
          let w = head_of P k (length (rows P)) h (Among-only h (first_of (head_at P k) (length (rows P))) b) in
          ((w.0, w.1), omega (arith, w.2))
    ]

heads_by-has : (P : Checked) (k h : ℕ) → IsHead P h → (at (rows P) h).place < k → Among h (loop_heads_by P k)
heads_by-has P zero h a l = absurd (omega (arith, l))
heads_by-has P (suc k) h a l = elim (cases_lt (at (rows P) h).place k) [
  | inl m ↦ Among-left h (loop_heads_by P k) (only (first_of (head_at P k) n)) (heads_by-has P k h a m)
  | inr m ↦
      let is : (at (rows P) h).place ≡ k = omega (arith, l, m) in
      let w = head_found P n h a.0 a.1 in
      let v = head_of P (at (rows P) h).place n w.0 w.1 in
      let same = heads_apart P w.0 h (v.0, v.1) a v.2 in
      let found : first_of (head_at P k) n ≡ Some h =
      ap (λ p. first_of (head_at P p) n) (sym is) ∙ w.1 ∙ ap (λ z. Some z) same in
      Among-right h (loop_heads_by P k) (only (first_of (head_at P k) n))
      (subst (λ o. Among h (only o)) (sym found) (inl refl))
]
  where
    n : ℕ
    n = length (rows P)

heads_by-differ : (P : Checked) (k : ℕ) → AllDiffer (loop_heads_by P k)
heads_by-differ P zero = tt
heads_by-differ P (suc k) =
    AllDiffer-append (loop_heads_by P k) (only (first_of (head_at P k) (length (rows P)))) (heads_by-differ P k)
    (only-differ (first_of (head_at P k) (length (rows P))))
    (λ h a b.
    let low = (heads_by-is P k h a).1 in
    let is = (head_of P k (length (rows P)) h (Among-only h (first_of (head_at P k) (length (rows P))) b)).2 in
    omega (arith, low, is))

-- each head is within the reach
reach-has : (P : Checked) (n h : ℕ) → h < n → is_loop_head (at (rows P) h).node ≡ true
    → (at (rows P) h).place < reach P n
reach-has P zero h l e = absurd (omega (arith, l))
reach-has P (suc n) h l e = by (is_loop_head (at (rows P) n).node) refl (cases_lt h n) (λ m. reach-has P n h m e)
  where
    q : ℕ
    q = (at (rows P) n).place

    by : (t : Bool) → is_loop_head (at (rows P) n).node ≡ t → h < n ⊎ (n ≤ h)
        → (h < n → (at (rows P) h).place < reach P n)
        → (at (rows P) h).place < (if t then max (reach P n) (suc q) else reach P n)
    by true f (inl m) rest = let low = rest m in omega (arith, low, le-max_left (reach P n) (suc q))
    by true f (inr m) rest =
        let is : h ≡ n = omega (arith, l, m) in
        omega (arith, ap (λ z. (at (rows P) z).place) is, le-max_right (reach P n) (suc q))
    by false f (inl m) rest = rest m
    by false f (inr m) rest =
        let is : n ≡ h = omega (arith, l, m) in
        absurd (false≢true (sym f ∙ ap (λ z. is_loop_head (at (rows P) z).node) is ∙ e))

-- what is listed is a head of a loop
pub loop_heads-is : (P : Checked) (h : ℕ) → Among h (loop_heads P)
    → (h < length (rows P)) × (is_loop_head (at (rows P) h).node ≡ true)
loop_heads-is P h a = (heads_by-is P (reach P (length (rows P))) h a).0

-- each is listed
pub loop_heads-has : (P : Checked) (h : ℕ) → h < length (rows P) → is_loop_head (at (rows P) h).node ≡ true
    → Among h (loop_heads P)
loop_heads-has P h l e = heads_by-has P (reach P (length (rows P))) h (l, e) (reach-has P (length (rows P)) h l e)

-- and once
pub loop_heads-differ : (P : Checked) → AllDiffer (loop_heads P)
loop_heads-differ P = heads_by-differ P (reach P (length (rows P)))
