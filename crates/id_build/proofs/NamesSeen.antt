-- Which regions see a binder, and where its value comes from there.
use Rattle.std.proofs.Common.{◌≡◌, ℕ, zero, suc, ◌+◌, ◌<◌, ◌==◌, Bool as Truth, true, false, ◌&&◌, cond, List, [], ◌∷◌}
use Rattle.std.proofs.Common.{inl, inr, length, get_or, refl}
use Rattle.std.proofs.Common.{sym, ◌∙◌, ap, subst, arith}
use Rattle.std.specs.Bool.{beq}
use Rattle.std.proofs.lemmas.Bool.{eqb-true}
use Rattle.std.proofs.lemmas.Bool.Decides.{nat_tests}
use Rattle.id_value.specs.List.{Among}
use Rattle.id_table.specs.declared.row.Region.{Region}
use Rattle.id_table.specs.declared.row.Node.TheVariants.{LoopHead, Split, Switches}
use Rattle.id_table.specs.Rows.{arm_at, top}
use Rattle.id_check.specs.declared.checked.Checked.{Checked}
use Rattle.id_check.specs.Programs.{region, rows}
use Rattle.id_desugar.specs.Regions.{imports_of}
use Rattle.id_build.specs.Rows.{entries_row, handed_by, home, label, name_in, node, output, same_region, slot_of}

-- switches for the predicate t stand at the row n: those of a conditional, or of a loop
pub data HasSwitches (P : Checked) (n t : ℕ) : Type 0 where
  of_arms : node P n ≡ Split t → HasSwitches P n t
  of_turns : node P n ≡ Switches t → HasSwitches P n t

-- the region sees what is bound at the row b: it has what its label gives right in the region, or switches hand it into
-- the region, and
-- see it where they stand themselves, or a loop takes it in, and its `Start` sees it
pub data Sees (P : Checked) (b : ℕ) : Region → Type 0 where
  own : {r : Region} → region P (home P b) ≡ r → Sees P b r
  handed : {n t : ℕ} {c : Truth} → n < length (rows P) → HasSwitches P n t → Among b (imports_of P n)
      → Sees P b (region P n) → Sees P b (arm_at n c)
  entered : {h s : ℕ} → h < length (rows P) → node P h ≡ LoopHead s → Among b (imports_of P h) → Sees P b (region P s)
      → Sees P b (top h)

-- a region is itself
pub region_itself : (r : Region) → same_region r r ≡ true
region_itself r = go r.side
  where
    go : (b : Truth) → ((r.head == r.head) && beq b b) ≡ true
    go true = grind (arith, nat_tests)
    go false = grind (arith, nat_tests)

both_true : (a b : Truth) → (a && b) ≡ true → (a ≡ true) × (b ≡ true)
both_true true b e = (refl, e)
both_true false b e = cc

one_side : (a b : Truth) → beq a b ≡ true → a ≡ b
one_side true true e = refl
one_side true false e = cc
one_side false true e = cc
one_side false false e = refl

-- regions that pass as one are one
pub region_is : (r q : Region) → same_region r q ≡ true → r ≡ q
region_is r q e =
    let both = both_true (r.head == q.head) (beq r.side q.side) e in
    let head = eqb-true r.head q.head both.0 in
    let side = one_side r.side q.side both.1 in
    (λ i. record { head = head i; side = side i })

name_by : (P : Checked) (r : Region) (b : ℕ) (t : Truth) → same_region (region P (home P b)) r ≡ t
    → name_in P r b ≡ cond t (output (label P b)) (handed_by P r b (node P r.head))
name_by P r b t e = ap (λ z. cond z (output (label P b)) (handed_by P r b (node P r.head))) e

-- a name's value comes in its binder's home from the label
pub named : (P : Checked) (r : Region) (b : ℕ) → region P (home P b) ≡ r → name_in P r b ≡ output (label P b)
named P r b is = name_by P r b true (ap (λ z. same_region z r) is ∙ region_itself r)

-- where the binder stands among those of the list
pub record SlotOf (bs : List ℕ) (b : ℕ) : Type 0 where
  pub less : slot_of bs b < length bs
  pub there : get_or bs (slot_of bs b) 0 ≡ b

-- so it is where the first one is b, or is not
abbrev SlotIs : ℕ → List ℕ → ℕ → Truth → Type 0
SlotIs x xs b t =
    (cond t 0 (slot_of xs b + 1) < length (x ∷ xs)) × (get_or (x ∷ xs) (cond t 0 (slot_of xs b + 1)) 0 ≡ b)

pub slot_found : (bs : List ℕ) (b : ℕ) → Among b bs → SlotOf bs b
slot_found [] b h = absurd h
slot_found (x ∷ xs) b h = go (x == b) refl (λ k. slot_found xs b k)
  where
    rest : (Among b xs → SlotOf xs b) → (x ≡ b → ⊥) → SlotOf xs b
    rest more other = elim h [
      | inl is ↦ absurd (other (sym is))
      | inr k ↦ more k
    ]

    differs : (x == b) ≡ false → x ≡ b → ⊥
    differs e is =
        let same : (x == b) ≡ true = grind (arith, nat_tests, is) in let bad : true ≡ false = sym same ∙ e in cc

    at : (t : Truth) → (x == b) ≡ t → (Among b xs → SlotOf xs b) → SlotIs x xs b t
    at true e more = (omega arith, eqb-true x b e)
    at false e more =
        let z = rest more (differs e) in
        let up : suc (slot_of xs b) ≡ slot_of xs b + 1 = omega arith in
        (omega (arith, z.less), subst (λ k. get_or (x ∷ xs) k 0 ≡ b) up z.there)

    go : (t : Truth) → (x == b) ≡ t → (Among b xs → SlotOf xs b) → SlotOf (x ∷ xs) b
    go t e more = let z = subst (SlotIs x xs b) (sym e) (at t e more) in record { less = z.0; there = z.1 }

-- what stands in the list at a number
pub listed : (bs : List ℕ) (k : ℕ) → k < length bs → Among (get_or bs k 0) bs
listed [] k h = absurd (omega (arith, h))
listed (x ∷ xs) zero h = inl refl
listed (x ∷ xs) (suc k) h = inr (listed xs k (omega (arith, h)))

-- where a name's value comes from in a region that sees its binder
pub data Comes (P : Checked) (r : Region) (b : ℕ) : Type 0 where
  from_label : region P (home P b) ≡ r → name_in P r b ≡ output (label P b) → Comes P r b
  from_switch : (n t k : ℕ) (c : Truth) → n < length (rows P) → HasSwitches P n t → k < length (imports_of P n)
      → get_or (imports_of P n) k 0 ≡ b → Sees P b (region P n) → r ≡ arm_at n c
      → name_in P r b ≡ record { row = n; part = suc k; side = c } → Comes P r b
  from_entry : (h s k : ℕ) → h < length (rows P) → node P h ≡ LoopHead s → k < length (imports_of P h)
      → get_or (imports_of P h) k 0 ≡ b → Sees P b (region P s) → r ≡ top h
      → name_in P r b ≡ record { row = entries_row P h; part = k; side = true } → Comes P r b

-- switches hand in behind that of the trigger
switched : (P : Checked) (n t b : ℕ) (c : Truth) → HasSwitches P n t
    → handed_by P (arm_at n c) b (node P n) ≡ record { row = n; part = suc (slot_of (imports_of P n) b); side = c }
switched P n t b c (of_arms is) =
    let up : slot_of (imports_of P n) b + 1 ≡ suc (slot_of (imports_of P n) b) = omega arith in
    ap (handed_by P (arm_at n c) b) is ∙ ap (λ z. record { row = n; part = z; side = c }) up
switched P n t b c (of_turns is) =
    let up : slot_of (imports_of P n) b + 1 ≡ suc (slot_of (imports_of P n) b) = omega arith in
    ap (handed_by P (arm_at n c) b) is ∙ ap (λ z. record { row = n; part = z; side = c }) up

pub comes : (P : Checked) (r : Region) (b : ℕ) → Sees P b r → Comes P r b
comes P r b (own is) = from_label is (named P r b is)
comes P r b (handed {n = n} {t = t} {c = c} within is among rest) =
    go (same_region (region P (home P b)) (arm_at n c)) refl
  where
    go : (u : Truth) → same_region (region P (home P b)) (arm_at n c) ≡ u → Comes P (arm_at n c) b
    go true e =
        let here = region_is (region P (home P b)) (arm_at n c) e in from_label here (named P (arm_at n c) b here)
    go false e =
        let slot = slot_found (imports_of P n) b among in
        from_switch n t (slot_of (imports_of P n) b) c within is slot.less slot.there rest refl
        (name_by P (arm_at n c) b false e ∙ switched P n t b c is)
comes P r b (entered {h = h} {s = s} within is among rest) = go (same_region (region P (home P b)) (top h)) refl
  where
    go : (u : Truth) → same_region (region P (home P b)) (top h) ≡ u → Comes P (top h) b
    go true e = let here = region_is (region P (home P b)) (top h) e in from_label here (named P (top h) b here)
    go false e =
        let slot = slot_found (imports_of P h) b among in
        from_entry h s (slot_of (imports_of P h) b) within is slot.less slot.there rest refl
        (name_by P (top h) b false e ∙ ap (handed_by P (top h) b) is)
