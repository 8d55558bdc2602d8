-- Where imports stand, as they are noted one after another.
use Rattle.std.proofs.Common.{◌≡◌, inl, inr, ℕ, zero, suc, ◌+◌, ◌<◌, ◌≤◌, Bool, true, false, List, [], ◌∷◌, ◌++◌}
use Rattle.std.proofs.Common.{Option, Some, None}
use Rattle.std.proofs.Common.{length, get_or, take, refl, ap, subst, sym, ◌∙◌, arith}
use Rattle.std.specs.Prelude.{◌^◌, ◌==◌, ◌&&◌, if◌then◌else◌, nat_lt, IsSome, unwrap_or}
use Rattle.std.specs.Option.{option_or}
use Rattle.std.proofs.lemmas.Bool.{cases_lt, eqb-true}
use Rattle.std.proofs.lemmas.Bool.Decides.{nat_tests}
use Rattle.std.proofs.lemmas.List.{get_or_past, take_more}
use Rattle.id_build.specs.declared.slots.Import.{Import}
use Rattle.id_build.specs.Slots.{AreShort, behind, found, long_only, noted, noted_all, same_import}
use Rattle.id_build.specs.Rows.{slot_of}
use Rattle.std.proofs.Math.ListN.{get_or-eq_default}
use Rattle.id_table.specs.Rows.{no_row}
use Rattle.id_check.specs.declared.checked.Checked.{Checked}
use Rattle.id_check.specs.Programs.{rows}
use Rattle.id_desugar.specs.Regions.{all_imports, handed, imports_of}
use Rattle.id_desugar.proofs.FilledLemmas.{all_imports-at, length-all_imports}

-- ---- the imports of a head

found-push : (xs : List ℕ) (y b : ℕ)
    → found (xs ++ y ∷ []) b ≡ option_or (found xs b) (if y == b then Some (length xs) else None)
found-push [] y b = refl
found-push (x ∷ xs) y b = at (x == b) (found-push xs y b)
  where
    put : (o : Option ℕ) (t : Bool) (n : ℕ)
        → behind (option_or o (if t then Some n else None)) ≡ option_or (behind o) (if t then Some (suc n) else None)
    put None true n = refl
    put None false n = refl
    put (Some k) t n = refl

    at : (t : Bool) → found (xs ++ y ∷ []) b ≡ option_or (found xs b) (if y == b then Some (length xs) else None)
        → (if t then Some 0 else behind (found (xs ++ y ∷ []) b))
        ≡ option_or (if t then Some 0 else behind (found xs b)) (if y == b then Some (suc (length xs)) else None)
    at true h = refl
    at false h = ap behind h ∙ put (found xs b) (y == b) (length xs)

-- one more of a head's imports is noted
pub noted_all-next : (h : ℕ) (bs : List ℕ) (n : ℕ) (i : Import) (o : Option ℕ) → n < length bs
    → option_or (option_or o (noted_all h (take n bs) i)) (noted (record { head = h; binder = get_or bs n 0 }) n i) ≡
    option_or o (noted_all h (take (n + 1) bs) i)
noted_all-next h bs n i o l =
    assoc o (noted_all h (take n bs) i) (noted (record { head = h; binder = get_or bs n 0 }) n i)
    ∙ ap (option_or o) (at (h == i.head) ∙ ap (λ z. noted_all h z i) (sym (take_more bs n 0 l)))
  where
    assoc : (a b c : Option ℕ) → option_or (option_or a b) c ≡ option_or a (option_or b c)
    assoc None b c = refl
    assoc (Some x) b c = refl

    long : (xs : List ℕ) (k : ℕ) → k < length xs → length (take k xs) ≡ k
    long [] k m = absurd (omega (arith, m))
    long (x ∷ xs) zero m = refl
    long (x ∷ xs) (suc k) m = ap suc (long xs k (omega (arith, m)))

    at : (t : Bool)
        → option_or (if t then found (take n bs) i.binder else None) (if t && (get_or bs n 0 == i.binder) then Some n
        else None) ≡ (if t then found (take n bs ++ get_or bs n 0 ∷ []) i.binder else None)
    at true =
        ap (λ z. option_or (found (take n bs) i.binder) (if get_or bs n 0 == i.binder then Some z else None))
        (sym (long bs n l))
        ∙ sym (found-push (take n bs) (get_or bs n 0) i.binder)
    at false = refl

-- one more import is noted whose numbers have 32 bits
pub AreShort-noted : (j : Import) (k : ℕ) (f g : Import → Option ℕ) → j.head < 2 ^ 32 → j.binder < 2 ^ 32
    → ((i : Import) → g i ≡ option_or (f i) (noted j k i)) → AreShort f → AreShort g
AreShort-noted j k f g low less is short i some = by (f i) refl (same_import j i) refl (subst IsSome (is i) some)
  where
    both : (t u : Bool) → (t && u) ≡ true → (t ≡ true) × (u ≡ true)
    both true u h = (refl, h)
    both false u h = cc

    by : (o : Option ℕ) → f i ≡ o → (t : Bool) → same_import j i ≡ t → IsSome (option_or o (if t then Some k else None))
        → (i.head < 2 ^ 32) × (i.binder < 2 ^ 32)
    by (Some n) e t h s = short i (subst IsSome (sym e) refl)
    by None e true h s = let w = both (j.head == i.head) (j.binder == i.binder) h in
        let head : j.head ≡ i.head = eqb-true j.head i.head w.0 in
        let binder : j.binder ≡ i.binder = eqb-true j.binder i.binder w.1 in
        (subst (λ n. n < 2 ^ 32) head low, subst (λ n. n < 2 ^ 32) binder less)
    by None e false h s = cc

-- ---- the imports of all heads

-- what is noted of an import once the heads below n have been passed
abbrev pub noted_below : (ℕ → List ℕ) → ℕ → Import → Option ℕ
noted_below f n i = if nat_lt i.head n then found (f i.head) i.binder else None

-- one more head is passed
pub noted_below-next : (f : ℕ → List ℕ) (n : ℕ) (i : Import)
    → option_or (noted_below f n i) (noted_all n (f n) i) ≡ noted_below f (n + 1) i
noted_below-next f n i = at (nat_lt i.head n) refl (n == i.head) refl
  where
    less : nat_lt i.head n ≡ true → nat_lt i.head (n + 1) ≡ true
    less e = grind (arith, nat_tests, e)

    apart : nat_lt i.head n ≡ true → (n == i.head) ≡ true → ⊥
    apart e g = grind (arith, nat_tests, e, g)

    here : (n == i.head) ≡ true → nat_lt i.head (n + 1) ≡ true
    here g = grind (arith, nat_tests, g)

    beyond : nat_lt i.head n ≡ false → (n == i.head) ≡ false → nat_lt i.head (n + 1) ≡ false
    beyond e g = grind (arith, nat_tests, e, g)

    none : (o : Option ℕ) → option_or o None ≡ o
    none None = refl
    none (Some x) = refl

    now : (t : Bool) → nat_lt i.head (n + 1) ≡ t
        → noted_below f (n + 1) i ≡ (if t then found (f i.head) i.binder else None)
    now t e = ap (λ z. if z then found (f i.head) i.binder else None) e

    at : (t : Bool) → nat_lt i.head n ≡ t → (u : Bool) → (n == i.head) ≡ u
        → option_or (if t then found (f i.head) i.binder else None) (if u then found (f n) i.binder else None)
        ≡ noted_below f (n + 1) i
    at true e true g = absurd (apart e g)
    at true e false g = none (found (f i.head) i.binder) ∙ sym (now true (less e))
    at false e true g = ap (λ z. found (f z) i.binder) (eqb-true n i.head g) ∙ sym (now true (here g))
    at false e false g = sym (now false (beyond e g))

-- what is found is how many stand before, and else it is none of them
pub found_slot : (bs : List ℕ) (b : ℕ) → unwrap_or (found bs b) (length bs) ≡ slot_of bs b
found_slot [] b = refl
found_slot (x ∷ xs) b = at (x == b) (found_slot xs b)
  where
    more : (o : Option ℕ) (n m : ℕ) → unwrap_or o n ≡ m → unwrap_or (behind o) (suc n) ≡ m + 1
    more None n m h = omega (arith, h)
    more (Some k) n m h = omega (arith, h)

    at : (t : Bool) → unwrap_or (found xs b) (length xs) ≡ slot_of xs b →
        unwrap_or (if t then Some 0 else behind (found xs b)) (suc (length xs)) ≡ (if t then 0 else slot_of xs b + 1)
    at true h = refl
    at false h = more (found xs b) (length xs) (slot_of xs b) h

-- what is listed for a row are its imports, also past the end
pub listed_at : (P : Checked) (h : ℕ) → get_or (all_imports P) h [] ≡ imports_of P h
listed_at P h = elim (cases_lt h (length (rows P))) [
  | inl l ↦ all_imports-at P h l
  | inr l ↦ get_or_past (all_imports P) h [] (omega (arith, l, length-all_imports P))
      ∙ sym (ap (λ r. handed P h r.node) (get_or-eq_default (rows P) no_row l))
]

-- of a head with many imports all are noted
pub long_all : (bs : List ℕ) → 16 < length bs → long_only bs ≡ bs
long_all bs l = let t : nat_lt 16 (length bs) ≡ true = grind (arith, nat_tests, l) in ap (λ z. if z then bs else []) t

-- and of one with few none
pub long_none : (bs : List ℕ) → length bs ≤ 16 → long_only bs ≡ []
long_none bs l = let t : nat_lt 16 (length bs) ≡ false = grind (arith, nat_tests, l) in ap (λ z. if z then bs else []) t

-- the imports that are noted, by head
abbrev pub long_of : Checked → ℕ → List ℕ
long_of P h = long_only (imports_of P h)

-- a head is passed of which nothing is noted
pub noted_below-none : (f : ℕ → List ℕ) (n : ℕ) (i : Import) → f n ≡ [] → noted_below f n i ≡ noted_below f (n + 1) i
noted_below-none f n i e =
    sym (none (noted_below f n i) (n == i.head)) ∙ ap (λ z. option_or (noted_below f n i) (noted_all n z i)) (sym e)
    ∙ noted_below-next f n i
  where
    none : (o : Option ℕ) (t : Bool) → option_or o (if t then None else None) ≡ o
    none None true = refl
    none None false = refl
    none (Some x) t = refl

-- once all heads that import something are passed, what is noted is where each import of a head with many stands
pub slots_are : (P : Checked) (n h b : ℕ) → 16 < length (imports_of P h) → ((i : ℕ) → n ≤ i → imports_of P i ≡ [])
    → unwrap_or (noted_below (long_of P) n (record { head = h; binder = b })) (length (imports_of P h))
    ≡ slot_of (imports_of P h) b
slots_are P n h b long past = at (nat_lt h n) refl
  where
    high : nat_lt h n ≡ false → n ≤ h
    high e = grind (arith, nat_tests, e)

    at : (t : Bool) → nat_lt h n ≡ t
        → unwrap_or (if t then found (long_of P h) b else None) (length (imports_of P h)) ≡ slot_of (imports_of P h) b
    at true e =
        ap (λ z. unwrap_or (found z b) (length (imports_of P h))) (long_all (imports_of P h) long)
        ∙ found_slot (imports_of P h) b
    at false e = ap length (past h (high e)) ∙ sym (ap (λ (z : List ℕ). slot_of z b) (past h (high e)))

-- no more stand before than there are
pub slot_within : (bs : List ℕ) (b : ℕ) → slot_of bs b ≤ length bs
slot_within [] b = omega arith
slot_within (x ∷ xs) b = at (x == b) (slot_within xs b)
  where
    at : (t : Bool) → slot_of xs b ≤ length xs → (if t then 0 else slot_of xs b + 1) ≤ suc (length xs)
    at true h = omega arith
    at false h = omega (arith, h)
