-- Marks: which binders were noted.
use Rattle.std.proofs.Common.{◌≡◌, ◌≢◌, ◌⊎◌, inl, inr, ℕ, zero, suc, ◌+◌, ◌-◌, ◌≤◌, ◌<◌, Bool, true, false, List, []}
use Rattle.std.proofs.Common.{◌∷◌, ◌++◌, Option, Some, None, refl, ap}
use Rattle.std.proofs.Common.{sym, ◌∙◌, arith, length, get_or, replicate, slice_set}
use Rattle.std.specs.Prelude.{◌==◌, if◌then◌else◌, IfSome, take, unwrap_or}
use Rattle.std.proofs.lemmas.Bool.{eqb-true}
use Rattle.std.proofs.lemmas.Bool.Decides.{nat_tests}
use Rattle.std.proofs.lemmas.Grind.{common_steps}
use Rattle.std.proofs.lemmas.List.{get_or-set_same, get_or-set_other}
use Rattle.id_value.specs.List.{Among}
use Rattle.id_value.proofs.AmongLemmas.{Among-either}
use Rattle.id_table.specs.declared.row.Node.{Node}
use Rattle.id_table.specs.declared.row.Node.TheVariants.{Name, NextUse}
use Rattle.id_table.specs.Rows.{at}
use Rattle.id_check.specs.declared.checked.Checked.{Checked}
use Rattle.id_check.specs.Programs.{binder, rows}
use Rattle.id_check.proofs.ProgramsLemmas.{binder_below}
use Rattle.id_desugar.specs.Ends.{end_of, end_row}
use Rattle.id_desugar.specs.Regions.{has, imports, imports_by, is_outside, used_by, with_use}
use Rattle.id_desugar.specs.Gathering.{AllCount, AreBelow, AreGathered, AreMarked, AreMarks, IsInner, is_opening}
use Rattle.id_desugar.specs.Gathering.{is_own, used_in, uses_of, with_uses}
use Rattle.id_desugar.proofs.UsesLemmas.{has_last, imports-same, inner_span}

-- a list with one more behind it has no other besides what it had
has_other : (bs : List ℕ) (c b : ℕ) → b ≢ c → has (bs ++ c ∷ []) b ≡ has bs b
has_other [] c b n = at (c == b) refl
  where
    at : (t : Bool) → (c == b) ≡ t → (if t then true else false) ≡ false
    at true e = absurd (n (sym (eqb-true c b e)))
    at false e = refl
has_other (x ∷ xs) c b n = ap (λ z. if x == b then true else z) (has_other xs c b n)

-- a binder is noted with its mark
pub AreMarked-noted : (s b : ℕ) (M bs : List ℕ) → AreMarked s M bs → b < length M
    → AreMarked s (slice_set M b s) (bs ++ b ∷ [])
AreMarked-noted s b M bs m less = record { below = λ k. up k (k == b) refl; marked = λ k l. mark k (k == b) refl l }
  where
    long : length (slice_set M b s) ≡ length M
    long = grind (arith, common_steps)

    apart : (k : ℕ) → (k == b) ≡ false → k ≢ b
    apart k e same = grind (arith, nat_tests)

    up : (k : ℕ) (t : Bool) → (k == b) ≡ t → get_or (slice_set M b s) k 0 < s + 1
    up k true e =
        let there : get_or (slice_set M b s) k 0 ≡ s =
        ap (λ z. get_or (slice_set M b s) z 0) (eqb-true k b e) ∙ get_or-set_same M b s 0 less in
        omega (arith, there)
    up k false e =
        let there : get_or (slice_set M b s) k 0 ≡ get_or M k 0 = get_or-set_other M b k s 0 (apart k e) in
        omega (arith, there, m.below k)

    mark : (k : ℕ) (t : Bool) → (k == b) ≡ t → k < length (slice_set M b s)
        → (get_or (slice_set M b s) k 0 == s) ≡ has (bs ++ b ∷ []) k
    mark k true e l =
        let is : k ≡ b = eqb-true k b e in
        let there : get_or (slice_set M b s) k 0 ≡ s =
        ap (λ z. get_or (slice_set M b s) z 0) is ∙ get_or-set_same M b s 0 less in
        let same : (get_or (slice_set M b s) k 0 == s) ≡ true = grind (arith, nat_tests) in
        same ∙ sym (has_last bs b) ∙ ap (has (bs ++ b ∷ [])) (sym is)
    mark k false e l =
        let there : get_or (slice_set M b s) k 0 ≡ get_or M k 0 = get_or-set_other M b k s 0 (apart k e) in
        ap (λ z. z == s) there ∙ m.marked k (omega (arith, long, l)) ∙ sym (has_other bs b k (apart k e))

-- marks below one number are below a greater one
pub AreMarks-more : (P : Checked) (s t : ℕ) (M : List ℕ) → s ≤ t → AreMarks P s M → AreMarks P t M
AreMarks-more P s t M l m = record { many = m.many; below = λ b. let low = m.below b in omega (arith, l, low) }

-- no binder is noted at first
pub AreMarked-none : (s : ℕ) (M : List ℕ) → AreBelow s M → AreMarked s M []
AreMarked-none s M low = record { below = λ b. omega (arith, low b); marked = λ b l. none b (low b) }
  where
    none : (b : ℕ) → get_or M b 0 < s → (get_or M b 0 == s) ≡ false
    none b u = grind (arith, nat_tests)

-- one more of a list is noted
pub with_uses-next : (lo hi : ℕ) (bs cs : List ℕ) (i : ℕ) → i < length cs
    → with_uses lo hi bs (take (suc i) cs) ≡ with_use lo hi (with_uses lo hi bs (take i cs)) (Some (get_or cs i 0))
with_uses-next lo hi bs [] i l = absurd (omega arith)
with_uses-next lo hi bs (c ∷ cs) zero l = refl
with_uses-next lo hi bs (c ∷ cs) (suc i) l = with_uses-next lo hi (with_use lo hi bs (Some c)) cs i (omega (arith, l))

-- what a row uses is what its name is bound to, and the row of a name or of a first value that counts
pub used_node : (own : Bool) (o : Option ℕ) (n : Node) (b : ℕ) → used_by own o n ≡ Some b
    → (o ≡ Some b) × (((x : ℕ) × (n ≡ Name x)) ⊎ ((x : ℕ) × (n ≡ NextUse x) × (own ≡ false)))
used_node own o (Name x) b e = (e, inl (x, refl))
used_node true o (NextUse x) b e = cc
used_node false o (NextUse x) b e = (e, inr (x, refl, refl))
used_node own o _ b e = cc

-- the binder of what a row uses is a row
pub used_below : (P : Checked) (own : Option ℕ) (i b : ℕ) → i < length (rows P) → used_in P own i ≡ Some b
    → b < length (rows P)
used_below P own i b l e = binder_below P i b l (used_node (is_own P own i) (binder P i) (at (rows P) i).node b e).0

pub used_within : (P : Checked) (own : Option ℕ) (i n : ℕ) (o : Option ℕ) → i < length (rows P) → o ≡ used_in P own i
    → n ≡ length (rows P) → IfSome o (λ b. b < n)
used_within P own i n None l e f = tt
used_within P own i n (Some b) l e f = let low = used_below P own i b l (sym e) in omega (arith, low, f)

with_use-among : (lo hi : ℕ) (bs : List ℕ) (o : Option ℕ) (b : ℕ) → Among b (with_use lo hi bs o)
    → Among b bs ⊎ (o ≡ Some b)
with_use-among lo hi bs None b h = inl h
with_use-among lo hi bs (Some c) b h = by (is_outside lo hi c) (has bs c) h
  where
    by : (t u : Bool) → Among b (if t then (if u then bs else bs ++ c ∷ []) else bs) → Among b bs ⊎ (Some c ≡ Some b)
    by true true i = inl i
    by true false i =
        elim (Among-either b bs (c ∷ []) i)
        [ inl j ↦ inl j | inr (inl e) ↦ inr (ap (λ z. Some z) (sym e)) | inr (inr x) ↦ absurd x ]
    by false u i = inl i

-- and so is an import
pub imports_within : (P : Checked) (own : Option ℕ) (lo hi k b : ℕ) → lo + k ≤ length (rows P)
    → Among b (imports_by (used_in P own) lo hi k) → b < length (rows P)
imports_within P own lo hi zero b l h = absurd h
imports_within P own lo hi (suc k) b l h =
    elim (with_use-among lo hi (imports_by (used_in P own) lo hi k) (used_in P own (lo + k)) b h) [
      | inl i ↦ imports_within P own lo hi k b (omega arith) i
      | inr e ↦ used_below P own (lo + k) b (omega arith) e
    ]

-- what a construct uses, which ends at the row e
pub uses-are : (P : Checked) (s e : ℕ) → end_row P s ≡ Some e → is_opening (at (rows P) s).node ≡ true
    → uses_of P s ≡ imports (used_in P None) (s + 1) e
uses-are P s e is opening =
    ap (λ t. if t then imports (used_in P None) (s + 1) (end_of P s) else []) opening
    ∙ ap (imports (used_in P None) (s + 1)) (ap (λ o. unwrap_or o 0) is)

-- what the list of an inner construct holds
pub gathered_at : (P : Checked) (own : Option ℕ) (lo hi s e : ℕ) (L : List (List ℕ)) → AreGathered P lo hi L
    → AllCount P own lo hi → IsInner P lo hi s e → get_or L s [] ≡ imports (used_in P own) (s + 1) e
gathered_at P own lo hi s e L f count inner =
    f.each s e inner ∙ uses-are P s e inner.ends inner.opening
    ∙ sym (imports-same (used_in P own) (used_in P None) (s + 1) e (e - (s + 1))
    (λ i l m. count.each s e i inner (omega (arith, l)) (high i l m)))
  where
    high : (i : ℕ) → s + 1 ≤ i → i < (s + 1) + (e - (s + 1)) → i < e
    high i l m = omega (arith, l, m)

-- noting what a row uses is one step
pub imports_by-next : (f : ℕ → Option ℕ) (lo hi n : ℕ) (bs new : List ℕ) (o : Option ℕ) → lo ≤ n
    → bs ≡ imports_by f lo hi (n - lo) → o ≡ f n → new ≡ with_use lo hi bs o
    → new ≡ imports_by f lo hi (n + 1 - lo)
imports_by-next f lo hi n bs new o l e b h =
    let next : suc (n - lo) ≡ n + 1 - lo = omega (arith, l) in
    let here : lo + (n - lo) ≡ n = omega (arith, l) in
    h ∙ ap (λ z. with_use lo hi z o) e ∙ ap (with_use lo hi (imports_by f lo hi (n - lo))) (b ∙ ap f (sym here))
    ∙ ap (imports_by f lo hi) next

-- and noting what an inner construct uses goes on to its end
pub imports_by-over : (f : ℕ → Option ℕ) (lo hi n e : ℕ) (bs cs new : List ℕ) → lo ≤ n → n < e → e ≤ hi
    → bs ≡ imports_by f lo hi (n + 1 - lo) → cs ≡ imports f (n + 1) e
    → new ≡ with_uses lo hi bs cs → new ≡ imports_by f lo hi (e - lo)
imports_by-over f lo hi n e bs cs new l m h b c is =
    let over : (n + 1 - lo) + (e - (n + 1)) ≡ e - lo = omega (arith, l, m) in
    is ∙ ap (λ z. with_uses lo hi z cs) b ∙ ap (with_uses lo hi (imports_by f lo hi (n + 1 - lo))) c
    ∙ sym (inner_span f lo hi (n + 1) e (e - (n + 1)) (omega (arith, l)) h) ∙ ap (imports_by f lo hi) over

-- what stands at a number of a list is among it
pub among_at : (xs : List ℕ) (i : ℕ) → i < length xs → Among (get_or xs i 0) xs
among_at [] i l = absurd (omega arith)
among_at (x ∷ xs) zero l = inl refl
among_at (x ∷ xs) (suc i) l = inr (among_at xs i (omega (arith, l)))

-- no mark is set at first
pub AreBelow-zeros : (n : ℕ) (M : List ℕ) → M ≡ replicate n 0 → AreBelow 1 M
AreBelow-zeros n M is b =
    let none : get_or M b 0 ≡ 0 = ap (λ (xs : List ℕ). get_or xs b 0) is ∙ zero_at n b in omega (arith, none)
  where
    zero_at : (n b : ℕ) → ◌≡◌ {A = ℕ} (get_or (replicate n 0) b 0) 0
    zero_at zero b = refl
    zero_at (suc n) zero = refl
    zero_at (suc n) (suc b) = zero_at n b
