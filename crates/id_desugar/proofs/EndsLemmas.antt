-- The ends of what begins at rows, as they are noted.
use Rattle.std.proofs.Common.{◌≡◌, inl, inr, ℕ, zero, suc, ◌+◌, ◌-◌, ◌<◌, ◌≤◌, Bool, true, false, List, [], ◌∷◌, length}
use Rattle.std.proofs.Common.{get_or, replicate, Option, None}
use Rattle.std.proofs.Common.{refl, ap, sym, ◌∙◌, subst, arith, if◌then◌else◌}
use Rattle.std.specs.Prelude.{Some, nat_eq, unwrap_or}
use Rattle.std.proofs.lemmas.Bool.{cases_lt, eqb-true, false≢true}
use Rattle.std.proofs.lemmas.List.{get_or_past, get_or-replicate, length-replicate}
use Rattle.std.specs.Option.{option_or}
use Rattle.id_check.specs.declared.checked.Checked.{Checked}
use Rattle.id_check.specs.Programs.{rows}
use Rattle.id_check.specs.Scopes.{first_of}
use Rattle.id_check.proofs.ProgramsLemmas.{table_of}
use Rattle.id_check.proofs.ScopesLemmas.{first_of-some}
use Rattle.id_table.specs.declared.row.Row.{Row}
use Rattle.id_table.specs.declared.row.Node.{Node}
use Rattle.id_table.specs.declared.row.Node.TheVariants.{Head, If, Call, Variable, Next, Loop, Def}
use Rattle.id_table.specs.Rows.{at, no_row}
use Rattle.id_table.specs.Tables.{HasPart, is_variable}
use Rattle.id_desugar.specs.Gathering.{EndsNothing, is_opening}
use Rattle.id_desugar.specs.Regions.{nexts_from}
use Rattle.id_desugar.specs.Ends.{AreEnds, AreFirst, AreNexts, IsNoted, begun_at, end_at, end_of, end_row, is_row}
use Rattle.id_desugar.specs.Ends.{next_at, next_of, variable_of}

-- at first nothing is noted
pub nothing-at : (n h : ℕ) → get_or {A = Option ℕ} (replicate n None) h None ≡ None
nothing-at n h = elim (cases_lt h n) [
  | inl l ↦ get_or-replicate n h None None l
  | inr l ↦ get_or_past (replicate n None) h None (let long = length-replicate {A = Option ℕ} n None in
      omega (arith, long, l))
]

pub long-nothing : (n : ℕ) (es : List (Option ℕ)) → es ≡ replicate n None → length es ≡ n
long-nothing n es is = ap length is ∙ length-replicate n None

pub AreFirst-none : (P : Checked) (f : ℕ → ℕ → Option ℕ) (n : ℕ) (es : List (Option ℕ)) → n ≡ length (rows P)
    → es ≡ replicate n None → AreFirst P f 0 es
AreFirst-none P f n es long is =
    record { many = long-nothing n es is ∙ long; each = λ h l. ap (λ z. get_or z h None) is ∙ nothing-at n h }

-- one more row is noted
pub AreFirst-next : (P : Checked) (f : ℕ → ℕ → Option ℕ) (n : ℕ) (b : Option ℕ) (es fs : List (Option ℕ))
    → ((h : ℕ) → f h n ≡ (if is_row h b then Some n else None))
    → length fs ≡ length es → AreFirst P f n es
    → ((h : ℕ) → h < length es → IsNoted n b h (get_or es h None) (get_or fs h None)) → AreFirst P f (n + 1) fs
AreFirst-next P f n b es fs is long so each = record {
  many = long ∙ so.many;
  each = λ h l. (
      let low : h < length es = omega (arith, so.many, l) in
      let next : suc n ≡ n + 1 = omega arith in
      each h low ∙ ap (λ o. option_or o (if is_row h b then Some n else None)) (so.each h l)
      ∙ ap (option_or (first_of (f h) n)) (sym (is h)) ∙ ap (first_of (f h)) next
      );
}

-- what ends at a row begins where its node says
pub end_begins : (P : Checked) (h e : ℕ) → end_row P h ≡ Some e
    → (e < length (rows P)) × (begun_at (at (rows P) e).node ≡ Some h)
end_begins P h e is =
    let w = first_of-some (end_at P h) (length (rows P)) e is in
    let v = begun h w.0 e (begun_at (at (rows P) w.0).node) w.2 in
    (subst (λ z. z < length (rows P)) v.0 w.1, subst (λ z. begun_at (at (rows P) z).node ≡ Some h) v.0 v.1)
  where
    none_some : {A : Type 0} (a : A) → None ≡ Some a → ⊥
    none_some a i = cc

    begun : (h n e : ℕ) (o : Option ℕ) → (if is_row h o then Some n else None) ≡ Some e → (n ≡ e) × (o ≡ Some h)
    begun h n e None is = absurd (none_some e is)
    begun h n e (Some g) is = at (nat_eq g h) refl is
      where
        same : Some n ≡ Some e → n ≡ e
        same i = cc

        at : (t : Bool) → nat_eq g h ≡ t → (if t then Some n else None) ≡ Some e → (n ≡ e) × (Some g ≡ Some h)
        at true f i = (same i, ap (λ z. Some z) (eqb-true g h f))
        at false f i = absurd (none_some e i)

begun_part : (n : Node) (s : ℕ) → begun_at n ≡ Some s → HasPart n s
begun_part (Def x h k b) s e = let is : h ≡ s = cc in inl (sym is)
begun_part (If h x y) s e = let is : h ≡ s = cc in inl (sym is)
begun_part (Call h c) s e = let is : h ≡ s = cc in sym is
begun_part (Loop h w l) s e = let is : h ≡ s = cc in inl (sym is)
begun_part _ s e = absurd (none_some e)
  where
    none_some : None ≡ Some s → ⊥
    none_some i = cc

-- it begins before
pub end_behind : (P : Checked) (h e : ℕ) → end_row P h ≡ Some e → h < e
end_behind P h e is =
    let w = end_begins P h e is in
    ((P.table.formed.each e w.0).parts h (begun_part (at (rows P) e).node h w.1)).1

-- no construct ends where nothing ends
pub ends_nothing : (P : Checked) (e : ℕ) (o : Option ℕ) → o ≡ begun_at (at (rows P) e).node → o ≡ None → EndsNothing P e
ends_nothing P e o b none s is =
    let w = end_begins P s e is in
    let bad : None ≡ Some s = sym none ∙ b ∙ w.1 in cc

-- or where what ends is none
pub ends_no_opening : (P : Checked) (e h : ℕ) → begun_at (at (rows P) e).node ≡ Some h
    → ((h < length (rows P)) × (end_row P h ≡ Some e) × (is_opening (at (rows P) h).node ≡ true) → ⊥) → EndsNothing P e
ends_no_opening P e h b never s is =
    let w = end_begins P s e is in
    let same : s ≡ h = one s h (sym w.1 ∙ b) in
    by (is_opening (at (rows P) s).node) refl (λ t. never (
      subst (λ z. z < length (rows P)) same (omega (arith, end_behind P s e is, w.0)),
      subst (λ z. end_row P z ≡ Some e) same is,
      subst (λ z. is_opening (at (rows P) z).node ≡ true) same t,
    ))
  where
    one : (s h : ℕ) → Some s ≡ Some h → s ≡ h
    one s h e = cc

    by : (t : Bool) → is_opening (at (rows P) s).node ≡ t → (is_opening (at (rows P) s).node ≡ true → ⊥)
        → is_opening (at (rows P) s).node ≡ false
    by true e f = absurd (f e)
    by false e f = e

-- what begins at a row ends at a row
pub end_within : (P : Checked) (h : ℕ) → h < length (rows P) → end_of P h < length (rows P)
end_within P h l = by (end_row P h) refl
  where
    by : (o : Option ℕ) → end_row P h ≡ o → unwrap_or o 0 < length (rows P)
    by None e = omega (arith, l)
    by (Some e) is = (end_begins P h e is).0

-- a row of a node that is none past the end is a row
pub stands_inside : (P : Checked) (n : ℕ) (m : Node) → (at (rows P) n).node ≡ m → (Head ≡ m → ⊥) → n < length (rows P)
stands_inside P n m is past = elim (cases_lt n (length (rows P))) [
  | inl l ↦ l
  | inr l ↦ absurd (past (sym (ap (λ (r : Row). r.node) (get_or_past (rows P) n no_row l)) ∙ is))
]

-- and so is one of a node that a test takes
pub row_inside : (R : List Row) (i : ℕ) (f : Node → Bool) → f Head ≡ false → f (at R i).node ≡ true → i < length R
row_inside R i f none e = elim (cases_lt i (length R)) [
  | inl l ↦ l
  | inr l ↦ absurd (false≢true (sym none ∙ ap (λ (r : Row). f r.node) (sym (get_or_past R i no_row l)) ∙ e))
]

-- the variable of a `next` is a row
pub variable_within : (P : Checked) (n x k o v : ℕ) → (at (rows P) n).node ≡ Next x k o v
    → (at (rows P) n).block + 1 + k < length (rows P)
variable_within P n x k o v e = elim (cases_lt ((at (rows P) n).block + 1 + k) (length (rows P))) [
  | inl m ↦ m
  | inr m ↦
      let w = (table_of P).next_in n (at (rows P) n).block k x (record {
        outer = o;
        value = v;
        within = l;
        block = refl;
        node = e;
      }) in
      let past : Head ≡ Variable =
      sym (ap (λ (r : Row). r.node) (get_or_past (rows P) ((at (rows P) n).block + 1 + k) no_row m)) ∙ w.2.variable in
      absurd (false≢true (ap is_variable past))
]
  where
    l : n < length (rows P)
    l = stands_inside P n (Next x k o v) e (λ bad. cc)

-- ---- what is noted for any number

-- what is noted for rows alone is noted for any number
first_kept : (P : Checked) (f : ℕ → ℕ → Option ℕ) (es : List (Option ℕ)) (h : ℕ)
    → AreFirst P f (length (rows P)) es
    → ((n : ℕ) → first_of (f h) (length (rows P)) ≡ Some n → h < length (rows P))
    → get_or es h None ≡ first_of (f h) (length (rows P))
first_kept P f es h so inside = elim (cases_lt h (length (rows P))) [
  | inl l ↦ so.each h l
  | inr l ↦ get_or_past es h None (omega (arith, so.many, l)) ∙ none l (first_of (f h) (length (rows P))) refl
]
  where
    none : length (rows P) ≤ h → (o : Option ℕ) → first_of (f h) (length (rows P)) ≡ o → None ≡ o
    none l None e = refl
    none l (Some n) e = absurd (omega (arith, inside n e, l))

-- what ends begins at a row
pub begun_inside : (P : Checked) (h : ℕ) → 0 < end_of P h → h < length (rows P)
begun_inside P h l = by (end_row P h) refl l
  where
    by : (o : Option ℕ) → end_row P h ≡ o → 0 < unwrap_or o 0 → h < length (rows P)
    by None is k = absurd (omega (arith, k))
    by (Some e) is k =
        let low = end_behind P h e is in let within = (end_begins P h e is).0 in omega (arith, low, within)

-- where what begins at any number ends
pub end_of-kept : (P : Checked) (es : List (Option ℕ)) (h : ℕ) → AreEnds P es
    → unwrap_or (get_or es h None) 0 ≡ end_of P h
end_of-kept P es h so = ap (λ o. unwrap_or o 0) (first_kept P (end_at P) es h so inside)
  where
    inside : (e : ℕ) → end_row P h ≡ Some e → h < length (rows P)
    inside e is = let low = end_behind P h e is in let within = (end_begins P h e is).0 in omega (arith, low, within)

-- the `next` of the variable at any number
pub next_of-kept : (P : Checked) (ns : List (Option ℕ)) (v : ℕ) → AreNexts P ns
    → unwrap_or (get_or ns v None) 0 ≡ next_of P v
next_of-kept P ns v so = ap (λ o. unwrap_or o 0) (first_kept P (next_at P) ns v so inside)
  where
    none_some : (a : ℕ) → None ≡ Some a → ⊥
    none_some a i = cc

    test : (i g : ℕ) (t : Bool) → (if t then Some i else None) ≡ Some g → t ≡ true
    test i g true e = refl
    test i g false e = absurd (none_some g e)

    by : (i g : ℕ) (m : Node) → (at (rows P) i).node ≡ m
        → (if is_row v (variable_of (at (rows P) i).block m) then Some i else None) ≡ Some g → v < length (rows P)
    by i g (Next x k o u) e f =
        let is : (at (rows P) i).block + 1 + k ≡ v =
        eqb-true ((at (rows P) i).block + 1 + k) v (test i g (nat_eq ((at (rows P) i).block + 1 + k) v) f) in
        subst (λ z. z < length (rows P)) is (variable_within P i x k o u e)
    by i g _ e f = absurd (none_some g f)

    inside : (n : ℕ) → first_of (next_at P v) (length (rows P)) ≡ Some n → v < length (rows P)
    inside n is = let w = first_of-some (next_at P v) (length (rows P)) n is in by w.0 n (at (rows P) w.0).node refl w.2

-- ---- the `next`s of a loop

-- one more variable stands behind the head
pub nexts-next : (P : Checked) (v n : ℕ) → 0 < n → is_variable (at (rows P) v).node ≡ true
    → nexts_from P v n ≡ next_of P v ∷ nexts_from P (v + 1) (n - 1)
nexts-next P v zero l e = absurd (omega (arith, l))
nexts-next P v (suc n) l e =
    let next : suc v ≡ v + 1 = omega arith in
    let one : n ≡ suc n - 1 = omega arith in
    ap (λ t. if t then next_of P v ∷ nexts_from P (suc v) n else []) e ∙ ap (λ z. next_of P v ∷ nexts_from P z n) next
    ∙ ap (λ z. next_of P v ∷ nexts_from P (v + 1) z) one

-- or none
pub nexts-none : (P : Checked) (v n : ℕ) → is_variable (at (rows P) v).node ≡ false → nexts_from P v n ≡ []
nexts-none P v zero e = refl
nexts-none P v (suc n) e = ap (λ t. if t then next_of P v ∷ nexts_from P (suc v) n else []) e

-- past the end there is none
pub no_variable : (P : Checked) (v : ℕ) → length (rows P) ≤ v → is_variable (at (rows P) v).node ≡ false
no_variable P v l = ap (λ (r : Row). is_variable r.node) (get_or_past (rows P) v no_row l)
