-- The parameters of a definition are the rows right behind its head.
use Rattle.std.proofs.Common.{◌≡◌, inl, inr, ◌+◌, ◌-◌, ◌<◌, ◌≤◌, ℕ, zero, suc, Bool as Truth, true, false, List, []}
use Rattle.std.proofs.Common.{◌∷◌, ◌++◌, Option, Some, None, length, refl, ap, sym, ◌∙◌, subst, arith}
use Rattle.std.specs.Prelude.{◌&&◌, nat_eq, nat_lt, if◌then◌else◌}
use Rattle.std.proofs.lemmas.Bool.{false≢true, ltb-true, lt-ltb, eqb-true, cases_lt}
use Rattle.std.proofs.lemmas.Bool.Decides.{Decides-eqb}
use Rattle.std.proofs.lemmas.List.{get_or_past}
use Rattle.id_table.specs.declared.row.Row.{Row}
use Rattle.id_table.specs.declared.row.Node.{Node}
use Rattle.id_table.specs.declared.row.Node.TheVariants.{Def, Head}
use Rattle.id_table.specs.Rows.{at, no_row}
use Rattle.id_table.specs.Tables.{is_param}
use Rattle.id_table.specs.Turns.{IsDefOf, IsTable, params_at}
use Rattle.id_table.proofs.BlocksLemmas.{Among-from_params_at, Among-params_at, param_at, param_index, params_at-run}
use Rattle.id_table.proofs.BlocksLemmas.{run}
use Rattle.id_check.specs.declared.cause.CheckCause.{CheckCause}
use Rattle.id_check.specs.declared.cause.CheckCause.TheVariants.{MainKind}
use Rattle.id_check.specs.Causes.{array_param, callee, head_in, is_array_param}
use Rattle.id_check.specs.Params.{is_param_of}

-- the head of a definition stands before the last row
pub head_low : (R : List Row) → IsTable R → (h n : ℕ) → IsDefOf R n h → h + 1 < length R
head_low R t h n d = let p = (t.params n h d).before in omega (arith, p, d.within)

-- a row that is no head is one of the rows
pub in_rows : (R : List Row) (i : ℕ) → ((at R i).node ≡ Head → ⊥) → i < length R
in_rows R i other = elim (cases_lt i (length R)) [
  | inl w ↦ w
  | inr w ↦ absurd (other (ap (λ (r : Row). r.node) (get_or_past R i no_row w)))
]

-- the head of a definition that a row has as its binder is that of the definition
pub callee_def : (R : List Row) (o : Option ℕ) (h : ℕ) → callee R o ≡ Some h → (n : ℕ) × IsDefOf R n h
callee_def R None h e = let d : None ≡ Some h = e in cc
callee_def R (Some b) h e = of (at R b).node refl e
  where
    of : (n : Node) → (at R b).node ≡ n → head_in n ≡ Some h → (n : ℕ) × IsDefOf R n h
    of (Def x g k y) s q =
        let z : g ≡ h = same g q in (
          b,
          record {
            name = x;
            result = k;
            body = y;
            within = in_rows R b (λ e. let d : Head ≡ Def x g k y = sym e ∙ s in cc);
            node = s ∙ ap (λ m. Def x m k y) z;
          },
        )
      where
        same : (g : ℕ) → Some g ≡ Some h → g ≡ h
        same g q = cc
    of _ s q = let d : None ≡ Some h = q in cc

same_truth : (a b : Truth) → (a ≡ true → b ≡ true) → (b ≡ true → a ≡ true) → a ≡ b
same_truth true b f g = sym (f refl)
same_truth false true f g = g refl
same_truth false false f g = refl

both : (a b : Truth) → (a && b) ≡ true → (a ≡ true) × (b ≡ true)
both true b e = (refl, e)
both false b e = absurd (false≢true e)

both_true : (a b : Truth) → a ≡ true → b ≡ true → (a && b) ≡ true
both_true true b e f = f
both_true false b e f = absurd (false≢true e)

-- the parameter of an index stands so far behind the head, if the definition has one
pub has_param-own : (R : List Row) → IsTable R → (h n : ℕ) → IsDefOf R n h → (k : ℕ) → h + 1 + k < length R
    → is_param_of R h (h + 1 + k) ≡ nat_lt k (length (params_at R h))
has_param-own R t h n d k less = same_truth (is_param_of R h (h + 1 + k)) (nat_lt k (length (params_at R h))) there back
  where
    there : is_param_of R h (h + 1 + k) ≡ true → nat_lt k (length (params_at R h)) ≡ true
    there e =
        let p = both (is_param (at R (h + 1 + k)).node) (nat_eq (at R (h + 1 + k)).block h) e in
        let w = param_index R t h n d (h + 1 + k)
        (Among-params_at R h (h + 1 + k) less p.0 (eqb-true (at R (h + 1 + k)).block h p.1)) in
        lt-ltb k (length (params_at R h)) (omega (arith, w.1, w.2))

    back : nat_lt k (length (params_at R h)) ≡ true → is_param_of R h (h + 1 + k) ≡ true
    back e =
        let p = Among-from_params_at R h (h + 1 + k) (param_at R t h n d k (ltb-true k (length (params_at R h)) e)) in
        both_true (is_param (at R (h + 1 + k)).node) (nat_eq (at R (h + 1 + k)).block h) p.1
        ((Decides-eqb (at R (h + 1 + k)).block h).1 p.2)

-- it has none where the rows end before
pub has_param-past : (R : List Row) → IsTable R → (h n : ℕ) → IsDefOf R n h → (k : ℕ) → length R ≤ h + 1 + k
    → nat_lt k (length (params_at R h)) ≡ false
has_param-past R t h n d k past = of (nat_lt k (length (params_at R h))) refl
  where
    of : (b : Truth) → nat_lt k (length (params_at R h)) ≡ b → b ≡ false
    of true e =
        let p = (Among-from_params_at R h (h + 1 + k)
        (param_at R t h n d k (ltb-true k (length (params_at R h)) e))).0 in
        absurd (omega (arith, p, past))
    of false e = refl

-- where no parameter is an array, the first one is among those behind
array_param-none : (R : List Row) (ps qs : List ℕ) → array_param R ps ≡ [] → array_param R (ps ++ qs) ≡ array_param R qs
array_param-none R [] qs e = refl
array_param-none R (x ∷ xs) qs e = by (is_array_param (at R x).node) e (array_param-none R xs qs)
  where
    by : (t : Truth) → (if t then (MainKind (at R x).place ∷ []) else array_param R xs) ≡ [] →
        (array_param R xs ≡ [] → array_param R (xs ++ qs) ≡ array_param R qs)
        → (if t then (MainKind (at R x).place ∷ []) else array_param R (xs ++ qs)) ≡ array_param R qs
    by true f h = cc
    by false f h = h f

-- the first array stays the first
array_param-some : (R : List Row) (ps qs : List ℕ) (c : CheckCause) → array_param R ps ≡ c ∷ []
    → array_param R (ps ++ qs) ≡ c ∷ []
array_param-some R [] qs c e = cc
array_param-some R (x ∷ xs) qs c e = by (is_array_param (at R x).node) e (array_param-some R xs qs c)
  where
    by : (t : Truth) → (if t then (MainKind (at R x).place ∷ []) else array_param R xs) ≡ c ∷ [] →
        (array_param R xs ≡ c ∷ [] → array_param R (xs ++ qs) ≡ c ∷ [])
        → (if t then (MainKind (at R x).place ∷ []) else array_param R (xs ++ qs)) ≡ c ∷ []
    by true f h = f
    by false f h = h f

-- the first array among the numbers from a on is so where more numbers are looked at
run_some : (R : List Row) (a k j : ℕ) (c : CheckCause) → array_param R (run a k) ≡ c ∷ []
    → array_param R (run a (k + j)) ≡ c ∷ []
run_some R a k zero c e = let s : k + 0 ≡ k = omega arith in ap (λ m. array_param R (run a m)) s ∙ e
run_some R a k (suc j) c e =
    let s : k + suc j ≡ suc (k + j) = omega arith in
    ap (λ m. array_param R (run a m)) s
    ∙ array_param-some R (run a (k + j)) ((a + (k + j)) ∷ []) c (run_some R a k j c e)

-- no parameter before the row i is an array
abbrev pub IsWithout : List Row → ℕ → ℕ → Type 0
IsWithout R h i = array_param R (run (h + 1) (i - (h + 1))) ≡ []

-- nor is one before the next row, if this one is none
pub without_next : (R : List Row) (h i : ℕ) → h < i → IsWithout R h i → is_array_param (at R i).node ≡ false
    → IsWithout R h (i + 1)
without_next R h i l e f =
    let k : i + 1 - (h + 1) ≡ suc (i - (h + 1)) = omega arith in
    let s : h + 1 + (i - (h + 1)) ≡ i = omega arith in
    ap (λ m. array_param R (run (h + 1) m)) k
    ∙ array_param-none R (run (h + 1) (i - (h + 1))) ((h + 1 + (i - (h + 1))) ∷ []) e
    ∙ ap (λ z. array_param R (z ∷ [])) s ∙ ap (λ b. if b then (MainKind (at R i).place ∷ []) else []) f

-- the index of a row among the parameters
index_of : (R : List Row) → IsTable R → (h n : ℕ) → IsDefOf R n h → (i : ℕ) → h < i → i < length R
    → is_param_of R h i ≡ nat_lt (i - (h + 1)) (length (params_at R h))
index_of R t h n d i l less =
    let s : h + 1 + (i - (h + 1)) ≡ i = omega arith in
    ap (is_param_of R h) (sym s) ∙ has_param-own R t h n d (i - (h + 1)) (subst (λ z. z < length R) (sym s) less)

-- this parameter is the first that is an array
pub array_found : (R : List Row) → IsTable R → (h n : ℕ) → IsDefOf R n h → (i : ℕ) → h < i → i < length R
    → is_param_of R h i ≡ true → IsWithout R h i → is_array_param (at R i).node ≡ true
    → MainKind (at R i).place ∷ [] ≡ array_param R (params_at R h)
array_found R t h n d i l less own e f = sym (
    ap (array_param R) (params_at-run R t h n d) ∙ ap (λ m. array_param R (run (h + 1) m)) (sym rest)
    ∙ run_some R (h + 1) (suc k) (length (params_at R h) - suc k) c one
    )
  where
    k : ℕ
    k = i - (h + 1)

    c : CheckCause
    c = MainKind (at R i).place

    same : h + 1 + (i - (h + 1)) ≡ i
    same = omega arith

    short : i - (h + 1) < length (params_at R h)
    short = ltb-true (i - (h + 1)) (length (params_at R h)) (sym (index_of R t h n d i l less) ∙ own)

    rest : suc (i - (h + 1)) + (length (params_at R h) - suc (i - (h + 1))) ≡ length (params_at R h)
    rest = omega (arith, short)

    one : array_param R (run (h + 1) (suc (i - (h + 1)))) ≡ MainKind (at R i).place ∷ []
    one =
        array_param-none R (run (h + 1) (i - (h + 1))) ((h + 1 + (i - (h + 1))) ∷ []) e
        ∙ ap (λ z. array_param R (z ∷ [])) same ∙ ap (λ b. if b then (MainKind (at R i).place ∷ []) else []) f

-- all parameters are before the row i, and none is an array
pub array_missing : (R : List Row) → IsTable R → (h n : ℕ) → IsDefOf R n h → (i : ℕ) → h < i
    → i ≤ h + 1 + length (params_at R h) → nat_lt (i - (h + 1)) (length (params_at R h)) ≡ false → IsWithout R h i
    → [] ≡ array_param R (params_at R h)
array_missing R t h n d i l low past e =
    let s : i - (h + 1) ≡ length (params_at R h) = elim (cases_lt (i - (h + 1)) (length (params_at R h))) [
      | inl w ↦ absurd (false≢true (sym past ∙ lt-ltb (i - (h + 1)) (length (params_at R h)) w))
      | inr w ↦ omega (arith, w, low)
    ] in
    sym (ap (array_param R) (params_at-run R t h n d) ∙ ap (λ m. array_param R (run (h + 1) m)) (sym s) ∙ e)

-- the row i is none of them
pub array_behind : (R : List Row) → IsTable R → (h n : ℕ) → IsDefOf R n h → (i : ℕ) → h < i → i < length R
    → is_param_of R h i ≡ false → i ≤ h + 1 + length (params_at R h) → IsWithout R h i
    → [] ≡ array_param R (params_at R h)
array_behind R t h n d i l less other low e =
    array_missing R t h n d i l low (sym (index_of R t h n d i l less) ∙ other) e

-- there is no row i
pub array_past : (R : List Row) → IsTable R → (h n : ℕ) → IsDefOf R n h → (i : ℕ) → h < i → length R ≤ i
    → i ≤ h + 1 + length (params_at R h) → IsWithout R h i → [] ≡ array_param R (params_at R h)
array_past R t h n d i l past low e =
    array_missing R t h n d i l low (has_param-past R t h n d (i - (h + 1)) (omega (arith, past))) e

-- a parameter is one of those behind the head
pub param_low : (R : List Row) → IsTable R → (h n : ℕ) → IsDefOf R n h → (i : ℕ) → h < i → i < length R
    → is_param_of R h i ≡ true → i + 1 ≤ h + 1 + length (params_at R h)
param_low R t h n d i l less own =
    let w = ltb-true (i - (h + 1)) (length (params_at R h)) (sym (index_of R t h n d i l less) ∙ own) in
    omega (arith, w)
