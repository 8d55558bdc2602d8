-- The heads of a table, and the parameters of each.
use Rattle.std.proofs.Common.{◌≡◌, inl, inr, ◌+◌, ◌-◌, ◌<◌, ◌≤◌, ℕ, zero, suc, Bool, true, false, ◌&&◌, List, [], ◌∷◌, ◌++◌, length, refl, sym, ap, ◌∙◌}
use Rattle.std.proofs.Common.{subst, arith}
use Rattle.std.proofs.lemmas.Bool.{cases_lt, false≢true, eqb-true}
use Rattle.std.proofs.lemmas.Bool.Decides.{Decides-eqb}
use Rattle.std.proofs.lemmas.List.{length_push}
use Rattle.std.specs.Prelude.{nat_eq, if◌then◌else◌}
use Rattle.id_value.specs.List.{AllDiffer, Among}
use Rattle.id_value.proofs.AmongLemmas.{Among-either, Among-left, Among-one, Among-right}
use Rattle.id_table.specs.declared.row.Row.{Row}
use Rattle.id_table.specs.declared.row.Node.{Node}
use Rattle.id_table.specs.declared.row.Node.TheVariants.{Param, Program}
use Rattle.id_table.specs.Rows.{at}
use Rattle.id_table.specs.Tables.{is_def, is_head, is_param}
use Rattle.id_table.specs.Turns.{AreParamsOf, IsDefOf, IsTable, Rising, heads_below, heads_of, params_at, params_below}
use Rattle.id_table.proofs.BlockLemmas.{and_both, and_true}

-- the numbers below n that pass a test, rising
abbrev chosen : (ℕ → Bool) → ℕ → List ℕ
chosen f zero = []
chosen f (suc i) = if f i then chosen f i ++ i ∷ [] else chosen f i

chosen-within : (f : ℕ → Bool) (n i : ℕ) (b : Bool) → f n ≡ b → (Among i (chosen f n) → (i < n) × (f i ≡ true))
    → Among i (if b then chosen f n ++ n ∷ [] else chosen f n) → (i < suc n) × (f i ≡ true)
chosen-within f n i false e below h = let p = below h in (omega (arith, p.0), p.1)
chosen-within f n i true e below h = elim (Among-either i (chosen f n) (n ∷ []) h) [
  | inl k ↦ let p = below k in (omega (arith, p.0), p.1)
  | inr k ↦ let z = Among-one i n k in (omega arith, ap f z ∙ e)
]

Among-from_chosen : (f : ℕ → Bool) (n i : ℕ) → Among i (chosen f n) → (i < n) × (f i ≡ true)
Among-from_chosen f zero i h = absurd h
Among-from_chosen f (suc n) i h = chosen-within f n i (f n) refl (Among-from_chosen f n i) h

chosen-more : (f : ℕ → Bool) (n i : ℕ) (b : Bool) → f n ≡ b → f i ≡ true → (i < n → Among i (chosen f n)) → i < suc n
    → Among i (if b then chosen f n ++ n ∷ [] else chosen f n)
chosen-more f n i b e t below l = elim (cases_lt i n) [
  | inl m ↦ elim b as (λ v. Among i (if v then chosen f n ++ n ∷ [] else chosen f n)) [
    | true ↦ Among-left i (chosen f n) (n ∷ []) (below m)
    | false ↦ below m
  ]
  | inr m ↦ let z : i ≡ n = omega arith in
      let c : b ≡ true = sym e ∙ ap f (sym z) ∙ t in
      subst (λ v. Among i (if v then chosen f n ++ n ∷ [] else chosen f n)) (sym c) (Among-right i (chosen f n) (n ∷ []) (inl z))
]

Among-chosen : (f : ℕ → Bool) (n i : ℕ) → i < n → f i ≡ true → Among i (chosen f n)
Among-chosen f zero i l t = absurd (omega arith)
Among-chosen f (suc n) i l t = chosen-more f n i (f n) refl t (λ m. Among-chosen f n i m t) l

Rising-push : (is : List ℕ) (n : ℕ) → Rising is → ((i : ℕ) → Among i is → i < n) → Rising (is ++ n ∷ [])
Rising-push [] n r h = (λ j a. absurd a, tt)
Rising-push (i ∷ is) n r h = (
  λ j a. elim (Among-either j is (n ∷ []) a) [ inl b ↦ r.0 j b | inr b ↦ let z = Among-one j n b in let l = h i (inl refl) in omega arith ],
  Rising-push is n r.1 (λ j a. h j (inr a)),
)

Rising-chosen : (f : ℕ → Bool) (n : ℕ) → Rising (chosen f n)
Rising-chosen f zero = tt
Rising-chosen f (suc n) = elim (f n) as (λ b. Rising (if b then chosen f n ++ n ∷ [] else chosen f n)) [
  | true ↦ Rising-push (chosen f n) n (Rising-chosen f n) (λ i a. (Among-from_chosen f n i a).0)
  | false ↦ Rising-chosen f n
]

-- what rises has nothing twice
pub AllDiffer-Rising : (is : List ℕ) → Rising is → AllDiffer is
AllDiffer-Rising [] r = tt
AllDiffer-Rising (i ∷ is) r = (λ a. let l = r.0 i a in absurd (omega arith), AllDiffer-Rising is r.1)

module _ (R : List Row) where
  abbrev is_param_of : ℕ → ℕ → Bool
  is_param_of h i = is_param (at R i).node && nat_eq (at R i).block h

  abbrev is_head_at : ℕ → Bool
  is_head_at i = is_head (at R i).node

  params_below-chosen : (h n : ℕ) → params_below R h n ≡ chosen (is_param_of h) n
  params_below-chosen h zero = refl
  params_below-chosen h (suc n) = ap (λ is. if is_param_of h n then is ++ n ∷ [] else is) (params_below-chosen h n)

  heads_below-chosen : (n : ℕ) → heads_below R n ≡ chosen is_head_at n
  heads_below-chosen zero = refl
  heads_below-chosen (suc n) = ap (λ is. if is_head_at n then is ++ n ∷ [] else is) (heads_below-chosen n)

  -- the parameters of the procedure with the head h are the `Param` rows of its block
  pub Among-from_params_at : (h i : ℕ) → Among i (params_at R h) → (i < length R) × (is_param (at R i).node ≡ true) × ((at R i).block ≡ h)
  Among-from_params_at h i a =
      let p = Among-from_chosen (is_param_of h) (length R) i (subst (Among i) (params_below-chosen h (length R)) a) in
      let q = and_both (is_param (at R i).node) (nat_eq (at R i).block h) p.1 in
      (p.0, q.0, eqb-true (at R i).block h q.1)

  pub Among-params_at : (h i : ℕ) → i < length R → is_param (at R i).node ≡ true → (at R i).block ≡ h → Among i (params_at R h)
  Among-params_at h i l p e =
      subst (Among i) (sym (params_below-chosen h (length R)))
      (Among-chosen (is_param_of h) (length R) i l (and_true (is_param (at R i).node) (nat_eq (at R i).block h) p ((Decides-eqb (at R i).block h).1 e)))

  pub Rising-params_at : (h : ℕ) → Rising (params_at R h)
  Rising-params_at h = subst Rising (sym (params_below-chosen h (length R))) (Rising-chosen (is_param_of h) (length R))

  -- the heads are the `Head` rows
  pub Among-from_heads_of : (h : ℕ) → Among h (heads_of R) → (h < length R) × (is_head (at R h).node ≡ true)
  Among-from_heads_of h a = Among-from_chosen is_head_at (length R) h (subst (Among h) (heads_below-chosen (length R)) a)

  pub Among-heads_of : (h : ℕ) → h < length R → is_head (at R h).node ≡ true → Among h (heads_of R)
  Among-heads_of h l e = subst (Among h) (sym (heads_below-chosen (length R))) (Among-chosen is_head_at (length R) h l e)

  pub Rising-heads_of : Rising (heads_of R)
  Rising-heads_of = subst Rising (sym (heads_below-chosen (length R))) (Rising-chosen is_head_at (length R))

-- a row of whose node something is true that is false of `Program` is not the last
pub not_last : (R : List Row) → IsTable R → (f : Node → Bool) → f Program ≡ false → (i : ℕ) → i < length R → f (at R i).node ≡ true → i + 1 < length R
not_last R t f e i l p = elim (cases_lt (i + 1) (length R)) [
  | inl m ↦ m
  | inr m ↦ let z : i ≡ length R - 1 = omega arith in absurd (false≢true (sym e ∙ sym (ap f t.ends) ∙ sym (ap (λ k. f (at R k).node) z) ∙ p))
]

-- a row stands between the head of its block and the definition
pub block_within : (R : List Row) → IsTable R → (i n : ℕ) → i + 1 < length R → IsDefOf R n (at R i).block → ((at R i).block ≤ i) × (i ≤ n)
block_within R t i n l d =
    let own = t.def_of i l in
    let head = (t.head_is n d.name (at R i).block d.body d.result d.within d.node).0 in
    let same = t.one_def own.row n (at R i).block (subst (IsDefOf R own.row) (sym (own.block (ap is_head head))) own.def) d in
    ((t.block i l).0, omega (arith, own.high))

param_no_end : (n : Node) → is_param n ≡ true → (is_head n ≡ false) × (is_def n ≡ false)
param_no_end (Param x k) e = (refl, refl)
param_no_end _ e = absurd (false≢true e)

-- a parameter stands behind its head, and before its definition
pub param_within : (R : List Row) → IsTable R → (h i n : ℕ) → Among i (params_at R h) → IsDefOf R n h → (h < i) × (i < n)
param_within R t h i n a d =
    let p = Among-from_params_at R h i a in
    let ends = param_no_end (at R i).node p.1 in
    let w = block_within R t i n (not_last R t is_param refl i p.0 p.1) (subst (IsDefOf R n) (sym p.2) d) in
    let head = (t.head_is n d.name h d.body d.result d.within d.node).0 in
    let low : h ≤ i = omega (arith, w.0, p.2) in
    let below : h < i = elim (cases_lt h i) [
      | inl l ↦ l
      | inr l ↦ let z : i ≡ h = omega arith in
          absurd (false≢true (sym ends.0 ∙ ap (λ k. is_head (at R k).node) z ∙ ap is_head head))
    ] in
    let before : i < n = elim (cases_lt i n) [
      | inl l ↦ l
      | inr l ↦ let z : i ≡ n = omega (arith, w.1) in
          absurd (false≢true (sym ends.1 ∙ ap (λ k. is_def (at R k).node) z ∙ ap is_def d.node))
    ] in
    (below, before)

-- so many numbers from a on
abbrev pub run : ℕ → ℕ → List ℕ
run a zero = []
run a (suc n) = run a n ++ (a + n) ∷ []

pub length-run : (a n : ℕ) → length (run a n) ≡ n
length-run a zero = refl
length-run a (suc n) = length_push (run a n) (a + n) ∙ ap (λ k. k + 1) (length-run a n) ∙ omega arith

module _ (R : List Row) (t : IsTable R) (h n : ℕ) (d : IsDefOf R n h) where
  abbrev ps : AreParamsOf R h n
  ps = t.params n h d

  -- a row is a parameter of the definition exactly where it is one of those behind the head
  own_param : (i : ℕ) → i < length R → (is_param (at R i).node && nat_eq (at R i).block h) ≡ true → (h < i) × (i ≤ h + ps.count)
  own_param i l e =
      let q = and_both (is_param (at R i).node) (nat_eq (at R i).block h) e in
      let w = param_within R t h i n (Among-params_at R h i l q.0 (eqb-true (at R i).block h q.1)) d in (
        w.0,
        elim (cases_lt (h + ps.count) i) [
          | inl k ↦ absurd (false≢true (sym (ps.rest i k w.1) ∙ q.0))
          | inr k ↦ k
        ],
      )

  param_own : (i : ℕ) → h < i → i ≤ h + ps.count → (is_param (at R i).node && nat_eq (at R i).block h) ≡ true
  param_own i l m =
      let is = ps.param i l m in
      and_true (is_param (at R i).node) (nat_eq (at R i).block h) is ((Decides-eqb (at R i).block h).1 (ps.block i l m))

  below_head : (m : ℕ) → m ≤ suc h → m ≤ length R → params_below R h m ≡ []
  below_head zero l w = refl
  below_head (suc m) l w =
      let none : (is_param (at R m).node && nat_eq (at R m).block h) ≡ false = not_own m (omega (arith, w)) (omega (arith, l)) in
      ap (λ b. if b then params_below R h m ++ m ∷ [] else params_below R h m) none ∙ below_head m (omega arith) (omega arith)
    where
      not_own : (m : ℕ) → m < length R → m ≤ h → (is_param (at R m).node && nat_eq (at R m).block h) ≡ false
      not_own m w l = elim (is_param (at R m).node && nat_eq (at R m).block h) as (λ b. (is_param (at R m).node && nat_eq (at R m).block h) ≡ b → b ≡ false) [
        | true ↦ λ e. let q = own_param m w e in absurd (omega (arith, q.0))
        | false ↦ λ e. refl
      ] refl

  of_params : (j : ℕ) → j ≤ ps.count → params_below R h (suc h + j) ≡ run (suc h) j
  of_params zero l = let e : suc h + 0 ≡ suc h = omega arith in
      ap (params_below R h) e ∙ below_head (suc h) (omega arith) (omega (arith, ps.before, d.within))
  of_params (suc j) l =
      let e : suc h + suc j ≡ suc (suc h + j) = omega arith in
      let is = param_own (suc h + j) (omega arith) (omega (arith, l)) in
      ap (params_below R h) e
      ∙ ap (λ b. if b then params_below R h (suc h + j) ++ (suc h + j) ∷ [] else params_below R h (suc h + j)) is
      ∙ ap (λ is. is ++ (suc h + j) ∷ []) (of_params j (omega arith))

  behind_params : (j : ℕ) → suc h + ps.count + j ≤ length R → params_below R h (suc h + ps.count + j) ≡ run (suc h) ps.count
  behind_params zero l = let e : suc h + ps.count + 0 ≡ suc h + ps.count = omega arith in ap (params_below R h) e ∙ of_params ps.count (omega arith)
  behind_params (suc j) l =
      let e : suc h + ps.count + suc j ≡ suc (suc h + ps.count + j) = omega arith in
      let none = not_own (suc h + ps.count + j) (omega (arith, l)) (omega arith) in
      ap (params_below R h) e
      ∙ ap (λ b. if b then params_below R h (suc h + ps.count + j) ++ (suc h + ps.count + j) ∷ [] else params_below R h (suc h + ps.count + j)) none
      ∙ behind_params j (omega (arith, l))
    where
      not_own : (m : ℕ) → m < length R → h + ps.count < m → (is_param (at R m).node && nat_eq (at R m).block h) ≡ false
      not_own m w l = elim (is_param (at R m).node && nat_eq (at R m).block h) as (λ b. (is_param (at R m).node && nat_eq (at R m).block h) ≡ b → b ≡ false) [
        | true ↦ λ e. let q = own_param m w e in absurd (omega (arith, q.1))
        | false ↦ λ e. refl
      ] refl

  -- the parameters of a definition are the rows right behind its head, in order
  pub params_at-run : params_at R h ≡ run (h + 1) (length (params_at R h))
  params_at-run =
      let end = ps.before in
      let w = d.within in
      let rest : suc h + ps.count + (length R - (suc h + ps.count)) ≡ length R = omega arith in
      let all : params_at R h ≡ run (suc h) ps.count = ap (params_below R h) (sym rest) ∙ behind_params (length R - (suc h + ps.count)) (omega arith) in
      let long : length (params_at R h) ≡ ps.count = ap length all ∙ length-run (suc h) ps.count in
      let low : suc h ≡ h + 1 = omega arith in
      all ∙ ap (run (suc h)) (sym long) ∙ ap (λ k. run k (length (params_at R h))) low

  -- there are as many as the table says
  pub length-params_at : length (params_at R h) ≡ ps.count
  length-params_at =
      let end = ps.before in
      let w = d.within in
      let rest : suc h + ps.count + (length R - (suc h + ps.count)) ≡ length R = omega arith in
      ap length (ap (params_below R h) (sym rest) ∙ behind_params (length R - (suc h + ps.count)) (omega arith)) ∙ length-run (suc h) ps.count

  -- the parameter of the index k is the row behind the head and those before it
  pub param_at : (k : ℕ) → k < length (params_at R h) → Among (h + 1 + k) (params_at R h)
  param_at k l =
      let less : k < ps.count = omega (arith, length-params_at) in
      let e = param_own (h + 1 + k) (omega arith) (omega (arith, less)) in
      let q = and_both (is_param (at R (h + 1 + k)).node) (nat_eq (at R (h + 1 + k)).block h) e in
      Among-params_at R h (h + 1 + k) (omega (arith, less, ps.before, d.within)) q.0 (eqb-true (at R (h + 1 + k)).block h q.1)

  -- and each parameter has such an index
  pub param_index : (i : ℕ) → Among i (params_at R h) → (k : ℕ) × (k < length (params_at R h)) × (i ≡ h + 1 + k)
  param_index i a =
      let p = Among-from_params_at R h i a in
      let w = own_param i p.0 (and_true (is_param (at R i).node) (nat_eq (at R i).block h) p.1 ((Decides-eqb (at R i).block h).1 p.2)) in
      (i - (h + 1), omega (arith, w.0, w.1, length-params_at), omega (arith, w.0))
