-- The arguments of calls, and the parameters that get their values.
use Rattle.std.proofs.Common.{◌≡◌, inl, inr, ℕ, zero, suc, ◌+◌, ◌-◌, ◌≤◌, ◌<◌, Bool, true, false, Some, None, List, []}
use Rattle.std.proofs.Common.{◌∷◌, ◌++◌, length, if◌then◌else◌, refl}
use Rattle.std.proofs.Common.{ap, sym, ◌∙◌, arith}
use Rattle.std.specs.Prelude.{slice_get, nat_lt, ◌&&◌}
use Rattle.std.proofs.lemmas.Bool.{cases_lt, false≢true, lt-ltb}
use Rattle.std.proofs.lemmas.Option.{slice_get_within}
use Rattle.id_value.proofs.AmongLemmas.{Among-from_at}
use Rattle.id_value.proofs.PlacesLemmas.{slice_get-last}
use Rattle.id_table.specs.declared.row.Row.{Row}
use Rattle.id_table.specs.declared.row.Node.{Node}
use Rattle.id_table.specs.declared.row.Node.TheVariants.{Arg}
use Rattle.id_table.specs.Rows.{at, no_row}
use Rattle.id_table.specs.Turns.{IsDefOf, params_at}
use Rattle.id_table.proofs.BlocksLemmas.{length-run, params_at-run, run}
use Rattle.id_check.specs.declared.checked.Checked.{Checked}
use Rattle.id_check.specs.Programs.{Calls, Stands, rows}
use Rattle.id_check.proofs.ProgramsLemmas.{table_of}
use Rattle.id_check.proofs.WantedLemmas.{argument_call, call_row}
use Rattle.id_meaning.specs.Effects.{param_row}
use Rattle.id_source.proofs.ParamsLemmas.{params-among}

-- at a row past the last nothing comes
pub past : (R : List Row) (n : ℕ) → length R ≤ n → at R n ≡ no_row
past [] n l = refl
past (r ∷ R) zero l = absurd (omega arith)
past (r ∷ R) (suc n) l = past R n (omega arith)

-- what is not past the last row
pub row-within : (R : List Row) (n : ℕ) (f : Node → Bool) → f no_row.node ≡ false → f (at R n).node ≡ true
    → n < length R
row-within R n f h k = elim (cases_lt n (length R)) [
  | inl l ↦ l
  | inr l ↦ absurd (false≢true (sym h ∙ ap (λ r. f r.node) (sym (past R n l)) ∙ k))
]

get-left : (xs ys : List ℕ) (k x : ℕ) → slice_get xs k ≡ Some x → slice_get (xs ++ ys) k ≡ Some x
get-left [] ys k x h = cc
get-left (y ∷ xs) ys zero x h = h
get-left (y ∷ xs) ys (suc k) x h = get-left xs ys k x h

-- the number of each index in a run
get-run : (a n k : ℕ) → k < n → slice_get (run a n) k ≡ Some (a + k)
get-run a zero k l = absurd (omega arith)
get-run a (suc n) k l = elim (cases_lt k n) [
  | inl m ↦ get-left (run a n) ((a + n) ∷ []) k (a + k) (get-run a n k m)
  | inr m ↦
      let e : k ≡ length (run a n) = omega (arith, length-run a n) in
      let q : n ≡ k = omega arith in
      ap (λ i. slice_get (run a n ++ (a + n) ∷ []) i) e ∙ slice_get-last (a + n) (run a n) ∙ ap (λ i. Some (a + i)) q
]

-- the parameter of an index is the row so far behind the head
pub param-get : (P : Checked) (d h k : ℕ) → IsDefOf (rows P) d h → k < length (params_at (rows P) h)
    → slice_get (params_at (rows P) h) k ≡ Some (h + 1 + k)
param-get P d h k def l =
    let R = rows P in
    ap (λ xs. slice_get xs k) (params_at-run R (table_of P) h d def) ∙ get-run (h + 1) (length (params_at R h)) k l

-- an argument has a parameter
pub argument-get : (P : Checked) (m e d h k v : ℕ) → Calls P e d h → Stands P m (Arg e k v)
    → slice_get (params_at (rows P) h) k ≡ Some (h + 1 + k)
argument-get P m e d h k v w s =
    let a = argument_call P m e k v s in
    let c = (call_row P a.call e a.count d h a.stands w).0 in
    let def : IsDefOf (rows P) d h =
    record {
      name = w.name;
      result = w.result;
      body = w.body;
      within = w.definition.within;
      node =
          w.definition.node;
    } in
    param-get P d h k def (omega (arith, a.low, c))

-- the parameter at a row is that of its index
pub get-param_row : (P : Checked) (d h k q : ℕ) → IsDefOf (rows P) d h → slice_get (params_at (rows P) h) k ≡ Some q
    → param_row (length (rows P)) h k ≡ Some q
get-param_row P d h k q def e =
    let R = rows P in
    let c = length R in
    let is : Some (h + 1 + k) ≡ Some q = sym (param-get P d h k def (slice_get_within (params_at R h) k q e)) ∙ e in
    let same : h + 1 + k ≡ q = cc in
    let w = (params-among R h c q (Among-from_at q (params_at R h) k e)).0 in
    let low : h < c = omega arith in
    let high : k < c - h - 1 = omega arith in
    ap (λ t. if t && nat_lt k (c - h - 1) then Some (h + 1 + k) else None) (lt-ltb h c low)
    ∙ ap (λ t. if t then Some (h + 1 + k) else None)
    (lt-ltb k (c - h - 1) high) ∙ is

row-some : (t : Bool) (n b : ℕ) → (if t then Some n else None) ≡ Some b → n ≡ b
row-some true n b e = cc
row-some false n b e = cc

pub param_row-some : (c h k b : ℕ) → param_row c h k ≡ Some b → h + 1 + k ≡ b
param_row-some c h k b e = row-some (nat_lt h c && nat_lt k (c - h - 1)) (h + 1 + k) b e
