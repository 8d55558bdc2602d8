-- The rows of a procedure's parameters, and their inputs.
use Rattle.std.proofs.Common.{◌≡◌, inl, inr, ℕ, zero, suc, ◌<◌, Bool, true, false, Some, List, [], ◌∷◌, ◌++◌, nat_eq}
use Rattle.std.proofs.Common.{length, if◌then◌else◌, refl, ap, sym, ◌∙◌}
use Rattle.std.proofs.Common.{subst, arith}
use Rattle.std.specs.Prelude.{slice_get, ◌&&◌}
use Rattle.id_value.specs.List.{AllDiffer, Among}
use Rattle.id_value.proofs.AmongLemmas.{Among-either, Among-from_at}
use Rattle.id_value.proofs.DifferLemmas.{AllDiffer-append}
use Rattle.id_table.specs.declared.row.Row.{Row}
use Rattle.id_table.specs.Rows.{at}
use Rattle.id_table.specs.Tables.{is_param}
use Rattle.id_table.specs.Turns.{params_below}
use Rattle.id_check.specs.Programs.{rows}
use Rattle.id_value.specs.declared.Constant.{Constant}
use Rattle.id_source.specs.Sources.{Source, IsInput, main_params, head_of}

and-left : (b c : Bool) → b && c ≡ true → b ≡ true
and-left true c h = refl
and-left false c h = cc

abbrev IsParamBelow : List Row → ℕ → ℕ → Type 0
IsParamBelow R n b = (b < n) × (is_param (at R b).node ≡ true)

below-more : (R : List Row) (n b : ℕ) → IsParamBelow R n b → IsParamBelow R (suc n) b
below-more R n b (l, t) = (omega arith, t)

params-step : (R : List Row) (h n b : ℕ) (t : Bool) → ((i : Among b (params_below R h n)) → IsParamBelow R n b)
    → is_param (at R n).node && nat_eq (at R n).block h ≡ t
    → Among b (if t then params_below R h n ++ n ∷ [] else params_below R h n)
    → IsParamBelow R (suc n) b
params-step R h n b true before e m = elim (Among-either b (params_below R h n) (n ∷ []) m) [
  | inl i ↦ below-more R n b (before i)
  | inr i ↦ elim i [
    | inl q ↦
        let P : ℕ → Type 0 = λ m. is_param (at R m).node ≡ true in
        (omega arith, subst P (sym q) (and-left (is_param (at R n).node) (nat_eq (at R n).block h) e))
    | inr f ↦ absurd f
  ]
]
params-step R h n b false before e m = below-more R n b (before m)

-- the parameters are parameters
pub params-among : (R : List Row) (h n b : ℕ) → Among b (params_below R h n) → IsParamBelow R n b
params-among R h zero b k = absurd k
params-among R h (suc n) b k =
    params-step R h n b (is_param (at R n).node && nat_eq (at R n).block h) (params-among R h n b) refl k

differ-step : (R : List Row) (h n : ℕ) (t : Bool) → AllDiffer (params_below R h n)
    → AllDiffer (if t then params_below R h n ++ n ∷ [] else params_below R h n)
differ-step R h n true d =
    AllDiffer-append (params_below R h n) (n ∷ []) d ((λ k. k), tt)
    (λ b i j. elim j [ inl q ↦ (let l = (params-among R h n b i).0 in omega arith) | inr f ↦ f ])
differ-step R h n false d = d

-- none of them comes twice
pub params-differ : (R : List Row) (h n : ℕ) → AllDiffer (params_below R h n)
params-differ R h zero = tt
params-differ R h (suc n) = differ-step R h n (is_param (at R n).node && nat_eq (at R n).block h) (params-differ R h n)

-- what comes once stands at one place
pub once : {A : Type 0} (xs : List A) (x : A) (i j : ℕ) → AllDiffer xs → slice_get xs i ≡ Some x
    → slice_get xs j ≡ Some x → i ≡ j
once [] x i j d h k = cc
once (y ∷ xs) x zero zero d h k = refl
once {A} (y ∷ xs) x zero (suc j) d h k =
    let e : x ≡ y = cc in
    let P : A → Type 0 = λ z. Among z xs in
    absurd (d.0 (subst P e (Among-from_at x xs j k)))
once {A} (y ∷ xs) x (suc i) zero d h k =
    let e : x ≡ y = cc in
    let P : A → Type 0 = λ z. Among z xs in
    absurd (d.0 (subst P e (Among-from_at x xs i h)))
once (y ∷ xs) x (suc i) (suc j) d h k = ap (λ n. suc n) (once xs x i j d.1 h k)

-- a parameter of `main` has one input
pub one_input : {S : Source} {b : ℕ} {v w : Constant} → IsInput S b v → IsInput S b w → v ≡ w
one_input {S} {b} {v} {w} i j =
    let R = rows S.checked in
    let d = params-differ R (head_of (at R S.checked.main).node) (length R) in
    let q = once (main_params S.checked) b i.number j.number d i.param j.param in
    let e : Some v ≡ Some w = sym i.value ∙ ap (λ n. slice_get S.inputs n) q ∙ j.value in
    cc

-- and it is one
pub input_param : {S : Source} {b : ℕ} {v : Constant} → IsInput S b v
    → (b < length (rows S.checked)) × (is_param (at (rows S.checked) b).node ≡ true)
input_param {S} {b} i =
    let R = rows S.checked in
    params-among R (head_of (at R S.checked.main).node) (length R) b
    (Among-from_at b (main_params S.checked) i.number i.param)
