-- The builder's graph is the program's own.
use Rattle.std.proofs.Common.{◌≡◌, ◌<◌, ◌≤◌, ◌⊎◌, inl, inr, cond, eqb, ℕ, ◌+◌, Bool, true, false, List, [], ◌∷◌, length}
use Rattle.std.proofs.Common.{refl, ap, sym, subst, arith}
use Rattle.std.specs.Prelude.{slice_get, unwrap_or}
use Rattle.std.proofs.lemmas.Bool.{cases_lt, eqb-true}
use Rattle.std.proofs.lemmas.Option.{slice_get_past}
use Rattle.id_value.specs.List.{Among}
use Rattle.id_check.specs.declared.checked.Checked.{Checked}
use Rattle.id_check.specs.Programs.{rows}
use Rattle.id_desugar.specs.Regions.{order_of}
use Rattle.id_build.specs.Made.{AreFirsts, first_in, graph_by, number_by}
use Rattle.id_build.specs.Own.{IsOwn, own_number}
use Rattle.id_build.specs.Rows.{made}
use Rattle.id_build.specs.Schemas.{Numbered}
use Rattle.id_build.proofs.OrderLemmas.{IsOrder}
use Rattle.id_build.proofs.RowLemmas.{IsBuildable}
use Rattle.id_build.proofs.SchemasLemmas.{Numbered-graph_by}

-- a row that is not in the order has no number
first_in-none : (P : Checked) (order : List ℕ) (m n : ℕ) → (Among n order → ⊥) → first_in P m order n ≡ 0
first_in-none P [] m n never = refl
first_in-none P (x ∷ xs) m n never =
    at (eqb x n) refl (first_in-none P xs (m + length (made P x)) n (λ h. never (inr h)))
  where
    at : (t : Bool) → eqb x n ≡ t → first_in P (m + length (made P x)) xs n ≡ 0
        → cond t m (first_in P (m + length (made P x)) xs n) ≡ 0
    at true e rest = absurd (never (inl (sym (eqb-true x n e))))
    at false e rest = rest

-- all numbers are as the order says
own_at : (P : Checked) (F : List ℕ) → IsOrder P (order_of P) → AreFirsts P (order_of P) F → (n k : ℕ)
    → number_by F n k ≡ own_number P n k
own_at P F o fs n k = by (cases_lt n (length (rows P)))
  where
    by : (n < length (rows P)) ⊎ (length (rows P) ≤ n) → number_by F n k ≡ own_number P n k
    by (inl l) = let at = fs.at n l in omega arith
    by (inr l) =
        let past : length F ≤ n = omega (arith, l, fs.many) in
        let none : unwrap_or (slice_get F n) 0 ≡ 0 = ap (λ o. unwrap_or o 0) (slice_get_past F n past) in
        let first = first_in-none P (order_of P) 0 n (λ h. let w = o.within n h in absurd (omega (arith, w, l))) in
        omega (arith, none, first)

IsOwn-graph_by : (P : Checked) (F : List ℕ) → IsBuildable P → IsOrder P (order_of P) → AreFirsts P (order_of P) F
    → IsOwn P (graph_by P (order_of P) F)
IsOwn-graph_by P F t o fs = record {
  numbered =
      let same : number_by F ≡ own_number P = λ i. λ n k. own_at P F o fs n k i in
      subst (Numbered P (graph_by P (order_of P) F)) same (Numbered-graph_by P (order_of P) F t o fs);
  firsts = F;
  are_firsts = fs;
  is = refl;
}

pub IsOwn-made : (P : Checked) (order F : List ℕ) → IsBuildable P → order ≡ order_of P → IsOrder P order
    → AreFirsts P order F → IsOwn P (graph_by P order F)
IsOwn-made P order F t e o fs =
    let A : List ℕ → Type 0 = λ x. IsOrder P x in
    let B : List ℕ → Type 0 = λ x. AreFirsts P x F in
    let C : List ℕ → Type 0 = λ x. IsOwn P (graph_by P x F) in
    subst C (sym e) (IsOwn-graph_by P F t (subst A e o) (subst B e fs))
