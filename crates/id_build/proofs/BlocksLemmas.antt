-- The blocks of a program: their heads, and the entries of each.
use Rattle.std.proofs.Common.{◌≡◌, inl, inr, ℕ, zero, suc, ◌+◌, ◌<◌, ◌≤◌, Bool, true, false, List, [], ◌∷◌, ◌++◌}
use Rattle.std.proofs.Common.{get_or, length, map, refl, add-zero, ap, sym, subst, ◌∙◌, ◌-◌, arith, cond}
use Rattle.std.proofs.lemmas.Bool.Decides.{nat_tests}
use Rattle.std.specs.Prelude.{◌&&◌, nat_eq}
use Rattle.std.proofs.lemmas.Bool.{cases_lt, eqb-true, false≢true}
use Rattle.std.proofs.lemmas.List.{map-append}
use Rattle.id_table.specs.declared.row.Node.{Node}
use Rattle.id_table.specs.declared.row.Node.TheVariants.{Head}
use Rattle.id_table.specs.Rows.{at}
use Rattle.id_table.specs.Tables.{is_head, is_param}
use Rattle.id_table.specs.Turns.{IsDefOf, heads_below, params_at, params_below}
use Rattle.id_check.specs.declared.checked.Checked.{Checked}
use Rattle.id_check.specs.Programs.{rows}
use Rattle.id_instr.specs.declared.instr.Block.{Block}
use Rattle.id_build.specs.Made.{number_by}
use Rattle.id_desugar.specs.Ends.{end_of}
use Rattle.id_desugar.specs.Regions.{carried, first_variable, has_index, is_loop_head, loop_heads, nexts_of}
use Rattle.id_desugar.proofs.EndsLemmas.{row_inside}
use Rattle.id_desugar.proofs.HeadsLemmas.{loop_heads-is}
use Rattle.id_build.specs.Rows.{Entry, entries, entries_by, node, param_entry, variable_entries}
use Rattle.id_build.specs.Schemas.{block_of}
use Rattle.id_value.specs.List.{Among}
use Rattle.id_check.proofs.ProgramsLemmas.{table_of}
use Rattle.id_table.proofs.BlocksLemmas.{not_last}
use Rattle.id_build.proofs.EndsLemmas.{end_is}
use Rattle.id_build.proofs.FillLemmas.{Among-get_or}

-- whether the row is a parameter of the procedure with this head
abbrev pub takes : Checked → ℕ → ℕ → Bool
takes P h i = is_param (node P i) && nat_eq (at (rows P) i).block h

head_of : (n : Node) → is_head n ≡ true → n ≡ Head
head_of Head e = refl
head_of _ e = absurd (false≢true e)

both : (a b : Bool) → (a && b) ≡ true → (a ≡ true) × (b ≡ true)
both true b e = (refl, e)
both false b e = cc

false_or : (t : Bool) → (t ≡ true → ⊥) → t ≡ false
false_or true h = absurd (h refl)
false_or false h = refl

-- before its head no row is a parameter of a procedure
none_before : (P : Checked) (h n : ℕ) → h < length (rows P) → n ≤ h → params_below (rows P) h n ≡ []
none_before P h zero l m = refl
none_before P h (suc n) l m =
    let no : takes P h n ≡ false = false_or (takes P h n) (λ t. (
    let b = both (is_param (node P n)) (nat_eq (at (rows P) n).block h) t in
    let is = eqb-true (at (rows P) n).block h b.1 in
    let low = ((table_of P).block n (not_last (rows P) (table_of P) is_param refl n (omega (arith, l)) b.0)).0 in
    omega (arith, is, low)
    )) in
    rw no (none_before P h n l (omega arith))

-- nor is a row one of a procedure with a head past the end of the table
pub none_past : (P : Checked) (h n : ℕ) → length (rows P) ≤ h → params_below (rows P) h n ≡ []
none_past P h zero l = refl
none_past P h (suc n) l =
    let no : takes P h n ≡ false = false_or (takes P h n) (λ t. (
    let b = both (is_param (node P n)) (nat_eq (at (rows P) n).block h) t in
    let is = eqb-true (at (rows P) n).block h b.1 in
    let within = row_inside (rows P) n is_param refl b.0 in
    let low = ((table_of P).block n (not_last (rows P) (table_of P) is_param refl n within b.0)).0 in
    omega (arith, is, low, within, l)
    )) in
    rw no (none_past P h n l)

-- nor is one from its definition on
none_behind : (P : Checked) (h n : ℕ) → h < length (rows P) → node P h ≡ Head → end_of P h ≤ n → n ≤ length (rows P) →
    params_below (rows P) h n ≡ params_below (rows P) h (end_of P h)
none_behind P h zero l e m k = let is : end_of P h ≡ 0 = omega arith in ap (params_below (rows P) h) (sym is)
none_behind P h (suc n) l e m k = elim (cases_lt n (end_of P h)) [
  | inl i ↦ (let is : end_of P h ≡ suc n = omega arith in ap (params_below (rows P) h) (sym is))
  | inr i ↦ (
      let no : takes P h n ≡ false = false_or (takes P h n) (λ t. (
      let b = both (is_param (node P n)) (nat_eq (at (rows P) n).block h) t in
      let is = eqb-true (at (rows P) n).block h b.1 in
      let d = (table_of P).def_of n (not_last (rows P) (table_of P) is_param refl n (omega arith) b.0) in
      let head : h ≡ d.head = sym is ∙ d.block (ap (λ k. is_head (node P k)) is ∙ ap is_head e) in
      let mine = subst (IsDefOf (rows P) d.row) (sym head) d.def in
      let own = end_is P (table_of P) h l e in
      let one : d.row ≡ end_of P h = (table_of P).one_def d.row (end_of P h) h mine own in
      let here : n ≡ end_of P h = omega (arith, d.high, one) in
      let bad : true ≡ false = sym b.0 ∙ ap (λ j. is_param (node P j)) here ∙ ap is_param own.node in
      cc
      )) in
      rw no (none_behind P h n l e (omega arith) (omega arith))
      )
]

-- the parameters of a procedure stand between its head and its definition
pub params_between : (P : Checked) (h : ℕ) → h < length (rows P) → is_head (node P h) ≡ true
    → params_below (rows P) h (end_of P h) ≡ params_at (rows P) h
params_between P h l t =
    let e = head_of (node P h) t in
    let d = end_is P (table_of P) h l e in
    sym (none_behind P h (length (rows P)) l e (omega (arith, d.within)) (omega arith))

-- none stands up to its head
pub params_start : (P : Checked) (h : ℕ) → h < length (rows P) → is_head (node P h) ≡ true
    → params_below (rows P) h (h + 1) ≡ []
params_start P h l t =
    let next : h + 1 ≡ suc h = omega arith in
    let no : takes P h h ≡ false = ap (λ n. is_param n && nat_eq (at (rows P) h).block h) (head_of (node P h) t) in
    ap (params_below (rows P) h) next ∙ rw no (none_before P h h l (omega arith))

-- a parameter behind its head and before its definition is its own
pub is_taken : (P : Checked) (h n : ℕ) → h < length (rows P) → is_head (node P h) ≡ true → h < n → n < end_of P h
    → is_param (node P n) ≡ true → takes P h n ≡ true
is_taken P h n l t low high is =
    let ps = (table_of P).params (end_of P h) h (end_is P (table_of P) h l (head_of (node P h) t)) in
    elim (cases_lt (h + ps.count) n) [
      | inl past ↦ cc (sym is ∙ ps.rest n past high)
      | inr here ↦ (
          let own : (at (rows P) n).block ≡ h = ps.block n low (omega (arith, here)) in
          let same : nat_eq (at (rows P) n).block h ≡ true = grind (arith, nat_tests, own) in
          ap (λ b. b && nat_eq (at (rows P) n).block h) is ∙ same
          )
    ]

-- where no parameter stands at a row behind the head, all stand before it
pub params_stop : (P : Checked) (h n : ℕ) → h < length (rows P) → is_head (node P h) ≡ true → h < n → n < end_of P h
    → is_param (node P n) ≡ false → params_below (rows P) h n ≡ params_at (rows P) h
params_stop P h n l t low high out =
    let ps = (table_of P).params (end_of P h) h (end_is P (table_of P) h l (head_of (node P h) t)) in
    let past : h + ps.count < n = elim (cases_lt (h + ps.count) n) [
      | inl m ↦ m
      | inr m ↦ absurd (false≢true (sym out ∙ ps.param n low (omega (arith, m))))
    ] in
    let none : (i : ℕ) → n ≤ i → i < end_of P h → takes P h i ≡ false =
    λ i from to. ap (λ b. b && nat_eq (at (rows P) i).block h) (ps.rest i (omega (arith, past, from)) to) in
    let all : n + (end_of P h - n) ≡ end_of P h = omega (arith, high) in
    sym (go (end_of P h - n) (λ i from to. none i from (omega (arith, to, high)))) ∙ ap (params_below (rows P) h) all
    ∙ params_between P h l t
  where
    go : (k : ℕ) → ((i : ℕ) → n ≤ i → i < n + k → takes P h i ≡ false)
        → params_below (rows P) h (n + k) ≡ params_below (rows P) h n
    go zero none = ap (params_below (rows P) h) (add-zero n)
    go (suc k) none =
        let next : n + suc k ≡ suc (n + k) = omega arith in
        let no : takes P h (n + k) ≡ false = none (n + k) (omega arith) (omega arith) in
        ap (params_below (rows P) h) next ∙ rw no (go k (λ i from to. none i from (omega (arith, to))))

-- one more row is one more entry
pub entries_next : (P : Checked) (F xs new : List ℕ) (h n : ℕ) → takes P h n ≡ true
    → xs ≡ map (λ x. number_by F x 0) (params_below (rows P) h n) → new ≡ xs ++ number_by F n 0 ∷ []
    → new ≡ map (λ x. number_by F x 0) (params_below (rows P) h (n + 1))
entries_next P F xs new h n t e f =
    let next : suc n ≡ n + 1 = omega arith in
    let more : params_below (rows P) h (suc n) ≡ params_below (rows P) h n ++ n ∷ [] =
    ap (λ b. cond b (params_below (rows P) h n ++ n ∷ []) (params_below (rows P) h n)) t in
    f ∙ ap (λ l. l ++ number_by F n 0 ∷ []) e
    ∙ sym (map-append (λ x. number_by F x 0) (params_below (rows P) h n) (n ∷ []))
    ∙ ap (map (λ x. number_by F x 0)) (sym more ∙ ap (params_below (rows P) h) next)

-- one more row may be one more head, with its block
pub heads_next : (P : Checked) (h : ℕ) → is_head (node P h) ≡ true
    → heads_below (rows P) (h + 1) ≡ heads_below (rows P) h ++ h ∷ []
heads_next P h t =
    let next : h + 1 ≡ suc h = omega arith in
    ap (heads_below (rows P)) next ∙ ap (λ b. cond b (heads_below (rows P) h ++ h ∷ []) (heads_below (rows P) h)) t

pub heads_same : (P : Checked) (h : ℕ) → is_head (node P h) ≡ false
    → heads_below (rows P) (h + 1) ≡ heads_below (rows P) h
heads_same P h t =
    let next : h + 1 ≡ suc h = omega arith in
    ap (heads_below (rows P)) next ∙ ap (λ b. cond b (heads_below (rows P) h ++ h ∷ []) (heads_below (rows P) h)) t

-- each listed head of a loop is one
pub loop_head_at : (P : Checked) (xs : List ℕ) (i : ℕ) → xs ≡ loop_heads P → i < length xs
    → (get_or xs i 0 < length (rows P)) × (is_loop_head (node P (get_or xs i 0)) ≡ true)
loop_head_at P xs i e l = loop_heads-is P (get_or xs i 0) (subst (Among (get_or xs i 0)) e (Among-get_or xs i l))

-- the entries of what a loop carries on beside its variables stand before those, one row each
pub carried_entries : (P : Checked) (F : List ℕ) (h : ℕ)
    → map (λ (q : Entry). number_by F q.row q.part) (variable_entries (h + 1) (carried P h ++ nexts_of P h))
    ≡ map (λ (q : Entry). number_by F q.row q.part)
    (map param_entry (carried P h) ++ variable_entries (first_variable P h) (nexts_of P h))
carried_entries P F h = go (has_index P h)
  where
    ns : List ℕ
    ns = nexts_of P h

    xs : List ℕ
    xs = (h + 1) ∷ (h + 2) ∷ (h + 3) ∷ []

    go : (t : Bool)
        → map (λ (q : Entry). number_by F q.row q.part) (variable_entries (h + 1) (cond t xs [] ++ ns))
        ≡ map (λ (q : Entry). number_by F q.row q.part)
        (map param_entry (cond t xs []) ++ variable_entries (h + 1 + length (cond t xs [])) ns)
    go true =
        let two : h + 1 + 1 ≡ h + 2 = omega arith in
        let three : h + 1 + 1 + 1 ≡ h + 3 = omega arith in
        let four : h + 1 + 1 + 1 + 1 ≡ h + 1 + 3 = omega arith in
        ap (λ k. number_by F (h + 1) 0 ∷ number_by F k 0 ∷ number_by F (h + 1 + 1 + 1) 0
        ∷ map (λ (q : Entry). number_by F q.row q.part) (variable_entries (h + 1 + 1 + 1 + 1) ns)) two
        ∙ ap (λ k. number_by F (h + 1) 0 ∷ number_by F (h + 2) 0 ∷ number_by F k 0
        ∷ map (λ (q : Entry). number_by F q.row q.part) (variable_entries (h + 1 + 1 + 1 + 1) ns)) three
        ∙ ap (λ k. number_by F (h + 1) 0 ∷ number_by F (h + 2) 0 ∷ number_by F (h + 3) 0
        ∷ map (λ (q : Entry). number_by F q.row q.part) (variable_entries k ns)) four
    go false = ap (λ v. map (λ (q : Entry). number_by F q.row q.part) (variable_entries v ns)) (sym (add-zero (h + 1)))

-- with one more block
pub blocks_push : (P : Checked) (F : List ℕ) (xs : List ℕ) (bs new : List Block) (h : ℕ)
    → bs ≡ map (block_of P (number_by F)) xs → new ≡ bs ++ block_of P (number_by F) h ∷ []
    → new ≡ map (block_of P (number_by F)) (xs ++ h ∷ [])
blocks_push P F xs bs new h e f =
    f ∙ ap (λ l. l ++ block_of P (number_by F) h ∷ []) e ∙ sym (map-append (block_of P (number_by F)) xs (h ∷ []))

-- a definition stands behind its head
pub end_behind : (P : Checked) (h : ℕ) → h < length (rows P) → is_head (node P h) ≡ true → h < end_of P h
end_behind P h l t =
    let ps = (table_of P).params (end_of P h) h (end_is P (table_of P) h l (head_of (node P h) t)) in
    omega (arith, ps.before)

-- the entries of a procedure are the labels of its parameters
pub params_entries : (P : Checked) (F : List ℕ) (h : ℕ) → is_head (node P h) ≡ true
    → map (λ q. number_by F q.row q.part) (entries P h) ≡ map (λ x. number_by F x 0) (params_at (rows P) h)
params_entries P F h e =
    let f : Entry → ℕ = λ q. number_by F q.row q.part in
    ap (λ n. map f (entries_by P h n)) (head_of (node P h) e) ∙ go (params_at (rows P) h)
  where
    go : (xs : List ℕ) → map (λ q. number_by F q.row q.part) (map param_entry xs) ≡ map (λ x. number_by F x 0) xs
    go [] = refl
    go (x ∷ xs) = ap (λ l. number_by F x 0 ∷ l) (go xs)
