-- The entries that `send`s name, and the replies of `fetch`es, have numbers that an instruction can have.
use Rattle.std.proofs.Common.{◌≡◌, ◌⊎◌, inl, inr, ℕ, zero, suc, ◌+◌, ◌<◌, ◌≤◌, Bool, true, false, cond, eqb, List, []}
use Rattle.std.proofs.Common.{◌∷◌, ◌++◌, length, map, get_or}
use Rattle.std.proofs.Common.{refl, ap, sym, subst, ◌∙◌, arith, Some, eq-eqb, length-append}
use Rattle.std.specs.Prelude.{All, slice_get}
use Rattle.std.proofs.Math.ListN.{get_or-eq_default}
use Rattle.std.proofs.lemmas.Bool.{cases_lt, eqb-true, false≢true}
use Rattle.std.proofs.lemmas.List.{map-append}
use Rattle.std.proofs.lemmas.Option.{slice_get-get_or}
use Rattle.id_value.specs.List.{Among}
use Rattle.id_table.specs.declared.row.Row.{Row}
use Rattle.id_table.specs.declared.row.Node.{Node}
use Rattle.id_table.specs.declared.row.Node.TheVariants.{Head, Param, Literal, Name, Unary, Binary, Split, If, Enter}
use Rattle.id_table.specs.declared.row.Node.TheVariants.{Arg, Call}
use Rattle.id_table.specs.declared.row.Node.TheVariants.{Block, Binding, Def, Program, Start, LoopHead, Variable}
use Rattle.id_table.specs.declared.row.Node.TheVariants.{Entries, Switches}
use Rattle.id_table.specs.declared.row.Node.TheVariants.{Turn, NextUse, Next, Body, Reset, Loop, Array, Fetch, Address}
use Rattle.id_table.specs.declared.row.Node.TheVariants.{Store}
use Rattle.id_table.specs.declared.row.Node.TheVariants.{Bounds, Carried, Within, Count, Index, Span}
use Rattle.id_table.specs.Rows.{no_row}
use Rattle.id_table.specs.Tables.{is_param}
use Rattle.id_check.specs.declared.checked.Checked.{Checked}
use Rattle.id_check.specs.Programs.{place, rows}
use Rattle.id_desugar.specs.Regions.{carried, first_variable, has_index, imports_of, nexts_of}
use Rattle.id_instr.specs.declared.instr.Op.{Op}
use Rattle.id_instr.specs.declared.instr.PortKind.{PortKind}
use Rattle.id_instr.specs.declared.instr.Op.TheVariants.{Merge, Switch, Next as NextOp}
use Rattle.id_build.specs.declared.arc.Form.{Form}
use Rattle.id_build.specs.declared.arc.Form.TheVariants.{Plain, EnterAt, SendTo, FetchAt}
use Rattle.id_build.specs.declared.arc.Piece.{Piece}
use Rattle.id_build.specs.Made.{AreFirsts, EntriesFit, Fits, first_in, number_by, pieces_in}
use Rattle.id_build.specs.Rows.{block, called, entries_row, for_each, import_entries, made, made_of, node, param_at}
use Rattle.id_build.specs.Rows.{param_entry, send_to, variable_entries}
use Rattle.id_build.proofs.LoopsLemmas.{entries_node, entries_stand, entries_within, start_head}
use Rattle.id_build.proofs.OrderLemmas.{IsOrder}
use Rattle.id_build.proofs.SizeLemmas.{length-entries}

-- where the form is a `send`, its entry is a part of a row, or just behind, and so is the reply of a `fetch`
abbrev Sent : Checked → Form → Type 0
Sent P (SendTo k n j) = (n < length (rows P)) × (j ≤ length (made P n))
Sent P (FetchAt nested n) = (n < length (rows P)) × (2 ≤ length (made P n))
Sent P _ = Unit {0}

-- each of the pieces is so
abbrev Each : Checked → List Piece → Type 0
Each P [] = Unit {0}
Each P (p ∷ ps) = Sent P p.form × Each P ps

each_at : (P : Checked) (ps : List Piece) (k : ℕ) (p : Piece) → Each P ps → slice_get ps k ≡ Some p → Sent P p.form
each_at P [] k p h e = cc
each_at P (q ∷ ps) zero p h e = let is : q ≡ p = cc in subst (λ (z : Piece). Sent P z.form) is h.0
each_at P (q ∷ ps) (suc k) p h e = each_at P ps k p h.1 e

each_both : (P : Checked) (ps qs : List Piece) → Each P ps → Each P qs → Each P (ps ++ qs)
each_both P [] qs h g = g
each_both P (p ∷ ps) qs h g = (h.0, each_both P ps qs h.1 g)

each_plain : (P : Checked) (op : PortKind → Op) (e : ℕ) (bs : List ℕ) → Each P (for_each P op e bs)
each_plain P op e [] = tt
each_plain P op e (b ∷ bs) = (tt, each_plain P op e bs)

each_variable : (P : Checked) (e v : ℕ) (ms : List ℕ) → v + length ms ≤ length (rows P)
    → Each P (map (send_to P e) (variable_entries v ms))
each_variable P e v [] l = tt
each_variable P e v (m ∷ ms) l = ((omega (arith, l), omega arith), each_variable P e (v + 1) ms (omega (arith, l)))

each_import : (P : Checked) (e n k : ℕ) (bs : List ℕ) → n < length (rows P) → k + length bs ≤ length (made P n) →
    Each P (map (send_to P e) (import_entries n k bs))
each_import P e n k [] w l = tt
each_import P e n k (b ∷ bs) w l = ((w, omega (arith, l)), each_import P e n (k + 1) bs w (omega (arith, l)))

each_carried : (P : Checked) (e h : ℕ) → h + 3 < length (rows P) ⊎ (has_index P h ≡ false)
    → Each P (map (send_to P e) (map param_entry (carried P h)))
each_carried P e h (inr none) =
    subst (λ t. Each P (map (send_to P e) (map param_entry (cond t ((h + 1) ∷ (h + 2) ∷ (h + 3) ∷ []) [])))) (sym none)
    tt
each_carried P e h (inl low) = go (has_index P h)
  where
    go : (t : Bool) → Each P (map (send_to P e) (map param_entry (cond t ((h + 1) ∷ (h + 2) ∷ (h + 3) ∷ []) [])))
    go true = (
      (omega (arith, low), omega arith),
      (((omega (arith, low), omega arith), (((omega (arith, low), omega arith), tt)))),
    )
    go false = tt

-- as many entries stand there as a loop has imports
entries_count : (P : Checked) (h s : ℕ) → h < length (rows P) → node P h ≡ LoopHead s
    → length (made P (entries_row P h)) ≡ length (imports_of P h)
entries_count P h s l e =
    let n = entries_row P h in
    let own = (entries_stand P h s l e n (omega arith) (omega arith)).0 in
    ap (λ m. length (made_of P n (place P n) m)) (entries_node P h s l e) ∙ length-entries P n (place P n)
    ∙ ap (λ g. length (imports_of P g)) own

param_inside : (P : Checked) (b : ℕ) → 0 < length (rows P) → param_at P b < length (rows P)
param_inside P b some = go (is_param (node P b)) refl
  where
    go : (t : Bool) → is_param (node P b) ≡ t → cond t b 0 < length (rows P)
    go false e = some
    go true e = elim (cases_lt b (length (rows P))) [
      | inl l ↦ l
      | inr l ↦ absurd (false≢true (sym (ap (λ (r : Row). is_param r.node) (get_or-eq_default (rows P) no_row l)) ∙ e))
    ]

each_made : (P : Checked) (n e : ℕ) (x : Node) → n < length (rows P) → node P n ≡ x → Each P (made_of P n e x)
each_made P n e Head l is = (tt, (tt, tt))
each_made P n e (Param x k) l is = (tt, tt)
each_made P n e (Literal v) l is = (tt, tt)
each_made P n e (Name x) l is = tt
each_made P n e (Unary o a) l is = (tt, tt)
each_made P n e (Binary o a b) l is = (tt, tt)
each_made P n e (Split t) l is = (tt, each_plain P (λ k. Switch k) e (imports_of P n))
each_made P n e (If s x y) l is = (tt, tt)
each_made P n e (Enter x) l is = (tt, tt)
each_made P n e (Arg s i v) l is = ((param_inside P (called P s + 1 + i) (omega (arith, l)), omega arith), tt)
each_made P n e (Call s c) l is = (tt, tt)
each_made P n e (Block b) l is = tt
each_made P n e (Binding x a) l is = (tt, tt)
each_made P n e (Def x h k b) l is = tt
each_made P n e Program l is = (tt, tt)
each_made P n e Start l is =
    let z = start_head P n l is in
    let h = n + 1 in
    let w = entries_within P h n z.0 z.1 in
    let count = entries_count P h n z.0 z.1 in
    let v = first_variable P h in
    let zeroth : List Piece = map (send_to P e) (map param_entry (carried P h)) in
    let first : List Piece = map (send_to P e) (variable_entries v (nexts_of P h)) in
    let last : List Piece = map (send_to P e) (import_entries (entries_row P h) 0 (imports_of P h)) in
    let both = each_both P first last (each_variable P e v (nexts_of P h) (omega (arith, w)))
    (each_import P e (entries_row P h) 0 (imports_of P h) w (omega (arith, count))) in
    let behind =
    subst (Each P)
    (sym (map-append (send_to P e) (variable_entries v (nexts_of P h))
    (import_entries (entries_row P h) 0 (imports_of P h)))) both in (
      tt,
      subst (Each P) (sym (map-append (send_to P e) (map param_entry (carried P h))
          (variable_entries v (nexts_of P h) ++ import_entries (entries_row P h) 0 (imports_of P h))))
          (each_both P zeroth _ (each_carried P e h (low_or (has_index P h) refl w)) behind),
    )
  where
    low_or : (t : Bool) → has_index P (n + 1) ≡ t → entries_row P (n + 1) < length (rows P)
        → (n + 1 + 3 < length (rows P)) ⊎ (has_index P (n + 1) ≡ false)
    low_or false e w = inr e
    low_or true e w =
        let many = ap (λ (t : Bool). length (cond t ((n + 1 + 1) ∷ (n + 1 + 2) ∷ (n + 1 + 3) ∷ []) [])) e in
        inl (omega (arith, w, many))
each_made P n e (Bounds a b) l is = (tt, (tt, tt))
each_made P n e (Carried k) l is = (tt, tt)
each_made P n e (Within f) l is = tt
each_made P n e Count l is = (tt, (tt, (tt, (tt, (tt, tt)))))
each_made P n e (Index x) l is = tt
each_made P n e Span l is = tt
each_made P n e (LoopHead s) l is = (tt, (tt, tt))
each_made P n e Variable l is = (tt, tt)
each_made P n e Entries l is = each_plain P (λ k. Merge k) e (imports_of P (block P n))
each_made P n e (Switches t) l is = (tt, each_plain P (λ k. Switch k) e (imports_of P n))
each_made P n e Turn l is = (tt, each_plain P (λ k. NextOp k) e (carried P (block P n) ++ imports_of P (block P n)))
each_made P n e (NextUse x) l is = tt
each_made P n e (Next x k o v) l is = (tt, tt)
each_made P n e Body l is = tt
each_made P n e (Reset v) l is = (tt, tt)
each_made P n e (Loop h w v) l is = (tt, tt)
each_made P n e (Array nested a b) l is = (tt, tt)
each_made P n e (Fetch a b) l is = (tt, ((l, omega (arith, ap (λ x. length (made_of P n (place P n) x)) is)), (tt, tt)))
each_made P n e (Address a b) l is = (tt, tt)
each_made P n e (Store a v) l is = (tt, tt)

-- past the end of the table stands what passes for a head, which names no row
each_row : (P : Checked) (n : ℕ) → Each P (made P n)
each_row P n = elim (cases_lt n (length (rows P))) [
  | inl l ↦ each_made P n (place P n) (node P n) l refl
  | inr l ↦
      let head : node P n ≡ Head = ap (λ (r : Row). r.node) (get_or-eq_default (rows P) no_row l) in
      subst (λ x. Each P (made_of P n (place P n) x)) (sym head) (tt, (tt, tt))
]

-- what stands just behind the instructions of a row has no greater number than there are
first_in-most : (P : Checked) (order : List ℕ) (m n : ℕ) → Among n order
    → first_in P m order n + length (made P n) ≤ m + length (pieces_in P order)
first_in-most P [] m n h = absurd h
first_in-most P (x ∷ xs) m n h = go (eqb x n) refl h (λ k. first_in-most P xs (m + length (made P x)) n k)
  where
    go : (t : Bool) → eqb x n ≡ t → Among n (x ∷ xs)
        → (Among n xs
        → first_in P (m + length (made P x)) xs n + length (made P n) ≤ m + length (made P x) + length (pieces_in P xs))
        → cond t m (first_in P (m + length (made P x)) xs n) + length (made P n) ≤ m + length (pieces_in P (x ∷ xs))
    go true e h rest =
        let same = ap (λ k. length (made P k)) (eqb-true x n e) in
        omega (arith, same, length-append (made P x) (pieces_in P xs))
    go false e (inl i) rest = absurd (false≢true (sym e ∙ eq-eqb x n (sym i)))
    go false e (inr k) rest = omega (arith, rest k, length-append (made P x) (pieces_in P xs))

module _ (P : Checked) (order F : List ℕ) (o : IsOrder P order) (fs : AreFirsts P order F)
    (few : length (pieces_in P order) ≤ 1000000) where
  number_fits : (n j : ℕ) → n < length (rows P) → j ≤ length (made P n) → number_by F n j ≤ 1000000
  number_fits n j l m =
      let here = fs.at n l in
      let most = first_in-most P order 0 n (o.covers n l) in
      omega (arith, here, most, m, few)

  sent_fits : (f : Form) → Sent P f → Fits F f
  sent_fits (SendTo k n j) s = let z = number_fits n j s.0 s.1 in omega (arith, z)
  sent_fits (FetchAt nested n) s = let z = number_fits n 2 s.0 s.1 in omega (arith, z)
  sent_fits (Plain p) s = tt
  sent_fits (EnterAt h c) s = tt

  -- each `send` of a row names an entry so, and each `fetch` its reply
  pub row_fits : (n : ℕ) → All (λ (p : Piece). Fits F p.form) (made P n)
  row_fits n k d l =
      let p = get_or (made P n) k d in
      let makes = slice_get-get_or (made P n) k d l in
      sent_fits p.form (each_at P (made P n) k p (each_row P n) makes)

  -- and so does each block
  pub entries_fit : EntriesFit P F
  entries_fit h s l e =
      let count = entries_count P h s l e in
      let z = number_fits (entries_row P h) (length (imports_of P h)) (entries_within P h s l e)
      (omega (arith, count)) in
      omega (arith, z)
