-- Lemmas on specs/OneProgram.antt: programs alike have the same instructions and arcs, and so the same graphs.
use Rattle.std.proofs.Common.{◌≡◌, ◌+◌, ◌-◌, ◌<◌, ◌≤◌, ◌⊎◌, inl, inr, ℕ, zero, suc, Bool, true, false, List, [], ◌∷◌}
use Rattle.std.proofs.Common.{◌++◌, length, map, Option, Some, None}
use Rattle.std.proofs.Common.{refl, sym, ap, subst, ◌∙◌, arith}
use Rattle.std.specs.Prelude.{◌&&◌, if◌then◌else◌, max, nat_eq, slice_get, unwrap_or}
use Rattle.std.proofs.lemmas.Bool.{cases_lt, false≢true}
use Rattle.id_value.specs.List.{Among}
use Rattle.id_value.specs.declared.Kind.TheVariants as kind
use Rattle.id_value.specs.Kinds.{is_array}
use Rattle.id_value.proofs.AmongLemmas.{Among-either}
use Rattle.id_table.specs.declared.row.Region.{Region}
use Rattle.id_table.specs.declared.row.Row.{Row}
use Rattle.id_table.specs.declared.row.Node.{Node}
use Rattle.id_table.specs.declared.row.Node.TheVariants.{Head, Param, Name, Unary, Binary, Split, If, Enter, Arg, Call}
use Rattle.id_table.specs.declared.row.Node.TheVariants.{Binding, Program}
use Rattle.id_table.specs.declared.row.Node.TheVariants.{Start, LoopHead, Variable, Entries, Switches, Turn, NextUse}
use Rattle.id_table.specs.declared.row.Node.TheVariants.{Next, Reset, Loop}
use Rattle.id_table.specs.declared.row.Node.TheVariants.{Bounds, Carried, Count, Array, Fetch, Address, Store}
use Rattle.id_table.specs.Loops.{IsTurn, right, behind_count}
use Rattle.id_table.specs.Rows.{at, no_row}
use Rattle.id_table.specs.Tables.{is_carried, is_param, is_switches, is_variable}
use Rattle.id_table.specs.Turns.{heads_of, params_at}
use Rattle.id_check.specs.Scopes.{first_of}
use Rattle.id_check.proofs.LinksLemmas.{part_of}
use Rattle.id_check.proofs.ScopesLemmas.{first_of-some}
use Rattle.id_check.specs.declared.checked.Checked.{Checked}
use Rattle.id_check.specs.Programs.{binder, place, region, rows}
use Rattle.id_check.proofs.ProgramsLemmas.{binder_below, table_of}
use Rattle.id_desugar.specs.Ends.{end_of, ends_what, is_row, next_at, next_of, next_row, variable_of}
use Rattle.id_desugar.specs.Regions.{bound_of, carried, first_variable, handed, has_index, imports, imports_by}
use Rattle.id_desugar.specs.Regions.{imports_of, is_loop_head, is_right_in}
use Rattle.id_desugar.specs.Regions.{loop_heads, loop_heads_by, nexts_from, nexts_of, only, reach, taken, used, used_by}
use Rattle.id_desugar.specs.Regions.{with_use, has, is_outside}
use Rattle.id_desugar.proofs.EndsLemmas.{end_within}
use Rattle.id_desugar.proofs.NotesLemmas.{used_node}
use Rattle.id_instr.specs.Graph.{Parts}
use Rattle.id_instr.specs.declared.dests.Port.{Port}
use Rattle.id_instr.specs.declared.instr.Op.{Op}
use Rattle.id_instr.specs.declared.instr.Op.TheVariants as op
use Rattle.id_instr.specs.declared.instr.PortKind.TheVariants as port
use Rattle.id_instr.specs.declared.dests.Port.TheVariants.{Zero, One}
use Rattle.id_instr.specs.declared.instr.PortKind.{PortKind}
use Rattle.id_build.specs.declared.arc.Feed.{Feed}
use Rattle.id_build.specs.declared.arc.Form.{Form}
use Rattle.id_build.specs.declared.arc.Form.TheVariants.{Plain, EnterAt, SendTo, FetchAt}
use Rattle.id_build.specs.declared.arc.Origin.{Origin}
use Rattle.id_build.specs.declared.arc.Piece.{Piece}
use Rattle.id_build.specs.Rows as pieces
use Rattle.id_build.specs.Schemas.{Feeds, Makes, Numbered, Schemas, all_heads, block_of}
use Rattle.id_build.proofs.EndsLemmas.{tested}
use Rattle.id_promises.specs.OneProgram.{AreAlike}

-- ---- rows that are there

-- there is none behind the last
pub beyond : (X : List Row) (i : ℕ) → length X ≤ i → at X i ≡ no_row
beyond [] i l = refl
beyond (x ∷ X) zero l = absurd (omega arith)
beyond (x ∷ X) (suc i) l = beyond X i (omega arith)

-- a row of another node than what stands behind the last is there
there : (X : List Row) (i : ℕ) (z : Node) → (at X i).node ≡ z → (Head ≡ z → ⊥) → i < length X
there X i z s other = by (cases_lt i (length X))
  where
    by : (i < length X) ⊎ (length X ≤ i) → i < length X
    by (inl l) = l
    by (inr m) = absurd (other (sym (ap (λ (r : Row). r.node) (beyond X i m)) ∙ s))

-- ---- what is imported stands among the rows

with_among : (lo hi : ℕ) (bs : List ℕ) (o : Option ℕ) (b : ℕ) → Among b (with_use lo hi bs o)
    → Among b bs ⊎ (o ≡ Some b)
with_among lo hi bs None b h = inl h
with_among lo hi bs (Some c) b h = by (is_outside lo hi c) (has bs c) h
  where
    by : (t u : Bool) → Among b (if t then (if u then bs else bs ++ c ∷ []) else bs) → Among b bs ⊎ (Some c ≡ Some b)
    by true true i = inl i
    by true false i =
        elim (Among-either b bs (c ∷ []) i)
        [ inl j ↦ inl j | inr (inl e) ↦ inr (ap (λ z. Some z) (sym e)) | inr (inr x) ↦ absurd x ]
    by false u i = inl i

imports_among : (f : ℕ → Option ℕ) (lo hi k b : ℕ) → Among b (imports_by f lo hi k) → (i : ℕ) × (f i ≡ Some b)
imports_among f lo hi zero b h = absurd h
imports_among f lo hi (suc k) b h = elim (with_among lo hi (imports_by f lo hi k) (f (lo + k)) b h) [
  | inl i ↦ imports_among f lo hi k b i
  | inr e ↦ (lo + k, e)
]

-- ---- functions of the rows alone

module _ (P Q : Checked) (a : AreAlike P Q) where
  some_row : 0 < length (rows P)
  some_row = (table_of P).some

  pub node_same : (n : ℕ) → pieces.node P n ≡ pieces.node Q n
  node_same n = ap (λ (X : List Row). (at X n).node) a.rows

  pub place_same : (n : ℕ) → place P n ≡ place Q n
  place_same n = ap (λ (X : List Row). (at X n).place) a.rows

  region_same : (n : ℕ) → region P n ≡ region Q n
  region_same n = ap (λ (X : List Row). (at X n).region) a.rows

  block_same : (n : ℕ) → pieces.block P n ≡ pieces.block Q n
  block_same n = ap (λ (X : List Row). (at X n).block) a.rows

  pub end_same : (h : ℕ) → end_of P h ≡ end_of Q h
  end_same h =
      ap (λ (X : List Row). unwrap_or (first_of (λ n. if ends_what h (at X n).node then Some n else None) (length X)) 0)
      a.rows

  next_same : (v : ℕ) → next_of P v ≡ next_of Q v
  next_same v =
      ap (λ (X : List Row). unwrap_or (first_of (λ n. if is_row v (variable_of (at X n).block (at X n).node) then Some n
      else None) (length X)) 0) a.rows

  nexts_from_same : (v n : ℕ) → nexts_from P v n ≡ nexts_from Q v n
  nexts_from_same v zero = refl
  nexts_from_same v (suc n) =
      let first = next_same v in
      let rest = nexts_from_same (suc v) n in
      λ i. if is_variable (at (a.rows i) v).node then first i ∷ rest i else []

  has_index_same : (h : ℕ) → has_index P h ≡ has_index Q h
  has_index_same h = ap (λ (X : List Row). is_carried (at X (h + 1)).node) a.rows

  carried_same : (h : ℕ) → carried P h ≡ carried Q h
  carried_same h = λ i. if has_index_same h i then ((h + 1) ∷ (h + 2) ∷ (h + 3) ∷ []) else []

  bound_same : (h : ℕ) → bound_of P h ≡ bound_of Q h
  bound_same h = λ i. if has_index_same h i then ((h + 2) ∷ []) else []

  first_same : (h : ℕ) → first_variable P h ≡ first_variable Q h
  first_same h = λ i. h + 1 + length (carried_same h i)

  nexts_same : (h : ℕ) → nexts_of P h ≡ nexts_of Q h
  nexts_same h =
      nexts_from_same (first_variable P h) (length (rows P)) ∙ (λ i. nexts_from Q (first_same h i) (length (a.rows i)))

  right_same : (g i : ℕ) → is_right_in P g i ≡ is_right_in Q g i
  right_same g i =
      ap (λ (X : List Row). is_switches (at X (at X i).region.head).node && nat_eq (at X (at X i).region.head).block g)
      a.rows

  used_same : (g i : ℕ) → used P g i ≡ used Q g i
  used_same g i = by (cases_lt i (length (rows P)))
    where
      none : (X : List Row) (own : Bool) (o : Option ℕ) → length X ≤ i → used_by own o (at X i).node ≡ None
      none X own o m = ap (λ (r : Row). used_by own o r.node) (beyond X i m)

      by : (i < length (rows P)) ⊎ (length (rows P) ≤ i) → used P g i ≡ used Q g i
      by (inl l) = let bound = a.binders i l in λ j. used_by (right_same g i j) (bound j) (at (a.rows j) i).node
      by (inr m) = none (rows P) (is_right_in P g i) (binder P i) m
          ∙ sym (none (rows Q) (is_right_in Q g i) (binder Q i) (subst (λ (X : List Row). length X ≤ i) a.rows m))

  taken_same : (h : ℕ) → taken P h ≡ taken Q h
  taken_same h = λ j. imports (λ i. used_same h i j) (h + 1) (end_same h j)

  handed_same : (h : ℕ) (z : Node) → handed P h z ≡ handed Q h z
  handed_same h (Split t) = taken_same h
  handed_same h (LoopHead s) = taken_same h
  handed_same h (Switches t) =
      (λ j. bound_same (pieces.block P h) j ++ (nexts_same (pieces.block P h) j ++ taken_same (pieces.block P h) j))
      ∙ ap (λ g. bound_of Q g ++ (nexts_of Q g ++ taken Q g)) (block_same h)
  handed_same h _ = refl

  imports_same : (h : ℕ) → imports_of P h ≡ imports_of Q h
  imports_same h = handed_same h (pieces.node P h) ∙ ap (handed Q h) (node_same h)

  reach_same : (n : ℕ) → reach P n ≡ reach Q n
  reach_same zero = refl
  reach_same (suc n) =
      let rest = reach_same n in
      λ j. if is_loop_head (at (a.rows j) n).node then max (rest j) (suc (at (a.rows j) n).place) else rest j

  loop_heads_by_same : (p : ℕ) → loop_heads_by P p ≡ loop_heads_by Q p
  loop_heads_by_same zero = refl
  loop_heads_by_same (suc p) =
      let rest = loop_heads_by_same p in
      λ j. rest j
      ++ only (first_of (λ n. if is_loop_head (at (a.rows j) n).node && nat_eq (at (a.rows j) n).place p then Some n
      else None) (length (a.rows j)))

  pub loop_heads_same : loop_heads P ≡ loop_heads Q
  loop_heads_same = loop_heads_by_same (reach P (length (rows P)))
      ∙ ap (loop_heads_by Q) (reach_same (length (rows P)) ∙ ap (λ (X : List Row). reach Q (length X)) a.rows)

  pub all_heads_same : all_heads P ≡ all_heads Q
  all_heads_same = λ j. heads_of (a.rows j) ++ loop_heads_same j

  -- ---- where rows are

  used_within : (g i b : ℕ) → used P g i ≡ Some b → b < length (rows P)
  used_within g i b e =
      let w = used_node (is_right_in P g i) (binder P i) (pieces.node P i) b e in
      binder_below P i b (by w.1) w.0
    where
      by : ((x : ℕ) × (pieces.node P i ≡ Name x))
          ⊎ ((x : ℕ) × (pieces.node P i ≡ NextUse x) × (is_right_in P g i ≡ false)) → i < length (rows P)
      by (inl w) = there (rows P) i (Name w.0) w.1 (λ d. cc)
      by (inr w) = there (rows P) i (NextUse w.0) w.1 (λ d. cc)

  taken_within : (h b : ℕ) → Among b (taken P h) → b < length (rows P)
  taken_within h b m =
      let w = imports_among (used P h) (h + 1) (end_of P h) (end_of P h - (h + 1)) b m in used_within h w.0 b w.1

  next_within : (v : ℕ) → next_of P v < length (rows P)
  next_within v = by (next_row P v) refl
    where
      by : (o : Option ℕ) → next_row P v ≡ o → unwrap_or o 0 < length (rows P)
      by None e = some_row
      by (Some m) e =
          let w = first_of-some (next_at P v) (length (rows P)) m e in
          let t = tested (is_row v (variable_of (at (rows P) w.0).block (at (rows P) w.0).node)) w.0 m w.2 in
          let low : w.0 < length (rows P) = w.1 in
          let same : w.0 ≡ m = t.1 in
          omega (arith, low, same)

  nexts_within : (v n b : ℕ) → Among b (nexts_from P v n) → b < length (rows P)
  nexts_within v zero b m = absurd m
  nexts_within v (suc n) b m = by (is_variable (at (rows P) v).node) m (nexts_within (suc v) n b)
    where
      by : (t : Bool) → Among b (if t then next_of P v ∷ nexts_from P (suc v) n else [])
          → (Among b (nexts_from P (suc v) n) → b < length (rows P))
          → b < length (rows P)
      by false m r = absurd m
      by true (inl e) r = subst (λ x. x < length (rows P)) (sym e) (next_within v)
      by true (inr m) r = r m

  -- an index has its upper bound and its flag behind it
  index_within : (h : ℕ) → has_index P h ≡ true → h + 3 < length (rows P)
  index_within h e =
      let l = low (at (rows P) (h + 1)).node refl e in
      let w = (table_of P).carried_of (h + 1) l e in
      let c = (table_of P).loop_is w.0 (at (rows P) (h + 1)).block w.1 in
      let long : c.carried ≡ 3 = w.2 in
      let few : h + 1 ≤ (at (rows P) (h + 1)).block + 3 = w.3 in
      let within : w.0 < length (rows P) = (w.1).within in
      let turn = after (c.body_is).turns long in
      omega (
        arith,
        long,
        few,
        within,
        (c.before_test).low,
        (c.test).low,
        (c.test).behind,
        turn,
        (c.body_is).low,
        (c.last_is).low,
        (c.last_is).ends,
      )
    where
      low : (z : Node) → (at (rows P) (h + 1)).node ≡ z → is_carried z ≡ true → h + 1 < length (rows P)
      low (Carried k) s f = there (rows P) (h + 1) (Carried k) s (λ d. cc)
      low _ s f = absurd (false≢true f)

      after : {w t c : ℕ} → IsTurn (rows P) w t c → c ≡ 3 → w + 2 ≤ t
      after (right q) f = absurd (omega (arith, f))
      after (behind_count q x y) f = omega (arith, q)

  carried_within : (h b : ℕ) → Among b (carried P h) → b < length (rows P)
  carried_within h b m = by (has_index P h) refl m
    where
      by : (t : Bool) → has_index P h ≡ t → Among b (if t then ((h + 1) ∷ (h + 2) ∷ (h + 3) ∷ []) else [])
          → b < length (rows P)
      by false e m = absurd m
      by true e (inl q) = let low = index_within h e in omega (arith, low, q)
      by true e (inr (inl q)) = let low = index_within h e in omega (arith, low, q)
      by true e (inr (inr (inl q))) = let low = index_within h e in omega (arith, low, q)
      by true e (inr (inr (inr q))) = absurd q

  bound_within : (h b : ℕ) → Among b (bound_of P h) → b < length (rows P)
  bound_within h b m = by (has_index P h) refl m
    where
      by : (t : Bool) → has_index P h ≡ t → Among b (if t then ((h + 2) ∷ []) else []) → b < length (rows P)
      by false e m = absurd m
      by true e (inl q) = let low = index_within h e in omega (arith, low, q)
      by true e (inr q) = absurd q

  imports_within : (h b : ℕ) → Among b (imports_of P h) → b < length (rows P)
  imports_within h b m = by (pieces.node P h) m
    where
      by : (z : Node) → Among b (handed P h z) → b < length (rows P)
      by (Split t) m = taken_within h b m
      by (LoopHead s) m = taken_within h b m
      by (Switches t) m =
          let g = pieces.block P h in
          elim (Among-either b (bound_of P g) (nexts_of P g ++ taken P g) m) [
            | inl i ↦ bound_within g b i
            | inr i ↦ elim (Among-either b (nexts_of P g) (taken P g) i) [
              | inl j ↦ nexts_within (first_variable P g) (length (rows P)) b j
              | inr j ↦ taken_within g b j
            ]
          ]
      by _ m = absurd m

  end_low : (h : ℕ) → h < length (rows P) → end_of P h < length (rows P)
  end_low h l = end_within P h l

  -- ---- what rows make

  port_same : (n : ℕ) → n < length (rows P) → pieces.port_at P n ≡ pieces.port_at Q n
  port_same n l = ap (λ o. pieces.port_of (unwrap_or o kind.Int)) (a.kinds n l)

  holds_same : (n : ℕ) → n < length (rows P) → pieces.holds_array P n ≡ pieces.holds_array Q n
  holds_same n l = ap (λ o. is_array (unwrap_or o kind.Int)) (a.kinds n l)

  -- the port of a row that is another in the other's numbers
  port_there : (m n : ℕ) → m < length (rows P) → m ≡ n → pieces.port_at P m ≡ pieces.port_at Q n
  port_there m n l e = port_same m l ∙ ap (pieces.port_at Q) e

  called_same : (e : ℕ) → e < length (rows P) → pieces.called P e ≡ pieces.called Q e
  called_same e l = let bound = a.binders e l in λ j. pieces.head_of (at (a.rows j) (unwrap_or (bound j) 0)).node

  param_same : (e i : ℕ) → e < length (rows P) → pieces.param_of P e i ≡ pieces.param_of Q e i
  param_same e i l =
      let c = called_same e l in λ j. if is_param (at (a.rows j) (c j + 1 + i)).node then c j + 1 + i else 0

  param_within : (b : ℕ) → pieces.param_at P b < length (rows P)
  param_within b = by (pieces.node P b) refl
    where
      by : (z : Node) → pieces.node P b ≡ z → (if is_param z then b else 0) < length (rows P)
      by (Param x k) s = there (rows P) b (Param x k) s (λ d. cc)
      by _ s = some_row

  entries_row_same : (h : ℕ) → pieces.entries_row P h ≡ pieces.entries_row Q h
  entries_row_same h = λ j. first_same h j + length (nexts_same h j)

  loop_entries_same : (h : ℕ) → pieces.loop_entries P h ≡ pieces.loop_entries Q h
  loop_entries_same h = λ j. map pieces.param_entry (carried_same h j)
      ++ (pieces.variable_entries (first_same h j) (nexts_same h j)
      ++ pieces.import_entries (entries_row_same h j) 0 (imports_same h j))

  entries_by_same : (h : ℕ) (z : Node) → pieces.entries_by P h z ≡ pieces.entries_by Q h z
  entries_by_same h (LoopHead s) = loop_entries_same h
  entries_by_same h _ = λ j. map pieces.param_entry (params_at (a.rows j) h)

  entries_same : (h : ℕ) → pieces.entries P h ≡ pieces.entries Q h
  entries_same h = entries_by_same h (pieces.node P h) ∙ ap (pieces.entries_by Q h) (node_same h)

  -- the binders of entries are rows

  of_params : (bs : List ℕ) → ((b : ℕ) → Among b bs → b < length (rows P)) → (q : pieces.Entry)
      → Among q (map pieces.param_entry bs) → q.binder < length (rows P)
  of_params [] h q m = absurd m
  of_params (b ∷ bs) h q (inl e) = subst (λ (x : pieces.Entry). x.binder < length (rows P)) (sym e) (h b (inl refl))
  of_params (b ∷ bs) h q (inr m) = of_params bs (λ c k. h c (inr k)) q m

  of_variables : (v : ℕ) (bs : List ℕ) → ((b : ℕ) → Among b bs → b < length (rows P)) → (q : pieces.Entry)
      → Among q (pieces.variable_entries v bs) → q.binder < length (rows P)
  of_variables v [] h q m = absurd m
  of_variables v (b ∷ bs) h q (inl e) =
      subst (λ (x : pieces.Entry). x.binder < length (rows P)) (sym e) (h b (inl refl))
  of_variables v (b ∷ bs) h q (inr m) = of_variables (v + 1) bs (λ c k. h c (inr k)) q m

  of_imports : (e k : ℕ) (bs : List ℕ) → ((b : ℕ) → Among b bs → b < length (rows P)) → (q : pieces.Entry)
      → Among q (pieces.import_entries e k bs) → q.binder < length (rows P)
  of_imports e k [] h q m = absurd m
  of_imports e k (b ∷ bs) h q (inl i) =
      subst (λ (x : pieces.Entry). x.binder < length (rows P)) (sym i) (h b (inl refl))
  of_imports e k (b ∷ bs) h q (inr m) = of_imports e (k + 1) bs (λ c l. h c (inr l)) q m

  entry_within : (h : ℕ) (q : pieces.Entry) → Among q (pieces.loop_entries P h) → q.binder < length (rows P)
  entry_within h q m =
      let one = map pieces.param_entry (carried P h) in
      let two = pieces.variable_entries (first_variable P h) (nexts_of P h) in
      let three = pieces.import_entries (pieces.entries_row P h) 0 (imports_of P h) in
      elim (Among-either q one (two ++ three) m) [
        | inl i ↦ of_params (carried P h) (carried_within h) q i
        | inr i ↦ elim (Among-either q two three i) [
          | inl j ↦ of_variables (first_variable P h) (nexts_of P h)
              (nexts_within (first_variable P h) (length (rows P))) q j
          | inr j ↦ of_imports (pieces.entries_row P h) 0 (imports_of P h) (imports_within h) q j
        ]
      ]

  sends_same : (p : ℕ) (qs : List pieces.Entry) → ((q : pieces.Entry) → Among q qs → q.binder < length (rows P))
      → map (pieces.send_to P p) qs ≡ map (pieces.send_to Q p) qs
  sends_same p [] h = refl
  sends_same p (q ∷ qs) h =
      let first = port_same q.binder (h q (inl refl)) in
      let rest = sends_same p qs (λ x k. h x (inr k)) in
      λ j. pieces.piece (SendTo (first j) q.row q.part) p ∷ rest j

  for_each_same : (f : PortKind → Op) (p : ℕ) (bs : List ℕ) → ((b : ℕ) → Among b bs → b < length (rows P))
      → pieces.for_each P f p bs ≡ pieces.for_each Q f p bs
  for_each_same f p [] h = refl
  for_each_same f p (b ∷ bs) h =
      let first = port_same b (h b (inl refl)) in
      let rest = for_each_same f p bs (λ c k. h c (inr k)) in
      λ j. pieces.piece (Plain (f (first j))) p ∷ rest j

  imports_each : (f : PortKind → Op) (p n : ℕ)
      → pieces.for_each P f p (imports_of P n) ≡ pieces.for_each Q f p (imports_of Q n)
  imports_each f p n =
      for_each_same f p (imports_of P n) (imports_within n) ∙ ap (pieces.for_each Q f p) (imports_same n)

  turn_each : (f : PortKind → Op) (p h : ℕ)
      → pieces.for_each P f p (carried P h ++ imports_of P h) ≡ pieces.for_each Q f p (carried Q h ++ imports_of Q h)
  turn_each f p h =
      for_each_same f p (carried P h ++ imports_of P h) (λ b m. elim (Among-either b (carried P h) (imports_of P h) m) [
        | inl i ↦ carried_within h b i
        | inr i ↦ imports_within h b i
      ]) ∙ (λ j. pieces.for_each Q f p (carried_same h j ++ imports_same h j))

  made_of_same : (n : ℕ) → n < length (rows P) → (p : ℕ) (z : Node) → pieces.node P n ≡ z
      → pieces.made_of P n p z ≡ pieces.made_of Q n p z
  made_of_same n l p Head s = λ j. pieces.piece (Plain (op.Merge port.Signal)) p
      ∷ pieces.piece (Plain (op.Back (pieces.port_of (pieces.result_of (at (a.rows j) (end_same n j)).node)))) p ∷ []
  made_of_same n l p (Param x k) s = λ j. pieces.piece (Plain (op.Merge (port_same n l j))) p ∷ []
  made_of_same n l p (Binary o x y) s =
      let kind_of = port_same x (part_of x P.table.formed l s (inl refl)) in
      λ j. pieces.piece (Plain (op.Binary (pieces.binary_op o (kind_of j)))) p ∷ []
  made_of_same n l p (Split t) s =
      ap (λ qs. pieces.piece (Plain (op.Switch port.Signal)) p ∷ qs) (imports_each op.Switch p n)
  made_of_same n l p (If t x y) s = λ j. pieces.piece (Plain (op.Merge (port_same n l j))) p ∷ []
  made_of_same n l p (Enter x) s = let c = called_same n l in λ j. pieces.piece (EnterAt (c j) (end_same n j)) p ∷ []
  made_of_same n l p (Arg e i v) s =
      let same = param_same e i (part_of e P.table.formed l s (inl refl)) in
      let kind_of =
      port_there (pieces.param_of P e i) (pieces.param_of Q e i) (param_within (pieces.called P e + 1 + i)) same in
      λ j. pieces.piece (SendTo (kind_of j) (same j) 0) p ∷ []
  made_of_same n l p (Call e c) s = λ j. pieces.piece (Plain (op.Merge (port_same n l j))) p ∷ []
  made_of_same n l p Start s =
      let first : pieces.loop_entries P (n + 1) ≡ pieces.loop_entries Q (n + 1) = loop_entries_same (n + 1) in
      let sent =
      sends_same p (pieces.loop_entries P (n + 1)) (entry_within (n + 1)) ∙ ap (map (pieces.send_to Q p)) first in
      λ j. pieces.piece (EnterAt (n + 1) (end_same (n + 1) j)) p ∷ sent j
  made_of_same n l p (LoopHead t) s =
      let kind_of = port_there (end_of P n) (end_of Q n) (end_low n l) (end_same n) in
      λ j. pieces.piece (Plain (op.Merge port.Signal)) p ∷ pieces.piece (Plain (op.Back (kind_of j))) p ∷ []
  made_of_same n l p Variable s =
      let kind_of = port_there (next_of P n) (next_of Q n) (next_within n) (next_same n) in
      λ j. pieces.piece (Plain (op.Merge (kind_of j))) p ∷ []
  made_of_same n l p Entries s =
      imports_each op.Merge p (pieces.block P n)
      ∙ ap (λ h. pieces.for_each Q op.Merge p (imports_of Q h)) (block_same n)
  made_of_same n l p (Switches t) s =
      ap (λ qs. pieces.piece (Plain (op.Switch port.Signal)) p ∷ qs) (imports_each op.Switch p n)
  made_of_same n l p Turn s =
      ap (λ qs. pieces.piece (Plain (op.Next port.Signal)) p ∷ qs)
      (turn_each op.Next p (pieces.block P n)
      ∙ ap (λ h. pieces.for_each Q op.Next p (carried Q h ++ imports_of Q h)) (block_same n))
  made_of_same n l p (Next x k o v) s = λ j. pieces.piece (Plain (op.Next (port_same n l j))) p ∷ []
  made_of_same n l p (Reset v) s =
      let kind_of =
      port_same v (part_of v P.table.formed l s refl) in λ j. pieces.piece (Plain (op.Reset (kind_of j))) p ∷ []
  made_of_same n l p (Loop h w x) s = λ j. pieces.piece (Plain (op.Merge (port_same n l j))) p ∷ []
  made_of_same n l p (Fetch t i) s =
      let nested = holds_same n l in
      λ j. pieces.piece (Plain (op.Address (nested j))) p ∷ pieces.piece (FetchAt (nested j) n) p
      ∷ pieces.piece (Plain (op.Merge (port_same n l j))) p ∷ []
  made_of_same n l p (Address t i) s =
      let nested = holds_same n l in λ j. pieces.piece (Plain (op.Address (nested j))) p ∷ []
  made_of_same n l p (Store x v) s =
      let nested =
      holds_same x (part_of x P.table.formed l s (inl refl)) in λ j. pieces.piece (Plain (op.Store (nested j))) p ∷ []
  made_of_same n l p (Binding x v) s = λ j. pieces.piece (Plain (op.Merge (port_same n l j))) p ∷ []
  made_of_same n l p Program s =
      λ j. pieces.piece (Plain (op.Merge (pieces.port_of (pieces.result_of (at (a.rows j) (a.main j)).node))))
      (at (a.rows j) (a.main j)).place ∷ []
  made_of_same n l p _ s = refl

  pub made_same : (n : ℕ) → n < length (rows P) → pieces.made P n ≡ pieces.made Q n
  made_same n l =
      made_of_same n l (place P n) (pieces.node P n) refl ∙ (λ j. pieces.made_of Q n (place_same n j) (node_same n j))

  -- ---- what feeds them

  label_same : (b : ℕ) → pieces.label P b ≡ pieces.label Q b
  label_same b = ap (λ (X : List Row). pieces.label_by (at X b).block b (at X b).node) a.rows

  home_same : (b : ℕ) → pieces.home P b ≡ pieces.home Q b
  home_same b = ap (λ (X : List Row). pieces.home_by (at X b).block b (at X b).node) a.rows

  handed_by_same : (r : Region) (b : ℕ) (z : Node) → pieces.handed_by P r b z ≡ pieces.handed_by Q r b z
  handed_by_same r b (LoopHead s) =
      λ j. record { row = entries_row_same r.head j; part = pieces.slot_of (imports_same r.head j) b; side = true }
  handed_by_same r b _ =
      λ j. record { row = r.head; part = pieces.slot_of (imports_same r.head j) b + 1; side = r.side }

  name_in_same : (r : Region) (b : ℕ) → pieces.name_in P r b ≡ pieces.name_in Q r b
  name_in_same r b =
      let far = handed_by_same r b (pieces.node P r.head) ∙ ap (pieces.handed_by Q r b) (node_same r.head) in
      λ j. if pieces.same_region (at (a.rows j) (home_same b j)).region r then pieces.output (label_same b j) else far j

  named_in_same : (r : Region) (v : ℕ) (o : Option ℕ) → pieces.named_in P r v o ≡ pieces.named_in Q r v o
  named_in_same r v None = refl
  named_in_same r v (Some b) = name_in_same r b

  origin_of_same : (v : ℕ) (r : Region) (z : Node) → pieces.node P v ≡ z
      → pieces.origin_of P v r z ≡ pieces.origin_of Q v r z
  origin_of_same v r (Name x) s =
      named_in_same r v (binder P v) ∙ ap (pieces.named_in Q r v) (a.binders v (there (rows P) v (Name x) s (λ d. cc)))
  origin_of_same v r _ s = refl

  origin_same : (e : ℕ) → pieces.origin P e ≡ pieces.origin Q e
  origin_same e =
      let v = (at (rows P) e).value in
      origin_of_same v (region P v) (pieces.node P v) refl
      ∙ (λ j. pieces.origin_of Q v (region_same v j) (node_same v j))
      ∙ ap (λ (X : List Row). pieces.origin_of Q (at X e).value (region Q (at X e).value)
      (pieces.node Q (at X e).value)) a.rows

  import_feeds_same : (s : Origin) (r : Region) (k : ℕ) (bs : List ℕ)
      → pieces.import_feeds P s r k bs ≡ pieces.import_feeds Q s r k bs
  import_feeds_same s r k [] = refl
  import_feeds_same s r k (b ∷ bs) =
      let rest = import_feeds_same s r (k + 1) bs in
      λ j. pieces.feed s k Zero ∷ pieces.feed (name_in_same r b j) k One ∷ rest j

  turn_feeds_same : (r : Region) (k : ℕ) (bs : List ℕ) → pieces.turn_feeds P r k bs ≡ pieces.turn_feeds Q r k bs
  turn_feeds_same r k [] = refl
  turn_feeds_same r k (b ∷ bs) =
      let rest = turn_feeds_same r (k + 1) bs in λ j. pieces.feed (name_in_same r b j) k Zero ∷ rest j

  bounds_feeds_same : (n : ℕ) (z : Node) → pieces.bounds_feeds P n z ≡ pieces.bounds_feeds Q n z
  bounds_feeds_same n (Bounds x y) = λ j.
      pieces.feed (pieces.output n) 1 Zero ∷ pieces.feed (pieces.part_of (n - 1) 1) 1 One
      ∷ pieces.feed (pieces.output n) 2 Zero
      ∷ pieces.feed (origin_same y j) 2 One ∷ pieces.feed (pieces.output n) 3 Zero
      ∷ pieces.feed (pieces.output (n - 1)) 3 One ∷ []
  bounds_feeds_same n _ = refl

  carried_feeds_same : (n : ℕ) (r : Region) (h : ℕ) → pieces.carried_feeds P n r h ≡ pieces.carried_feeds Q n r h
  carried_feeds_same n r h = λ j.
      if has_index_same h j
      then (pieces.feed (pieces.part_of (n - 1) 4) 1 Zero ∷ pieces.feed (name_in_same r (h + 2) j) 2 Zero
      ∷ pieces.feed (pieces.output (n - 1)) 3 Zero ∷ [])
      else []

  turn_row_same : (h : ℕ) → pieces.turn_row P h ≡ pieces.turn_row Q h
  turn_row_same h = λ j. pieces.switches_at (at (a.rows j) (end_same h j)).node + (if has_index_same h j then 2 else 1)

  outer_within : (m : ℕ) → pieces.outer_at (pieces.node P m) < length (rows P)
  outer_within m = by (pieces.node P m) refl
    where
      by : (z : Node) → pieces.node P m ≡ z → pieces.outer_at z < length (rows P)
      by (Next x k o v) s = part_of o P.table.formed (there (rows P) m (Next x k o v) s (λ d. cc)) s (inl refl)
      by _ s = some_row

  first_binder_same : (m : ℕ) → pieces.first_binder P m ≡ pieces.first_binder Q m
  first_binder_same m =
      ap (λ o. unwrap_or o 0) (a.binders (pieces.outer_at (pieces.node P m)) (outer_within m)
      ∙ ap (λ z. binder Q (pieces.outer_at z)) (node_same m))

  entering_same : (h : ℕ) → pieces.entering P h ≡ pieces.entering Q h
  entering_same h = λ j. map (λ m. first_binder_same m j) (nexts_same h j) ++ imports_same h j

  -- what feeds switches
  switch_feeds : (t n : ℕ) (r : Region)
      → pieces.import_feeds P (pieces.origin P t) r 1 (imports_of P n)
      ≡ pieces.import_feeds Q (pieces.origin Q t) r 1 (imports_of Q n)
  switch_feeds t n r =
      import_feeds_same (pieces.origin P t) r 1 (imports_of P n)
      ∙ (λ j. pieces.import_feeds Q (origin_same t j) r 1 (imports_same n j))

  feeds_of_same : (n : ℕ) (r : Region) (z : Node) → pieces.feeds_of P n r z ≡ pieces.feeds_of Q n r z
  feeds_of_same n r Head =
      let body = origin_same (pieces.body_of (pieces.node P (end_of P n)))
      ∙ (λ j. pieces.origin Q (pieces.body_of (at (a.rows j) (end_same n j)).node)) in
      λ j. pieces.feed (body j) 1 One ∷ []
  feeds_of_same n r (Unary o x) = λ j. pieces.feed (origin_same x j) 0 Zero ∷ []
  feeds_of_same n r (Binary o x y) =
      λ j. pieces.feed (origin_same x j) 0 Zero ∷ pieces.feed (origin_same y j) 0 One ∷ []
  feeds_of_same n r (Split t) =
      let rest = switch_feeds t n r in
      λ j. pieces.feed (origin_same t j) 0 Zero ∷ pieces.feed (pieces.trigger_of r) 0 One ∷ rest j
  feeds_of_same n r (If s x y) = λ j. pieces.feed (origin_same x j) 0 Zero ∷ pieces.feed (origin_same y j) 0 Zero ∷ []
  feeds_of_same n r (Arg s i v) = λ j. pieces.feed (pieces.output s) 0 Zero ∷ pieces.feed (origin_same v j) 0 One ∷ []
  feeds_of_same n r (Bounds x y) = λ j.
      pieces.feed (origin_same x j) 0 Zero ∷ pieces.feed (origin_same y j) 0 One ∷ pieces.feed (pieces.output n) 1 Zero
      ∷ pieces.feed (origin_same x j) 1 One ∷ []
  feeds_of_same n r Start =
      let bounds = bounds_feeds_same n (pieces.node P (n - 1)) ∙ ap (pieces.bounds_feeds Q n) (node_same (n - 1)) in
      let rest = import_feeds_same (pieces.output n) r (1 + length (carried P (n + 1))) (pieces.entering P (n + 1))
      ∙ (λ j. pieces.import_feeds Q (pieces.output n) r (1 + length (carried_same (n + 1) j))
      (entering_same (n + 1) j)) in
      λ j. pieces.feed (pieces.trigger_of r) 0 Zero ∷ bounds j ++ rest j
  feeds_of_same n r (LoopHead s) =
      λ j. pieces.feed (pieces.output (turn_row_same n j)) 0 Zero ∷ pieces.feed (pieces.output (end_same n j - 2)) 1 One
      ∷ []
  feeds_of_same n r (Carried k) =
      let row = turn_row_same (pieces.block P n) ∙ ap (pieces.turn_row Q) (block_same n) in
      λ j. pieces.feed (pieces.part_of (row j) (n - block_same n j)) 0 Zero ∷ []
  feeds_of_same n r Variable = λ j. pieces.feed (pieces.output (next_same n j)) 0 Zero ∷ []
  feeds_of_same n r Entries =
      let row = turn_row_same (pieces.block P n) ∙ ap (pieces.turn_row Q) (block_same n) in
      let many = carried_same (pieces.block P n) ∙ ap (carried Q) (block_same n) in
      let names = imports_same (pieces.block P n) ∙ ap (imports_of Q) (block_same n) in
      λ j. pieces.entry_feeds (row j) (1 + length (many j)) 0 (names j)
  feeds_of_same n r (Switches t) =
      let rest = switch_feeds t n r in
      λ j. pieces.feed (origin_same t j) 0 Zero ∷ pieces.feed (pieces.trigger_of r) 0 One ∷ rest j
  feeds_of_same n r Count =
      let high = name_in_same r (pieces.block P n + 2) ∙ ap (λ h. pieces.name_in Q r (h + 2)) (block_same n) in
      λ j. pieces.feed (pieces.output (block_same n j + 1)) 0 Zero ∷ pieces.feed (high j) 0 One
      ∷ pieces.feed (pieces.output n) 1 Zero ∷ pieces.feed (pieces.trigger_of r) 1 One
      ∷ pieces.feed (pieces.output n) 2 Zero
      ∷ pieces.feed (pieces.output (block_same n j + 1)) 2 One
      ∷ pieces.feed (pieces.part_of n 1) 3 Zero ∷ pieces.feed (pieces.part_of n 2) 4 Zero
      ∷ pieces.feed (pieces.part_of n 3) 4 One ∷ []
  feeds_of_same n r Turn =
      let index = carried_feeds_same n r (pieces.block P n) ∙ ap (pieces.carried_feeds Q n r) (block_same n) in
      let many = carried_same (pieces.block P n) ∙ ap (carried Q) (block_same n) in
      let names = imports_same (pieces.block P n) ∙ ap (imports_of Q) (block_same n) in
      let rest = turn_feeds_same r (1 + length (carried P (pieces.block P n))) (imports_of P (pieces.block P n))
      ∙ (λ j. pieces.turn_feeds Q r (1 + length (many j)) (names j)) in
      λ j. pieces.feed (pieces.trigger_of r) 0 Zero ∷ index j ++ rest j
  feeds_of_same n r (Next x k o v) = λ j. pieces.feed (origin_same v j) 0 Zero ∷ []
  feeds_of_same n r (Reset v) = λ j. pieces.feed (origin_same v j) 0 Zero ∷ []
  feeds_of_same n r (Array nested x y) =
      λ j. pieces.feed (origin_same x j) 0 Zero ∷ pieces.feed (origin_same y j) 0 One ∷ []
  feeds_of_same n r (Fetch t i) =
      λ j. pieces.feed (origin_same t j) 0 Zero ∷ pieces.feed (origin_same i j) 0 One
      ∷ pieces.feed (pieces.output n) 1 Zero ∷ []
  feeds_of_same n r (Address t i) = λ j. pieces.feed (origin_same t j) 0 Zero ∷ pieces.feed (origin_same i j) 0 One ∷ []
  feeds_of_same n r (Store x v) = λ j. pieces.feed (pieces.output x) 0 Zero ∷ pieces.feed (origin_same v j) 0 One ∷ []
  feeds_of_same n r (Binding x v) = λ j. pieces.feed (origin_same v j) 0 Zero ∷ []
  feeds_of_same n r _ = refl

  pub feeds_same : (n : ℕ) → pieces.feeds P n ≡ pieces.feeds Q n
  feeds_same n =
      feeds_of_same n (region P n) (pieces.node P n) ∙ (λ j. pieces.feeds_of Q n (region_same n j) (node_same n j))

  -- ---- what the schemas make and feed

  makes_to : {n k : ℕ} {f : Form} {e : ℕ} → Makes P n k f e → Makes Q n k f e
  makes_to {n} {k} {f} {e} m = record {
    within = subst (λ (X : List Row). n < length X) a.rows m.within;
    at = subst (λ (ps : List Piece). slice_get ps k ≡ Some (pieces.piece f e)) (made_same n m.within) m.at;
  }

  feeds_to : {s : Origin} {n k : ℕ} {p : Port} → Feeds P s n k p → Feeds Q s n k p
  feeds_to {s} {n} {k} {p} m = record {
    within = subst (λ (X : List Row). n < length X) a.rows m.within;
    among = subst (λ (fs : List Feed). Among (pieces.feed s k p) fs) (feeds_same n) m.among;
  }

  pub block_of_same : (number : ℕ → ℕ → ℕ) (h : ℕ) → block_of P number h ≡ block_of Q number h
  block_of_same number h =
      λ j. record { first = number h 0; entries = map (λ q. number q.row q.part) (entries_same h j) }

-- a graph of the one, numbered so, is one of the other
pub Numbered-alike : (P Q : Checked) → AreAlike P Q → AreAlike Q P → (g : Parts) (number : ℕ → ℕ → ℕ)
    → Numbered P g number → Numbered Q g number
Numbered-alike P Q a b g number h = record {
  made = λ n k f e m. h.made n k f e (makes_to Q P b m);
  only = λ m i s. let w =
      h.only m i s in
      record { row = w.row; part = w.part; form = w.form; place = w.place; makes = makes_to P Q a w.makes; is = w.is };
  apart = λ n k m l f d e c x y s. h.apart n k m l f d e c (makes_to Q P b x) (makes_to Q P b y) s;
  sends = λ s n k p m. h.sends s n k p (feeds_to Q P b m);
  no_more = λ m side to s. let w = h.no_more m side to s in
      record {
        origin = w.origin;
        row = w.row;
        part = w.part;
        feeds = feeds_to P Q a w.feeds;
        on = w.on;
        from = w.from;
        goes = w.goes;
      };
  once = h.once;
  sides = h.sides;
  ports = h.ports;
  answer_first = subst (λ (X : List Row). number (length X - 1) 0 ≡ 0) a.rows h.answer_first;
  second_behind = λ x m. h.second_behind x (subst (Among x) (sym (all_heads_same P Q a)) m);
  blocks = h.blocks ∙ (λ j. map (λ x. block_of_same P Q a number x j) (all_heads_same P Q a j));
}

pub Schemas-alike : (P Q : Checked) → AreAlike P Q → AreAlike Q P → (g : Parts) → Schemas P g → Schemas Q g
Schemas-alike P Q a b g h = record { number = h.number; numbered = Numbered-alike P Q a b g h.number h.numbered }
