-- What holds by a rule, and that each expression of a live region is On.
use Rattle.std.proofs.Common.{◌≡◌, inl, inr, ℕ, zero, suc, ◌≤◌, ◌<◌, ◌+◌, ◌-◌, Bool as Truth, true, false, ◌&&◌, nat_lt}
use Rattle.std.proofs.Common.{nat_le, List, [], ◌∷◌, length}
use Rattle.std.proofs.Common.{refl, sym, ◌∙◌, ap, subst, arith}
use Rattle.std.specs.Prelude.{take}
use Rattle.std.proofs.lemmas.Bool.{cases_eq}
use Rattle.std.proofs.lemmas.Bool.Decides.{nat_tests}
use Rattle.id_table.specs.declared.row.Region.{Region}
use Rattle.id_table.specs.declared.row.Node.{Node}
use Rattle.id_table.specs.declared.row.Node.TheVariants.{Head, Split, If, Call}
use Rattle.id_table.specs.declared.row.Node.TheVariants.{Def, Program, Switches, Body, Next, Loop, LoopHead, Address}
use Rattle.id_table.specs.declared.row.Node.TheVariants.{Store}
use Rattle.id_table.specs.Rows.{arm_at, at, top}
use Rattle.id_table.specs.Tables.{is_expression, is_top, is_within}
use Rattle.id_table.specs.Turns.{IsDefOf, operand, left, right, test, argument, body, statement, Root, of_procedure}
use Rattle.id_table.specs.Turns.{of_then, of_otherwise, TurnedIn, root, part}
use Rattle.id_table.specs.Turns.{index_low, index_high, low, high, fetched, fetch_index, address_target, address_index}
use Rattle.id_table.specs.Turns.{stored_value, stored}
use Rattle.id_table.specs.Turns.{of_test, of_statement, of_store, of_next, of_last}
use Rattle.id_check.specs.declared.checked.Checked.{Checked}
use Rattle.id_check.specs.Programs.{Stands, place, region, rows}
use Rattle.id_desugar.specs.Ends.{end_of}
use Rattle.id_source.specs.declared.Path.{Path}
use Rattle.id_source.specs.declared.Fact.{Fact}
use Rattle.id_source.specs.declared.SourceValue.TheVariants as source
use Rattle.id_source.specs.declared.Fact.TheVariants.{On, Has}
use Rattle.id_source.specs.Sources.{Source, body_of}
use Rattle.id_source.specs.Facts.{outermost, below, without, Rule, main_on, operand_on, left_on, right_on, test_on}
use Rattle.id_source.specs.Facts.{arm_on, argument_on, callee_on}
use Rattle.id_source.specs.Facts.{statement_on, store_on, body_on, bounds_low_on, bounds_high_on, fetch_target_on}
use Rattle.id_source.specs.Facts.{fetch_index_on, store_target_on, store_index_on, store_value_on}
use Rattle.id_source.specs.Facts.{BodyStores, StoreStands, loop_store_on, ForStands, GoesOn, by_predicate, by_bounds}
use Rattle.id_source.specs.Facts.{lower_on, upper_on}
use Rattle.id_source.specs.Facts as facts
use Rattle.id_source.specs.Rounds.{Every, Rounds, Holds}
use Rattle.id_build.specs.Rows.{node}
use Rattle.id_runs.specs.Activations.{Activation}
use Rattle.id_runs.specs.Events.{Event}
use Rattle.id_laws.specs.Activations.{PathOf, Goes, by_test, by_index, of_arms, of_turns, of_call, of_loop, Live}
use Rattle.id_laws.specs.Activations.{at_start, on_side, entered, again}
use Rattle.id_laws.proofs.Rows.Assumed.{IsKnown}
use Rattle.id_laws.proofs.Rows.Loops.{LoopOf, body_at, bounds_mean, counted_of, for_at, loop_by, loop_of_row}
use Rattle.id_laws.proofs.Rows.Loops.{loop_of_start, loop_stands, next_at, stands_loop}
use Rattle.id_laws.proofs.Rows.Loops.{same_loop, start_place, start_region, switches_node, test_row}
use Rattle.id_laws.proofs.Paths.Opened.{InLoop, live_loop, loop_path, next_path}
use Rattle.id_laws.proofs.Rows.Regions.{region_of}
use Rattle.id_build.specs.Rows.{block}
use Rattle.id_table.specs.Loops.{IsLoopOf, bounds_row}
use Rattle.id_table.specs.Turns.{IsStatement}
use Rattle.id_source.specs.Facts.{BodyBinds, NextStands, loop_test_on, turn_on, loop_statement_on, next_on, last_on}
use Rattle.id_laws.proofs.Rows.Calls.{call_at, callee_stands}
use Rattle.id_laws.proofs.Rows.Stores.{address_at}
use Rattle.id_laws.proofs.Rows.Conditionals.{arm_of, chosen, conditional, one_test}
use Rattle.id_laws.proofs.Paths.Seats.{OneSeat, below_is, one_path, main_path_is, live_path, entered_path}

-- ---- rules

-- a later round has what an earlier one has
later_round : (S : Source) (f : Fact) (m n : ℕ) → n ≤ m → Rounds S n f → Rounds S m f
later_round S f zero zero h x = x
later_round S f zero (suc n) h x = absurd (omega arith)
later_round S f (suc m) n h x =
    elim (cases_eq n (suc m)) [
      | inl e ↦ subst (λ k. Rounds S k f) e x
      | inr ne ↦ inl (later_round S f m n (omega arith) x)
    ]

later_all : (S : Source) (fs : List Fact) (m n : ℕ) → n ≤ m → Every (Rounds S n) fs → Every (Rounds S m) fs
later_all S [] m n h x = tt
later_all S (f ∷ fs) m n h x = (later_round S f m n h x.0, later_all S fs m n h x.1)

-- facts of the source are all facts of one round
one_round : (S : Source) (fs : List Fact) → Every (Holds S) fs → (n : ℕ) × Every (Rounds S n) fs
one_round S [] h = (0, tt)
one_round S (f ∷ fs) h =
    let t = one_round S fs h.1 in
    let n = (h.0).round + t.0 in
    (n, (later_round S f n (h.0).round (omega arith) (h.0).there, later_all S fs n t.0 (omega arith) t.1))

-- what follows by a rule holds
pub holds_by : (S : Source) (fs : List Fact) (f : Fact) → Rule S fs f → Every (Holds S) fs → Holds S f
holds_by S fs f rule h = let t = one_round S fs h in record { round = suc t.0; there = inr (fs, rule, t.1) }

-- ---- paths

take_all : {A : Type 0} (n : ℕ) (xs : List A) → length xs ≤ n → take n xs ≡ xs
take_all zero [] h = refl
take_all (suc n) [] h = refl
take_all zero (x ∷ xs) h = absurd (omega arith)
take_all (suc n) (x ∷ xs) h = ap (λ ys. x ∷ ys) (take_all n xs (omega arith))

-- a path without none of its steps
pub without_none : (p : Path) → without 0 p ≡ p
without_none p = ap (λ ss. record { steps = ss }) (take_all (length p.steps - 0) p.steps (omega arith))

-- by facts of the source the loop at the row n goes on or not in the iteration
pub record GoesSo (S : Source) (n w : ℕ) (p : Path) (k : ℕ) (b : Truth) : Type 0 where
  pub facts : List Fact
  pub goes : GoesOn S n w p k b facts
  pub holds : Every (Holds S) facts

-- ---- live regions

-- what stands in a row stands before it
before : (m n i : ℕ) → (nat_le m i && nat_lt i n) ≡ true → i < n
before m n i e = grind (arith, nat_tests)

module _ (S : Source) (known : IsKnown S.checked) where
  abbrev P : Checked
  P = S.checked

  -- a store stands with its parts
  as_store : {n a v t i : ℕ} → n < length (rows P) → node P n ≡ Store a v → node P a ≡ Address t i
      → StoreStands P n t i v
  as_store {a = a} within is ad =
      record {
        address = a;
        store = record { within = within; node = is };
        parts =
            record { within = (address_at known within is).within; node = ad };
      }

  -- what the roots of a region being On turn On
  turned_by : {r : Region} {p : Path} → ((e : ℕ) → Root (rows P) r e → Holds S (On p (place P e))) → {e : ℕ}
      → TurnedIn (rows P) r e → Holds S (On p (place P e))
  turned_by roots (root {e = e} x) = roots e x
  turned_by roots (part {n = n} t within (operand o)) =
      holds_by S _ _ (operand_on (record { within = within; node = o })) (turned_by roots t, tt)
  turned_by roots (part {n = n} t within (left o)) =
      holds_by S _ _ (left_on (record { within = within; node = o })) (turned_by roots t, tt)
  turned_by roots (part {n = n} t within (right o)) =
      holds_by S _ _ (right_on (record { within = within; node = o })) (turned_by roots t, tt)
  turned_by roots (part {n = n} t within (test o split)) =
      let c = conditional known within o in
      holds_by S _ _
      (test_on (chosen true (record { within = within; node = o }) (record { within = c.within; node = split })))
      (turned_by roots t, tt)
  turned_by roots (part {n = n} t within (argument o less arg)) =
      holds_by S _ _ (argument_on (record { within = within; node = o }) (record { within = less; node = arg }))
      (turned_by roots t, tt)
  turned_by roots (part {n = n} t within (body o)) =
      holds_by S _ _ (body_on (record { within = within; node = o })) (turned_by roots t, tt)
  turned_by roots (part {n = n} t within (statement {m = m} is st o)) =
      let inside = before (at (rows P) n).first n m st.inside in
      holds_by S _ _
      (statement_on (record { within = within; node = is }) st (record { within = omega arith; node = o }))
      (turned_by roots t, tt)
  turned_by roots (part {n = n} t within (index_low o at)) =
      holds_by S _ _ (lower_on (for_at known within o at)) (turned_by roots t, tt)
  turned_by roots (part {n = n} t within (index_high o at)) =
      holds_by S _ _ (upper_on (for_at known within o at)) (turned_by roots t, tt)
  turned_by roots (part {n = n} t within (low o)) =
      holds_by S _ _ (bounds_low_on (record { within = within; node = o })) (turned_by roots t, tt)
  turned_by roots (part {n = n} t within (high o)) =
      holds_by S _ _ (bounds_high_on (record { within = within; node = o })) (turned_by roots t, tt)
  turned_by roots (part {n = n} t within (fetched o)) =
      holds_by S _ _ (fetch_target_on (record { within = within; node = o })) (turned_by roots t, tt)
  turned_by roots (part {n = n} t within (fetch_index o)) =
      holds_by S _ _ (fetch_index_on (record { within = within; node = o })) (turned_by roots t, tt)
  turned_by roots (part {n = n} t within (address_target o ad)) =
      holds_by S _ _ (store_target_on (as_store within o ad)) (turned_by roots t, tt)
  turned_by roots (part {n = n} t within (address_index o ad)) =
      holds_by S _ _ (store_index_on (as_store within o ad)) (turned_by roots t, tt)
  turned_by roots (part {n = n} t within (stored_value o)) =
      holds_by S _ _ (store_value_on (as_store within o (address_at known within o).node)) (turned_by roots t, tt)
  turned_by roots (part {n = n} t within (stored {m = m} is st o)) =
      let inside = before (at (rows P) n).first n m st.inside in
      holds_by S _ _ (store_on (record { within = within; node = is }) st (record { within = omega arith; node = o }))
      (turned_by roots t, tt)

  head_of_def : {d h : ℕ} → IsDefOf (rows P) d h → node P h ≡ Head
  head_of_def {d} {h} x = ((known.table).head_is d x.name h x.body x.result x.within x.node).0

  -- the switches of a conditional are no head
  no_arm : {n s x y h : ℕ} → n < length (rows P) → node P n ≡ If s x y → node P h ≡ Head → s ≡ h → ⊥
  no_arm within def head e =
      let c = conditional known within def in let bad : Split c.test ≡ Head = sym c.node ∙ ap (node P) e ∙ head in cc

  no_switches : {m : Node} {t : ℕ} → m ≡ Head → m ≡ Switches t → ⊥
  no_switches {t = t} h k = let bad : Head ≡ Switches t = sym h ∙ k in cc

  -- the region of a procedure's body has the body alone as its root
  procedure_roots : {d h : ℕ} (x : IsDefOf (rows P) d h) {p : Path} → Holds S (On p (place P x.body))
      → {r : Region} {e : ℕ} → r ≡ top h → Root (rows P) r e → Holds S (On p (place P e))
  procedure_roots {d} {h} x {p} on is (of_procedure {n = n} {x = y} {h = g} {b = b} {k = k} within def) =
      let head_is : g ≡ h = ap (λ (r : Region). r.head) is in
      let here : IsDefOf (rows P) n h =
      record { name = y; result = k; body = b; within = within; node = def ∙ ap (λ z. Def y z k b) head_is } in
      let same = (known.table).one_def n d h here x in
      let body_is : b ≡ x.body = ap body_of (sym def ∙ ap (node P) same ∙ x.node) in
      subst (λ z. Holds S (On p (place P z))) (sym body_is) on
  procedure_roots {d} {h} x on is (of_then {s = s} within def) =
      absurd (no_arm within def (head_of_def x) (ap (λ (r : Region). r.head) is))
  procedure_roots {d} {h} x on is (of_otherwise {s = s} within def) =
      absurd (no_arm within def (head_of_def x) (ap (λ (r : Region). r.head) is))
  procedure_roots {d} {h} x on is (of_test {w = w} {t = t} within def other) =
      let l = loop_of_row known (Switches t) within def refl in
      let at = ap (λ (r : Region). node P r.head) (sym is ∙ (known.table).at_top w within (ap is_top def)) in
      let bad : Head ≡ LoopHead (block P w - 1) = sym (head_of_def x) ∙ at ∙ l.head in
      cc
  procedure_roots {d} {h} x on is (of_statement {n = n} within def st o) =
      let l = loop_of_row known Body within def refl in
      absurd (no_switches (head_of_def x) (ap (λ (r : Region). node P r.head) (sym is ∙ body_at known within def l)
      ∙ switches_node P known (block P n) l))
  procedure_roots {d} {h} x on is (of_store {n = n} within def st o) =
      let l = loop_of_row known Body within def refl in
      absurd (no_switches (head_of_def x) (ap (λ (r : Region). node P r.head) (sym is ∙ body_at known within def l)
      ∙ switches_node P known (block P n) l))
  procedure_roots {d} {h} x on is (of_next {m = m} {x = y} {k = k} {o = o} {a = a} within def) =
      let l = loop_of_row known (Next y k o a) within def refl in
      absurd (no_switches (head_of_def x)
      (ap (λ (r : Region). node P r.head) (sym is ∙ (next_at known within def l).region) ∙
      switches_node P known (block P m) l))
  procedure_roots {d} {h} x on is (of_last {n = n} {h = g} {w = w} {l = e} within def) =
      let c = loop_by known (record { switches = w; last = e; within = within; node = def }) in
      let w_is = (same_loop known (record { switches = w; last = e; within = within; node = def }) c).switches in
      absurd (no_switches (head_of_def x) (ap (λ (r : Region). node P r.head) (sym is) ∙ ap (node P) w_is
      ∙ switches_node P known g c))

  by_arm : {p : Path} {m t : ℕ} {b : Truth} → node P m ≡ Split t → Holds S (Has p (place P t) (source.Bool b))
      → ((n : ℕ) → n < length (rows P) → is_expression (node P n) ≡ true → region P n ≡ region P m
      → Holds S (On p (place P n))) → {n s x y : ℕ} (c : Truth) → n < length (rows P) → node P n ≡ If s x y
      → arm_at s c ≡ arm_at m b → Holds S (On p (place P (arm_of c x y)))
  by_arm {p} {m} {t} {b} split has on {n} {s} {x} {y} c within def is =
      let z = conditional known within def in
      let head : s ≡ m = ap (λ (r : Region). r.head) is in
      let side : c ≡ b = ap (λ (r : Region). r.side) is in
      let both : Split z.test ≡ Split t = sym z.node ∙ ap (node P) head ∙ split in
      let test : z.test ≡ t = cc in
      let has' =
      subst (λ (y : ℕ × Truth). Holds S (Has p (place P y.0) (source.Bool y.1))) {x = (t, b)} {y =
      (z.test, c)} (λ i. (sym test i, sym side i)) has
      in
      holds_by S _ _
      (arm_on (chosen c (record { within = within; node = def }) (record { within = z.within; node = z.node })))
      (on n within (ap is_expression def) (sym z.region ∙ ap (region P) head), (has', tt))

  no_turns : {m : Node} {t e : ℕ} → m ≡ Split t → m ≡ Switches e → ⊥
  no_turns {t = t} {e = e} h k = let bad : Split t ≡ Switches e = sym h ∙ k in cc

  no_loop_head : {m : Node} {t s : ℕ} → m ≡ LoopHead s → m ≡ Switches t → ⊥
  no_loop_head {t = t} {s = s} h k = let bad : LoopHead s ≡ Switches t = sym h ∙ k in cc

  loop_no_split : {m : Node} {t s : ℕ} → m ≡ LoopHead s → m ≡ Split t → ⊥
  loop_no_split {t = t} {s = s} h k = let bad : LoopHead s ≡ Split t = sym h ∙ k in cc

  loop_no_head : {m : Node} {s : ℕ} → m ≡ LoopHead s → m ≡ Head → ⊥
  loop_no_head {s = s} h k = let bad : LoopHead s ≡ Head = sym h ∙ k in cc

  -- loops with one pair of switches are one
  one_loop_of : {g h : ℕ} (m : LoopOf P g) (l : LoopOf P h) → (m.the).switches ≡ (l.the).switches → g ≡ h
  one_loop_of m l same = sym ((m.all).test).block ∙ ap (block P) same ∙ ((l.all).test).block

  -- the region of a loop's head has the predicate alone as its root, if it has one
  loop_roots : {h : ℕ} (l : LoopOf P h) {p : Path}
      → (is_within (node P (test_row P known h l)) ≡ false → Holds S (On p (place P (test_row P known h l))))
      → {r : Region} {e : ℕ} → r ≡ top h → Root (rows P) r e → Holds S (On p (place P e))
  loop_roots l on at (of_procedure {n = n} {x = y} {h = g} {b = b} {k = k} inside def) =
      absurd (loop_no_head (ap (λ (r : Region). node P r.head) at ∙ l.head)
      ((known.table).head_is n y g b k inside def).0)
  loop_roots l on at (of_then {s = s} inside def) =
      let c = conditional known inside def in
      absurd (loop_no_split (ap (λ (r : Region). node P r.head) at ∙ l.head) c.node)
  loop_roots l on at (of_otherwise {s = s} inside def) =
      let c = conditional known inside def in
      absurd (loop_no_split (ap (λ (r : Region). node P r.head) at ∙ l.head) c.node)
  loop_roots {h} l {p} on at (of_test {w = u} {t = t} inside def other) =
      let m = loop_of_row known (Switches t) inside def refl in
      let z = (known.table).switches_of u t inside def in
      let u_is : u ≡ (m.the).switches = sym z.2 ∙ (same_loop known z.1 m).switches in
      let block_is : block P u ≡ h =
      ap (λ (r : Region). r.head) (sym ((known.table).at_top u inside (ap is_top def)) ∙ at) in
      let z' : IsLoopOf (rows P) z.0 h = subst (IsLoopOf (rows P) z.0) block_is z.1 in
      let same = turned_loop z.1 block_is l in
      let w_is : u ≡ (l.the).switches = sym z.2 ∙ same in
      let both : Switches t ≡ Switches (test_row P known h l) =
      sym def ∙ ap (node P) w_is ∙ switches_node P known h l in
      let test : test_row P known h l ≡ t = cc in
      subst (λ i. Holds S (On p (place P i))) test (on (ap (λ i. is_within (node P i)) test ∙ other))
    where
      turned_loop : {n g : ℕ} (c : IsLoopOf (rows P) n g) → g ≡ h → (l : LoopOf P h) → c.switches ≡ (l.the).switches
      turned_loop {n} {g} c e l =
          let c' : IsLoopOf (rows P) n h = record {
            switches = c.switches;
            last = c.last;
            within = c.within;
            node = c.node ∙ ap (λ y. Loop y c.switches c.last) e;
          } in
          (same_loop known c' l).switches
  loop_roots {h} l on at (of_statement {n = n} inside def st o) =
      let m = loop_of_row known Body inside def refl in
      absurd (no_loop_head (ap (λ (r : Region). node P r.head) (sym (body_at known inside def m) ∙ at) ∙ l.head)
      (switches_node P known (block P n) m))
  loop_roots {h} l on at (of_store {n = n} inside def st o) =
      let m = loop_of_row known Body inside def refl in
      absurd (no_loop_head (ap (λ (r : Region). node P r.head) (sym (body_at known inside def m) ∙ at) ∙ l.head)
      (switches_node P known (block P n) m))
  loop_roots {h} l on at (of_next {m = i} {x = y} {k = k} {o = o} {a = a} inside def) =
      let m = loop_of_row known (Next y k o a) inside def refl in
      absurd (no_loop_head (ap (λ (r : Region). node P r.head) (sym (next_at known inside def m).region ∙ at) ∙ l.head)
      (switches_node P known (block P i) m))
  loop_roots {h} l on at (of_last {n = n} {h = g} {w = u} {l = e} inside def) =
      let c : IsLoopOf (rows P) n g = record { switches = u; last = e; within = inside; node = def } in
      let m = loop_by known c in
      absurd (no_loop_head (ap (λ (r : Region). node P r.head) at ∙ l.head) (ap (node P) (same_loop known c m).switches
      ∙ switches_node P known g m))

  statement_within : (n m : ℕ) → n < length (rows P) → IsStatement (rows P) n m → m < length (rows P)
  statement_within n m less st = let inside = before (at (rows P) n).first n m st.inside in omega (arith, less, inside)

  -- what is a root of a side of a loop's switches is On at an iteration's path, where the loop goes on or not
  side_roots : {h : ℕ} (l : LoopOf P h) (q : Path) (k : ℕ) {b : Truth} → GoesSo S (end_of P h) (l.the).switches q k b
      → {r : Region} {e : ℕ} → r ≡ arm_at (l.the).switches b → Root (rows P) r e
      → Holds S (On (below q (place P (end_of P h)) k) (place P e))
  side_roots {h} l q i has at (of_procedure {n = n} {x = y} {h = g} {b = b} {k = k} inside def) =
      absurd (no_switches ((known.table).head_is n y g b k inside def).0 (ap (λ (r : Region). node P r.head) at
      ∙ switches_node P known h l))
  side_roots {h} l q i has at (of_then {s = s} inside def) =
      let c = conditional known inside def in
      absurd (no_turns c.node (ap (λ (r : Region). node P r.head) at ∙ switches_node P known h l))
  side_roots {h} l q i has at (of_otherwise {s = s} inside def) =
      let c = conditional known inside def in
      absurd (no_turns c.node (ap (λ (r : Region). node P r.head) at ∙ switches_node P known h l))
  side_roots {h} l q i has at (of_test {w = u} {t = t} inside def other) =
      let m = loop_of_row known (Switches t) inside def refl in
      absurd (no_loop_head m.head
      (ap (λ (r : Region). node P r.head) (sym ((known.table).at_top u inside (ap is_top def)) ∙ at)
      ∙ switches_node P known h l))
  side_roots {h} l q k {b} has here (of_statement {n = n} {m = m} {x = x} {a = a} inside def st o) =
      let c = loop_of_row known Body inside def refl in
      let there = sym (body_at known inside def c) ∙ here in
      let side : b ≡ true = ap (λ (r : Region). r.side) (sym there) in
      let bind : BodyBinds P (l.the).switches m a = record {
        body = n;
        name = x;
        ends = record { within = inside; node = def };
        side = here ∙ ap (arm_at (l.the).switches) side;
        statement = st;
        binding = record { within = statement_within n m inside st; node = o };
      } in
      let on = subst (GoesSo S (end_of P h) (l.the).switches q k) side has in
      holds_by S _ _ (loop_statement_on q k (stands_loop P known h l) on.goes bind) on.holds
  side_roots {h} l q k {b} has here (of_store {n = n} {m = m} {a = a} {v = x} inside def st o) =
      let c = loop_of_row known Body inside def refl in
      let there = sym (body_at known inside def c) ∙ here in
      let side : b ≡ true = ap (λ (r : Region). r.side) (sym there) in
      let puts : BodyStores P (l.the).switches m = record {
        body = n;
        address = a;
        value = x;
        ends = record { within = inside; node = def };
        side = here ∙ ap (arm_at (l.the).switches) side;
        statement = st;
        store = record { within = statement_within n m inside st; node = o };
      } in
      let on = subst (GoesSo S (end_of P h) (l.the).switches q k) side has in
      holds_by S _ _ (loop_store_on q k (stands_loop P known h l) on.goes puts) on.holds
  side_roots {h} l q k {b} has at (of_next {m = i} {x = y} {k = j} {o = o} {a = a} inside def) =
      let c = loop_of_row known (Next y j o a) inside def refl in
      let z = next_at known inside def c in
      let there = sym z.region ∙ at in
      let side : b ≡ true = ap (λ (r : Region). r.side) (sym there) in
      let block_is = one_loop_of c l (ap (λ (r : Region). r.head) there) in
      let stands : NextStands P i h o a =
      record { name = y; index = j; next = record { within = inside; node = def }; block = block_is } in
      let on = subst (GoesSo S (end_of P h) (l.the).switches q k) side has in
      holds_by S _ _ (next_on q k (stands_loop P known h l) on.goes stands) on.holds
  side_roots {h} l q k {b} has at (of_last {n = n} {h = g} {w = u} {l = e} inside def) =
      let c : IsLoopOf (rows P) n g = record { switches = u; last = e; within = inside; node = def } in
      let m = loop_by known c in
      let same = same_loop known c m in
      let side : b ≡ false = ap (λ (r : Region). r.side) (sym at) in
      let block_is = one_loop_of m l (sym same.switches ∙ ap (λ (r : Region). r.head) at) in
      let last_is : e ≡ (l.the).last = last_of c block_is l in
      let on = subst (GoesSo S (end_of P h) (l.the).switches q k) side has in
      subst (λ i. Holds S (On (below q (place P (end_of P h)) k) (place P i))) (sym last_is)
      (holds_by S _ _ (last_on q k (stands_loop P known h l) on.goes) on.holds)
    where
      last_of : {n g : ℕ} (c : IsLoopOf (rows P) n g) → g ≡ h → (l : LoopOf P h) → c.last ≡ (l.the).last
      last_of {n} {g} c e l =
          let c' : IsLoopOf (rows P) n h = record {
            switches = c.switches;
            last = c.last;
            within = c.within;
            node = c.node ∙ ap (λ y. Loop y c.switches c.last) e;
          } in
          (same_loop known c' l).last

  -- an arm has the conditional's arm alone as its root, which its predicate turns On
  arm_roots : {p : Path} {m t : ℕ} {b : Truth} → node P m ≡ Split t → Holds S (Has p (place P t) (source.Bool b))
      → ((n : ℕ) → n < length (rows P) → is_expression (node P n) ≡ true → region P n ≡ region P m
      → Holds S (On p (place P n))) → {r : Region} {e : ℕ} → r ≡ arm_at m b → Root (rows P) r e
      → Holds S (On p (place P e))
  arm_roots {p} {m} {t} {b} split has on is (of_procedure {n = n} {x = x} {h = h} {b = e} {k = k} within def) =
      let heads = (known.table).head_is n x h e k within def in
      let bad : Head ≡ Split t = sym heads.0 ∙ ap (λ (r : Region). node P r.head) is ∙ split in
      cc
  arm_roots {p} {m} {t} {b} split has on is (of_then {n = n} {s = s} {x = x} {y = y} within def) =
      by_arm split has on true within def is
  arm_roots {p} {m} {t} {b} split has on is (of_otherwise {n = n} {s = s} {x = x} {y = y} within def) =
      by_arm split has on false within def is
  arm_roots {p} {m} {t} {b} split has on is (of_test {w = w} {t = t'} within def other) =
      let l = loop_of_row known (Switches t') within def refl in
      let at = ap (λ (r : Region). node P r.head) (sym is ∙ (known.table).at_top w within (ap is_top def)) in
      let bad : Split t ≡ LoopHead (block P w - 1) = sym split ∙ at ∙ l.head in
      cc
  arm_roots {p} {m} {t} {b} split has on is (of_statement {n = n} within def st o) =
      let l = loop_of_row known Body within def refl in
      absurd (no_turns split (ap (λ (r : Region). node P r.head) (sym is ∙ body_at known within def l)
      ∙ switches_node P known (block P n) l))
  arm_roots {p} {m} {t} {b} split has on is (of_store {n = n} within def st o) =
      let l = loop_of_row known Body within def refl in
      absurd (no_turns split (ap (λ (r : Region). node P r.head) (sym is ∙ body_at known within def l)
      ∙ switches_node P known (block P n) l))
  arm_roots {p} {m} {t} {b} split has on is (of_next {m = i} {x = y} {k = k} {o = o} {a = a} within def) =
      let l = loop_of_row known (Next y k o a) within def refl in
      absurd (no_turns split (ap (λ (r : Region). node P r.head) (sym is ∙ (next_at known within def l).region)
      ∙ switches_node P known (block P i) l))
  arm_roots {p} {m} {t} {b} split has on is (of_last {n = n} {h = g} {w = w} {l = e} within def) =
      let c = loop_by known (record { switches = w; last = e; within = within; node = def }) in
      let w_is = (same_loop known (record { switches = w; last = e; within = within; node = def }) c).switches in
      absurd (no_turns split (ap (λ (r : Region). node P r.head) (sym is) ∙ ap (node P) w_is
      ∙ switches_node P known g c))

  -- by the facts of the source the predicate of a conditional Has that
  pub test_has : {p : Path} {m t : ℕ} {b : Truth} → node P m ≡ Split t → Goes S p m b
      → Holds S (Has p (place P t) (source.Bool b))
  test_has {p} {m} {t} {b} is (by_test {e = e} tests other has) =
      let test : e ≡ t = one_test tests (of_arms is) in
      subst (λ z. Holds S (Has p (place P z) (source.Bool b))) test has
  test_has {t = t} is (by_index goes holds) = absurd (no_goes goes is)
    where
      for_no_split : {n h w l : ℕ} → Stands P n (Loop h w l) → node P w ≡ Split t → ⊥
      for_no_split {n} {h} {w} {l} x at =
          let c : IsLoopOf (rows P) n h = record { switches = w; last = l; within = x.within; node = x.node } in
          let m = loop_by known c in
          let bad : Split t ≡ Switches (test_row P known h m) =
          sym at ∙ ap (node P) (same_loop known c m).switches ∙ switches_node P known h m in
          cc

      no_goes : {n w k : ℕ} {q : Path} {c : Truth} {fs : List Fact} → GoesOn S n w q k c fs → node P w ≡ Split t → ⊥
      no_goes (by_predicate {t = e} k stands) at =
          let bad : Split t ≡ Switches e = sym at ∙ (stands.switches).node in cc
      no_goes {w = w} (by_bounds {l = l} stands c) at = for_no_split (stands.loop) at
      no_goes (facts.by_index k stands c) at = for_no_split (stands.loop) at

  -- a loop goes so by facts of the source
  pub loop_goes : {h : ℕ} (l : LoopOf P h) {p q : Path} {k : ℕ} {b : Truth} → p ≡ below q (place P (end_of P h)) k
      → Goes S p (l.the).switches b → GoesSo S (end_of P h) (l.the).switches q k b
  loop_goes {h} l {p} {q} {k} {b} path (by_test {e = e} tests other has) =
      let test : e ≡ test_row P known h l = one_test tests (of_turns (switches_node P known h l)) in
      record {
        facts = _;
        goes = by_predicate k (loop_stands P known h l (ap (λ i. is_within (node P i)) (sym test) ∙ other));
        holds = (
          subst (λ (z : Path × ℕ). Holds S (Has z.0 (place P z.1) (source.Bool b))) {x = (p, e)} {y =
              (below q (place P (end_of P h)) k, test_row P known h l)}
              (λ i. (path i, test i)) has,
          tt,
        );
      }
  loop_goes {h} l {q = q} {k = k} {b = b} path (by_index {p = q'} {n = n} {k = k'} goes holds) =
      let row = row_of goes in
      let z = below_is q' q (place P n) (place P (end_of P h)) k' k path in
      subst (λ (y : ℕ × (Path × ℕ)). GoesSo S y.0 (l.the).switches y.1.0 y.1.1 b) {x = (n, (q', k'))} {y =
      (end_of P h, (q, k))}
      (λ i. (row i, (z.0 i, z.2 i))) (record { facts = _; goes = goes; holds = holds })
    where
      at_row : {n g u : ℕ} → Stands P n (Loop g (l.the).switches u) → n ≡ end_of P h
      at_row {n} {g} {u} x =
          let c : IsLoopOf (rows P) n g =
          record { switches = (l.the).switches; last = u; within = x.within; node = x.node } in
          let m = loop_by known c in
          let same = same_loop known c m in
          same.row ∙ ap (end_of P) (one_loop_of m l (sym same.switches))

      row_of : {n j : ℕ} {u : Path} {c : Truth} {fs : List Fact} → GoesOn S n (l.the).switches u j c fs → n ≡ end_of P h
      row_of (by_predicate j stands) = at_row stands.loop
      row_of (by_bounds stands c) = at_row stands.loop
      row_of (facts.by_index j stands c) = at_row stands.loop

  -- main's body is On at the empty path
  main_body_on : Holds S (On outermost (place P (known.main).body))
  main_body_on =
      subst (λ z. Holds S (On outermost (place P z))) (ap body_of (known.main).node) (holds_by S _ _ main_on tt)

  -- the loop of its switches
  record SwitchLoop (w t : ℕ) : Type 0 where
    loop : LoopOf P (block P w)
    switches : w ≡ (loop.the).switches
    test : t ≡ test_row P known (block P w) loop
    region : region P w ≡ top (block P w)

  switch_loop : {w t : ℕ} → w < length (rows P) → node P w ≡ Switches t → SwitchLoop w t
  switch_loop {w} {t} within is =
      let l = loop_of_row known (Switches t) within is refl in
      let z = (known.table).switches_of w t within is in
      let w_is : w ≡ (l.the).switches = sym z.2 ∙ (same_loop known z.1 l).switches in
      let both : Switches t ≡ Switches (test_row P known (block P w) l) =
      sym is ∙ ap (node P) w_is ∙ switches_node P known (block P w) l in
      record { loop = l; switches = w_is; test = cc; region = (known.table).at_top w within (ap is_top is) }

  pub live_loop_at : {number : ℕ → ℕ → ℕ} {run : List Event} {a : Activation} {w t : ℕ}
      → Live S number run a (region P w) → w < length (rows P) →
      node P w ≡ Switches t
      → InLoop S known number run a (block P w)
  live_loop_at {number} {run} {a} {w} {t} live within is =
      let same = (region_of known within (λ e. let bad : Switches t ≡ Program = sym is ∙ e in cc)).block in
      let l = loop_of_row known (Switches t) within is refl in
      subst (InLoop S known number run a) same (live_loop S known number run live (ap (node P) same ∙ l.head))

  -- a predicate that is true turns itself On in the next iteration
  turned_by_test : {h : ℕ} (l : LoopOf P h) (q : Path) (k : ℕ) → is_within (node P (test_row P known h l)) ≡ false
      → GoesSo S (end_of P h) (l.the).switches q k true
      → Holds S (On (below q (place P (end_of P h)) (suc k)) (place P (test_row P known h l)))
  turned_by_test {h} l q k other x = by x.goes x.holds
    where
      no_index : {n u y a b v : ℕ} → ForStands P n u y a b v → u ≡ (l.the).switches → ⊥
      no_index {n} {u} {a = a} {b = b} {v = v} z e =
          let c : IsLoopOf (rows P) n z.head =
          record { switches = u; last = v; within = (z.loop).within; node = (z.loop).node } in
          let m = loop_by known c in
          let head = one_loop_of m l (sym (same_loop known c m).switches ∙ e) in
          let has = bounds_mean known l (ap (λ g. node P (bounds_row g)) (sym head) ∙ (z.bounds).node) in
          let bad : true ≡ false = sym (ap is_within (counted_of P l.all has).test) ∙ other in
          cc

      by : {i : ℕ} {fs : List Fact} → GoesOn S (end_of P h) (l.the).switches q i true fs → Every (Holds S) fs
          → Holds S (On (below q (place P (end_of P h)) (suc i)) (place P (test_row P known h l)))
      by (by_predicate {t = t} j stands) holds =
          let both : Switches t ≡ Switches (test_row P known h l) =
          sym (stands.switches).node ∙ switches_node P known h l in
          let test : t ≡ test_row P known h l = cc in
          holds_by S _ _ (turn_on q j (loop_stands P known h l other)) (
            subst (λ i. Holds S (Has (below q (place P (end_of P h)) j) (place P i) (source.Bool true))) test holds.0,
            tt,
          )
      by (by_bounds stands c) holds = absurd (no_index stands refl)
      by (facts.by_index j stands c) holds = absurd (no_index stands refl)

  -- the roots of a live region are On, at the activation's path
  roots_on : {number : ℕ → ℕ → ℕ} {run : List Event} → OneSeat S number run → {a : Activation} {r : Region} {p : Path}
      → Live S number run a r → PathOf S number run a p → (e : ℕ) → Root (rows P) r e → Holds S (On p (place P e))
  roots_on seats at_start path e x =
      subst (λ z. Holds S (On z (place P e))) (sym (main_path_is seats path))
      (procedure_roots known.main main_body_on refl x)
  roots_on seats {p = p} (on_side {n = m} {b = b} within (of_arms is) live says goes) path e x =
      let has = subst (λ z. Goes S z m b) (one_path seats goes.path_of path) goes.goes in
      arm_roots is (test_has is has)
      (λ n less expression same. turned_by (roots_on seats live path)
      (subst (λ q. TurnedIn (rows P) q n) same ((known.table).turned n less expression)))
      refl x
  roots_on {number} {run} seats {a} {p =
      p} (on_side {n = m} {e = t} {b = b} within (of_turns is) live says goes) path e x =
      let s = switch_loop within is in
      let l = s.loop in
      let up = loop_path S known number run seats l (live_loop_at live within is) path in
      let goes_on = subst (λ (z : Path × ℕ). Goes S z.0 z.1 b) {x = (goes.path, m)} {y = (p, (l.the).switches)}
      (λ i. (one_path seats goes.path_of path i, s.switches i)) goes.goes in
      subst (λ z. Holds S (On z (place P e))) (sym up.is)
      (side_roots l up.path a.iteration (loop_goes l up.is goes_on) (ap (λ w. arm_at w b) s.switches) x)
  roots_on {number} {run} seats {p = p} (again {c = c} {k = k} {n = m} {e = t} within is live says goes) path e x =
      let s = switch_loop within is in
      let l = s.loop in
      let inner = live_loop_at live within is in
      let now = loop_path S known number run seats l inner goes.path_of in
      let so = loop_goes l now.is (subst (λ w. Goes S goes.path w true) s.switches goes.goes) in
      let same : below now.path (place P (end_of P (block P m))) (suc k) ≡ p =
      one_path seats (next_path S known number run l inner now (suc k)) path in
      loop_roots l
      (λ other. subst (λ z. Holds S (On z (place P (test_row P known (block P m) l)))) same
      (turned_by_test l now.path k other so)) s.region x
  roots_on seats {p = p} (entered {n = m} within (of_loop is) live opened) path e x =
      let l = loop_of_start known within is in
      let up = live_path live in
      let back : (m + 1) - 1 ≡ m = omega arith in
      let q = end_of P (m + 1) in
      let stands = start_region P known (m + 1) l in
      let turned = subst (λ r. TurnedIn (rows P) r q) (sym stands ∙ ap (region P) back)
      ((known.table).turned q (l.the).within (ap is_expression (l.the).node)) in
      let on = turned_by (roots_on seats live up.1) turned in
      let same : below up.0 (place P q) 0 ≡ p =
      ap (λ z. below up.0 z 0) (sym (start_place P known (m + 1) l) ∙ ap (place P) back) ∙
      one_path seats (entered_path 0 within (of_loop is) opened up.1) path in
      loop_roots l (λ other. subst (λ z. Holds S (On z (place P (test_row P known (m + 1) l)))) same
      (holds_by S _ _ (loop_test_on (loop_stands P known (m + 1) l other)) (on, tt))) refl x
  roots_on seats {p = p} (entered {n = m} within (of_call is) live opened) path e x =
      let c = call_at known within is in
      let up = live_path live in
      let call_stands : Stands P (end_of P m) (Call m c.count) = record { within = c.within; node = c.node } in
      let turned =
      subst (λ q. TurnedIn (rows P) q (end_of P m)) (sym c.region)
      ((known.table).turned (end_of P m) c.within (ap is_expression c.node)) in
      let on = turned_by (roots_on seats live up.1) turned in
      let body = holds_by S _ _ (callee_on call_stands c.bound (callee_stands c.def)) (on, tt) in
      let same : below up.0 (place P (end_of P m)) 0 ≡ p = ap (λ z. below up.0 z 0) (sym c.place) ∙
      one_path seats (entered_path 0 within (of_call is) opened up.1) path in
      procedure_roots c.def (subst (λ z. Holds S (On z (place P (c.def).body))) same body) refl x

  -- each expression of a live region is On, at the activation's path
  pub turned_on : {number : ℕ → ℕ → ℕ} {run : List Event} → OneSeat S number run
      → {a : Activation} {r : Region} {e : ℕ} {p : Path} → Live S number run a r
      → PathOf S number run a p → TurnedIn (rows P) r e → Holds S (On p (place P e))
  turned_on seats live path t = turned_by (roots_on seats live path) t
