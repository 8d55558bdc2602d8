-- At the path of a live activation something is On or an index Has a value, or a `for` begins.
use Rattle.std.proofs.Common.{arith, ◌≡◌, ℕ, suc, ◌<◌, ◌+◌, ◌-◌, Bool as Truth, true, false, ℤ, List, length, refl, sym}
use Rattle.std.proofs.Common.{◌∙◌, ap, subst}
use Rattle.std.specs.Prelude.{◌+ℤ◌, int_lt, pos}
use Rattle.id_table.specs.declared.row.Region.{Region}
use Rattle.id_table.specs.declared.row.Node.TheVariants.{Index, Program, Start, Switches}
use Rattle.id_table.specs.Loops.{IsLoopOf}
use Rattle.id_table.specs.Rows.{top}
use Rattle.id_table.specs.Tables.{HasOperand, is_expression, is_top, is_within}
use Rattle.id_table.specs.Turns.{IsDefOf}
use Rattle.id_check.specs.declared.checked.Checked.{Checked}
use Rattle.id_check.specs.Programs.{place, region, rows}
use Rattle.id_source.specs.declared.Path.{Path}
use Rattle.id_source.specs.declared.Fact.{Fact}
use Rattle.id_source.specs.declared.Fact.TheVariants.{On, Has}
use Rattle.id_source.specs.declared.SourceValue.TheVariants as value
use Rattle.id_source.specs.Sources.{Source}
use Rattle.id_source.specs.Facts.{ForStands, GoesOn, below, by_bounds, by_predicate, index_begins, index_counts}
use Rattle.id_source.specs.Facts.{last_on, turn_on}
use Rattle.id_source.specs.Facts as facts
use Rattle.id_source.specs.Rounds.{Every, Holds}
use Rattle.id_desugar.specs.Ends.{end_of}
use Rattle.id_build.specs.Rows.{block, node}
use Rattle.id_build.proofs.EndsLemmas.{body_region}
use Rattle.id_tag.specs.declared.Context.{Context}
use Rattle.id_runs.specs.Activations.{Activation, at_iteration, main_activation}
use Rattle.id_runs.specs.Events.{Event}
use Rattle.id_laws.specs.Activations.{Goes, GoesAt, Live, Opens, PathOf, at_start, on_side, entered, again, of_call}
use Rattle.id_laws.specs.Activations.{of_loop, of_turns}
use Rattle.id_laws.proofs.Rows.Assumed.{IsKnown}
use Rattle.id_laws.proofs.Rows.Calls.{call_at}
use Rattle.id_laws.proofs.Rows.Conditionals.{test_at}
use Rattle.id_laws.proofs.Validity.HasKinds.{expression_thing}
use Rattle.id_laws.proofs.Rows.Loops.{LoopKind, LoopOf, counted, for_stands, head_block, index_at, kind_is, last_within}
use Rattle.id_laws.proofs.Rows.Loops.{loop_by, loop_of_row}
use Rattle.id_laws.proofs.Rows.Loops.{loop_of_start, plain, same_loop, stands_loop, start_place, start_region}
use Rattle.id_laws.proofs.Rows.Loops.{switches_node, switches_region, switches_within}
use Rattle.id_laws.proofs.Paths.Opened.{InLoop, OpenedFor, live_block, live_loop, loop_path, next_path}
use Rattle.id_laws.proofs.Rows.Regions.{region_of}
use Rattle.id_laws.proofs.Paths.Seats.{OneSeat, entered_path, live_path, one_path}
use Rattle.id_laws.proofs.Telling.TurnedOn.{GoesSo, holds_by, loop_goes, turned_on}
use Rattle.id_laws.specs.Bounded.{IsActive}
use Rattle.id_laws.specs.Bounded as bounded
use Rattle.id_laws.specs.ByBlock.{IsTurn, Turn, something_on, index_has, loop_begins}
use Rattle.id_laws.proofs.Bounding.BlockKeys.{stands_in}
use Rattle.id_laws.proofs.Bounding.BlockRows.{row_block}

true_false : true ≡ false → ⊥
true_false h = cc

module _ (S : Source) (known : IsKnown S.checked) (number : ℕ → ℕ → ℕ) (run : List Event) where
  abbrev P : Checked
  P = S.checked

  abbrev turn_at : Path → ℕ → Turn
  turn_at p h = record { path = p; head = h }

  -- what pays for the messages of the activation with this path: a turn of the block that its context was opened for
  pub record Pays (a : Activation) (p : Path) : Type 0 where
    pub head : ℕ
    pub opened : OpenedFor S number run a.context head
    pub turn : IsTurn S (turn_at p head)

  -- a turn of a block makes its path active
  pub active_by : {p : Path} {h : ℕ} → IsTurn S (turn_at p h) → IsActive S p
  active_by (something_on {i = i} within thing stands on) = bounded.something_on (place P i) on
  active_by (index_has stands inside has) = bounded.index_has stands has
  active_by (loop_begins stands head on path) = bounded.loop_begins stands on path

  module _ (seats : OneSeat S number run) where
    -- an expression of a region that is live
    by_row : {a : Activation} {p : Path} {n : ℕ} → n < length (rows P) → is_expression (node P n) ≡ true
        → Live S number run a (region P n) → PathOf S number run a p → Pays a p
    by_row {a} {p} {n} within expression live path = record {
      head = block P n;
      opened = row_block S known number run within (λ e. true_false (sym expression ∙ ap is_expression e)) live;
      turn = something_on within (expression_thing (node P n) expression) (stands_in number a P n (block P n) refl)
          (turned_on S known seats live path ((known.table).turned n within expression));
    }

    -- a procedure's body
    by_body : {a : Activation} {p : Path} {d h : ℕ} → IsDefOf (rows P) d h → Live S number run a (top h)
        → PathOf S number run a p → Pays a p
    by_body {a} {p} {d} {h} x live path =
        let stands = body_region P known.table d h x in
        let heads = (known.table).head_is d x.name h x.body x.result x.within x.node in
        by_row stands.0 heads.2 (subst (Live S number run a) (sym stands.1) live) path

    -- a loop's predicate
    by_test : {a : Activation} {p : Path} {w t : ℕ} → w < length (rows P) → node P w ≡ Switches t
        → is_within (node P t) ≡ false → Live S number run a (region P w) → PathOf S number run a p → Pays a p
    by_test {a} {p} {w} {t} within is other live path =
        let z = test_at known within (of_turns is) in
        by_row z.within (z.expression other) (subst (Live S number run a) (sym z.region) live) path

    -- what stands in the block of a loop that is live
    in_loop : {a : Activation} {p : Path} {h : ℕ} → LoopOf P h → Live S number run a (top h) → IsTurn S (turn_at p h)
        → Pays a p
    in_loop {a} {p} {h} l live turn = record {
      head = h;
      opened = subst (OpenedFor S number run a.context) (head_block P known h l) (live_block S known number run live);
      turn = turn;
    }

    module _ {h : ℕ} (l : LoopOf P h) where
      abbrev q : ℕ
      q = end_of P h

      abbrev w : ℕ
      w = (l.the).switches

      -- loops of one row of switches have one head
      one_block : {g : ℕ} (m : LoopOf P g) → (m.the).switches ≡ w → g ≡ h
      one_block m e = sym ((m.all).test).block ∙ ap (block P) e ∙ ((l.all).test).block

      for_head : {n x a b u : ℕ} (f : ForStands P n w x a b u) → f.head ≡ h
      for_head {n} {u = u} f =
          let c : IsLoopOf (rows P) n f.head =
          record { switches = w; last = u; within = (f.loop).within; node = (f.loop).node } in
          let m = loop_by known c in
          one_block m (sym (same_loop known c m).switches)

      -- of a loop with an index that Has a value in an iteration, in the next one the index has one, or the last
      -- expression is On
      counts_on : {n x a b u : ℕ} {i hi : ℤ} (p : Path) (k : ℕ) → ForStands P n w x a b u → n ≡ q
          → Holds S (Has (below p (place P n) k) (place P x) (value.Int i))
          → Holds S (Has p (place P b) (value.Int hi)) → IsTurn S (turn_at (below p (place P q) (suc k)) h)
      counts_on {n} {x} {a} {b} {u} {i} {hi} p k f row has bound = by (int_lt i hi) refl
        where
          last_in : block P u ≡ h
          last_in =
              let c : IsLoopOf (rows P) n f.head =
              record { switches = w; last = u; within = (f.loop).within; node = (f.loop).node } in
              let m = loop_by known c in
              ap (block P) (same_loop known c m).last ∙ ((m.all).last_is).block ∙ for_head f

          last_is : is_expression (node P u) ≡ true
          last_is = known.operands n u (f.loop).within (subst (λ m. HasOperand m u) (sym (f.loop).node) refl)

          last_low : u < length (rows P)
          last_low =
              let c : IsLoopOf (rows P) n f.head =
              record { switches = w; last = u; within = (f.loop).within; node = (f.loop).node } in
              let m = loop_by known c in
              omega (arith, (same_loop known c m).last, last_within P known f.head m)

          index_in : block P x ≡ h
          index_in =
              let m = loop_of_row known (Index f.name) (f.index).within (f.index).node refl in
              let at = index_at known (f.index).within (f.index).node m in
              one_block m (omega (arith, at, f.behind))

          by : (c : Truth) → int_lt i hi ≡ c → IsTurn S (turn_at (below p (place P q) (suc k)) h)
          by true less =
              index_has f.index (stands_in number main_activation P x h index_in)
              (subst (λ m. Holds S (Has (below p (place P m) (suc k)) (place P x) (value.Int (i +ℤ pos 1)))) row
              (holds_by S _ _ (index_counts p k f less) (has, (bound, tt))))
          by false past =
              something_on last_low (expression_thing (node P u) last_is)
              (stands_in number main_activation P u h last_in)
              (subst (λ m. Holds S (On (below p (place P m) (suc k)) (place P u))) row
              (holds_by S _ _ (last_on p (suc k) f.loop (facts.by_index k f past)) (has, (bound, tt))))

      -- a loop that goes on in an iteration: its predicate is On in the next one, or it has counted on
      goes_on : {p : Path} {k : ℕ} → GoesSo S q w p k true → IsTurn S (turn_at (below p (place P q) (suc k)) h)
      goes_on {p} {k} x = by refl x.goes x.holds
        where
          by : {n j : ℕ} {fs : List Fact} → n ≡ q → GoesOn S n w p j true fs → Every (Holds S) fs
              → IsTurn S (turn_at (below p (place P q) (suc j)) h)
          by {n} row (by_predicate {t = t} j stands) holds =
              let z = test_at known (stands.switches).within (of_turns (stands.switches).node) in
              let expression = z.expression stands.predicate in
              let there = region_of known z.within (λ e. true_false (sym expression ∙ ap is_expression e)) in
              let in_it : block P t ≡ h =
              sym there.block ∙ ap (λ (r : Region). block P r.head) (z.region ∙ switches_region P known h l)
              ∙ head_block P known h l in
              something_on z.within (expression_thing (node P t) expression)
              (stands_in number main_activation P t h in_it)
              (subst (λ m. Holds S (On (below p (place P m) (suc j)) (place P t))) row
              (holds_by S _ _ (turn_on p j stands) holds))
          by row (by_bounds f le) holds = counts_on p 0 f row (holds_by S _ _ (index_begins f le) holds) (holds.1.1.0)
          by row (facts.by_index j f less) holds =
              counts_on p (suc j) f row (holds_by S _ _ (index_counts p j f less) holds) (holds.1.0)

    -- the first iteration of a loop
    by_first : {a : Activation} {n : ℕ} {c : Context} {p : Path} → n < length (rows P) → node P n ≡ Start
        → (l : LoopOf P (n + 1)) → LoopKind P l.all → Live S number run a (region P n) → Opens S number run a n c
        → Live S number run (at_iteration c 0) (top (n + 1)) → PathOf S number run (at_iteration c 0) p
        → Pays (at_iteration c 0) p
    by_first {c = c} within is l (plain none test turn first) live opened here path =
        let z = test_at known (switches_within P known _ l) (of_turns (switches_node P known _ l)) in
        by_row z.within test
        (subst (Live S number run (at_iteration c 0)) (sym (z.region ∙ switches_region P known _ l)) here) path
    by_first {a} {n} {c} within is l (counted k) live opened here path =
        let h = n + 1 in
        let start : n ≡ h - 1 = omega arith in
        let up = live_path live in
        let loop = stands_loop P known h l in
        let region_is : region P n ≡ region P (end_of P h) = ap (region P) start ∙ start_region P known h l in
        let place_is : place P n ≡ place P (end_of P h) = ap (place P) start ∙ start_place P known h l in
        let on = turned_on S known seats (subst (Live S number run a) region_is live) up.1
        ((known.table).turned (end_of P h) loop.within (ap is_expression loop.node)) in
        in_loop l here (loop_begins (for_stands P known h l k) (sym (for_head l (for_stands P known h l k))) on
        (one_path seats path (entered_path 0 within (of_loop is) opened up.1) ∙ ap (λ e. below up.0 e 0) place_is))

    by_next : {c : Context} {k n e : ℕ} {p : Path} → n < length (rows P) → node P n ≡ Switches e
        → Live S number run (at_iteration c k) (region P n) → GoesAt S number run (at_iteration c k) n true
        → Live S number run (at_iteration c (suc k)) (region P n)
        → PathOf S number run (at_iteration c (suc k)) p → Pays (at_iteration c (suc k)) p
    by_next {c} {k} {n} {e} {p} within is live goes here path =
        let h = block P n in
        let l = loop_of_row known (Switches e) within is refl in
        let same = (region_of known within (λ z. (let bad : Switches e ≡ Program = sym is ∙ z in cc))).block in
        let there =
        subst (InLoop S known number run (at_iteration c k)) same
        (live_loop S known number run live (ap (node P) same ∙ l.head)) in
        let way = loop_path S known number run seats l there goes.path_of in
        let z = (known.table).switches_of n e within is in
        let switches : n ≡ (l.the).switches = sym z.2 ∙ (same_loop known z.1 l).switches in
        let so = loop_goes S known l {q = way.path} way.is (subst (λ m. Goes S goes.path m true) switches goes.goes) in
        let one = one_path seats path (next_path S known number run l there way (suc k)) in
        in_loop l
        (subst (Live S number run (at_iteration c (suc k))) ((known.table).at_top n within (ap is_top is)) here)
        (subst (λ x. IsTurn S (turn_at x h)) (sym one) (goes_on l so))

    pub pays : {a : Activation} {r : Region} {p : Path} → Live S number run a r → PathOf S number run a p → Pays a p
    pays at_start path = by_body known.main at_start path
    pays (on_side within tests live says goes) path = pays live path
    pays (entered {n = n} within (of_call is) live opened) path =
        by_body (call_at known within is).def (entered within (of_call is) live opened) path
    pays (entered within (of_loop is) live opened) path =
        let l = loop_of_start known within is in
        by_first within is l (kind_is P known _ l) live opened (entered within (of_loop is) live opened) path
    pays (again within is live says goes) path = by_next within is live goes (again within is live says goes) path

    -- so each of its paths is active
    pub active : {a : Activation} {r : Region} {p : Path} → Live S number run a r → PathOf S number run a p
        → IsActive S p
    active live path = active_by (pays live path).turn
