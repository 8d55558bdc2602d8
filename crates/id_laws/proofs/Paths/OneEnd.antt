-- A loop of a context ends in one iteration alone: before an iteration that is live its predicate has been true.
use Rattle.std.proofs.Common.{◌≡◌, inl, inr, ℕ, ◌+◌, ◌<◌, true, false, List, length, refl, sym, ◌∙◌, ap, subst, arith}
use Rattle.std.proofs.lemmas.Bool.{cases_lt}
use Rattle.id_table.specs.declared.row.Region.{Region}
use Rattle.id_table.specs.declared.row.Node.TheVariants.{Switches}
use Rattle.id_table.specs.Rows.{arm_at}
use Rattle.id_check.specs.declared.checked.Checked.{Checked}
use Rattle.id_check.specs.Programs.{region, rows}
use Rattle.id_desugar.specs.Regions.{has_index, imports_of}
use Rattle.id_table.specs.Loops.{bounds_row}
use Rattle.id_instr.specs.declared.dests.Port.TheVariants.{Zero}
use Rattle.id_instr.specs.Graph.{Parts}
use Rattle.id_tag.specs.declared.Context.{Context}
use Rattle.id_tag.specs.declared.Value.{Value}
use Rattle.id_tag.specs.declared.Value.TheVariants as value
use Rattle.id_runs.proofs.Givings.{gives_once}
use Rattle.id_source.specs.Sources.{Source}
use Rattle.id_build.specs.Rows.{block, node, origin, output}
use Rattle.id_build.specs.Schemas.{Numbered}
use Rattle.id_runs.specs.Activations.{Activation, at_iteration}
use Rattle.id_runs.specs.Events.{Event, FiresOnce}
use Rattle.id_runs.specs.Serials.{ContextsApart}
use Rattle.id_laws.specs.Activations.{of_loop, of_turns, Speaks, Decided, at_first, at_next, Chosen, has_said}
use Rattle.id_laws.specs.Activations.{has_counted, Live, at_start, on_side, entered, again}
use Rattle.id_laws.specs.Topics.{AllSpeak, Tells, topic_of}
use Rattle.id_laws.proofs.Rows.Feeders.{imports_fed}
use Rattle.id_laws.proofs.Paths.Counted.{bound_first}
use Rattle.id_laws.proofs.Telling.Origins.{flag_tells}
use Rattle.id_laws.proofs.Rows.Assumed.{IsKnown}
use Rattle.id_laws.proofs.Rows.Conditionals.{arm_live, one_test}
use Rattle.id_laws.proofs.Rows.Loops.{LoopOf, counted_of, loop_of_row, one_switches, own_switches, start_node}
use Rattle.id_laws.proofs.Rows.Loops.{start_within, switches_node, test_row}
use Rattle.id_laws.proofs.Paths.Opened.{live_loop}
use Rattle.id_laws.proofs.Telling.TurnedOn.{live_loop_at}
use Rattle.id_laws.proofs.Paths.Seats.{OneSeat, one_opening}

module _ (S : Source) (known : IsKnown S.checked) (g : Parts) (number : ℕ → ℕ
    → ℕ) (numbered : Numbered S.checked g number) (run : List Event)
    (apart : ContextsApart run) (once : FiresOnce run) (seats : OneSeat S number run) (speak : AllSpeak S number run)
  where
    abbrev P : Checked
    P = S.checked

    -- in the iteration a loop goes on
    record TrueIn (c : Context) (i : ℕ) : Type 0 where
      row : ℕ
      test : ℕ
      within : row < length (rows P)
      node : node P row ≡ Switches test
      live : Live S number run (at_iteration c i) (region P row)
      chosen : Chosen S number run (at_iteration c i) row true

    true_before : {a : Activation} {r : Region} → Live S number run a r → (i : ℕ) → i < a.iteration → TrueIn a.context i
    true_before at_start i less = absurd (omega (arith, less))
    true_before (on_side within tests live says goes) i less = true_before live i less
    true_before (entered within begins live opened) i less = absurd (omega (arith, less))
    true_before (again {c = c} {k = k} {n = n} {e = e} within is live says goes) i less =
        elim (cases_lt i k) [
          | inl low ↦ true_before live i low
          | inr high ↦
              let same : k ≡ i = omega (arith, less, high) in
              record {
                row = n;
                test = e;
                within = within;
                node = is;
                live = subst (λ j. Live S number run (at_iteration c j) (region P n)) same live;
                chosen = subst (λ j. Chosen S number run (at_iteration c j) n true) same says;
              }
        ]

    bools : value.Bool true ≡ value.Bool false → ⊥
    bools h = cc

    -- it was found one thing alone
    one_decision : {h : ℕ} (l : LoopOf P h) {a : Activation} {v w : Value} → Decided S number run h v a
        → Decided S number run h w a → v ≡ w
    one_decision {h} l {v = v} {w = w} (at_first {a = b} {c = c} o says) (at_first {a = b'} o' says') =
        let start = start_within P known h l in
        let is = start_node P known h l in
        let one = one_opening S known g number numbered run apart start start (of_loop is) (of_loop is) o o' refl in
        let other = subst (λ z. Speaks S number run z (output (bounds_row h)) w) (sym one.0) says' in
        (gives_once once says.fires other.fires _ _ v w says.gives other.gives).1
    one_decision l {v = v} {w = w} (at_next says) (at_next says') =
        (gives_once once says.fires says'.fires _ _ v w says.gives says'.gives).1

    -- what its flag has said was found so
    said_so : {w t : ℕ} {a : Activation} {v : Value} → w < length (rows P) → node P w ≡ Switches t
        → has_index P (block P w) ≡ true → Speaks S number run a (origin P t) v
        → Decided S number run (block P w) v a
    said_so {w} {t} {a} {v} within is has says =
        let h = block P w in
        let l = loop_of_row known (Switches t) within is refl in
        let c = counted_of P l.all has in
        let w_is = own_switches P known w t within is l in
        let both : Switches t ≡ Switches (test_row P known h l) =
        sym is ∙ ap (node P) (sym w_is) ∙ switches_node P known h l in
        let test : t ≡ test_row P known h l = cc in
        let few : 0 < length (imports_of P w) =
        omega (arith, ap (λ i. length (imports_of P i)) w_is, ap length (bound_first P known h l c)) in
        let feeds = (imports_fed P w t 0 within (of_turns is) few).0 in
        let tells = speak.stays a (origin P t) w 1 Zero v feeds says in
        (flag_tells S known number run seats a h v l c
        (subst (λ i. Tells S number run a (topic_of P (origin P i)) v) test tells)).decided

    -- it goes on, or it does not
    one_choice : {w t : ℕ} {a : Activation} → w < length (rows P) → node P w ≡ Switches t → Chosen S number run a w true
        → Chosen S number run a w false → ⊥
    one_choice {w} {t} {a} within is (has_said {e = e} tests says) (has_said {e = e'} tests' says') =
        let other = subst (λ k. Speaks S number run a (origin P k) (value.Bool false)) (one_test tests' tests) says' in
        bools (gives_once once says.fires other.fires _ _ (value.Bool true) (value.Bool false) says.gives other.gives).1
    one_choice {w} {t} {a} within is (has_counted at has decided) (has_said {e = e} tests says) =
        let says' =
        subst (λ k. Speaks S number run a (origin P k) (value.Bool false)) (one_test tests (of_turns is)) says in
        bools (one_decision (loop_of_row known (Switches t) within is refl) decided (said_so within is has says'))

    -- none of the earlier ones has ended
    none_before : {c : Context} {i j w t : ℕ} → w < length (rows P) → node P w ≡ Switches t
        → Live S number run (at_iteration c i) (arm_at w false) → Live S number run (at_iteration c j) (arm_at w false)
        → i < j → ⊥
    none_before {c} {i} {j} {w} {t} within is x y less =
        let z = true_before y i less in
        let a = live_loop_at S known z.live z.within z.node in
        let b = live_loop S known number run x (loop_of_row known (Switches t) within is refl).head in
        let one =
        one_opening S known g number numbered run apart a.within b.within (of_loop a.node) (of_loop b.node) a.opens
        b.opens refl in
        let blocks : block P z.row ≡ block P w = sym a.head ∙ ap (λ k. k + 1) one.1 ∙ b.head in
        let same = one_switches P known z.row w z.test t z.within z.node within is blocks in
        one_choice within is (subst (λ k. Chosen S number run (at_iteration c i) k true) same z.chosen)
        (arm_live known x refl (of_turns is)).chosen

    pub one_end : {c : Context} {i j w t : ℕ} → w < length (rows P) → node P w ≡ Switches t
        → Live S number run (at_iteration c i) (arm_at w false) → Live S number run (at_iteration c j) (arm_at w false)
        → i ≡ j
    one_end {c} {i} {j} within is x y =
        elim (cases_lt i j) [
          | inl low ↦ absurd (none_before within is x y low)
          | inr high ↦ elim (cases_lt j i) [
            | inl low ↦ absurd (none_before within is y x low)
            | inr other ↦ omega (
              arith,
              high,
              other,
            )
          ]
        ]
