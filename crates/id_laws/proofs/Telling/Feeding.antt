-- What comes along an arc tells what its port wants, where it tells what its origin speaks of.
use Rattle.std.proofs.Common.{cond, List, [], ◌∷◌, ◌++◌, unwrap_or}
use Rattle.std.proofs.Common.{◌≡◌, inl, inr, ℕ, zero, suc, ◌+◌, ◌-◌, ◌<◌, Bool as Truth, true, false, length, get_or}
use Rattle.std.proofs.Common.{refl, sym, ◌∙◌, ap, subst, arith}
use Rattle.id_table.specs.declared.row.Region.{Region}
use Rattle.id_table.specs.declared.row.Node.{Node}
use Rattle.id_table.specs.declared.row.Node.TheVariants.{Head, Literal, Unary, Binary, Split, If, Enter, Arg, Binding}
use Rattle.id_table.specs.declared.row.Node.TheVariants.{Program}
use Rattle.id_table.specs.declared.row.Node.TheVariants.{Start, LoopHead, Entries, Switches, Turn, Next, Reset}
use Rattle.id_table.specs.declared.row.Node.TheVariants.{Array, Fetch, Address, Store, Bounds, Count}
use Rattle.id_table.specs.Loops.{bounds_row, index_row, upper_at, upper_of}
use Rattle.id_value.specs.List.{Among}
use Rattle.id_tag.specs.declared.Value.TheVariants as value
use Rattle.id_source.specs.declared.Path.{Path}
use Rattle.id_source.specs.declared.SourceValue.{SourceValue}
use Rattle.id_source.specs.declared.SourceValue.TheVariants as source
use Rattle.id_check.specs.Scopes.{loops_between}
use Rattle.id_build.proofs.NamesSeen.{Sees}
use Rattle.id_table.specs.Rows.{arm_at, top}
use Rattle.id_table.specs.Tables.{HasNear, HasPart, HasOperand, begins_block, is_binder, is_expression, is_top}
use Rattle.id_table.specs.Tables.{is_within}
use Rattle.id_check.specs.declared.checked.Checked.{Checked}
use Rattle.id_check.specs.Programs.{place, region, rows}
use Rattle.id_instr.specs.declared.dests.Port.{Port}
use Rattle.id_instr.specs.declared.dests.Port.TheVariants.{Zero, One}
use Rattle.id_tag.specs.declared.Value.{Value}
use Rattle.id_source.specs.declared.Fact.TheVariants.{Has}
use Rattle.id_source.specs.Sources.{Source}
use Rattle.id_source.specs.Facts.{conditional_has}
use Rattle.id_source.specs.Rounds.{Holds}
use Rattle.id_desugar.specs.Ends.{end_of}
use Rattle.id_desugar.specs.Regions.{handed, has_index, imports_of, nexts_of, taken}
use Rattle.id_build.specs.declared.arc.Origin.{Origin}
use Rattle.id_build.specs.Rows.{block, node, body_of, entering, name_in, output, trigger_of, turn_row, origin}
use Rattle.id_desugar.specs.Ends.{next_of}
use Rattle.id_build.specs.Schemas.{Feeds}
use Rattle.id_runs.specs.Activations.{Activation, at_iteration}
use Rattle.id_runs.specs.Events.{Event}
use Rattle.id_laws.specs.Activations.{of_call, of_loop, Tests, of_arms, of_turns, Goes, by_test, Speaks, Moves, Live}
use Rattle.id_laws.specs.Activations.{count_row, switches_of}
use Rattle.id_laws.specs.Topics.{BoundIn, FirstIndex, FirstFlag, SaidFirst, SaidIndex, NextIndex, NextFlag, SaidNext}
use Rattle.id_laws.specs.Topics.{Shown, ShownFlag, bounded_sent}
use Rattle.id_laws.specs.Topics.{entry_of, entry_wants, further_of, further_wants, sent_to}
use Rattle.id_laws.specs.Topics.{Turned, ValueOf, NameIn, ResultOf, TestOf, split_of, Tells, ShownResult, speaks_of}
use Rattle.id_laws.specs.Topics.{topic_of, wants, topic_at, result_at, result_of}
use Rattle.id_laws.proofs.Rows.Assumed.{IsKnown, is_handed, names_by, names_of}
use Rattle.id_laws.proofs.Paths.Counted.{bound_first, flag_origin, index_block, switches_block}
use Rattle.id_laws.proofs.Telling.FiringMeans.{stands_truth}
use Rattle.id_laws.proofs.Rows.Loops.{loop_of_head, loop_of_row, loop_of_start, next_block, reset_in, reset_node}
use Rattle.id_laws.proofs.Rows.Loops.{turn_in, turn_node}
use Rattle.id_laws.proofs.Rows.Loops.{bounds_region, carried_loop, carried_stands, count_at, count_loop, count_region}
use Rattle.id_laws.proofs.Rows.Loops.{counted_of, counts_stands, own_switches}
use Rattle.id_laws.proofs.Rows.Loops.{switches_node, switches_region, switches_same, test_row, turn_at, turn_is}
use Rattle.id_laws.proofs.Rows.Loops.{turn_region_at, within_counted}
use Rattle.id_build.proofs.LoopsLemmas.{next_is}
use Rattle.id_build.proofs.NamesSeen.{listed}
use Rattle.id_laws.proofs.Rows.Arcs.{Arc, to_back, to_literal, to_unary, to_left, to_right, to_test, to_trigger}
use Rattle.id_laws.proofs.Rows.Arcs.{to_import_test, to_import, to_then, to_else}
use Rattle.id_laws.proofs.Rows.Arcs.{to_enter, to_context, to_argument, to_label, to_loop_context, to_entering, to_head}
use Rattle.id_laws.proofs.Rows.Arcs.{to_loop_back, fed}
use Rattle.id_laws.proofs.Rows.Arcs.{to_variable, to_entry, to_turn, to_turn_name, to_next, to_reset}
use Rattle.id_laws.proofs.Rows.Arcs.{to_low, to_high, to_target, to_index, to_fetch, to_store, to_stored}
use Rattle.id_laws.specs.Topics.{of_fetch, of_store}
use Rattle.id_laws.proofs.Rows.Calls.{arg_at}
use Rattle.id_laws.proofs.Rows.Stores.{address_at}
use Rattle.id_laws.proofs.Rows.Conditionals.{arm_of, arms_test, chosen, conditional, no_within, test_at, arm_live}
use Rattle.id_laws.proofs.Rows.Arcs.{to_carried_context, to_first_index, to_first_bound, to_first_flag, to_next_index}
use Rattle.id_laws.proofs.Rows.Arcs.{to_next_bound, to_next_flag}
use Rattle.id_laws.proofs.Rows.Arcs.{to_lower, to_upper, to_first_test, to_first, to_carried, to_index_now, to_bound}
use Rattle.id_laws.proofs.Rows.Arcs.{to_further_test, to_further}
use Rattle.id_laws.proofs.Rows.Arcs.{to_last_test, to_last, to_one, to_add, to_add_one, carries_on, three_carried}
use Rattle.id_laws.proofs.Rows.Arcs.{none_carried}
use Rattle.id_build.proofs.EndsLemmas.{end_is}
use Rattle.id_laws.proofs.Rows.Regions.{HeadOf, of_block, of_tests, no_depth, region_of}
use Rattle.id_laws.proofs.Rows.Sources.{begins_other, tests_other, is_mover, mover_returns, Returns, to_trigger_again}
use Rattle.id_laws.proofs.Rows.Sources.{to_result, to_variable_again, to_entry_again}
use Rattle.id_laws.proofs.Rows.Sources.{to_carried_again, turn_counts}
use Rattle.id_laws.proofs.Telling.Origins.{bound_tells, hands_bound, hands_name, hands_topic, hands_trigger}
use Rattle.id_laws.proofs.Telling.Origins.{named_tells, origin_shows, side_tells, switch_topic}
use Rattle.id_laws.proofs.Paths.Seats.{OneSeat, one_path}
use Rattle.id_laws.proofs.Telling.TurnedOn.{holds_by, without_none, turned_on, test_has}

true_false : true ≡ false → ⊥
true_false h = cc

-- what a part that hands on to the next iteration speaks of, and wants
abbrev further_topic : Checked → ℕ → ℕ → Rattle.id_laws.specs.Topics.Topic
further_topic P h part = cond (has_index P h) (further_of P h part) (split_of (top h) (imports_of P h) part)

abbrev further_wanted : Checked → Region → ℕ → ℕ → Rattle.id_laws.specs.Topics.Topic
further_wanted P r h part = cond (has_index P h) (further_wants P r h part) (split_of r (imports_of P h) part)

-- behind those of what a loop carries on come the names that go into it
pub sent_name : (P : Checked) (n : ℕ) (r : Region) (k : ℕ)
    → sent_to P n r (carries_on P (n + 1) + k) ≡ NameIn r (get_or (entering P (n + 1)) k 0)
sent_name P n r k = go (has_index P (n + 1)) refl
  where
    go : (u : Truth) → has_index P (n + 1) ≡ u
        → sent_to P n r (carries_on P (n + 1) + k) ≡ NameIn r (get_or (entering P (n + 1)) k 0)
    go true has =
        let at : carries_on P (n + 1) + k ≡ suc (suc (suc k)) =
        omega (arith, ap length (three_carried P (n + 1) has)) in
        ap (sent_to P n r) at
        ∙ ap (λ u. cond u (NameIn r (get_or (entering P (n + 1)) k 0))
        (NameIn r (get_or (entering P (n + 1)) (suc (suc (suc k))) 0))) has
    go false none =
        let at : carries_on P (n + 1) + k ≡ k = omega (arith, ap length (none_carried P (n + 1) none)) in
        ap (sent_to P n r) at
        ∙ ap (λ u. cond u (bounded_sent P n r k) (NameIn r (get_or (entering P (n + 1)) k 0))) none

module _ (S : Source) (known : IsKnown S.checked) (number : ℕ → ℕ
    → ℕ) (run : List Event) (seats : OneSeat S number run) (a : Activation) where
  abbrev P : Checked
  P = S.checked

  abbrev T : Rattle.id_laws.specs.Topics.Topic → Value → Type 0
  T t v = Tells S number run a t v

  -- an operand's value
  operand_tells : (n e : ℕ) (m : Node) (v : Value) → n < length (rows P) → node P n ≡ m → HasPart m e → HasOperand m e
      → T (topic_of P (origin P e)) v → T (ValueOf e) v
  operand_tells n e m v within is part operand tells =
      let less = (((known.table).formed).each n within).parts e (subst (λ z. HasPart z e) (sym is) part) in
      origin_shows S known number run seats a e v (omega (arith, within, less.1))
      (known.operands n e within (subst (λ z. HasOperand z e) (sym is) operand))
      tells

  -- the value of a procedure's body
  result_tells : (h : ℕ) (v : Value) → h < length (rows P) → node P h ≡ Head
      → T (topic_of P (origin P (body_of (node P (end_of P h))))) v →
      ShownResult S number run a h v
  result_tells h v within is tells =
      let def = end_is P (known.table) h within is in
      let b = result_of P h in
      let body_is : b ≡ def.body = ap result_at def.node in
      let same : body_of (node P (end_of P h)) ≡ b = ap body_of def.node ∙ sym body_is in
      let parts =
      (((known.table).formed).each (end_of P h) def.within).parts def.body
      (subst (λ z. HasPart z def.body) (sym def.node) (inr refl)) in
      let expression = ((known.table).head_is (end_of P h) def.name h def.body def.result def.within def.node).2 in
      let shows =
      origin_shows S known number run seats a b v
      (subst (λ z. z < length (rows P)) (sym body_is) (omega (arith, def.within, parts.1)))
      (ap (λ z. is_expression (node P z)) body_is ∙ expression)
      (subst (λ z. T (topic_of P (origin P z)) v) same tells) in
      record {
        iteration = a.iteration;
        live = shows.0;
        shown = shows.1;
        at_first = seats.first def (subst (λ z. Live S number run a (region P z)) body_is shows.0);
      }

  -- what the trigger of a region speaks of
  trigger_topic : (r : Region) → HeadOf P r → topic_of P (trigger_of r) ≡ Turned r
  trigger_topic r (of_block is top_is) = block_topic (node P r.head) is ∙ ap Turned (sym top_is)
    where
      block_topic : (m : Node) → begins_block m ≡ true
          → speaks_of P r.head (region P r.head) m 0 r.side ≡ Turned (top r.head)
      block_topic Head e = refl
      block_topic (LoopHead t) e = refl
      block_topic _ e = absurd (true_false (sym e))
  trigger_topic r (of_tests (of_arms is)) = ap (λ z. speaks_of P r.head (region P r.head) z 0 r.side) is
  trigger_topic r (of_tests (of_turns is)) = switch_topic P (of_turns is) 0 r.side ∙ hands_trigger P r (of_turns is)

  -- a signal from the head of the row's region
  signal_tells : (n : ℕ) (v : Value) → n < length (rows P) → (node P n ≡ Program → ⊥)
      → T (topic_of P (trigger_of (region P n))) v → T (Turned (region P n)) v
  signal_tells n v within other tells =
      subst (λ z. T z v) (trigger_topic (region P n) (region_of known within other).head) tells

  -- the predicate's value, or what a loop with an index goes by
  test_tells : (n t : ℕ) (v : Value) → n < length (rows P) → Tests P n t → Speaks S number run a (origin P t) v
      → T (topic_of P (origin P t)) v → T (TestOf n) v
  test_tells n t v within is says tells = go (is_within (node P t)) refl
    where
      by_predicate : is_within (node P t) ≡ false → T (TestOf n) v
      by_predicate other =
          let z = test_at known within is in
          let shows = origin_shows S known number run seats a t v z.within (z.expression other) tells in
          let shown = shows.1 in
          record {
            test = t;
            tests = is;
            live = subst (Live S number run a) z.region shows.0;
            spoken = says;
            goes = λ b v_is. record {
              path = shown.path;
              path_of = shown.path_of;
              goes = by_test is other (subst (λ (y : Path × SourceValue). Holds S (Has y.0 (place P t) y.1)) {x =
                  (_, shown.value)}
                  {y = (shown.path, source.Bool b)} (λ i. (without_none shown.path i, stands_truth shown.stands v_is i))
                  shown.holds);
            };
          }

      bools : (b c : Truth) → value.Bool b ≡ value.Bool c → b ≡ c
      bools b c e = cc

      go : (u : Truth) → is_within (node P t) ≡ u → T (TestOf n) v
      go false e = by_predicate e
      go true e =
          let at = turns_of is (arms_plain n t within e) in
          let l = loop_of_row known (Switches t) within at refl in
          let h = block P n in
          let w_is = own_switches P known n t within at l in
          let both : Switches t ≡ Switches (test_row P known h l) =
          sym at ∙ ap (node P) (sym w_is) ∙ switches_node P known h l in
          let test : t ≡ test_row P known h l = cc in
          let c = within_counted e l test in
          let stand = carried_stands P known h l c (h + 3) (omega arith) (omega arith) in
          let third : h + 3 - (h + 1) ≡ 2 = omega arith in
          let flag : ShownFlag S number run a h v = subst (λ z. T z v)
          (ap (λ i. topic_of P (origin P i)) test ∙ ap (topic_of P) (flag_origin P known h l c)
          ∙ ap (λ m. speaks_of P (h + 3) (region P (h + 3)) m 0 true) c.flag
          ∙ (λ i. entry_of P (stand.0 i) (h + 3 - (stand.0 i + 1))) ∙ ap (entry_of P h) third) tells in
          let here : region P n ≡ top h = ap (region P) (sym w_is) ∙ switches_region P known h l in
          let row : switches_of P h ≡ n = switches_same P known h l ∙ w_is in
          let side = flag.shown in
          record {
            test = t;
            tests = is;
            live = subst (Live S number run a) (sym here) flag.live;
            spoken = says;
            goes = λ b v_is. record {
              path = side.path;
              path_of = side.path_of;
              goes = subst (λ (z : ℕ × Truth). Goes S side.path z.0 z.1) {x = (switches_of P h, (side.goes).side)} {y =
                  (n, b)}
                  (λ i. (row i, bools _ _ (sym (side.goes).is ∙ v_is) i)) (side.goes).goes;
            };
          }
        where
          arms_plain : (n t : ℕ) → n < length (rows P) → is_within (node P t) ≡ true → node P n ≡ Split t → ⊥
          arms_plain n t within e arms = true_false (sym e ∙ no_within (node P t) (arms_test known within arms))

          turns_of : Tests P n t → (node P n ≡ Split t → ⊥) → node P n ≡ Switches t
          turns_of (of_arms arms) other = absurd (other arms)
          turns_of (of_turns at) other = at

  -- the value of an arm
  arm_tells : (n s x y : ℕ) (b : Truth) (v : Value) → n < length (rows P) → node P n ≡ If s x y
      → T (topic_of P (origin P (arm_of b x y))) v → T (ValueOf n) v
  arm_tells n s x y b v within is tells =
      let c = conditional known within is in
      let e = arm_of b x y in
      let shows = origin_shows S known number run seats a e v (c.arm_within b) (c.arm_expression b) tells in
      let shown = shows.1 in
      let l = arm_live known shows.0 (c.arm_region b) (of_arms c.node) in
      let live = subst (Live S number run a) c.region l.live in
      let on = turned_on S known seats live shown.path_of ((known.table).turned n within (ap is_expression is)) in
      let goes = subst (λ p. Goes S p s b) (one_path seats (l.goes).path_of shown.path_of) (l.goes).goes in
      let test = test_has S known c.node goes in
      let has = subst (λ z. Holds S (Has z (place P e) shown.value)) (without_none shown.path) shown.holds in (
        live,
        record {
          path = shown.path;
          path_of = shown.path_of;
          value = shown.value;
          stands = shown.stands;
          holds = subst (λ z. Holds S (Has z (place P n) shown.value)) (sym (without_none shown.path))
              (holds_by S _ _
              (conditional_has
              (chosen b (record { within = within; node = is }) (record { within = c.within; node = c.node })))
              (on, (test, (has, tt))));
        },
      )

  -- what the part wants, by its node
  at_node : (n part : ℕ) (p : Port) (v : Value) (m : Node) → node P n ≡ m → T (wants P n (region P n) m part p) v
      → T (topic_at P n part p) v
  at_node n part p v m is tells = subst (λ z. T (wants P n (region P n) z part p) v) (sym is) tells

  -- at port 0 of switches, and at their port 1
  at_tests : (n part : ℕ) (v : Value) {t : ℕ} → Tests P n t → T (TestOf n) v → T (topic_at P n part Zero) v
  at_tests n part v (of_arms {e = t} is) tells = at_node n part Zero v (Split t) is tells
  at_tests n part v (of_turns {e = t} is) tells = at_node n part Zero v (Switches t) is tells

  at_switch : (n part : ℕ) (v : Value) {t : ℕ} → Tests P n t → T (hands_topic P (region P n) n (node P n) part) v
      → T (topic_at P n part One) v
  at_switch n part v (of_arms {e = t} is) tells =
      at_node n part One v (Split t) is (subst (λ m. T (hands_topic P (region P n) n m part) v) is tells)
  at_switch n part v (of_turns {e = t} is) tells =
      at_node n part One v (Switches t) is (subst (λ m. T (hands_topic P (region P n) n m part) v) is tells)

  -- what switches get to hand on
  import_tells : (n t k : ℕ) (v : Value) → n < length (rows P) → Tests P n t → k < length (imports_of P n)
      → T (topic_of P (name_in P (region P n) (get_or (imports_of P n) k 0))) v
      → T (hands_topic P (region P n) n (node P n) (suc k)) v
  import_tells n t k v within is less tells = go (is_binder (node P b)) refl
    where
      b : ℕ
      b = get_or (imports_of P n) k 0

      z : (b < length (rows P)) × (is_handed (node P b) ≡ true) × Sees P b (region P n)
      z = known.imported n t b within is (listed (imports_of P n) k less)

      named : is_binder (node P b) ≡ true → T (hands_topic P (region P n) n (node P n) (suc k)) v
      named binds =
          subst (λ q. T q v) (sym (hands_name P known (region P n) k within is binds))
          (named_tells S known number run seats a (region P n) b v z.0 binds z.2 tells)

      by : Tests P n t → (k : ℕ) → k < length (imports_of P n)
          → is_binder (node P (get_or (imports_of P n) k 0)) ≡ false
          → T (topic_of P (name_in P (region P n) (get_or (imports_of P n) k 0))) v
          → T (hands_topic P (region P n) n (node P n) (suc k)) v
      by (of_arms at) k less other tells =
          let names : names_of P n ≡ imports_of P n = ap (names_by P n) at ∙ ap (handed P n) (sym at) in
          let in_names = subst (Among (get_or (imports_of P n) k 0)) (sym names) (listed (imports_of P n) k less) in
          absurd (true_false (sym (known.names n t (get_or (imports_of P n) k 0) within is in_names) ∙ other))
      by (of_turns at) k less other tells = turned (has_index P (block P n)) refl k less other tells
        where
          turned : (u : Truth) → has_index P (block P n) ≡ u → (k : ℕ) → k < length (imports_of P n)
              → is_binder (node P (get_or (imports_of P n) k 0)) ≡ false
              → T (topic_of P (name_in P (region P n) (get_or (imports_of P n) k 0))) v
              → T (hands_topic P (region P n) n (node P n) (suc k)) v
          turned false none k less other tells =
              let names : names_of P n ≡ imports_of P n = ap (names_by P n) at
              ∙ ap (λ u. cond u ((block P n + 2) ∷ []) [] ++ (nexts_of P (block P n) ++ taken P (block P n))) (sym none)
              ∙ ap (handed P n) (sym at) in
              let in_names = subst (Among (get_or (imports_of P n) k 0)) (sym names) (listed (imports_of P n) k less) in
              absurd (true_false (sym (known.names n t (get_or (imports_of P n) k 0) within is in_names) ∙ other))
          turned true has zero less other tells =
              let h = block P n in
              let l = loop_of_row known (Switches t) within at refl in
              let c = counted_of P l.all has in
              let w_is = own_switches P known n t within at l in
              let here : region P n ≡ top h = ap (region P) (sym w_is) ∙ switches_region P known h l in
              let first : get_or (imports_of P n) 0 0 ≡ h + 2 =
              ap (λ i. get_or (imports_of P i) 0 0) (sym w_is) ∙ ap (λ bs. get_or bs 0 0) (bound_first P known h l c) in
              let got =
              subst (λ (y : Region × ℕ). T (topic_of P (name_in P y.0 y.1)) v) {x =
              (region P n, get_or (imports_of P n) 0 0)} {y = (top h, h + 2)}
              (λ i. (here i, first i)) tells in
              subst (λ q. T q v) (ap (λ r. BoundIn r h) (sym here) ∙ sym (hands_bound P n (region P n) at has))
              (bound_tells S known number run seats a h v l c got)
          turned true has (suc k) less other tells =
              let h = block P n in
              let l = loop_of_row known (Switches t) within at refl in
              let c = counted_of P l.all has in
              let w_is = own_switches P known n t within at l in
              let listed_so : imports_of P n ≡ (h + 2) ∷ (nexts_of P h ++ taken P h) =
              ap (imports_of P) (sym w_is) ∙ bound_first P known h l c in
              let names : names_of P n ≡ nexts_of P h ++ taken P h = ap (names_by P n) at in
              let few : k < length (nexts_of P h ++ taken P h) = omega (arith, less, ap length listed_so) in
              let in_names =
              subst (Among (get_or (nexts_of P h ++ taken P h) k 0)) (sym names)
              (listed (nexts_of P h ++ taken P h) k few) in
              let same : get_or (imports_of P n) (suc k) 0 ≡ get_or (nexts_of P h ++ taken P h) k 0 =
              ap (λ bs. get_or bs (suc k) 0) listed_so in
              absurd (true_false (sym (known.names n t _ within is in_names) ∙ ap (λ i. is_binder (node P i)) (sym same)
              ∙ other))

      go : (u : Truth) → is_binder (node P b) ≡ u → T (hands_topic P (region P n) n (node P n) (suc k)) v
      go true binds = named binds
      go false other = by is k less other tells

  -- behind those of what a loop carries on come the names
  further_name : (h k : ℕ) → further_topic P h (suc (carries_on P h + k)) ≡ NameIn (top h) (get_or (imports_of P h) k 0)
  further_name h k = go (has_index P h) refl
    where
      go : (u : Truth) → has_index P h ≡ u
          → further_topic P h (suc (carries_on P h + k)) ≡ NameIn (top h) (get_or (imports_of P h) k 0)
      go true has =
          let at : suc (carries_on P h + k) ≡ suc (suc (suc (suc k))) =
          omega (arith, ap length (three_carried P h has)) in
          ap (further_topic P h) at
          ∙ ap (λ u. cond u (NameIn (top h) (get_or (imports_of P h) k 0))
          (split_of (top h) (imports_of P h) (suc (suc (suc (suc k)))))) has
      go false none =
          let at : suc (carries_on P h + k) ≡ suc k = omega (arith, ap length (none_carried P h none)) in
          ap (further_topic P h) at
          ∙ ap (λ u. cond u (further_of P h (suc k)) (NameIn (top h) (get_or (imports_of P h) k 0))) none

  wanted_name : (r : Region) (h k : ℕ)
      → further_wanted P r h (suc (carries_on P h + k)) ≡ NameIn r (get_or (imports_of P h) k 0)
  wanted_name r h k = go (has_index P h) refl
    where
      go : (u : Truth) → has_index P h ≡ u
          → further_wanted P r h (suc (carries_on P h + k)) ≡ NameIn r (get_or (imports_of P h) k 0)
      go true has =
          let at : suc (carries_on P h + k) ≡ suc (suc (suc (suc k))) =
          omega (arith, ap length (three_carried P h has)) in
          ap (further_wanted P r h) at
          ∙ ap (λ u. cond u (NameIn r (get_or (imports_of P h) k 0))
          (split_of r (imports_of P h) (suc (suc (suc (suc k)))))) has
      go false none =
          let at : suc (carries_on P h + k) ≡ suc k = omega (arith, ap length (none_carried P h none)) in
          ap (further_wanted P r h) at
          ∙ ap (λ u. cond u (further_wants P r h (suc k)) (NameIn r (get_or (imports_of P h) k 0))) none

  further_trigger : (h : ℕ) → further_topic P h 0 ≡ Turned (top h)
  further_trigger h = go (has_index P h) refl
    where
      go : (u : Truth) → has_index P h ≡ u → further_topic P h 0 ≡ Turned (top h)
      go true e = ap (λ u. cond u (Turned (top h)) (Turned (top h))) e
      go false e = ap (λ u. cond u (Turned (top h)) (Turned (top h))) e

  wanted_trigger : (r : Region) (h : ℕ) → further_wanted P r h 0 ≡ Turned r
  wanted_trigger r h = go (has_index P h) refl
    where
      go : (u : Truth) → has_index P h ≡ u → further_wanted P r h 0 ≡ Turned r
      go true e = ap (λ u. cond u (Turned r) (Turned r)) e
      go false e = ap (λ u. cond u (Turned r) (Turned r)) e

  -- what comes to a loop from its iterations speaks of what is wanted there
  returned_topic : {n part : ℕ} {p : Port} {s : Origin} → n < length (rows P) → Returns P n part p s
      → topic_of P s ≡ topic_at P n part p
  returned_topic {n} within (to_trigger_again {t = t} is) =
      let l = loop_of_head known within is in
      let q = turn_row P n in
      ap (λ m. speaks_of P q (region P q) m 0 true) (turn_node P known n l) ∙ further_trigger (block P q)
      ∙ ap (λ h. Turned (top h)) (turn_in P known n l)
      ∙ ap (λ m. wants P n (region P n) m 0 Zero) (sym is)
  returned_topic {n} within (to_result {t = t} is) =
      let l = loop_of_head known within is in
      let q = end_of P n - 2 in
      ap (λ m. speaks_of P q (region P q) m 0 true) (reset_node P known n l) ∙ ap ResultOf (reset_in P known n l)
      ∙ ap (λ m. wants P n (region P n) m 1 One) (sym is)
  returned_topic {n} within (to_variable_again is) =
      let z = next_is P n within is in
      let m = next_of P n in
      let stands : region P n ≡ top (block P n) = (known.table).at_top n within (ap is_top is) in
      ap (λ y. speaks_of P m (region P m) y 0 true) z.node ∙ ap (λ h. NameIn (top h) m) (next_block P known n within is)
      ∙ ap (λ r. NameIn r m) (sym stands) ∙ ap (λ y. wants P n (region P n) y 0 Zero) (sym is)
  returned_topic {n} within (to_entry_again k is less) =
      let l = loop_of_row known Entries within is refl in
      let h = block P n in
      let q = turn_row P h in
      let stands : region P n ≡ top h = (known.table).at_top n within (ap is_top is) in
      ap (λ m. speaks_of P q (region P q) m (suc (carries_on P h + k)) true) (turn_node P known h l)
      ∙ ap (λ g. further_topic P g (suc (carries_on P h + k))) (turn_in P known h l) ∙ further_name h k
      ∙ ap (λ r. NameIn r (get_or (imports_of P h) k 0)) (sym stands)
      ∙ ap (λ m. wants P n (region P n) m k Zero) (sym is)
  returned_topic {n} within (to_carried_again {k = kind} is) =
      let z = carried_loop known within is in
      let l = z.loop in
      let h = block P n in
      let q = turn_row P h in
      let j : n - h ≡ suc (n - (h + 1)) = omega (arith, z.low) in
      ap (λ m. speaks_of P q (region P q) m (n - h) true) (turn_node P known h l)
      ∙ ap (λ g. further_topic P g (n - h)) (turn_in P known h l)
      ∙ ap (λ u. cond u (further_of P h (n - h)) (split_of (top h) (imports_of P h) (n - h))) (z.counted).has
      ∙ ap (further_of P h) j ∙ entered_so h (n - (h + 1)) (omega (arith, z.high, z.low))
      ∙ ap (λ m. wants P n (region P n) m 0 Zero) (sym is)
    where
      entered_so : (h k : ℕ) → k < 3 → further_of P h (suc k) ≡ entry_wants h k
      entered_so h zero less = refl
      entered_so h (suc zero) less = refl
      entered_so h (suc (suc zero)) less = refl
      entered_so h (suc (suc (suc k))) less = absurd (omega (arith, less))

  start_after : {n e f : ℕ} → node P n ≡ Start → node P (n - 1) ≡ Bounds e f → 0 < n
  start_after {n = zero} {e = e} {f = f} is at = let bad : Start ≡ Bounds e f = sym is ∙ at in cc
  start_after {n = suc n} is at = omega arith

  -- what counts stands right before what hands on
  count_is : {n : ℕ} → n < length (rows P) → node P n ≡ Turn → has_index P (block P n) ≡ true
      → n - 1 ≡ count_row P (block P n)
  count_is {n} within is has =
      let h = block P n in
      let l = loop_of_row known Turn within is refl in
      let c = counted_of P l.all has in
      let at : n ≡ (l.all).turn = turn_at known within is l ∙ turn_is P known h l in
      let same = switches_same P known h l in
      omega (arith, at, c.turn, same)

  count_block : {n : ℕ} → n < length (rows P) → node P n ≡ Turn → has_index P (block P n) ≡ true
      → block P (n - 1) ≡ block P n
  count_block {n} within is has =
      let h = block P n in
      let l = loop_of_row known Turn within is refl in
      let c = counted_of P l.all has in
      let at : n ≡ (l.all).turn = turn_at known within is l ∙ turn_is P known h l in
      let before : n - 1 ≡ (l.the).switches + 1 = omega (arith, at, c.turn) in
      ap (block P) before ∙ (counts_stands P known h l c ((l.the).switches + 1) (omega arith) (omega arith)).0

  -- what the index has spoken
  index_tells : (n : ℕ) (v : Value) → n < length (rows P) → node P n ≡ Count
      → Speaks S number run a (output (block P n + 1)) v → T (topic_of P (output (block P n + 1))) v
      → T (SaidIndex (block P n)) v
  index_tells n v within is says tells =
      let h = block P n in
      let z = count_loop known within is in
      let l = z.0 in
      let c = z.1 in
      let stand = carried_stands P known h l c (h + 1) (omega arith) (omega arith) in
      let none : h + 1 - (h + 1) ≡ 0 = omega arith in
      let w = switches_of P h in
      let x = index_row w in
      let got : T (NameIn (arm_at w true) x) v = subst (λ q. T q v)
      (ap (λ m. speaks_of P (h + 1) (region P (h + 1)) m 0 true) c.entry
      ∙ (λ i. entry_of P (stand.0 i) (h + 1 - (stand.0 i + 1))) ∙ ap (entry_of P h) none) tells in
      let same = switches_same P known h l in
      let depth : loops_between (rows P) w x ≡ 0 = no_depth P w x (ap (block P) same ∙ switches_block P known h l c
      ∙ sym (ap (λ u. block P (index_row u)) same ∙ index_block P known h l c)) in
      (got.0, subst (λ d. Shown S number run a d (place P x) v) depth got.1, says)

  -- what counts has said
  next_tells : (n : ℕ) (v : Value) → n < length (rows P) → node P n ≡ Count → Speaks S number run a (output n) v
      → T (topic_of P (output n)) v → T (SaidNext (block P n)) v
  next_tells n v within is says tells =
      let h = block P n in
      let z = count_loop known within is in
      let at : n ≡ count_row P h =
      count_at known within is z.0 ∙ ap (λ w. w + 1) (sym (switches_same P known h z.0)) in (
        subst (λ m. T (speaks_of P n (region P n) m 0 true) v) is tells,
        subst (λ i. Speaks S number run a (output i) v) at says,
      )

  by_arc : {n part : ℕ} {p : Port} {s : Origin} (v : Value) → n < length (rows P) → Arc P n part p s
      → Speaks S number run a s v → T (topic_of P s) v → T (topic_at P n part p) v
  by_arc {n} v within (to_back is) says tells = at_node n 1 One v Head is (result_tells n v within is tells)
  by_arc {n} v within (to_literal {c = c} is) says tells =
      at_node n 0 Zero v (Literal c) is (signal_tells n v within (λ e. let bad : Program ≡ Literal c = sym e ∙ is in
      cc) tells)
  by_arc {n} v within (to_unary {o = o} {a = e} is) says tells =
      at_node n 0 Zero v (Unary o e) is (operand_tells n e (Unary o e) v within is refl refl tells)
  by_arc {n} v within (to_left {o = o} {a = e} {b = f} is) says tells = at_node n 0 Zero v (Binary o e f) is
      (operand_tells n e (Binary o e f) v within is (inl refl) (inl refl) tells)
  by_arc {n} v within (to_right {o = o} {a = e} {b = f} is) says tells = at_node n 0 One v (Binary o e f) is
      (operand_tells n f (Binary o e f) v within is (inr refl) (inr refl) tells)
  by_arc {n} v within (to_test {t = t} is) says tells = at_tests n 0 v is (test_tells n t v within is says tells)
  by_arc {n} v within (to_trigger {t = t} is) says tells =
      at_switch n 0 v is
      (subst (λ z. T z v) (sym (hands_trigger P (region P n) is))
      (signal_tells n v within (tests_other P known is) tells))
  by_arc {n} v within (to_import_test {t = t} k is less) says tells =
      at_tests n (suc k) v is (test_tells n t v within is says tells)
  by_arc {n} v within (to_import {t = t} k is less) says tells =
      at_switch n (suc k) v is (import_tells n t k v within is less tells)
  by_arc {n} v within (to_then {s = s} {x = x} {y = y} is) says tells =
      at_node n 0 Zero v (If s x y) is (arm_tells n s x y true v within is tells)
  by_arc {n} v within (to_else {s = s} {x = x} {y = y} is) says tells =
      at_node n 0 Zero v (If s x y) is (arm_tells n s x y false v within is tells)
  by_arc {n} v within (to_enter (of_call {x = x} is)) says tells = at_node n 0 Zero v (Enter x) is
      (signal_tells n v within (begins_other P known (of_call is)) tells)
  by_arc {n} v within (to_enter (of_loop is)) says tells =
      at_node n 0 Zero v Start is (signal_tells n v within (begins_other P known (of_loop is)) tells)
  by_arc {n} v within (to_context {e = e} {k = k} {v = w} is) says tells =
      let z = arg_at known within is in
      at_node n 0 Zero v (Arg e k w) is (subst (λ m. T (speaks_of P e (region P e) m 0 true) v) z.enter tells)
  by_arc {n} v within (to_argument {e = e} {k = k} {v = w} is) says tells =
      at_node n 0 One v (Arg e k w) is (operand_tells n w (Arg e k w) v within is (inr refl) refl tells)
  by_arc {n} v within (to_label {x = x} {a = e} is) says tells = at_node n 0 Zero v (Binding x e) is
      (operand_tells n e (Binding x e) v within is refl refl tells)
  by_arc {n} v within (to_loop_context k is less) says tells =
      at_node n (suc (carries_on P (n + 1) + k)) Zero v Start is
      (subst (λ m. T (speaks_of P n (region P n) m 0 true) v) is tells)
  by_arc {n} v within (to_carried_context k is at has less) says tells =
      at_node n (suc k) Zero v Start is (subst (λ m. T (speaks_of P n (region P n) m 0 true) v) is tells)
  by_arc {n} v within (to_first_index {a = e} {b = f} is at has) says tells =
      let up : n - 1 + 2 ≡ n + 1 = omega (arith, start_after is at) in
      at_node n 1 One v Start is
      (subst (λ z. T z v) (ap (λ m. speaks_of P (n - 1) (region P (n - 1)) m 1 true) at ∙ ap FirstIndex up
      ∙ ap (λ u. cond u (FirstIndex (n + 1)) (NameIn (region P n) (get_or (entering P (n + 1)) 0 0))) (sym has)) tells)
  by_arc {n} v within (to_first_bound {a = e} {b = f} is at has) says tells =
      let shows = operand_tells (n - 1) f (Bounds e f) v (omega (arith, within)) at (inr refl) (inr refl) tells in
      let l = loop_of_start known within is in
      let c = counted_of P l.all has in
      let back : (n + 1) - 1 ≡ n = omega arith in
      let low : bounds_row (n + 1) ≡ n - 1 = omega arith in
      let stands =
      ((known.table).part_stands (n - 1) f (omega (arith, within)) (subst (λ m. HasNear m f) (sym at) (inr refl))).1 in
      let here : region P f ≡ region P n =
      stands ∙ ap (region P) (sym low) ∙ bounds_region P known (n + 1) l c ∙ ap (region P) back in
      let upper : unwrap_or (upper_at (rows P) (n + 1)) 0 ≡ f =
      ap (λ i. unwrap_or (upper_of (node P i)) 0) low ∙ ap (λ m. unwrap_or (upper_of m) 0) at in
      let depth : loops_between (rows P) (region P n).head ((n + 1) - 1) ≡ 0 =
      ap (loops_between (rows P) (region P n).head) back
      ∙ no_depth P (region P n).head n (region_of known within (λ z. let bad : Start ≡ Program = sym is ∙ z in
      cc)).block in
      at_node n 2 One v Start is (subst (λ z. T z v)
      (ap (λ u. cond u (BoundIn (region P n) (n + 1)) (NameIn (region P n) (get_or (entering P (n + 1)) 1 0)))
      (sym has)) (
        subst (Live S number run a) here shows.0,
        subst (λ (z : ℕ × ℕ). Shown S number run a z.0 (place P z.1) v) {x = (0, f)}
            {y = (loops_between (rows P) (region P n).head ((n + 1) - 1), unwrap_or (upper_at (rows P) (n + 1)) 0)}
            (λ i. (sym depth i, sym upper i)) shows.1,
      ))
  by_arc {n} v within (to_first_flag {a = e} {b = f} is at has) says tells =
      let up : n - 1 + 2 ≡ n + 1 = omega (arith, start_after is at) in
      let low : n - 1 ≡ bounds_row (n + 1) = omega arith in
      let flag =
      subst (λ z. T z v) (ap (λ m. speaks_of P (n - 1) (region P (n - 1)) m 0 true) at ∙ ap FirstFlag up) tells in
      at_node n 3 One v Start is (subst (λ z. T z v)
      (ap (λ u. cond u (SaidFirst (n + 1)) (NameIn (region P n) (get_or (entering P (n + 1)) 2 0))) (sym has))
      (flag.0, flag.1, subst (λ i. Speaks S number run a (output i) v) low says))
  by_arc {n} v within (to_entering k is less) says tells =
      let b = get_or (entering P (n + 1)) k 0 in
      let z = known.loop_names n within is b (listed (entering P (n + 1)) k less) in
      at_node n (suc (carries_on P (n + 1) + k)) One v Start is (subst (λ q. T q v) (sym (sent_name P n (region P n) k))
      (named_tells S known number run seats a (region P n) b v z.0 z.1 z.2 tells))
  by_arc {n} v within (to_head {s = t} is) says tells =
      subst (λ z. T z v) (returned_topic within (to_trigger_again is)) tells
  by_arc {n} v within (to_loop_back {s = t} is) says tells =
      subst (λ z. T z v) (returned_topic within (to_result is)) tells
  by_arc {n} v within (to_variable is) says tells =
      subst (λ z. T z v) (returned_topic within (to_variable_again is)) tells
  by_arc {n} v within (to_entry k is less) says tells =
      subst (λ z. T z v) (returned_topic within (to_entry_again k is less)) tells
  by_arc {n} v within (to_turn is) says tells =
      at_node n 0 Zero v Turn is (subst (λ z. T z v) (sym (wanted_trigger (region P n) (block P n)))
      (signal_tells n v within (λ e. let bad : Program ≡ Turn = sym e ∙ is in cc) tells))
  by_arc {n} v within (to_turn_name k is less) says tells =
      let b = get_or (imports_of P (block P n)) k 0 in
      let z = known.turn_names n within is b (listed (imports_of P (block P n)) k less) in
      at_node n (suc (carries_on P (block P n) + k)) Zero v Turn is
      (subst (λ q. T q v) (sym (wanted_name (region P n) (block P n) k))
      (named_tells S known number run seats a (region P n) b v z.0 z.1 z.2 tells))
  by_arc {n} v within (to_next_index is has) says tells =
      let z = turn_counts P known within is has in
      let h = block P n in
      let in_block : block P (n - 1) ≡ h = count_block within is has in
      at_node n 1 Zero v Turn is
      (subst (λ q. T q v) (ap (λ m. speaks_of P (n - 1) (region P (n - 1)) m 4 true) z.1 ∙ ap NextIndex in_block
      ∙ ap (λ u. cond u (NextIndex h) (split_of (region P n) (imports_of P h) 1)) (sym has)) tells)
  by_arc {n} v within (to_next_bound is has) says tells =
      let l = loop_of_row known Turn within is refl in
      let h = block P n in
      let c = counted_of P l.all has in
      let here = turn_region_at known within is l in
      let got = subst (λ r. T (topic_of P (name_in P r (h + 2))) v) here tells in
      at_node n 2 Zero v Turn is (subst (λ q. T q v) (ap (λ r. BoundIn r h) (sym here)
      ∙ ap (λ u. cond u (BoundIn (region P n) h) (split_of (region P n) (imports_of P h) 2)) (sym has))
      (side_tells S known number run seats a h v l c true got))
  by_arc {n} v within (to_next_flag is has) says tells =
      let z = turn_counts P known within is has in
      let h = block P n in
      let in_block : block P (n - 1) ≡ h = count_block within is has in
      let at : n - 1 ≡ count_row P h = count_is within is has in
      let flag =
      subst (λ q. T q v) (ap (λ m. speaks_of P (n - 1) (region P (n - 1)) m 0 true) z.1 ∙ ap NextFlag in_block) tells in
      at_node n 3 Zero v Turn is
      (subst (λ q. T q v) (ap (λ u. cond u (SaidNext h) (split_of (region P n) (imports_of P h) 3)) (sym has))
      (flag, subst (λ i. Speaks S number run a (output i) v) at says))
  by_arc {n} v within (to_next {x = x} {k = k} {o = o} {v = e} is) says tells =
      at_node n 0 Zero v (Next x k o e) is (operand_tells n e (Next x k o e) v within is (inr refl) refl tells)
  by_arc {n} v within (to_reset {v = e} is) says tells =
      at_node n 0 Zero v (Reset e) is (operand_tells n e (Reset e) v within is refl refl tells)
  by_arc {n} v within (to_low {nested = nested} {a = e} {b = f} is) says tells =
      at_node n 0 Zero v (Array nested e f) is
      (operand_tells n e (Array nested e f) v within is (inl refl) (inl refl) tells)
  by_arc {n} v within (to_high {nested = nested} {a = e} {b = f} is) says tells =
      at_node n 0 One v (Array nested e f) is
      (operand_tells n f (Array nested e f) v within is (inr refl) (inr refl) tells)
  by_arc {n} v within (to_target {t = t} {i = i} (of_fetch is)) says tells =
      at_node n 0 Zero v (Fetch t i) is (operand_tells n t (Fetch t i) v within is (inl refl) (inl refl) tells)
  by_arc {n} v within (to_target {t = t} {i = i} (of_store is)) says tells =
      at_node n 0 Zero v (Address t i) is (operand_tells n t (Address t i) v within is (inl refl) (inl refl) tells)
  by_arc {n} v within (to_index {t = t} {i = i} (of_fetch is)) says tells =
      at_node n 0 One v (Fetch t i) is (operand_tells n i (Fetch t i) v within is (inr refl) (inr refl) tells)
  by_arc {n} v within (to_index {t = t} {i = i} (of_store is)) says tells =
      at_node n 0 One v (Address t i) is (operand_tells n i (Address t i) v within is (inr refl) (inr refl) tells)
  by_arc {n} v within (to_fetch {t = t} {i = i} is) says tells =
      at_node n 1 Zero v (Fetch t i) is (subst (λ m. T (speaks_of P n (region P n) m 0 true) v) is tells)
  by_arc {n} v within (to_store {a = e} {v = x} is) says tells =
      let z = address_at known within is in
      at_node n 0 Zero v (Store e x) is (subst (λ m. T (speaks_of P e (region P e) m 0 true) v) z.node tells)
  by_arc {n} v within (to_stored {a = e} {v = x} is) says tells =
      at_node n 0 One v (Store e x) is (operand_tells n x (Store e x) v within is (inr refl) refl tells)
  by_arc {n} v within (to_lower {a = e} {b = f} is) says tells =
      let shows = operand_tells n e (Bounds e f) v within is (inl refl) (inl refl) tells in
      at_node n 0 Zero v (Bounds e f) is (shows.0, shows.1, says)
  by_arc {n} v within (to_upper {a = e} {b = f} is) says tells =
      at_node n 0 One v (Bounds e f) is (operand_tells n f (Bounds e f) v within is (inr refl) (inr refl) tells)
  by_arc {n} v within (to_first_test {a = e} {b = f} is) says tells =
      let flag = subst (λ m. T (speaks_of P n (region P n) m 0 true) v) is tells in
      let low : n ≡ bounds_row (n + 2) = omega arith in
      at_node n 1 Zero v (Bounds e f) is (flag.0, flag.1, subst (λ i. Speaks S number run a (output i) v) low says)
  by_arc {n} v within (to_first {a = e} {b = f} is) says tells =
      let shows = operand_tells n e (Bounds e f) v within is (inl refl) (inl refl) tells in
      at_node n 1 One v (Bounds e f) is (shows.0, shows.1, says)
  by_arc {n} v within (to_carried is) says tells =
      subst (λ z. T z v) (returned_topic within (to_carried_again is)) tells
  by_arc {n} v within (to_index_now is) says tells = at_node n 0 Zero v Count is (index_tells n v within is says tells)
  by_arc {n} v within (to_last is) says tells = at_node n 2 One v Count is (index_tells n v within is says tells)
  by_arc {n} v within (to_bound is) says tells =
      let z = count_loop known within is in
      let h = block P n in
      let here = count_region known within is z.0 z.1 in
      at_node n 0 One v Count is (subst (λ r. T (BoundIn r h) v) (sym here)
      (side_tells S known number run seats a h v z.0 z.1 true
      (subst (λ r. T (topic_of P (name_in P r (h + 2))) v) here tells)))
  by_arc {n} v within (to_further_test is) says tells =
      at_node n 1 Zero v Count is (next_tells n v within is says tells)
  by_arc {n} v within (to_last_test is) says tells = at_node n 2 Zero v Count is (next_tells n v within is says tells)
  by_arc {n} v within (to_further is) says tells =
      at_node n 1 One v Count is (signal_tells n v within (λ e. let bad : Program ≡ Count = sym e ∙ is in cc) tells)
  by_arc {n} v within (to_one is) says tells =
      at_node n 3 Zero v Count is (subst (λ m. T (speaks_of P n (region P n) m 1 true) v) is tells)
  by_arc {n} v within (to_add is) says tells =
      at_node n 4 Zero v Count is (subst (λ m. T (speaks_of P n (region P n) m 2 true) v) is tells)
  by_arc {n} v within (to_add_one is) says tells =
      at_node n 4 One v Count is (subst (λ m. T (speaks_of P n (region P n) m 3 true) v) is tells)

  -- what tells what an origin speaks of, tells what it feeds wants
  pub feeds_tell : (s : Origin) (n part : ℕ) (p : Port) (v : Value) → Feeds P s n part p → Speaks S number run a s v
      → T (topic_of P s) v → T (topic_at P n part p) v
  feeds_tell s n part p v h says tells = by_arc v h.within (fed h) says tells

  returned_tells : {n part : ℕ} {p : Port} {s : Origin} (k : ℕ) (v : Value) → n < length (rows P) → Returns P n part p s
      → Moves S number run a s k v → Tells S number run (at_iteration a.context k) (topic_of P s) v
      → Tells S number run (at_iteration a.context k) (topic_at P n part p) v
  returned_tells k v within x says tells =
      subst (λ z. Tells S number run (at_iteration a.context k) z v) (returned_topic within x) tells

  -- the same of what goes on to another iteration
  pub moves_tell : (k : ℕ) (s : Origin) (n part : ℕ) (p : Port) (v : Value) → Feeds P s n part p
      → Moves S number run a s k v → is_mover (node P s.row) ≡ true
      → Tells S number run (at_iteration a.context k) (topic_of P s) v
      → Tells S number run (at_iteration a.context k) (topic_at P n part p) v
  moves_tell k s n part p v h says mover tells = returned_tells k v h.within (mover_returns P known h mover) says tells
