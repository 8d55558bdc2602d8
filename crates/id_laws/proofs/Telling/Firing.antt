-- What a firing tells, where its operands tell what their ports want: one case for each part of a row.
use Rattle.std.proofs.Common.{◌≡◌, inl, inr, ℕ, ℤ, zero, suc, ◌+◌, ◌-◌, ◌<◌, Bool as Truth, true, false, cond, List}
use Rattle.std.proofs.Common.{length, arith, get_or, refl, sym, ◌∙◌, ap}
use Rattle.std.proofs.Common.{subst}
use Rattle.std.specs.Bool.{beq}
use Rattle.id_table.specs.declared.row.Node.{Node}
use Rattle.id_table.specs.declared.row.Node.TheVariants.{Head, Param, Literal, Unary, Binary, Split, If, Enter, Arg}
use Rattle.id_table.specs.declared.row.Node.TheVariants.{Call, Array, Fetch, Address, Store}
use Rattle.id_table.specs.declared.row.Node.TheVariants.{Binding, Program, Start, LoopHead, Variable, Entries, Switches}
use Rattle.id_table.specs.declared.row.Node.TheVariants.{Turn, Next, Reset, Loop}
use Rattle.id_table.specs.declared.row.Node.TheVariants.{Bounds, Carried, Count}
use Rattle.id_table.specs.Loops.{index_row}
use Rattle.id_value.specs.Results.{is_whole}
use Rattle.id_value.specs.declared.Arithmetic.TheVariants.{Add}
use Rattle.id_value.specs.declared.Comparison.TheVariants.{Lt, Le}
use Rattle.id_value.specs.declared.Kind.{Kind}
use Rattle.id_instr.specs.declared.instr.Dyadic.TheVariants as dyadic
use Rattle.id_table.specs.Rows.{arm_at, top}
use Rattle.id_table.specs.Tables.{begins_block}
use Rattle.id_check.specs.declared.checked.Checked.{Checked}
use Rattle.id_check.specs.Programs.{place, region, rows}
use Rattle.id_instr.specs.declared.dests.Port.{Port}
use Rattle.id_instr.specs.declared.dests.Port.TheVariants.{Zero, One}
use Rattle.id_build.specs.declared.arc.Form.{Form}
use Rattle.id_instr.specs.declared.instr.PortKind.TheVariants.{Signal as SignalKind}
use Rattle.id_tag.specs.declared.Tag.{Tag}
use Rattle.id_tag.specs.declared.Value.{Value}
use Rattle.id_tag.specs.declared.Value.TheVariants as value
use Rattle.id_tag.specs.Kinds.{kind_of, same_kind}
use Rattle.id_ops.specs.declared.Operands.{Operands}
use Rattle.id_ops.specs.declared.Operands.TheVariants as operands
use Rattle.id_ops.specs.declared.Fresh.{Fresh}
use Rattle.id_ops.specs.declared.Fired.{Fired}
use Rattle.id_ops.specs.declared.Fired.TheVariants.{Out, Side, Sent, Moved, Asked, Nothing}
use Rattle.id_ops.specs.Operators.{fired_switch, fired}
use Rattle.id_source.specs.declared.Path.{Path}
use Rattle.id_source.specs.declared.SourceValue.TheVariants as source
use Rattle.id_source.specs.declared.Fact.TheVariants.{Has}
use Rattle.id_source.specs.Sources.{Source}
use Rattle.id_source.specs.Facts.{below, without, next_has}
use Rattle.id_source.specs.Rounds.{Holds}
use Rattle.id_desugar.specs.Ends.{end_of}
use Rattle.id_desugar.specs.Regions.{carried, has_index, imports_of}
use Rattle.id_build.specs.Rows.{block, next_of, node, port_at, binary_op, holds_array, op_by, param_of, port_of}
use Rattle.id_build.specs.Rows.{result_of}
use Rattle.id_runs.specs.Activations.{Activation, at_iteration, tag_in, activation_of}
use Rattle.id_runs.specs.Events.{Event, FiresOnce}
use Rattle.id_laws.specs.Activations as Activations
use Rattle.id_laws.specs.Activations.{of_call, of_loop, Tests, of_arms, of_turns, Live, on_side, path_at, has_said}
use Rattle.id_laws.specs.Activations.{has_counted, at_next, GoesAt, switches_of}
use Rattle.id_laws.specs.Topics.{Topic, Turned, ValueOf, NameIn, BoundIn, FlagOf, IndexOf, NextIndex, SaidNext}
use Rattle.id_laws.specs.Topics.{ResultOf, TestOf, Shown, ShownTest, Tells}
use Rattle.id_laws.specs.Topics.{counted_of, entry_of, entry_wants, further_of, further_wants, handed_of, split_of}
use Rattle.id_laws.specs.Topics.{of_fetch, of_store, upper_place}
use Rattle.id_laws.specs.Topics.{speaks_of, wants, topic_at}
use Rattle.id_laws.proofs.Rows.Assumed.{IsKnown}
use Rattle.id_laws.proofs.Paths.Counted.{index_block, switches_block}
use Rattle.id_laws.proofs.Telling.CountTells.{add_tell, begins_tell, bounds_tell, count_tell, further_tell, last_tell}
use Rattle.id_laws.proofs.Telling.CountTells.{next_side, one_tell, one_truth}
use Rattle.id_laws.proofs.Telling.Origins.{hands_topic, switch_topic}
use Rattle.id_laws.proofs.Paths.Iterations.{loop_between, turned_again, without_moved}
use Rattle.id_laws.proofs.Rows.Loops.{carried_loop, count_loop, counted_of as counted_loop, loop_of_row, stands_loop}
use Rattle.id_laws.proofs.Rows.Loops.{switches_same, next_at, reset_last, result_is, start_before, start_node}
use Rattle.id_laws.proofs.Rows.Loops.{start_within}
use Rattle.id_laws.proofs.Rows.Loops.{switches_node, switches_region, switches_within, turn_region_at}
use Rattle.id_laws.proofs.Paths.Opened.{InLoop, live_loop, loop_path, next_path}
use Rattle.id_laws.proofs.Rows.Regions.{no_depth, region_of, same_depth}
use Rattle.id_build.proofs.NamesSeen.{listed}
use Rattle.id_check.specs.Scopes.{loops_between}
use Rattle.id_laws.proofs.Rows.Sources.{tests_other}
use Rattle.id_laws.proofs.Rows.Arcs.{Does, starts, returns, enters, constant, unary, binary, turns_on, hands, joins}
use Rattle.id_laws.proofs.Rows.Arcs.{opens, passes, gets, names, answers}
use Rattle.id_laws.proofs.Rows.Arcs.{sends_in, gives_back, varies, takes_in, moves_on, moves_name, advances, resets}
use Rattle.id_laws.proofs.Rows.Arcs.{gets_last, allocates, addresses, fetches}
use Rattle.id_laws.proofs.Rows.Arcs.{gets_reply, stores, bounds_meet, begins_index, carries, meets_bound, goes_further}
use Rattle.id_laws.proofs.Rows.Arcs.{hands_index, has_one, adds_one}
use Rattle.id_laws.proofs.Rows.Arcs.{append_length, none_carried, three_carried, turned}
use Rattle.id_laws.proofs.Paths.Seats.{OneSeat}
use Rattle.id_laws.proofs.Telling.TurnedOn.{holds_by, without_none}
use Rattle.id_laws.proofs.Telling.OperatorsAgree.{alone_nothing}
use Rattle.id_laws.proofs.Telling.FiringMeans.{Returned, Passed, Given, Means, OperandsTell, one, two}
use Rattle.id_laws.proofs.Telling.OperatorsTell.{spoken, part_live, shown_has, alloc_means, address_means, where_done}
use Rattle.id_laws.proofs.Telling.OperatorsTell.{fetch_asks, store_by, literal_tells, binding_tells}
use Rattle.id_laws.proofs.Telling.OperatorsTell.{unary_means, binary_means}

true_false : true ≡ false → ⊥
true_false h = cc

module _ (S : Source) (known : IsKnown S.checked) (number : ℕ → ℕ
    → ℕ) (run : List Event) (seats : OneSeat S number run) (once : FiresOnce run)
    (wholes : (p : Path) (e : ℕ) (i : ℤ) → Holds S (Has p e (source.Int i))
    → is_whole i ≡ true) (a : Activation) (n : ℕ)
    (within : n < length (rows S.checked)) where
  abbrev P : Checked
  P = S.checked

  abbrev M : ℕ → Fired → Type 0
  M part f = Means S number run a n part f

  abbrev T : Topic → Value → Type 0
  T t v = Tells S number run a t v

  -- what a part wants, by the row's node
  wanted : (m : Node) (part : ℕ) (p : Port) (v : Value) → node P n ≡ m → T (topic_at P n part p) v
      → T (wants P n (region P n) m part p) v
  wanted m part p v is tells = subst (λ z. T (wants P n (region P n) z part p) v) is tells

  merged : (part : ℕ) (v : Value) (b : Truth) → M part (Out v) → M part (cond b (Out v) Nothing)
  merged part v true means = means
  merged part v false means = tt

  returned : (part : ℕ) (u : Tag) (v : Value) (b : Truth) → Returned S number run a n u v
      → M part (cond b (Sent u v) Nothing)
  returned part u v true means = inl means
  returned part u v false means = tt

  passed : (part : ℕ) (u : Tag) (v : Value) (b : Truth) → Passed S number run a n u v
      → M part (cond b (Sent u v) Nothing)
  passed part u v true means = inr (inl means)
  passed part u v false means = tt

  given : (part : ℕ) (u : Tag) (v : Value) (b : Truth) → Given S number run a n u v → M part (cond b (Sent u v) Nothing)
  given part u v true means = inr (inr means)
  given part u v false means = tt

  -- the arm that the predicate has chosen is live
  chosen_live : (b : Truth) → ShownTest S number run a n (value.Bool b) → Live S number run a (arm_at n b)
  chosen_live b x = on_side within x.tests x.live (has_said x.tests x.spoken) (x.goes b refl)

  -- what goes to a side of the switches tells there what it told before
  name_handed : {t : ℕ} → Tests P n t → (b : Truth) (x : ℕ) (w : Value) → Live S number run a (arm_at n b)
      → T (NameIn (region P n) x) w → T (NameIn (arm_at n b) x) w
  name_handed tests b x w live tells = (
    live,
    subst (λ d. Shown S number run a d (place P x) w)
        (same_depth P (region P n).head n x (region_of known within (tests_other P known tests)).block) tells.1,
  )

  split_handed : {t : ℕ} → Tests P n t → (bs : List ℕ) (part : ℕ) (b : Truth) (w : Value)
      → Live S number run a (arm_at n b) → T (split_of (region P n) bs part) w
      → T (split_of (arm_at n b) bs part) w
  split_handed tests bs zero b w live tells = (tells.0, live)
  split_handed tests bs (suc k) b w live tells = name_handed tests b (get_or bs k 0) w live tells

  hands_on : {t : ℕ} → Tests P n t → (part : ℕ) (b : Truth) (w : Value) → Live S number run a (arm_at n b)
      → T (hands_topic P (region P n) n (node P n) part) w
      → T (hands_topic P (arm_at n b) n (node P n) part) w
  hands_on (of_arms is) part b w live tells =
      subst (λ m. T (hands_topic P (arm_at n b) n m part) w) (sym is)
      (split_handed (of_arms is) (imports_of P n) part b w live
      (subst (λ m. T (hands_topic P (region P n) n m part) w) is tells))
  hands_on (of_turns is) part b w live tells =
      subst (λ m. T (hands_topic P (arm_at n b) n m part) w) (sym is)
      (go (has_index P (block P n)) refl (subst (λ m. T (hands_topic P (region P n) n m part) w) is tells))
    where
      h : ℕ
      h = block P n

      counted : (k : ℕ) → T (counted_of (region P n) h (imports_of P n) k) w
          → T (counted_of (arm_at n b) h (imports_of P n) k) w
      counted zero tells = (tells.0, live)
      counted (suc zero) tells = (
        live,
        subst (λ d. Shown S number run a d (upper_place S number run h) w)
            (same_depth P (region P n).head n (h - 1)
            (region_of known within (tests_other P known (of_turns is))).block) tells.1,
      )
      counted (suc (suc k)) tells = name_handed (of_turns is) b (get_or (imports_of P n) (suc k) 0) w live tells

      go : (t : Truth) → has_index P h ≡ t → T (handed_of P (region P n) h (imports_of P n) part) w
          → T (handed_of P (arm_at n b) h (imports_of P n) part) w
      go true has tells =
          subst (λ t. T
          (cond t (counted_of (arm_at n b) h (imports_of P n) part) (split_of (arm_at n b) (imports_of P n) part)) w)
          (sym has)
          (counted part
          (subst (λ t. T
          (cond t (counted_of (region P n) h (imports_of P n) part) (split_of (region P n) (imports_of P n) part)) w)
          has tells))
      go false none tells =
          subst (λ t. T
          (cond t (counted_of (arm_at n b) h (imports_of P n) part) (split_of (arm_at n b) (imports_of P n) part)) w)
          (sym none)
          (split_handed (of_turns is) (imports_of P n) part b w live
          (subst (λ t. T
          (cond t (counted_of (region P n) h (imports_of P n) part) (split_of (region P n) (imports_of P n) part)) w)
          none tells))

  by_truth : (k : _) (v w : Value) (part : ℕ) → ((b : Truth) → v ≡ value.Bool b → M part (Side b w))
      → M part (fired_switch k (operands.Two v w))
  by_truth k (value.Bool b) w part means = side (same_kind (kind_of w) k) (means b refl)
    where
      side : (c : Truth) → M part (Side b w) → M part (cond c (Side b w) Nothing)
      side true x = x
      side false x = tt
  by_truth k _ w part means = tt

  -- what its two ports want
  test_wanted : {e : ℕ} (part : ℕ) (v : Value) → Tests P n e → T (topic_at P n part Zero) v → T (TestOf n) v
  test_wanted {e} part v (of_arms is) w = wanted (Split e) part Zero v is w
  test_wanted {e} part v (of_turns is) w = wanted (Switches e) part Zero v is w

  switch_wanted : {e : ℕ} (part : ℕ) (v : Value) → Tests P n e → T (topic_at P n part One) v
      → T (hands_topic P (region P n) n (node P n) part) v
  switch_wanted {e} part v (of_arms is) w =
      subst (λ m. T (hands_topic P (region P n) n m part) v) (sym is) (wanted (Split e) part One v is w)
  switch_wanted {e} part v (of_turns is) w =
      subst (λ m. T (hands_topic P (region P n) n m part) v) (sym is) (wanted (Switches e) part One v is w)

  switch_means : (e part : ℕ) (k : _) (v w : Value) → Tests P n e → T (TestOf n) v
      → T (hands_topic P (region P n) n (node P n) part) w → M part (fired_switch k (operands.Two v w))
  switch_means e part k v w is x y =
      by_truth k v w part
      (λ b v_is.
      let live = chosen_live b (subst (ShownTest S number run a n) v_is x) in
      subst (λ z. T z w) (sym (switch_topic P is part b)) (hands_on is part b w live y))

  -- what hands on stands in its loop's body
  turn_again : node P n ≡ Turn → Live S number run a (region P n)
      → Live S number run (at_iteration a.context (suc a.iteration)) (top (block P n))
  turn_again is live =
      let l = loop_of_row known Turn within is refl in
      subst (Live S number run (at_iteration a.context (suc a.iteration))) (switches_region P known (block P n) l)
      (turned_again known (switches_within P known (block P n) l) (switches_node P known (block P n) l)
      (subst (Live S number run a) (turn_region_at known within is l) live))

  turn_further : node P n ≡ Turn → Live S number run a (arm_at (switches_of P (block P n)) true)
      → Live S number run (at_iteration a.context (suc a.iteration)) (top (block P n))
  turn_further is live =
      let l = loop_of_row known Turn within is refl in
      turn_again is (subst (Live S number run a)
      (ap (λ w. arm_at w true) (switches_same P known (block P n) l) ∙ sym (turn_region_at known within is l)) live)

  -- what stands outside of the loop is in the next iteration what it was in this one
  turned_shown : (is : node P n ≡ Turn) (b : ℕ) (e : ℕ) (v : Value)
      → loops_between (rows P) (block P n) b ≡ suc (loops_between (rows P) (block P n - 1) b)
      → Shown S number run a (loops_between (rows P) (region P n).head b) e v
      → Shown S number run (at_iteration a.context (suc a.iteration)) (loops_between (rows P) (block P n) b) e v
  turned_shown is b e v head shown =
      let h = block P n in
      let l = loop_of_row known Turn within is refl in
      let here = region_of known within (λ e. let bad : Turn ≡ Program = sym is ∙ e in cc) in
      let deep =
      same_depth P (region P n).head h b (here.block
      ∙ sym ((known.table).head_block h l.within (ap begins_block l.head))) in
      let path = shown.path_of in
      let d = loops_between (rows P) (h - 1) b in
      let old : without (loops_between (rows P) (region P n).head b) shown.path
      ≡ without (suc d) (path_at path.seat a.iteration) =
      (λ i. without ((deep ∙ head) i) (path.is i)) in
      let same =
      old ∙ without_moved path.seat d a.iteration (suc a.iteration)
      ∙ ap (λ j. without j (path_at path.seat (suc a.iteration))) (sym head) in
      record {
        path = path_at path.seat (suc a.iteration);
        path_of = record { seat = path.seat; of_context = path.of_context; is = refl };
        value = shown.value;
        stands = shown.stands;
        holds = subst (λ q. Holds S (Has q e shown.value)) same shown.holds;
      }

  -- what hands a trigger or an import on tells it in the next iteration
  turn_trigger : (v : Value) → node P n ≡ Turn → T (Turned (region P n)) v
      → Tells S number run (at_iteration a.context (suc a.iteration)) (Turned (top (block P n))) v
  turn_trigger v is w = (w.0, turn_again is w.1)

  turn_name : (k : ℕ) (v : Value) → node P n ≡ Turn → T (NameIn (region P n) (get_or (imports_of P (block P n)) k 0)) v
      → k < length (imports_of P (block P n))
      → Tells S number run (at_iteration a.context (suc a.iteration))
      (NameIn (top (block P n)) (get_or (imports_of P (block P n)) k 0)) v
  turn_name k v is w few =
      let h = block P n in
      let l = loop_of_row known Turn within is refl in
      let s = start_node P known h l in
      let b = get_or (imports_of P h) k 0 in
      let z = known.loop_imports h (h - 1) l.within l.head b (listed (imports_of P h) k few) in
      let between = loop_between known (start_within P known h l) s z.0 z.1 z.2 ∙ refl in
      let head : loops_between (rows P) h b ≡ suc (loops_between (rows P) (h - 1) b) =
      ap (λ i. loops_between (rows P) i b) (sym (start_before P known h l)) ∙ between in
      (turn_again is w.0, turned_shown is b (place P b) v head w.1)

  -- and so does what hands on what the loop carries
  turn_bound : (v : Value) → node P n ≡ Turn → T (BoundIn (region P n) (block P n)) v
      → Tells S number run (at_iteration a.context (suc a.iteration)) (BoundIn (top (block P n)) (block P n)) v
  turn_bound v is w =
      let h = block P n in
      let l = loop_of_row known Turn within is refl in
      let deeper = known.loop_depth h (h - 1) l.within l.head in
      let head : loops_between (rows P) h (h - 1) ≡ suc (loops_between (rows P) (h - 1) (h - 1)) =
      omega (arith, deeper) in
      (turn_again is w.0, turned_shown is (h - 1) (upper_place S number run h) v head w.1)

  turn_index : (v : Value) → node P n ≡ Turn → T (NextIndex (block P n)) v
      → Tells S number run (at_iteration a.context (suc a.iteration)) (IndexOf (block P n)) v
  turn_index v is w =
      record { live = turn_further is (w.0).live; shown = w.1; decided = at_next (w.0).decided; goes = (w.0).goes }

  turn_flag : (v : Value) → node P n ≡ Turn → has_index P (block P n) ≡ true → T (SaidNext (block P n)) v
      → Tells S number run (at_iteration a.context (suc a.iteration)) (FlagOf (block P n)) v
  turn_flag v is has w = let l = loop_of_row known Turn within is refl in
      record {
        live = turn_further is (w.0).live;
        decided = at_next w.1;
        shown = next_side S number run known seats a (block P n) l (counted_loop P l.all has) v w.0;
      }

  -- the topics of a part that hands on
  turn_means : (part : ℕ) (v : Value) → node P n ≡ Turn → T (wants P n (region P n) Turn part Zero) v
      → part < suc (length (turned P (block P n)))
      → Tells S number run (at_iteration a.context (suc a.iteration)) (speaks_of P n (region P n) Turn part true) v
  turn_means part v is w less = go (has_index P h) refl w
    where
      h : ℕ
      h = block P n

      further : has_index P h ≡ true → (part : ℕ) → part < suc (3 + length (imports_of P h))
          → T (further_wants P (region P n) h part) v
          → Tells S number run (at_iteration a.context (suc a.iteration)) (further_of P h part) v
      further has zero less w = turn_trigger v is w
      further has (suc zero) less w = turn_index v is w
      further has (suc (suc zero)) less w = turn_bound v is w
      further has (suc (suc (suc zero))) less w = turn_flag v is has w
      further has (suc (suc (suc (suc k)))) less w = turn_name k v is w (omega (arith, less))

      plainly : (part : ℕ) → part < suc (length (imports_of P h)) → T (split_of (region P n) (imports_of P h) part) v
          → Tells S number run (at_iteration a.context (suc a.iteration)) (split_of (top h) (imports_of P h) part) v
      plainly zero less w = turn_trigger v is w
      plainly (suc k) less w = turn_name k v is w (omega (arith, less))

      go : (t : Truth) → has_index P h ≡ t → T (wants P n (region P n) Turn part Zero) v
          → Tells S number run (at_iteration a.context (suc a.iteration)) (speaks_of P n (region P n) Turn part true) v
      go true has w =
          let few : part < suc (3 + length (imports_of P h)) =
          omega (arith, less, append_length (carried P h) (imports_of P h), ap length (three_carried P h has)) in
          subst (λ t. Tells S number run (at_iteration a.context (suc a.iteration))
          (cond t (further_of P h part) (split_of (top h) (imports_of P h) part)) v)
          (sym has)
          (further has part few
          (subst (λ t. T (cond t (further_wants P (region P n) h part) (split_of (region P n) (imports_of P h) part)) v)
          has w))
      go false none w =
          let few : part < suc (length (imports_of P h)) =
          omega (arith, less, append_length (carried P h) (imports_of P h), ap length (none_carried P h none)) in
          subst (λ t. Tells S number run (at_iteration a.context (suc a.iteration))
          (cond t (further_of P h part) (split_of (top h) (imports_of P h) part)) v)
          (sym none)
          (plainly part few
          (subst (λ t. T (cond t (further_wants P (region P n) h part) (split_of (region P n) (imports_of P h) part)) v)
          none w))

  -- a variable Has in the next iteration what its `next` expression Has in this one
  next_means : (x k o e : ℕ) (v : Value) → node P n ≡ Next x k o e → T (ValueOf e) v
      → Tells S number run (at_iteration a.context (suc a.iteration)) (NameIn (top (block P n)) n) v
  next_means x k o e v is w =
      let h = block P n in
      let l = loop_of_row known (Next x k o e) within is refl in
      let z = next_at known within is l in
      let live = part_live S known number run seats a n within e (Next x k o e) is (inr refl) w.0 in
      let arm = subst (Live S number run a) z.region live in
      let same = (region_of known within (λ y. let bad : Next x k o e ≡ Program = sym is ∙ y in cc)).block in
      let inner =
      subst (InLoop S known number run a) same (live_loop S known number run live (ap (node P) same ∙ l.head)) in
      let shown = w.1 in
      let path = loop_path S known number run seats l inner shown.path_of in
      let has = subst (λ q. Holds S (Has q (place P e) shown.value)) (without_none shown.path ∙ path.is) shown.holds in
      let next = holds_by S _ _ (next_has path.path a.iteration (stands_loop P known h l) z.stands) (has, tt) in
      let here : loops_between (rows P) h n ≡ 0 =
      no_depth P h n ((known.table).head_block h l.within (ap begins_block l.head)) in
      let q = below path.path (place P (end_of P h)) (suc a.iteration) in (
        subst (Live S number run (at_iteration a.context (suc a.iteration))) (switches_region P known h l)
            (turned_again known (switches_within P known h l) (switches_node P known h l) arm),
        record {
          path = q;
          path_of = next_path S known number run l inner path (suc a.iteration);
          value = shown.value;
          stands = shown.stands;
          holds = subst (λ p. Holds S (Has p (place P n) shown.value))
              (sym (ap (λ d. without d q) here ∙ without_none q)) next;
        },
      )

  -- the index has come where its loop goes on, so that the body is live
  carried_means : (k : Kind) (v : Value) → node P n ≡ Carried k → T (wants P n (region P n) (Carried k) 0 Zero) v
      → T (speaks_of P n (region P n) (Carried k) 0 true) v
  carried_means k v is w = by (n - (block P n + 1)) w
    where
      h : ℕ
      h = block P n

      by : (i : ℕ) → T (entry_wants h i) v → T (entry_of P h i) v
      by zero w =
          let z = carried_loop known within is in
          let l = z.loop in
          let side = w.goes in
          let same = switches_same P known h l in
          let w_is = switches_node P known h l in
          let in_block = switches_block P known h l z.counted in
          let at : GoesAt S number run a (switches_of P h) true = record {
            path = side.path;
            path_of = side.path_of;
            goes = subst (λ b. Activations.Goes S side.path (switches_of P h) b) (one_truth _ _ (sym (side.goes).is))
                (side.goes).goes;
          } in
          let live =
          on_side (switches_within P known h l) (of_turns w_is)
          (subst (Live S number run a) (sym (switches_region P known h l)) w.live)
          (has_counted w_is (ap (has_index P) in_block ∙ (z.counted).has)
          (subst (λ g. Activations.Decided S number run g (value.Bool true) a) (sym in_block) w.decided))
          (subst (λ u. GoesAt S number run a u true) same at) in
          let x = index_row (switches_of P h) in
          let depth : loops_between (rows P) (switches_of P h) x ≡ 0 =
          no_depth P (switches_of P h) x (ap (block P) same ∙ in_block
          ∙ sym (ap (λ u. block P (index_row u)) same ∙ index_block P known h l z.counted)) in (
            subst (λ u. Live S number run a (arm_at u true)) (sym same) live,
            subst (λ d. Shown S number run a d (place P x) v) (sym depth) w.shown,
          )
      by (suc zero) w = w
      by (suc (suc i)) w = w

  -- the last expression's value is the loop's, in some iteration
  reset_means : (e : ℕ) (v : Value) → node P n ≡ Reset e → T (ValueOf e) v
      → Tells S number run (at_iteration a.context 0) (ResultOf (block P n)) v
  reset_means e v is w =
      let l = loop_of_row known (Reset e) within is refl in
      let same : e ≡ Rattle.id_laws.specs.Topics.result_of P (block P n) =
      reset_last known within is l ∙ sym (result_is P known (block P n) l) in
      record {
        iteration = a.iteration;
        live = subst (λ i. Live S number run a (region P i)) same w.0;
        shown = subst (λ i. Shown S number run a 0 (place P i) v) same w.1;
        at_first = refl;
      }

  module _ (t : Tag) (here : activation_of t ≡ a) (fresh : Fresh) where
    now : t.iteration ≡ a.iteration
    now = ap (λ (x : Activation). x.iteration) here

    -- a tag beside that of the firing
    beside_is : (m : ℕ) → record { context = t.context; iteration = t.iteration; instr = m } ≡ tag_in a m
    beside_is m = ap (λ x. tag_in x m) here

    own_tag : (m : ℕ) → t.instr ≡ m → t ≡ tag_in a m
    own_tag m at = (λ i. record { context = t.context; iteration = t.iteration; instr = at i }) ∙ beside_is m

    -- what goes to the next iteration, and to the first
    moved : (part : ℕ) (v : Value) (b : Truth) → M part (Moved (suc a.iteration) v)
        → M part (cond b (Moved (t.iteration + 1) v) Nothing)
    moved part v true means =
        let next : suc a.iteration ≡ t.iteration + 1 = omega (arith, now) in subst (λ k. M part (Moved k v)) next means
    moved part v false means = tt

    at_first : (part : ℕ) (v : Value) (b : Truth) → M part (Moved 0 v) → M part (cond b (Moved 0 v) Nothing)
    at_first part v true means = means
    at_first part v false means = tt

    said : (m : Node) (part : ℕ) (v : Value) → node P n ≡ m
        → Tells S number run (at_iteration a.context (suc a.iteration)) (speaks_of P n (region P n) m part true) v
        → M part (Moved (suc a.iteration) v)
    said m part v is tells =
        subst (λ z. Tells S number run (at_iteration a.context (suc a.iteration))
        (speaks_of P n (region P n) z part true) v) (sym is) tells

    head_wants : (m : Node) → begins_block m ≡ true → wants P n (region P n) m 0 Zero ≡ Turned (top n)
    head_wants Head e = refl
    head_wants (LoopHead s) e = refl
    head_wants _ e = absurd (true_false (sym e))

    head_speaks : (m : Node) → begins_block m ≡ true → Turned (top n) ≡ speaks_of P n (region P n) m 0 true
    head_speaks Head e = refl
    head_speaks (LoopHead s) e = refl
    head_speaks _ e = absurd (true_false (sym e))

    head_alone : (m : Node) → begins_block m ≡ true → (v : Value) → T (wants P n (region P n) m 0 One) v → ⊥
    head_alone Head e v w = w
    head_alone (LoopHead s) e v w = w
    head_alone _ e v w = absurd (true_false (sym e))

    -- a firing on one operand
    one_means : (part : ℕ) (o : Form) (p : Port) (v : Value) → Does P n part o → T (topic_at P n part p) v
        → M part (fired (op_by number o) t (operands.One v) fresh)
    one_means part o Zero v (starts is) w =
        merged part v (same_kind (kind_of v) SignalKind) (λ other fires. subst (λ z. T z v) (head_speaks (node P n) is)
        (subst (λ z. T z v) (head_wants (node P n) is) w))
    one_means part o One v (starts is) w = absurd (head_alone (node P n) is v w)
    one_means part o p v (returns is) w = tt
    one_means part o Zero v (enters {x = x} {k = k} is) w =
        merged part v (same_kind (kind_of v) (port_at P n))
        (spoken S known number run seats a n within (Param x k) 0 v is (wanted (Param x k) 0 Zero v is w))
    one_means part o One v (enters {x = x} {k = k} is) w = absurd (wanted (Param x k) 0 One v is w)
    one_means part o Zero v (constant {c = c} is) w =
        let tells = wanted (Literal c) 0 Zero v is w in
        subst (λ z. M part (fired (op_by number o) t (operands.One z) fresh)) (sym tells.0)
        (literal_tells S known number run seats a n within c v is tells)
    one_means part o One v (constant {c = c} is) w = absurd (wanted (Literal c) 0 One v is w)
    one_means part o Zero v (unary {o = u} {a = e} is) w =
        unary_means S known number run seats a n within u e v is (wanted (Unary u e) 0 Zero v is w)
    one_means part o One v (unary {o = u} {a = e} is) w = absurd (wanted (Unary u e) 0 One v is w)
    one_means part o p v (binary {o = u} {a = e} {b = f} is) w =
        subst (M part) (sym (alone_nothing (binary_op u (port_at P e)) v)) tt
    one_means part o p v (turns_on is) w = tt
    one_means part o p v (hands k is less) w = tt
    one_means part o Zero v (joins {s = s} {x = x} {y = y} is) w =
        merged part v (same_kind (kind_of v) (port_at P n))
        (spoken S known number run seats a n within (If s x y) 0 v is (wanted (If s x y) 0 Zero v is w))
    one_means part o One v (joins {s = s} {x = x} {y = y} is) w = absurd (wanted (If s x y) 0 One v is w)
    one_means part o Zero v (opens (of_call {x = x} is)) w =
        let tells = wanted (Enter x) 0 Zero v is w in
        subst (λ z. M part (fired (op_by number o) t (operands.One z) fresh)) (sym tells.0)
        (record { head = _; end = _; begins = of_call is; first = refl; live = tells.1 })
    one_means part o Zero v (opens (of_loop is)) w =
        let tells = wanted Start 0 Zero v is w in
        subst (λ z. M part (fired (op_by number o) t (operands.One z) fresh)) (sym tells.0)
        (record { head = _; end = _; begins = of_loop is; first = refl; live = tells.1 })
    one_means part o One v (opens (of_call {x = x} is)) w = absurd (wanted (Enter x) 0 One v is w)
    one_means part o One v (opens (of_loop is)) w = absurd (wanted Start 0 One v is w)
    one_means part o p v (passes is) w = tt
    one_means part o Zero v (gets {e = e} {c = c} is) w =
        merged part v (same_kind (kind_of v) (port_at P n))
        (spoken S known number run seats a n within (Call e c) 0 v is (wanted (Call e c) 0 Zero v is w))
    one_means part o One v (gets {e = e} {c = c} is) w = absurd (wanted (Call e c) 0 One v is w)
    one_means part o Zero v (names {x = x} {a = e} is) w =
        merged part v (same_kind (kind_of v) (port_at P n))
        (binding_tells S known number run seats a n within x e v is (wanted (Binding x e) 0 Zero v is w))
    one_means part o One v (names {x = x} {a = e} is) w = absurd (wanted (Binding x e) 0 One v is w)
    one_means part o p v (sends_in k q is at) w = tt
    one_means part o p v (gives_back is) w = tt
    one_means part o Zero v (varies is) w =
        merged part v (same_kind (kind_of v) (port_at P (next_of P n)))
        (spoken S known number run seats a n within Variable 0 v is (wanted Variable 0 Zero v is w))
    one_means part o One v (varies is) w = absurd (wanted Variable 0 One v is w)
    one_means part o Zero v (takes_in k is less) w =
        merged part v (same_kind (kind_of v) (port_at P (get_or (imports_of P (block P n)) k 0)))
        (spoken S known number run seats a n within Entries part v is (wanted Entries part Zero v is w))
    one_means part o One v (takes_in k is less) w = absurd (wanted Entries part One v is w)
    one_means part o Zero v (moves_on is) w =
        moved part v (same_kind (kind_of v) SignalKind)
        (said Turn 0 v is (turn_means 0 v is (wanted Turn 0 Zero v is w) (omega arith)))
    one_means part o One v (moves_on is) w = absurd (wanted Turn 0 One v is w)
    one_means part o Zero v (moves_name k is less) w =
        moved part v (same_kind (kind_of v) (port_at P (get_or (turned P (block P n)) k 0)))
        (said Turn (suc k) v is (turn_means (suc k) v is (wanted Turn (suc k) Zero v is w) (omega (arith, less))))
    one_means part o One v (moves_name k is less) w = absurd (wanted Turn (suc k) One v is w)
    one_means part o Zero v (advances {x = x} {k = k} {o = i} {v = e} is) w =
        moved part v (same_kind (kind_of v) (port_at P n))
        (said (Next x k i e) 0 v is (next_means x k i e v is (wanted (Next x k i e) 0 Zero v is w)))
    one_means part o One v (advances {x = x} {k = k} {o = i} {v = e} is) w = absurd (wanted (Next x k i e) 0 One v is w)
    one_means part o Zero v (resets {v = e} is) w =
        at_first part v (same_kind (kind_of v) (port_at P e))
        (subst (λ z. Tells S number run (at_iteration a.context 0) (speaks_of P n (region P n) z 0 true) v) (sym is)
        (reset_means e v is (wanted (Reset e) 0 Zero v is w)))
    one_means part o One v (resets {v = e} is) w = absurd (wanted (Reset e) 0 One v is w)
    one_means part o Zero v (gets_last {h = h} {w = u} {l = l} is) w =
        merged part v (same_kind (kind_of v) (port_at P n))
        (spoken S known number run seats a n within (Loop h u l) 0 v is (wanted (Loop h u l) 0 Zero v is w))
    one_means part o One v (gets_last {h = h} {w = u} {l = l} is) w = absurd (wanted (Loop h u l) 0 One v is w)
    one_means part o p v (allocates is) w = tt
    one_means part o p v (addresses is) w = tt
    one_means part o Zero v (fetches {t = e} {i = i} is) w =
        let x = wanted (Fetch e i) 1 Zero v is w in
        subst (λ z. M part (fired (op_by number o) t (operands.One z) fresh)) (sym x.is)
        (where_done S known number run seats a n within part (Asked x.cell _)
        (beq (x.cell).structure.nested (holds_array P n))
        (fetch_asks S known number run seats a n within v _ is x (beside_is (number n 2))))
    one_means part o One v (fetches {t = e} {i = i} is) w = absurd (wanted (Fetch e i) 1 One v is w)
    one_means part o Zero v (gets_reply {t = e} {i = i} is) w =
        merged part v (same_kind (kind_of v) (port_at P n))
        (spoken S known number run seats a n within (Fetch e i) 2 v is (wanted (Fetch e i) 2 Zero v is w))
    one_means part o One v (gets_reply {t = e} {i = i} is) w = absurd (wanted (Fetch e i) 2 One v is w)
    one_means part o p v (stores is) w = tt
    one_means part o p v (bounds_meet is) w = subst (M part) (sym (alone_nothing (dyadic.Comparison Le) v)) tt
    one_means part o p v (begins_index is) w = tt
    one_means part o Zero v (carries {k = k} is) w =
        merged part v (same_kind (kind_of v) (port_of k))
        (spoken S known number run seats a n within (Carried k) 0 v is
        (carried_means k v is (wanted (Carried k) 0 Zero v is w)))
    one_means part o One v (carries {k = k} is) w = absurd (wanted (Carried k) 0 One v is w)
    one_means part o p v (meets_bound is) w = subst (M part) (sym (alone_nothing (dyadic.Comparison Lt) v)) tt
    one_means part o p v (goes_further is) w = tt
    one_means part o p v (hands_index is) w = tt
    one_means part o Zero v (has_one is) w =
        one_tell S known number run seats once a n within is (count_loop known within is).0
        (count_loop known within is).1 v (wanted Count 3 Zero v is w)
    one_means part o One v (has_one is) w = absurd (wanted Count 3 One v is w)
    one_means part o p v (adds_one is) w = subst (M part) (sym (alone_nothing (dyadic.Arithmetic Add) v)) tt
    one_means part o p v (answers is) w =
        merged part v (same_kind (kind_of v) (port_of (result_of (node P P.main)))) (λ other fires. absurd (other is))

    -- a firing on two operands
    two_means : (part : ℕ) (o : Form) (v w : Value) → t.instr ≡ number n part → Does P n part o
        → T (topic_at P n part Zero) v → T (topic_at P n part One) w
        → M part (fired (op_by number o) t (operands.Two v w) fresh)
    two_means part o v w at (starts is) x y = absurd (head_alone (node P n) is w y)
    two_means part o v w at (returns is) x y =
        let back = wanted Head 1 Zero v is x in
        let result = wanted Head 1 One w is y in
        subst (λ z. M part (fired (op_by number o) t (operands.Two z w) fresh)) (sym back.is)
        (returned part (tag_in back.caller (number back.row 0)) w
        (same_kind (kind_of w) (port_of (result_of (node P (end_of P n)))))
        (record { caller = back.caller; row = back.row; goes = refl; returns_to = back.returns; result = result }))
    two_means part o v w at (enters {x = x} {k = k} is) t u = absurd (wanted (Param x k) 0 One w is u)
    two_means part o v w at (constant {c = c} is) x y = absurd (wanted (Literal c) 0 One w is y)
    two_means part o v w at (unary {o = u} {a = e} is) x y = absurd (wanted (Unary u e) 0 One w is y)
    two_means part o v w at (binary {o = u} {a = e} {b = f} is) x y =
        binary_means S known number run seats a n within u e f v w is (wanted (Binary u e f) 0 Zero v is x)
        (wanted (Binary u e f) 0 One w is y)
    two_means part o v w at (turns_on {t = e} is) x y =
        switch_means e 0 SignalKind v w is (test_wanted 0 v is x) (switch_wanted 0 w is y)
    two_means part o v w at (hands {t = e} k is less) x y =
        switch_means e (suc k) (port_at P (get_or (imports_of P n) k 0)) v w is (test_wanted (suc k) v is x)
        (switch_wanted (suc k) w is y)
    two_means part o v w at (joins {s = s} {x = x} {y = y} is) t u = absurd (wanted (If s x y) 0 One w is u)
    two_means part o v w at (opens (of_call {x = x} is)) t u = absurd (wanted (Enter x) 0 One w is u)
    two_means part o v w at (opens (of_loop is)) t u = absurd (wanted Start 0 One w is u)
    two_means part o v w at (passes {e = e} {k = k} {v = x} is) y z =
        let into = wanted (Arg e k x) 0 Zero v is y in
        let b = param_of P e k in
        subst (λ q. M part (fired (op_by number o) t (operands.Two q w) fresh)) (sym into.is)
        (passed part (tag_in (at_iteration into.context 0) (number b 0)) w (same_kind (kind_of w) (port_at P b))
        (record {
          enter = e;
          index = k;
          argument = x;
          node = is;
          context = into.context;
          goes = refl;
          live = into.live;
          opens = into.opens;
          value = wanted (Arg e k x) 0 One w is z;
        }))
    two_means part o v w at (gets {e = e} {c = c} is) t u = absurd (wanted (Call e c) 0 One w is u)
    two_means part o v w at (names {x = x} {a = e} is) t u = absurd (wanted (Binding x e) 0 One w is u)
    two_means part o v w at (sends_in k q is there) x y =
        let into = wanted Start (suc k) Zero v is x in
        subst (λ z. M part (fired (op_by number o) t (operands.Two z w) fresh)) (sym into.is)
        (given part (tag_in (at_iteration into.context 0) (number q.row q.part)) w
        (same_kind (kind_of w) (port_at P q.binder))
        (record {
          slot = k;
          entry = q;
          node = is;
          at = there;
          context = into.context;
          goes = refl;
          live = into.live;
          opens = into.opens;
          value = wanted Start (suc k) One w is y;
        }))
    two_means part o v w at (gives_back {s = s} is) x y =
        let back = wanted (LoopHead s) 1 Zero v is x in
        let result = wanted (LoopHead s) 1 One w is y in
        subst (λ z. M part (fired (op_by number o) t (operands.Two z w) fresh)) (sym back.is)
        (returned part (tag_in back.caller (number back.row 0)) w (same_kind (kind_of w) (port_at P (end_of P n)))
        (record { caller = back.caller; row = back.row; goes = refl; returns_to = back.returns; result = result }))
    two_means part o v w at (varies is) t u = absurd (wanted Variable 0 One w is u)
    two_means part o v w at (takes_in k is less) t u = absurd (wanted Entries part One w is u)
    two_means part o v w at (moves_on is) t u = absurd (wanted Turn 0 One w is u)
    two_means part o v w at (moves_name k is less) t u = absurd (wanted Turn part One w is u)
    two_means part o v w at (advances {x = x} {k = k} {o = i} {v = e} is) t u =
        absurd (wanted (Next x k i e) 0 One w is u)
    two_means part o v w at (resets {v = e} is) t u = absurd (wanted (Reset e) 0 One w is u)
    two_means part o v w at (gets_last {h = h} {w = z} {l = l} is) t u = absurd (wanted (Loop h z l) 0 One w is u)
    two_means part o v w at (bounds_meet {a = e} {b = f} is) x y =
        bounds_tell S known number run seats once a n within e f v w is (wanted (Bounds e f) 0 Zero v is x)
        (wanted (Bounds e f) 0 One w is y)
    two_means part o v w at (begins_index {a = e} {b = f} is) x y =
        begins_tell S known number run seats once a n within e f v w is (wanted (Bounds e f) 1 Zero v is x)
        (wanted (Bounds e f) 1 One w is y)
    two_means part o v w at (carries {k = k} is) x y = absurd (wanted (Carried k) 0 One w is y)
    two_means part o v w at (meets_bound is) x y =
        count_tell S known number run seats once a n within is (count_loop known within is).0
        (count_loop known within is).1 v w (wanted Count 0 Zero v is x) (wanted Count 0 One w is y)
    two_means part o v w at (goes_further is) x y =
        further_tell S known number run seats once a n within is (count_loop known within is).0
        (count_loop known within is).1 v w (wanted Count 1 Zero v is x) (wanted Count 1 One w is y)
    two_means part o v w at (hands_index is) x y =
        last_tell S known number run seats once a n within is (count_loop known within is).0
        (count_loop known within is).1 wholes v w (wanted Count 2 Zero v is x) (wanted Count 2 One w is y)
    two_means part o v w at (has_one is) x y = absurd (wanted Count 3 One w is y)
    two_means part o v w at (adds_one is) x y =
        add_tell S known number run seats once a n within is (count_loop known within is).0
        (count_loop known within is).1 v w (wanted Count 4 Zero v is x) (wanted Count 4 One w is y)
    two_means part o v w at (answers is) x y = absurd (wanted Program 0 One w is y)
    two_means part o v w at (allocates {nested = nested} {a = e} {b = f} is) x y =
        alloc_means S known number run seats a n within nested e f v w fresh is
        (wanted (Array nested e f) 0 Zero v is x) (wanted (Array nested e f) 0 One w is y)
    two_means part o v w at (addresses {t = e} {i = i} (of_fetch is)) x y =
        address_means S known number run seats a n within (holds_array P n) v w (of_fetch is)
        (wanted (Fetch e i) 0 Zero v is x) (wanted (Fetch e i) 0 One w is y)
    two_means part o v w at (addresses {t = e} {i = i} (of_store is)) x y =
        address_means S known number run seats a n within (holds_array P n) v w (of_store is)
        (wanted (Address e i) 0 Zero v is x) (wanted (Address e i) 0 One w is y)
    two_means part o v w at (fetches {t = e} {i = i} is) x y = absurd (wanted (Fetch e i) 1 One w is y)
    two_means part o v w at (gets_reply {t = e} {i = i} is) x y = absurd (wanted (Fetch e i) 2 One w is y)
    two_means part o v w at (stores {a = d} {v = e} is) x y =
        let c = wanted (Store d e) 0 Zero v is x in
        let put = wanted (Store d e) 0 One w is y in
        subst (λ z. M part (fired (op_by number o) t (operands.Two z w) fresh)) (sym c.is)
        (store_by S known number run seats a n within (holds_array P d) v t is c (put.1).stands
        (shown_has S known number run seats a n within e c.path_of put.1)
        (own_tag (number n 0) at))

    -- what a firing tells
    pub firing_means : (part : ℕ) (o : Form) (ops : Operands) → t.instr ≡ number n part → Does P n part o
        → OperandsTell S number run a n part ops → M part (fired (op_by number o) t ops fresh)
    firing_means part o ops at does (one p v is w) =
        subst (λ z. M part (fired (op_by number o) t z fresh)) (sym is) (one_means part o p v does w)
    firing_means part o ops at does (two v w is x y) =
        subst (λ z. M part (fired (op_by number o) t z fresh)) (sym is) (two_means part o v w at does x y)
