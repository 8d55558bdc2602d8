-- What an arc brings is of the kind that its port takes.
use Rattle.std.proofs.Common.{◌≡◌, inl, inr, ℕ, zero, suc, ◌<◌, ◌≤◌, ◌+◌, ◌-◌, true, Some, List, ◌∷◌, ◌++◌, [], map}
use Rattle.std.proofs.Common.{length, get_or, refl, sym, ◌∙◌, ap, subst, arith}
use Rattle.id_value.specs.List.{Among}
use Rattle.id_value.proofs.AmongLemmas.{Among-either, Among-from_map}
use Rattle.id_value.specs.declared.Kind.{Kind}
use Rattle.id_value.specs.declared.Kind.TheVariants as kinds
use Rattle.id_table.specs.declared.row.Row.{Row}
use Rattle.id_table.specs.declared.row.Region.{Region}
use Rattle.id_table.specs.declared.row.Node.TheVariants.{Head, Literal, Unary, Binary, Split, If, Binding, Program}
use Rattle.id_table.specs.declared.row.Node.TheVariants.{Enter, Arg, Array, Fetch, Address, Store, Start, LoopHead}
use Rattle.id_table.specs.declared.row.Node.TheVariants.{Entries, Switches, Turn, Next, Reset, Bounds, Carried, Count}
use Rattle.id_table.specs.Loops.{IsLoop, IsLoopOf}
use Rattle.id_table.specs.Rows.{arm_at, at}
use Rattle.id_table.specs.Tables.{HasPart, begins_block, is_carried, is_expression, is_in_loop}
use Rattle.id_check.specs.declared.checked.Checked.{Checked}
use Rattle.id_check.specs.Kinds.{unary_kind}
use Rattle.id_check.specs.Programs.{kind, region, rows}
use Rattle.id_check.proofs.WantedLemmas.{unary_row, loop_row, next_row, split_row, switches_row}
use Rattle.id_instr.specs.declared.dests.Port.{Port}
use Rattle.id_instr.specs.declared.dests.Port.TheVariants.{Zero, One}
use Rattle.id_instr.specs.declared.instr.PortKind.{PortKind}
use Rattle.id_instr.specs.declared.instr.PortKind.TheVariants.{Signal, Bool as TruthPort, Int as IntPort, Context}
use Rattle.id_instr.specs.Held.{address_kind, held_kind, structure_kind}
use Rattle.id_instr.specs.Ports.{operand_kind, port_kind}
use Rattle.id_desugar.specs.Regions.{carried, has_index, nexts_of, imports_of}
use Rattle.id_build.specs.declared.arc.Origin.{Origin}
use Rattle.id_desugar.specs.Ends.{end_of, next_of}
use Rattle.id_build.specs.Rows.{node, port_of, port_at, holds_array, binary_op, result_of, body_of, output, trigger_of}
use Rattle.id_build.specs.Rows.{name_in, origin, op_by, param_of, block, entering, first_binder, part_of, turn_row}
use Rattle.id_build.specs.Schemas.{Feeds}
use Rattle.id_laws.specs.Activations.{Begins, of_call, of_loop, Tests, of_arms, of_turns}
use Rattle.id_laws.specs.Topics.{Addresses, of_fetch, of_store}
use Rattle.id_laws.proofs.Rows.Stores.{address_at}
use Rattle.id_laws.proofs.Rows.Arcs.{Does, starts, returns, constant, unary, binary, turns_on, hands, joins, names, fed}
use Rattle.id_laws.proofs.Rows.Arcs.{sends_in, gives_back, varies, takes_in, moves_on, moves_name, advances, resets}
use Rattle.id_laws.proofs.Rows.Arcs.{allocates, addresses, fetches, stores, entered_at, bounds_meet, begins_index}
use Rattle.id_laws.proofs.Rows.Arcs.{carries}
use Rattle.id_laws.proofs.Rows.Arcs.{meets_bound, goes_further, hands_index, has_one, adds_one, turned, carries_on}
use Rattle.id_laws.proofs.Rows.Arcs.{behind_turned, carried_at, three_carried, three_turned, to_carried_context}
use Rattle.id_laws.proofs.Rows.Arcs.{to_first_index, to_first_bound, to_first_flag, to_next_index, to_next_bound}
use Rattle.id_laws.proofs.Rows.Arcs.{to_next_flag, to_lower, to_upper, to_first_test, to_first, to_carried}
use Rattle.id_laws.proofs.Rows.Arcs.{to_index_now}
use Rattle.id_laws.proofs.Rows.Arcs.{to_bound, to_further_test, to_further, to_last_test, to_last, to_one, to_add}
use Rattle.id_laws.proofs.Rows.Arcs.{to_add_one, Arc, to_back, to_literal, to_unary, to_left, to_right, to_test}
use Rattle.id_laws.proofs.Rows.Arcs.{to_trigger}
use Rattle.id_laws.proofs.Rows.Arcs.{to_import_test, to_import, to_then, to_else, to_label, opens, passes, to_enter}
use Rattle.id_laws.proofs.Rows.Arcs.{to_context, to_argument, to_loop_context, to_entering, to_head, to_loop_back}
use Rattle.id_laws.proofs.Rows.Arcs.{to_variable, to_entry, to_turn, to_turn_name, to_next, to_reset, to_low, to_high}
use Rattle.id_laws.proofs.Rows.Arcs.{to_target, to_index, to_fetch, to_store, to_stored}
use Rattle.id_build.proofs.EndsLemmas.{end_is, HeadOf, of_procedure, of_arm, region_of, turn_low}
use Rattle.std.proofs.lemmas.Bool.{cases_lt}
use Rattle.id_build.proofs.EndsLemmas as ends
use Rattle.id_build.proofs.LoopsLemmas.{carried_nodes, switches_high, switches_low, turn_nodes, the_loop, next_is}
use Rattle.id_build.proofs.LoopsLemmas.{reset_is, start_head, turn_block, turn_is}
use Rattle.id_build.proofs.ImportsLemmas.{split_seen, switches_seen, first_seen, loop_seen, turn_seen, upper_seen}
use Rattle.id_build.proofs.RowLemmas.{IsSeen}
use Rattle.id_laws.proofs.Rows.Assumed.{IsKnown}
use Rattle.id_laws.proofs.Rows.Loops.{LoopKind, plain as by_predicate, counted as with_index, counted_of, has_three}
use Rattle.id_laws.proofs.Rows.Loops.{kind_of}
use Rattle.id_laws.proofs.Rows.Speakers.{within_origin}
use Rattle.id_build.proofs.NamesSeen.{listed}
use Rattle.id_laws.proofs.Rows.LoopRows.{carried_row, carried_rows, entered_as, entering_binds, handed_at}
use Rattle.id_laws.proofs.Rows.LoopRows.{handed_binder}
use Rattle.id_laws.proofs.Rows.LoopRows.{handed_carried, import_binds}
use Rattle.id_laws.proofs.Validity.WantedKinds.{operands_of}
use Rattle.id_build.specs.declared.arc.Form.{Form}
use Rattle.id_laws.proofs.Rows.Calls.{arg_at}
use Rattle.id_laws.proofs.Validity.ValidPorts.{SentBy, Operand, Sender, sender, named_sender, operand, cell_at, port_is}
use Rattle.id_laws.proofs.Validity.ValidPorts.{same_ports, unary_port}

-- the part of the row n takes this kind at the port
pub record Taker (P : Checked) (n part : ℕ) (p : Port) (k : PortKind) : Type 0 where
  pub within : n < length (rows P)
  pub form : Form
  pub does : Does P n part form
  pub into : (number : ℕ → ℕ → ℕ) → port_kind (op_by number form) p ≡ Some k

-- what goes from s to the port is of the kind that the port takes
pub record Typed (P : Checked) (s : Origin) (n part : ℕ) (p : Port) : Type 0 where
  pub kind : PortKind
  pub source : Sender P s.row s.part kind
  pub target : Taker P n part p kind

module _ (P : Checked) (known : IsKnown P) where
  abbrev R : List Row
  R = rows P

  -- the trigger of a row's region sends signals
  trigger_sender : (n : ℕ) → n < length R → (node P n ≡ Program → ⊥) → SentBy P Signal (trigger_of (region P n))
  trigger_sender n within other = let r = region_of P (known.table) n within other in by (region P n) r.below r.head
    where
      by : (r : Region) → r.head < length R → HeadOf P (known.table) r → SentBy P Signal (trigger_of r)
      by r below (of_procedure is top_is) =
          record { within = below; form = _; does = starts (ap begins_block is); out = λ f. refl }
      by r below (ends.of_loop is top_is) =
          record { within = below; form = _; does = starts (ap begins_block is); out = λ f. refl }
      by r below (of_arm is) = record { within = below; form = _; does = turns_on (of_arms is); out = λ f. refl }
      by r below (ends.of_side is) = record { within = below; form = _; does = turns_on (of_turns is); out = λ f. refl }

  returned : (n : ℕ) → n < length R → node P n ≡ Head → Typed P (origin P (body_of (node P (end_of P n)))) n 1 One
  returned n within is =
      let def = end_is P (known.table) n within is in
      let b = body_of (node P (end_of P n)) in
      let body_is : b ≡ def.body = ap body_of def.node in
      let parts =
      (((known.table).formed).each (end_of P n) def.within).parts def.body
      (subst (λ z. HasPart z def.body) (sym def.node) (inr refl)) in
      let expression = ((known.table).head_is (end_of P n) def.name n def.body def.result def.within def.node).2 in
      let x : Operand P b = subst (Operand P) (sym body_is) (omega (arith, def.within, parts.1), expression) in
      let of_kind : kind P b ≡ Some def.result = ap (kind P) body_is ∙ known.result_kind (end_of P n) n def in
      record {
        kind = port_at P b;
        source = sender P known b x;
        target = record {
          within = within;
          form = _;
          does = returns is;
          into = λ f. ap (λ k. Some (port_of k)) (ap result_of def.node)
              ∙ ap (λ k. Some k) (sym (port_is P b def.result of_kind));
        };
      }

  -- the parts that name a cell
  cell_operands : (n t i : ℕ) → n < length R → Addresses P n t i → Operand P t × Operand P i
  cell_operands n t i within (of_fetch is) =
      (operand P known n t (Fetch t i) within is (inl refl), operand P known n i (Fetch t i) within is (inr refl))
  cell_operands n t i within (of_store is) =
      (operand P known n t (Address t i) within is (inl refl), operand P known n i (Address t i) within is (inr refl))

  test_kind : (n t : ℕ) → n < length R → Tests P n t → kind P t ≡ Some kinds.Bool
  test_kind n t within (of_arms is) = split_row P n t (record { within = within; node = is })
  test_kind n t within (of_turns is) = switches_row P n t (record { within = within; node = is })

  -- what switches go by is sent: the value of a predicate, or of the flag of a loop with an index
  test_sender : (n t : ℕ) → n < length R → Tests P n t → SentBy P (port_at P t) (origin P t)
  test_sender n t within (of_arms is) = sender P known t (operand P known n t (Split t) within is refl)
  test_sender n t within (of_turns is) =
      let z = (known.table).switches_of n t within is in
      by (kind_of P ((known.table).loop_is z.0 (block P n) z.1)) z.1 z.2
    where
      less : t < length R
      less = let part =
          (((known.table).formed).each n within).parts t (subst (λ m. HasPart m t) (sym is) refl) in
          omega (arith, within, part.1)

      by : {q h w l : ℕ} {x : IsLoop R q h w l} → LoopKind P x → (c : IsLoopOf R q h) → w ≡ n
          → SentBy P (port_at P t) (origin P t)
      by {x = x} (by_predicate none expression turn first) c same =
          let both : Switches t ≡ Switches (x.test).test = sym is ∙ ap (node P) (sym same) ∙ (x.test).node in
          let one : (x.test).test ≡ t = cc in
          sender P known t (less, subst (λ j. is_expression (node P j) ≡ true) one expression)
      by {h = h} {x = x} (with_index k) c same =
          let both : Switches t ≡ Switches (x.test).test = sym is ∙ ap (node P) (sym same) ∙ (x.test).node in
          let one : (x.test).test ≡ t = cc in
          let flag = carried_row P (h + 3) kinds.Bool k.flag in
          let port : port_at P (h + 3) ≡ port_at P t =
          same_ports P (h + 3) t (flag.kind ∙ sym (test_kind n t within (of_turns is))) in
          subst (SentBy P (port_at P t))
          (sym (within_origin P known t (h + 3) less (ap (node P) (sym one) ∙ k.test) k.flag))
          (record { within = flag.within; form = _; does = flag.does; out = λ f. ap (λ j. Some j) port })

  test_port : (n t : ℕ) → n < length R → Tests P n t → Some TruthPort ≡ Some (port_at P t)
  test_port n t within is = ap (λ k. Some k) (sym (port_is P t kinds.Bool (test_kind n t within is)))

  -- what switches hand on is seen where they stand
  import_at_switches : (n t b : ℕ) → n < length R → Tests P n t → Among b (imports_of P n) → IsSeen P (region P n) b
  import_at_switches n t b within (of_arms is) among = split_seen P n t b within is among
  import_at_switches n t b within (of_turns is) among = switches_seen P n t b within is among

  tests_no_end : {n t : ℕ} → Tests P n t → node P n ≡ Program → ⊥
  tests_no_end {n} {t} (of_arms is) e = let bad : Program ≡ Split t = sym e ∙ is in cc
  tests_no_end {n} {t} (of_turns is) e = let bad : Program ≡ Switches t = sym e ∙ is in cc

  begins_no_end : {n h q : ℕ} → Begins P n h q → node P n ≡ Program → ⊥
  begins_no_end {n} (of_call {x = x} is) e = let bad : Program ≡ Enter x = sym e ∙ is in cc
  begins_no_end {n} (of_loop is) e = let bad : Program ≡ Start = sym e ∙ is in cc

  -- what goes into a loop is seen where its `Start` stands
  seen_at_start : (n b : ℕ) → n < length R → node P n ≡ Start → Among b (entering P (n + 1)) → IsSeen P (region P n) b
  seen_at_start n b within is among =
      elim (Among-either b (map (first_binder P) (nexts_of P (n + 1))) (imports_of P (n + 1)) among) [
        | inl k ↦
            let t = Among-from_map (first_binder P) b (nexts_of P (n + 1)) k in
            subst (IsSeen P (region P n)) (sym t.2) (first_seen P n t.0 within is t.1)
        | inr k ↦ let h = start_head P n within is in loop_seen P (n + 1) n b h.0 h.1 k
      ]

  behind_get : (cs bs : List ℕ) (k : ℕ) → get_or (cs ++ bs) (length cs + k) 0 ≡ get_or bs k 0
  behind_get [] bs k = let at : 0 + k ≡ k = omega arith in ap (λ z. get_or bs z 0) at
  behind_get (c ∷ cs) bs k =
      let at : length (c ∷ cs) + k ≡ suc (length cs + k) = omega arith in
      ap (λ z. get_or (c ∷ (cs ++ bs)) z 0) at ∙ behind_get cs bs k

  -- what goes to the entry of a variable or an import of a loop
  entering_typed : (n k : ℕ) → n < length R → node P n ≡ Start → k < length (entering P (n + 1))
      → Typed P (name_in P (region P n) (get_or (entering P (n + 1)) k 0)) n (suc (carries_on P (n + 1) + k)) One
  entering_typed n k within is less =
      let h = n + 1 in
      let q = entered_at P h k less in
      let b = get_or (entering P h) k 0 in
      let among = listed (entering P h) k less in
      let head = start_head P n within is in
      let name = behind_get (carried P h) (entering P h) k in
      record {
        kind = port_at P b;
        source = named_sender P known (region P n) b (handed_binder P b (entering_binds P h n b head.1 among))
            (seen_at_start n b within is among);
        target = record {
          within = within;
          form = _;
          does = sends_in (carries_on P h + k) q.0 is q.1;
          into = λ f. ap (λ z. Some z)
              (same_ports P (q.0).binder b (sym (entered_as P h (carries_on P h + k) q.0 q.1).kind ∙ ap (kind P) name));
        };
      }

  -- what goes to the entries of what it carries on
  begin_typed : (n k : ℕ) (s : Origin) (o : PortKind) → n < length R → node P n ≡ Start → has_index P (n + 1) ≡ true
      → k < 3 → SentBy P o s → port_at P (get_or (carried P (n + 1)) k 0) ≡ o → Typed P s n (suc k) One
  begin_typed n k s o within is has less source port = record {
    kind = o;
    source = source;
    target = record {
      within = within;
      form = _;
      does = sends_in k _ is (carried_at P (n + 1) k has less);
      into =
          λ f. ap (λ z. Some z) port;
    };
  }

  -- the kinds of what a loop carries on
  carried_ports : (h s : ℕ) → h < length R → node P h ≡ LoopHead s → has_index P h ≡ true
      → (port_at P (h + 1) ≡ IntPort) × (port_at P (h + 2) ≡ IntPort) × (port_at P (h + 3) ≡ TruthPort)
  carried_ports h s within is has =
      let z = carried_rows P h s within is has in (
        port_is P (h + 1) kinds.Int (carried_row P (h + 1) kinds.Int z.0).kind,
        port_is P (h + 2) kinds.Int (carried_row P (h + 2) kinds.Int z.1).kind,
        port_is P (h + 3) kinds.Bool (carried_row P (h + 3) kinds.Bool z.2).kind,
      )

  -- those that its `Start` sends to
  begin_ports : (n : ℕ) → n < length R → node P n ≡ Start → has_index P (n + 1) ≡ true
      → (port_at P (get_or (carried P (n + 1)) 0 0) ≡ IntPort) × (port_at P (get_or (carried P (n + 1)) 1 0) ≡ IntPort)
      × (port_at P (get_or (carried P (n + 1)) 2 0) ≡ TruthPort)
  begin_ports n within is has =
      let head = start_head P n within is in
      let z = carried_ports (n + 1) n head.0 head.1 has in
      let same = three_carried P (n + 1) has in (
        ap (λ bs. port_at P (get_or bs 0 0)) same ∙ z.0,
        ap (λ bs. port_at P (get_or bs 1 0)) same ∙ z.1,
        ap (λ bs. port_at P (get_or bs 2 0)) same ∙ z.2,
      )

  -- the loop of what hands on, of what counts and of what is carried on
  record Inside (n : ℕ) : Type 0 where
    row : ℕ
    loop : IsLoopOf R row (block P n)
    below : block P n < length R
    head : node P (block P n) ≡ LoopHead (block P n - 1)

  inside : {n q : ℕ} → IsLoopOf R q (block P n) → Inside n
  inside {n} {q} c =
      let x = (known.table).loop_is q (block P n) c in
      let low = switches_low x in
      let high = switches_high x in
      record { row = q; loop = c; below = omega (arith, low, high, c.within); head = (x.before_test).head }

  -- what hands on what is carried on
  hands_typed : (n k : ℕ) (s : Origin) (o : PortKind) → n < length R → node P n ≡ Turn → has_index P (block P n) ≡ true
      → k < 3 → SentBy P o s → port_at P (get_or (carried P (block P n)) k 0) ≡ o → Typed P s n (suc k) Zero
  hands_typed n k s o within is has less source port =
      let h = block P n in
      let few : k < length (carried P h) = subst (λ bs. k < length bs) (sym (three_carried P h has)) less in
      record {
        kind = o;
        source = source;
        target = record {
          within = within;
          form = _;
          does = moves_name k is (three_turned P h has k less);
          into = λ f. ap (λ b. Some (port_at P b)) (before_get (carried P h) (imports_of P h) k few)
              ∙ ap (λ z. Some z) port;
        };
      }
    where
      before_get : (cs bs : List ℕ) (j : ℕ) → j < length cs → get_or (cs ++ bs) j 0 ≡ get_or cs j 0
      before_get [] bs j l = absurd (omega (arith, l))
      before_get (c ∷ cs) bs zero l = refl
      before_get (c ∷ cs) bs (suc j) l = before_get cs bs j (omega (arith, l))

  turn_ports : (n : ℕ) → n < length R → node P n ≡ Turn → has_index P (block P n) ≡ true
      → (port_at P (get_or (carried P (block P n)) 0 0) ≡ IntPort)
      × (port_at P (get_or (carried P (block P n)) 1 0) ≡ IntPort)
      × (port_at P (get_or (carried P (block P n)) 2 0) ≡ TruthPort)
  turn_ports n within is has =
      let h = block P n in
      let i = inside ((known.table).turn_of n within is).1 in
      let z = carried_ports h (h - 1) i.below i.head has in
      let same = three_carried P h has in (
        ap (λ bs. port_at P (get_or bs 0 0)) same ∙ z.0,
        ap (λ bs. port_at P (get_or bs 1 0)) same ∙ z.1,
        ap (λ bs. port_at P (get_or bs 2 0)) same ∙ z.2,
      )

  -- what counts stands before what hands on
  count_before : (n : ℕ) → n < length R → node P n ≡ Turn → has_index P (block P n) ≡ true
      → (n - 1 < length R) × (node P (n - 1) ≡ Count)
  count_before n within is has =
      let z = (known.table).turn_of n within is in
      let x = (known.table).loop_is z.0 (block P n) z.1 in
      let c = counted_of P x has in
      let same : n - 1 ≡ (z.1).switches + 1 = omega (arith, c.turn, z.2) in
      (omega (arith, within), ap (node P) same ∙ c.count)

  -- what a loop with an index has before its `Start`
  bounds_before : (n : ℕ) → n < length R → n - 1 < length R
  bounds_before n within = omega (arith, within)

  -- the upper bound is seen in the body
  bound_sender : {q : ℕ} (n : ℕ) → n < length R → (c : IsLoopOf R q (block P n))
      → ((known.table).loop_is q (block P n) c).carried ≡ 3 → region P n ≡ arm_at c.switches true
      → SentBy P IntPort (name_in P (region P n) (block P n + 2))
  bound_sender {q} n within c three right =
      let h = block P n in
      let x = (known.table).loop_is q h c in
      let i = inside {n = n} c in
      let z = carried_nodes (x.before_test).carried three in
      let port = port_is P (h + 2) kinds.Int (carried_row P (h + 2) kinds.Int z.1).kind in
      subst (λ o. SentBy P o (name_in P (region P n) (h + 2))) port
      (named_sender P known (region P n) (h + 2) (handed_carried P (h + 2) kinds.Int z.1)
      (upper_seen P q h n c x three right))

  -- what hands imports on goes to their entries
  entry_typed : (n k : ℕ) → n < length R → node P n ≡ Entries → k < length (imports_of P (block P n))
      → Typed P (part_of (turn_row P (block P n)) (suc (carries_on P (block P n) + k))) n k Zero
  entry_typed n k within is less =
      let h = block P n in
      let i = inside ((known.table).entries_of n within is).1 in
      let t = turn_block P h _ i.below i.head in
      let few : carries_on P h + k < length (turned P (block P (turn_row P h))) =
      subst (λ g. carries_on P h + k < length (turned P g)) (sym t.1)
      (behind_turned P h k less) in
      record {
        kind = port_at P (get_or (imports_of P h) k 0);
        source = record {
          within = t.0;
          form = _;
          does = moves_name (carries_on P h + k) (turn_is P h _ i.below i.head) few;
          out = λ f. ap (λ g. Some (port_at P (get_or (turned P g) (carries_on P h + k) 0))) t.1
              ∙ ap (λ b. Some (port_at P b)) (behind_get (carried P h) (imports_of P h) k);
        };
        target = record { within = within; form = _; does = takes_in k is less; into = λ f. refl };
      }

  -- and what hands on what is carried on to their entries
  carried_typed : {k : Kind} (n : ℕ) → n < length R → node P n ≡ Carried k
      → Typed P (part_of (turn_row P (block P n)) (n - block P n)) n 0 Zero
  carried_typed {k} n within is =
      let z = (known.table).carried_of n within (ap is_carried is) in
      let i = inside {n = n} z.1 in
      let t = turn_block P h _ i.below i.head in
      let x = (known.table).loop_is z.0 h z.1 in
      let has = has_three P x z.2 in
      let above = behind_head i.head z.3 in
      let slot = n - h - 1 in
      let at : suc slot ≡ n - h = omega (arith, above) in
      let few : slot < 3 = omega (arith, above, z.3) in
      let there : slot < length (turned P (block P (turn_row P h))) =
      subst (λ g. slot < length (turned P g)) (sym t.1) (three_turned P h has slot few) in
      let name : get_or (turned P h) slot 0 ≡ n =
      carried_get has slot few ∙ (let e : h + 1 + slot ≡ n = omega (arith, above) in e) in
      let here : port_of k ≡ port_at P n = sym (port_is P n k (carried_row P n k is).kind) in
      subst (λ j. Typed P (part_of (turn_row P h) j) n 0 Zero) at
      (record {
        kind = port_at P n;
        source = record {
          within = t.0;
          form = _;
          does = moves_name slot (turn_is P h _ i.below i.head) there;
          out = λ f. ap (λ g. Some (port_at P (get_or (turned P g) slot 0))) t.1 ∙ ap (λ b. Some (port_at P b)) name;
        };
        target = record { within = within; form = _; does = carries is; into = λ f. ap (λ o. Some o) here };
      })
    where
      h : ℕ
      h = block P n

      behind_head : node P h ≡ LoopHead (h - 1) → n ≤ h + 3 → h < n
      behind_head head high = elim (cases_lt h n) [
        | inl low ↦ low
        | inr low ↦
            let up = (known.table).loop_of n within (ap is_in_loop is) in
            let below = ((known.table).block n (omega (arith, up.2, (up.1).within))).0 in
            let same : n ≡ h = omega (arith, low, below) in
            let bad : Carried k ≡ LoopHead (h - 1) = sym is ∙ ap (node P) same ∙ head in
            cc
      ]

      carried_get : has_index P h ≡ true → (j : ℕ) → j < 3 → get_or (turned P h) j 0 ≡ h + 1 + j
      carried_get has j few = ap (λ cs. get_or (cs ++ imports_of P h) j 0) (three_carried P h has) ∙ go j few
        where
          go : (j : ℕ) → j < 3 → get_or ((h + 1) ∷ (h + 2) ∷ (h + 3) ∷ imports_of P h) j 0 ≡ h + 1 + j
          go zero l = omega arith
          go (suc zero) l = omega arith
          go (suc (suc zero)) l = omega arith
          go (suc (suc (suc j))) l = absurd (omega (arith, l))

  -- what counts has the index from its entry
  index_sender : (n : ℕ) → n < length R → node P n ≡ Count → SentBy P IntPort (output (block P n + 1))
  index_sender n within is =
      let z = (known.table).count_of n within is in
      let x = (known.table).loop_is z.0 (block P n) z.1 in
      let c = carried_row P (block P n + 1) kinds.Int (carried_nodes (x.before_test).carried z.2).0 in
      record {
        within = c.within;
        form = _;
        does = c.does;
        out =
            λ f. ap (λ k. Some k) (port_is P (block P n + 1) kinds.Int c.kind);
      }

  by_arc : {n part : ℕ} {p : Port} {s : Origin} → n < length R → Arc P n part p s → Typed P s n part p
  by_arc {n} within (to_back is) = returned n within is
  by_arc {n} within (to_literal {c = c} is) = record {
    kind = Signal;
    source = trigger_sender n within (λ e. let bad : Program ≡ Literal c = sym e ∙ is in cc);
    target = record { within = within; form = _; does = constant is; into = λ f. refl };
  }
  by_arc {n} within (to_unary {o = o} {a = a} is) = record {
    kind = port_at P a;
    source = sender P known a (operand P known n a (Unary o a) within is refl);
    target = record {
      within = within;
      form = _;
      does = unary is;
      into = λ f. ap (λ k. Some k) (unary_port o
          ∙ sym (port_is P a (unary_kind o) (unary_row P n a o (record { within = within; node = is }))));
    };
  }
  by_arc {n} within (to_left {o = o} {a = a} {b = b} is) =
      let s = operands_of P n a b o (record { within = within; node = is }) in
      let left = port_is P a s.kind_of s.left in
      record {
        kind = port_at P a;
        source = sender P known a (operand P known n a (Binary o a b) within is (inl refl));
        target = record {
          within = within;
          form = _;
          does = binary is;
          into = λ f. ap (λ k. Some k) (ap (λ k. operand_kind (binary_op o k)) left ∙ s.taken ∙ sym left);
        };
      }
  by_arc {n} within (to_right {o = o} {a = a} {b = b} is) =
      let s = operands_of P n a b o (record { within = within; node = is }) in
      record {
        kind = port_at P b;
        source = sender P known b (operand P known n b (Binary o a b) within is (inr refl));
        target = record {
          within = within;
          form = _;
          does = binary is;
          into = λ f. ap (λ k. Some k) (ap (λ k. operand_kind (binary_op o k)) (port_is P a s.kind_of s.left) ∙ s.taken
              ∙ sym (port_is P b s.kind_of s.right));
        };
      }
  by_arc {n} within (to_test {t = t} is) = record {
    kind = port_at P t;
    source = test_sender n t within is;
    target = record { within = within; form = _; does = turns_on is; into = λ f. test_port n t within is };
  }
  by_arc {n} within (to_trigger {t = t} is) = record {
    kind = Signal;
    source = trigger_sender n within (tests_no_end is);
    target = record { within = within; form = _; does = turns_on is; into = λ f. refl };
  }
  by_arc {n} within (to_import_test {t = t} k is less) = record {
    kind = port_at P t;
    source = test_sender n t within is;
    target = record { within = within; form = _; does = hands k is less; into = λ f. test_port n t within is };
  }
  by_arc {n} within (to_import {t = t} k is less) =
      let b = get_or (imports_of P n) k 0 in
      let among = listed (imports_of P n) k less in
      record {
        kind = port_at P b;
        source = named_sender P known (region P n) b (handed_at P n t b within is among)
            (import_at_switches n t b within is among);
        target = record { within = within; form = _; does = hands k is less; into = λ f. refl };
      }
  by_arc {n} within (to_then {s = s} {x = x} {y = y} is) = record {
    kind = port_at P x;
    source = sender P known x (operand P known n x (If s x y) within is (inl refl));
    target = record {
      within = within;
      form = _;
      does = joins is;
      into =
          λ f. ap (λ k. Some k) (same_ports P n x (known.arm_kinds n s x y within is).0);
    };
  }
  by_arc {n} within (to_else {s = s} {x = x} {y = y} is) = record {
    kind = port_at P y;
    source = sender P known y (operand P known n y (If s x y) within is (inr refl));
    target = record {
      within = within;
      form = _;
      does = joins is;
      into =
          λ f. ap (λ k. Some k) (same_ports P n y (known.arm_kinds n s x y within is).1);
    };
  }
  by_arc {n} within (to_enter is) = record {
    kind = Signal;
    source = trigger_sender n within (begins_no_end is);
    target = record { within = within; form = _; does = opens is; into = λ f. refl };
  }
  by_arc {n} within (to_context is) =
      let z = arg_at known within is in
      record {
        kind = Context;
        source = record { within = z.enter_within; form = _; does = opens (of_call z.enter); out = λ f. refl };
        target = record { within = within; form = _; does = passes is; into = λ f. refl };
      }
  by_arc {n} within (to_argument {e = e} {k = k} {v = v} is) = record {
    kind = port_at P v;
    source = sender P known v (operand P known n v (Arg e k v) within is refl);
    target = record {
      within = within;
      form = _;
      does = passes is;
      into = λ f. ap (λ q. Some q) (same_ports P (param_of P e k) v (sym (known.passed n e k v within is).1));
    };
  }
  by_arc {n} within (to_label {x = x} {a = a} is) = record {
    kind = port_at P a;
    source = sender P known a (operand P known n a (Binding x a) within is refl);
    target = record {
      within = within;
      form = _;
      does = names is;
      into =
          λ f. ap (λ k. Some k) (same_ports P n a (known.binding_kind n x a within is));
    };
  }
  by_arc {n} within (to_loop_context k is less) =
      let z = entered_at P (n + 1) k less in
      record {
        kind = Context;
        source = record { within = within; form = _; does = opens (of_loop is); out = λ f. refl };
        target = record {
          within = within;
          form = _;
          does = sends_in (carries_on P (n + 1) + k) z.0 is z.1;
          into =
              λ f. refl;
        };
      }
  by_arc {n} within (to_carried_context k is at has less) = record {
    kind = Context;
    source = record { within = within; form = _; does = opens (of_loop is); out = λ f. refl };
    target = record {
      within = within;
      form = _;
      does = sends_in k _ is (carried_at P (n + 1) k has less);
      into =
          λ f. refl;
    };
  }
  by_arc {n} within (to_first_index {a = a} {b = b} is at has) =
      begin_typed n 0 _ IntPort within is has (omega arith)
      (record { within = bounds_before n within; form = _; does = begins_index at; out = λ f. refl })
      (begin_ports n within is has).0
  by_arc {n} within (to_first_bound {a = a} {b = b} is at has) =
      let less = bounds_before n within in
      let port = port_is P b kinds.Int (known.range_kinds (n - 1) a b less at).1 in
      begin_typed n 1 _ IntPort within is has (omega arith)
      (subst (λ o. SentBy P o (origin P b)) port
      (sender P known b (operand P known (n - 1) b (Bounds a b) less at (inr refl)))) (begin_ports n within is has).1
  by_arc {n} within (to_first_flag {a = a} {b = b} is at has) =
      begin_typed n 2 _ TruthPort within is has (omega arith)
      (record { within = bounds_before n within; form = _; does = bounds_meet at; out = λ f. refl })
      (begin_ports n within is has).2
  by_arc {n} within (to_entering k is less) = entering_typed n k within is less
  by_arc {n} within (to_head {s = s} is) =
      let t = turn_block P n s within is in
      record {
        kind = Signal;
        source = record { within = t.0; form = _; does = moves_on (turn_is P n s within is); out = λ f. refl };
        target = record { within = within; form = _; does = starts (ap begins_block is); into = λ f. refl };
      }
  by_arc {n} within (to_loop_back {s = s} is) =
      let c = the_loop P n s within is in
      let r = reset_is P n s within is in
      let same =
      same_ports P (end_of P n) c.last
      (loop_row P (end_of P n) n c.switches c.last (record { within = c.within; node = c.node })) in
      record {
        kind = port_at P c.last;
        source = record { within = r.0; form = _; does = resets r.1; out = λ f. refl };
        target = record { within = within; form = _; does = gives_back is; into = λ f. ap (λ k. Some k) same };
      }
  by_arc {n} within (to_variable is) =
      let z = next_is P n within is in
      record {
        kind = port_at P (next_of P n);
        source = record { within = z.within; form = _; does = advances z.node; out = λ f. refl };
        target = record { within = within; form = _; does = varies is; into = λ f. refl };
      }
  by_arc {n} within (to_entry k is less) = entry_typed n k within is less
  by_arc {n} within (to_turn is) = record {
    kind = Signal;
    source = trigger_sender n within (λ e. let bad : Program ≡ Turn = sym e ∙ is in cc);
    target = record { within = within; form = _; does = moves_on is; into = λ f. refl };
  }
  by_arc {n} within (to_turn_name k is less) =
      let h = block P n in
      let b = get_or (imports_of P h) k 0 in
      let among = listed (imports_of P h) k less in
      let i = inside ((known.table).turn_of n within is).1 in
      record {
        kind = port_at P b;
        source = named_sender P known (region P n) b (handed_binder P b (import_binds P h (h - 1) b i.head among))
            (turn_seen P n b within is among);
        target = record {
          within = within;
          form = _;
          does = moves_name (carries_on P h + k) is (behind_turned P h k less);
          into = λ f. ap (λ q. Some (port_at P q)) (behind_get (carried P h) (imports_of P h) k);
        };
      }
  by_arc {n} within (to_next_index is has) =
      let c = count_before n within is has in
      hands_typed n 0 _ IntPort within is has (omega arith) (record {
        within = c.0;
        form = _;
        does = adds_one c.1;
        out =
            λ f. refl;
      })
      (turn_ports n within is has).0
  by_arc {n} within (to_next_bound is has) =
      let z = (known.table).turn_of n within is in
      let x = (known.table).loop_is z.0 (block P n) z.1 in
      let right = ap (region P) (sym z.2) ∙ ((x.body_is).begins x.turn (turn_low (x.body_is).turns) (omega arith)).1 in
      hands_typed n 1 _ IntPort within is has (omega arith) (bound_sender n within z.1 (counted_of P x has).three right)
      (turn_ports n within is has).1
  by_arc {n} within (to_next_flag is has) =
      let c = count_before n within is has in
      hands_typed n 2 _ TruthPort within is has (omega arith) (record {
        within = c.0;
        form = _;
        does = meets_bound c.1;
        out = λ f. refl;
      })
      (turn_ports n within is has).2
  by_arc {n} within (to_next {x = x} {k = k} {o = o} {v = v} is) = record {
    kind = port_at P v;
    source = sender P known v (operand P known n v (Next x k o v) within is refl);
    target = record {
      within = within;
      form = _;
      does = advances is;
      into = λ f. ap (λ q. Some q)
          (same_ports P n v (sym (next_row P n x k o v (record { within = within; node = is })).5));
    };
  }
  by_arc {n} within (to_reset {v = v} is) = record {
    kind = port_at P v;
    source = sender P known v (operand P known n v (Reset v) within is refl);
    target = record { within = within; form = _; does = resets is; into = λ f. refl };
  }
  by_arc {n} within (to_low {nested = nested} {a = a} {b = b} is) = record {
    kind = port_at P a;
    source = sender P known a (operand P known n a (Array nested a b) within is (inl refl));
    target = record {
      within = within;
      form = _;
      does = allocates is;
      into = λ f. ap (λ k. Some k)
          (sym (port_is P a kinds.Int (known.bound_kinds n a b within is).0));
    };
  }
  by_arc {n} within (to_high {nested = nested} {a = a} {b = b} is) = record {
    kind = port_at P b;
    source = sender P known b (operand P known n b (Array nested a b) within is (inr refl));
    target = record {
      within = within;
      form = _;
      does = allocates is;
      into = λ f. ap (λ k. Some k)
          (sym (port_is P b kinds.Int (known.bound_kinds n a b within is).1));
    };
  }
  by_arc {n} within (to_lower {a = a} {b = b} is) = record {
    kind = port_at P a;
    source = sender P known a (operand P known n a (Bounds a b) within is (inl refl));
    target = record {
      within = within;
      form = _;
      does = bounds_meet is;
      into = λ f. ap (λ k. Some k) (sym (port_is P a kinds.Int (known.range_kinds n a b within is).0));
    };
  }
  by_arc {n} within (to_upper {a = a} {b = b} is) = record {
    kind = port_at P b;
    source = sender P known b (operand P known n b (Bounds a b) within is (inr refl));
    target = record {
      within = within;
      form = _;
      does = bounds_meet is;
      into = λ f. ap (λ k. Some k) (sym (port_is P b kinds.Int (known.range_kinds n a b within is).1));
    };
  }
  by_arc {n} within (to_first_test is) = record {
    kind = TruthPort;
    source = record { within = within; form = _; does = bounds_meet is; out = λ f. refl };
    target = record { within = within; form = _; does = begins_index is; into = λ f. refl };
  }
  by_arc {n} within (to_first {a = a} {b = b} is) = record {
    kind = port_at P a;
    source = sender P known a (operand P known n a (Bounds a b) within is (inl refl));
    target = record {
      within = within;
      form = _;
      does = begins_index is;
      into = λ f. ap (λ k. Some k) (sym (port_is P a kinds.Int (known.range_kinds n a b within is).0));
    };
  }
  by_arc {n} within (to_carried is) = carried_typed n within is
  by_arc {n} within (to_index_now is) = record {
    kind = IntPort;
    source = index_sender n within is;
    target = record { within = within; form = _; does = meets_bound is; into = λ f. refl };
  }
  by_arc {n} within (to_bound is) =
      let z = (known.table).count_of n within is in
      let x = (known.table).loop_is z.0 (block P n) z.1 in
      let behind = turn_low (x.body_is).turns in
      let three : x.turn ≡ (z.1).switches + 2 = (turn_nodes (x.body_is).turns z.2).0 in
      let right = ((x.body_is).begins n (omega (arith, z.3)) (omega (arith, z.3, three))).1 in
      record {
        kind = IntPort;
        source = bound_sender n within z.1 z.2 right;
        target = record { within = within; form = _; does = meets_bound is; into = λ f. refl };
      }
  by_arc {n} within (to_further_test is) = record {
    kind = TruthPort;
    source = record { within = within; form = _; does = meets_bound is; out = λ f. refl };
    target = record { within = within; form = _; does = goes_further is; into = λ f. refl };
  }
  by_arc {n} within (to_further is) = record {
    kind = Signal;
    source = trigger_sender n within (λ e. let bad : Program ≡ Count = sym e ∙ is in cc);
    target = record { within = within; form = _; does = goes_further is; into = λ f. refl };
  }
  by_arc {n} within (to_last_test is) = record {
    kind = TruthPort;
    source = record { within = within; form = _; does = meets_bound is; out = λ f. refl };
    target = record { within = within; form = _; does = hands_index is; into = λ f. refl };
  }
  by_arc {n} within (to_last is) = record {
    kind = IntPort;
    source = index_sender n within is;
    target = record { within = within; form = _; does = hands_index is; into = λ f. refl };
  }
  by_arc {n} within (to_one is) = record {
    kind = Signal;
    source = record { within = within; form = _; does = goes_further is; out = λ f. refl };
    target = record { within = within; form = _; does = has_one is; into = λ f. refl };
  }
  by_arc {n} within (to_add is) = record {
    kind = IntPort;
    source = record { within = within; form = _; does = hands_index is; out = λ f. refl };
    target = record { within = within; form = _; does = adds_one is; into = λ f. refl };
  }
  by_arc {n} within (to_add_one is) = record {
    kind = IntPort;
    source = record { within = within; form = _; does = has_one is; out = λ f. refl };
    target = record { within = within; form = _; does = adds_one is; into = λ f. refl };
  }
  by_arc {n} within (to_target {t = t} {i = i} is) =
      let c = cell_at P known n t i within is in
      record {
        kind = port_at P t;
        source = sender P known t (cell_operands n t i within is).0;
        target = record {
          within = within;
          form = _;
          does = addresses is;
          into = λ f. ap (λ b. Some (structure_kind b)) c.holds ∙ ap (λ k. Some k) (sym c.target);
        };
      }
  by_arc {n} within (to_index {t = t} {i = i} is) = record {
    kind = port_at P i;
    source = sender P known i (cell_operands n t i within is).1;
    target = record {
      within = within;
      form = _;
      does = addresses is;
      into =
          λ f. ap (λ k. Some k) (sym (cell_at P known n t i within is).index);
    };
  }
  by_arc {n} within (to_fetch is) = record {
    kind = address_kind (holds_array P n);
    source = record { within = within; form = _; does = addresses (of_fetch is); out = λ f. refl };
    target = record { within = within; form = _; does = fetches is; into = λ f. refl };
  }
  by_arc {n} within (to_store {a = a} is) =
      let z = address_at known within is in
      record {
        kind = address_kind (holds_array P a);
        source = record { within = z.within; form = _; does = addresses (of_store z.node); out = λ f. refl };
        target = record { within = within; form = _; does = stores is; into = λ f. refl };
      }
  by_arc {n} within (to_stored {a = a} {v = v} is) =
      let z = address_at known within is in
      let c = cell_at P known a z.target z.index z.within (of_store z.node) in
      let same = same_ports P v a (known.stored_kind n a v z.target z.index within is z.within z.node) in
      record {
        kind = port_at P v;
        source = sender P known v (operand P known n v (Store a v) within is refl);
        target = record {
          within = within;
          form = _;
          does = stores is;
          into = λ f. ap (λ b. Some (held_kind b)) c.holds ∙ ap (λ k. Some k) (sym (same ∙ c.held));
        };
      }

  pub typed : (s : Origin) (n part : ℕ) (p : Port) → Feeds P s n part p → Typed P s n part p
  typed s n part p h = by_arc h.within (fed h)
