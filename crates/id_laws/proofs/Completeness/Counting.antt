-- In a quiet run what a loop with an index carries on comes to each of its iterations: the index, its upper bound, and
-- whether it goes on.
use Rattle.std.proofs.Common.{◌≡◌, ℕ, zero, suc, ◌+◌, ◌-◌, ◌<◌, ℤ, inl, inr, Bool as Truth, true, cond, Some, List, []}
use Rattle.std.proofs.Common.{◌∷◌, ◌++◌, length, get_or}
use Rattle.std.proofs.Common.{slice_get, unwrap_or, refl, sym, ◌∙◌, ap, subst, arith, if◌then◌else◌}
use Rattle.id_value.specs.List.{Among}
use Rattle.id_value.proofs.AmongLemmas.{Among-left}
use Rattle.id_value.specs.declared.Kind.{Kind}
use Rattle.id_value.specs.declared.Kind.TheVariants as sort
use Rattle.id_table.specs.declared.row.Region.{Region}
use Rattle.id_table.specs.declared.row.Node.TheVariants.{Head, LoopHead, Split, Start, Switches, Turn, Bounds, Carried}
use Rattle.id_table.specs.Loops.{bounds_row}
use Rattle.id_table.specs.Rows.{arm_at, top}
use Rattle.id_table.specs.Tables.{begins_block}
use Rattle.id_check.specs.declared.checked.Checked.{Checked}
use Rattle.id_check.specs.Programs.{region, rows}
use Rattle.id_instr.specs.declared.dests.Port.{Port}
use Rattle.id_instr.specs.declared.dests.Port.TheVariants.{Zero, One as Second}
use Rattle.id_instr.specs.declared.instr.Op.TheVariants as op
use Rattle.id_instr.specs.declared.instr.PortKind.{PortKind}
use Rattle.id_instr.specs.declared.instr.PortKind.TheVariants as kinds
use Rattle.id_instr.specs.Graph.{Parts}
use Rattle.id_tag.specs.declared.Context.{Context}
use Rattle.id_tag.specs.declared.Value.{Value}
use Rattle.id_tag.specs.declared.Value.TheVariants as value
use Rattle.id_tag.specs.declared.Payload.TheVariants.{Token}
use Rattle.id_tag.specs.Kinds.{kind_of, same_kind}
use Rattle.id_ops.specs.declared.Operands.TheVariants.{One as Alone, Two}
use Rattle.id_ops.specs.declared.Fired.TheVariants.{Side, Nothing}
use Rattle.id_core.specs.Machines.{World}
use Rattle.id_source.specs.Sources.{Source}
use Rattle.id_desugar.specs.Regions.{imports_of}
use Rattle.id_build.specs.declared.arc.Origin.{Origin}
use Rattle.id_build.specs.Rows.{block, bounds_feeds, carried_feeds, entering, feed, import_feeds, loop_entries, name_in}
use Rattle.id_build.specs.Rows.{node}
use Rattle.id_build.specs.Rows.{origin, output, param_entry, part_of, port_at, port_of, turn_feeds, turn_row}
use Rattle.id_build.specs.Schemas.{Feeds, Numbered}
use Rattle.id_runs.specs.Activations.{Activation, at_iteration, tag_in}
use Rattle.id_runs.specs.Events.{Event}
use Rattle.id_runs.specs.Runs.{Reach, handled}
use Rattle.id_runs.specs.OneMessage.{Exclusive}
use Rattle.id_laws.specs.Activations.{of_call, of_loop, Tests, of_arms, of_turns, Opens, Speaks, Decided, at_first}
use Rattle.id_laws.specs.Activations.{at_next, Chosen, has_said}
use Rattle.id_laws.specs.Activations.{has_counted, Live, at_start, on_side, entered, again}
use Rattle.id_laws.proofs.Rows.Arcs.{Does, hands, moves_name, turned, carries_on, carried_at, three_carried}
use Rattle.id_laws.proofs.Rows.Arcs.{three_turned}
use Rattle.id_laws.proofs.Rows.Feeders.{imports_fed}
use Rattle.id_laws.proofs.Rows.Assumed.{IsKnown}
use Rattle.id_laws.proofs.Rows.Calls.{called_head}
use Rattle.id_laws.proofs.Rows.Conditionals.{main_head_is, one_test, tests_no_block}
use Rattle.id_laws.proofs.Paths.Counted.{bound_first, bound_side, bound_top, flag_origin}
use Rattle.id_laws.proofs.Completeness.Firings.{IsSettled, alone_fired, both_fired, came, spoken, spoken_on}
use Rattle.id_laws.proofs.Rows.LoopFacts.{switches_of}
use Rattle.id_laws.proofs.Completeness.LoopFirings.{merge_out, moved_came, next_moves, sent_in}
use Rattle.id_laws.proofs.Rows.LoopRows.{carried_row}
use Rattle.id_laws.proofs.Rows.Loops.{IsCounted, LoopOf, bounds_node, carried_stands, counted_of, same_loop}
use Rattle.id_laws.proofs.Rows.Loops.{start_before, start_node, start_within}
use Rattle.id_laws.proofs.Rows.Loops.{switches_node, switches_region, switches_same, switches_within, turn_in, turn_is}
use Rattle.id_laws.proofs.Rows.Loops.{turn_node, turn_region, turn_within}
use Rattle.id_laws.proofs.Paths.Opened.{InLoop}
use Rattle.id_laws.proofs.Rows.Speakers.{fed_as}

-- a value of the switch's kind goes to the side that the predicate has chosen
pub switched : (k : PortKind) (b : Truth) (v : Value) → same_kind (kind_of v) k ≡ true
    → cond (same_kind (kind_of v) k) (Side b v) Nothing ≡ Side b v
switched k b v e = ap (λ c. cond c (Side b v) Nothing) e

module _ (S : Source) (g : Parts) (number : ℕ → ℕ
    → ℕ) (numbered : Numbered S.checked g number) (known : IsKnown S.checked) (count : ℕ)
    (only : Exclusive g S.inputs count)
    (s : World) (run : List Event) (r : Reach g S.inputs count s run) (quiet : IsSettled S s) where
  abbrev P : Checked
  P = S.checked

  -- what is handed into a side of switches comes from where they stand
  pub handed_on : (a : Activation) (n t k : ℕ) (b : Truth) (v : Value) → n < length (rows P) → Tests P n t
      → k < length (imports_of P n) → same_kind (kind_of v) (port_at P (get_or (imports_of P n) k 0)) ≡ true
      → Speaks S number run a (origin P t) (value.Bool b)
      → Speaks S number run a (name_in P (region P n) (get_or (imports_of P n) k 0)) v
      → Speaks S number run a (record { row = n; part = suc k; side = b }) v
  handed_on a n t k b v within is less fits says name =
      let o = get_or (imports_of P n) k 0 in
      let feeds = imports_fed P n t k within is less in
      let test =
      came S g number numbered known count only s run r quiet a (origin P t) n (suc k) Zero (value.Bool b) says
      feeds.0 in
      let value_in =
      came S g number numbered known count only s run r quiet a (name_in P (region P n) o) n (suc k) Second v name
      feeds.1 in
      let fired_so =
      both_fired S g number numbered known count only s run r quiet a n (suc k) (op.Switch (port_at P o)) (value.Bool b)
      v within
      (hands k is less) refl test value_in in
      spoken_on S g number numbered known count only s run r quiet a n (suc k) (op.Switch (port_at P o))
      (Two (value.Bool b) v) b v fired_so
      (λ f. switched (port_at P o) b v fits)

  module _ {h : ℕ} (x : LoopOf P h) (c : IsCounted P x.all) where
    abbrev w : ℕ
    w = (x.the).switches

    abbrev turn : ℕ
    turn = turn_row P h

    abbrev upper : ℕ
    upper = (c.bounds).upper

    abbrev begin : ℕ
    begin = h - 1

    -- ---- rows

    three : List ℕ
    three = (h + 1) ∷ (h + 2) ∷ (h + 3) ∷ []

    three_get : (j : ℕ) → j < 3 → get_or ((h + 1) ∷ (h + 2) ∷ (h + 3) ∷ []) j 0 ≡ h + 1 + j
    three_get zero less = omega arith
    three_get (suc zero) less = omega arith
    three_get (suc (suc zero)) less = omega arith
    three_get (suc (suc (suc j))) less = absurd (omega (arith, less))

    before_get : (bs : List ℕ) (j : ℕ) → j < 3 → get_or (((h + 1) ∷ (h + 2) ∷ (h + 3) ∷ []) ++ bs) j 0 ≡ h + 1 + j
    before_get bs zero less = omega arith
    before_get bs (suc zero) less = omega arith
    before_get bs (suc (suc zero)) less = omega arith
    before_get bs (suc (suc (suc j))) less = absurd (omega (arith, less))

    -- what is carried on by number
    carried_node : (j : ℕ) → j < 3 → (k : Kind) × (node P (h + 1 + j) ≡ Carried k)
    carried_node zero less = let at : h + 1 + 0 ≡ h + 1 = omega arith in (sort.Int, ap (node P) at ∙ c.entry)
    carried_node (suc zero) less = let at : h + 1 + 1 ≡ h + 2 = omega arith in (sort.Int, ap (node P) at ∙ c.bound)
    carried_node (suc (suc zero)) less =
        let at : h + 1 + 2 ≡ h + 3 = omega arith in (sort.Bool, ap (node P) at ∙ c.flag)
    carried_node (suc (suc (suc j))) less = absurd (omega (arith, less))

    port_for : (i : ℕ) (k : Kind) → node P i ≡ Carried k → port_at P i ≡ port_of k
    port_for i k is = ap (λ o. port_of (unwrap_or o sort.Int)) (carried_row P i k is).kind

    number_fits : (i : ℕ) (n : ℤ) → node P i ≡ Carried sort.Int → same_kind (kind_of (value.Int n)) (port_at P i) ≡ true
    number_fits i n is = ap (same_kind kinds.Int) (port_for i sort.Int is)

    truth_fits : (i : ℕ) (b : Truth) → node P i ≡ Carried sort.Bool
        → same_kind (kind_of (value.Bool b)) (port_at P i) ≡ true
    truth_fits i b is = ap (same_kind kinds.Bool) (port_for i sort.Bool is)

    -- ---- what comes to the entries

    -- an entry speaks what came to it
    entry_says : (j : ℕ) → j < 3 → (b : Activation) (v : Value) → same_kind (kind_of v) (port_at P (h + 1 + j)) ≡ true
        → Among (Token (tag_in b (number (h + 1 + j) 0)) Zero v) (handled run)
        → Speaks S number run b (output (h + 1 + j)) v
    entry_says j less b v fits came_in =
        let i = h + 1 + j in
        let z = carried_node j less in
        let row = carried_row P i z.0 z.1 in
        let fired_so =
        alone_fired S g number numbered known count only s run r quiet b i 0 (op.Merge (port_at P i)) Zero v row.within
        row.does refl came_in in
        spoken S g number numbered known count only s run r quiet b i 0 (op.Merge (port_at P i)) (Alone v) v fired_so
        (λ f. merge_out S g number numbered known count only s run r quiet (port_at P i) v fits)

    -- what feeds the sends of its `Start`
    begin_fed : (t : Origin) (part : ℕ) (p : Port)
        → Among (feed t part p) (bounds_feeds P begin (Bounds (c.bounds).lower upper)) → Feeds P t begin part p
    begin_fed t part p among =
        let back : begin - 1 ≡ bounds_row h = omega arith in
        let at : node P (begin - 1) ≡ Bounds (c.bounds).lower upper = ap (node P) back ∙ bounds_node P known h x c in
        let rest =
        import_feeds P (output begin) (region P begin) (1 + carries_on P (begin + 1)) (entering P (begin + 1)) in
        fed_as P known t begin part p Start (start_within P known h x) (start_node P known h x)
        (inr (Among-left (feed t part p) (bounds_feeds P begin (node P (begin - 1))) rest
        (subst (λ m. Among (feed t part p) (bounds_feeds P begin m)) (sym at) among)))

    -- what its `Start` sends came to the first iteration
    first_says : (j : ℕ) → j < 3 → (a : Activation) (d : Context) (t : Origin) (v : Value)
        → Opens S number run a begin d → same_kind (kind_of v) (port_at P (h + 1 + j)) ≡ true
        → Feeds P (output begin) begin (suc j) Zero → Feeds P t begin (suc j) Second → Speaks S number run a t v
        → Speaks S number run (at_iteration d 0) (output (h + 1 + j)) v
    first_says j less a d t v opened fits to_context to_value says =
        let at : slice_get (loop_entries P (begin + 1)) j ≡ Some (param_entry (h + 1 + j)) =
        ap (λ k. slice_get (loop_entries P k) j) (start_before P known h x) ∙ carried_at P h j c.has less
        ∙ ap (λ cs. Some (param_entry (get_or cs j 0))) (three_carried P h c.has)
        ∙ ap (λ i. Some (param_entry i)) (three_get j less) in
        entry_says j less (at_iteration d 0) v fits
        (sent_in S g number numbered known count only s run r quiet a begin j d (param_entry (h + 1 + j)) t v
        (start_within P known h x)
        (start_node P known h x) opened at fits to_context to_value says)

    -- what is handed on came to the next one
    turn_does : (j : ℕ) → j < 3
        → Does P turn (suc j)
        (Rattle.id_build.specs.declared.arc.Form.TheVariants.Plain (op.Next (port_at P (h + 1 + j))))
    turn_does j less =
        let name : get_or (turned P h) j 0 ≡ h + 1 + j =
        ap (λ cs. get_or (cs ++ imports_of P h) j 0) (three_carried P h c.has) ∙ before_get (imports_of P h) j less in
        subst (λ i. Does P turn (suc j)
        (Rattle.id_build.specs.declared.arc.Form.TheVariants.Plain (op.Next (port_at P i)))) name
        (subst (λ k. j < length (turned P k) →
        Does P turn (suc j)
        (Rattle.id_build.specs.declared.arc.Form.TheVariants.Plain (op.Next (port_at P (get_or (turned P k) j 0)))))
        (turn_in P known h x)
        (λ l. moves_name j (turn_node P known h x) l) (three_turned P h c.has j less))

    -- what feeds what hands it on
    turn_fed : (t : Origin) (part : ℕ)
        → Among (feed t part Zero) (feed (part_of (turn - 1) 4) 1 Zero ∷ feed (name_in P (region P turn) (h + 2)) 2 Zero
        ∷ feed (output (turn - 1)) 3 Zero ∷ []) → Feeds P t turn part Zero
    turn_fed t part among =
        let here : Among (feed t part Zero) (carried_feeds P turn (region P turn) h) =
        subst (λ (b : Truth). Among (feed t part Zero) (if b
        then (feed (part_of (turn - 1) 4) 1 Zero ∷ feed (name_in P (region P turn) (h + 2)) 2 Zero
        ∷ feed (output (turn - 1)) 3 Zero ∷ []) else [])) (sym c.has) among in
        let all : Among (feed t part Zero)
        (carried_feeds P turn (region P turn) h ++ turn_feeds P (region P turn) (1 + carries_on P h) (imports_of P h)) =
        Among-left (feed t part Zero) (carried_feeds P turn (region P turn) h)
        (turn_feeds P (region P turn) (1 + carries_on P h) (imports_of P h)) here in
        fed_as P known t turn part Zero Turn (turn_within P known h x) (turn_node P known h x)
        (inr (subst (λ k. Among (feed t part Zero)
        (carried_feeds P turn (region P turn) k ++ turn_feeds P (region P turn) (1 + carries_on P k) (imports_of P k)))
        (sym (turn_in P known h x)) all))

    entry_fed : (j : ℕ) → j < 3 → Feeds P (part_of turn (suc j)) (h + 1 + j) 0 Zero
    entry_fed j less =
        let i = h + 1 + j in
        let z = carried_node j less in
        let in_h : block P i ≡ h = (carried_stands P known h x c i (omega arith) (omega (arith, less))).0 in
        let slot : i - block P i ≡ suc j = omega (arith, in_h) in
        fed_as P known (part_of turn (suc j)) i 0 Zero (Carried z.0) (carried_row P i z.0 z.1).within z.1
        (inl (λ e. feed (part_of (turn_row P (sym in_h e)) (sym slot e)) 0 Zero))

    next_says : (j : ℕ) → j < 3 → (d : Context) (k : ℕ) (t : Origin) (v : Value)
        → same_kind (kind_of v) (port_at P (h + 1 + j)) ≡ true → Feeds P t turn (suc j) Zero
        → Speaks S number run (at_iteration d k) t v
        → Speaks S number run (at_iteration d (suc k)) (output (h + 1 + j)) v
    next_says j less d k t v fits fed says =
        let i = h + 1 + j in
        let this = at_iteration d k in
        let to = came S g number numbered known count only s run r quiet this t turn (suc j) Zero v says fed in
        let turns =
        alone_fired S g number numbered known count only s run r quiet this turn (suc j) (op.Next (port_at P i)) Zero v
        (turn_within P known h x)
        (turn_does j less) refl to in
        let moves =
        next_moves S g number numbered known count only s run r quiet this turn (suc j) (port_at P i) v turns fits in
        entry_says j less (at_iteration d (suc k)) v fits
        (moved_came S g number numbered known count only s run r quiet this (part_of turn (suc j)) (suc k) i 0 Zero v
        moves (entry_fed j less))

    -- ---- the index, its upper bound and the flag

    bounds_back : begin - 1 ≡ bounds_row h
    bounds_back = omega arith

    count_back : turn - 1 ≡ w + 1
    count_back = omega (arith, turn_is P known h x, c.turn)

    index_at : h + 1 + 0 ≡ h + 1
    index_at = omega arith

    bound_at : h + 1 + 1 ≡ h + 2
    bound_at = omega arith

    flag_at : h + 1 + 2 ≡ h + 3
    flag_at = omega arith

    pub index_first : (a : Activation) (d : Context) (n : ℤ) → Opens S number run a begin d
        → Speaks S number run a (part_of (bounds_row h) 1) (value.Int n)
        → Speaks S number run (at_iteration d 0) (output (h + 1)) (value.Int n)
    index_first a d n opened says =
        subst (λ i. Speaks S number run (at_iteration d 0) (output i) (value.Int n)) index_at
        (first_says 0 (omega arith) a d (part_of (begin - 1) 1) (value.Int n) opened
        (number_fits (h + 1 + 0) n (ap (node P) index_at ∙ c.entry))
        (begin_fed (output begin) 1 Zero (inl refl)) (begin_fed (part_of (begin - 1) 1) 1 Second (inr (inl refl)))
        (subst (λ i. Speaks S number run a (part_of i 1) (value.Int n)) (sym bounds_back) says))

    pub index_next : (d : Context) (k : ℕ) (n : ℤ)
        → Speaks S number run (at_iteration d k) (part_of (w + 1) 4) (value.Int n)
        → Speaks S number run (at_iteration d (suc k)) (output (h + 1)) (value.Int n)
    index_next d k n says =
        subst (λ i. Speaks S number run (at_iteration d (suc k)) (output i) (value.Int n)) index_at
        (next_says 0 (omega arith) d k (part_of (turn - 1) 4) (value.Int n)
        (number_fits (h + 1 + 0) n (ap (node P) index_at ∙ c.entry))
        (turn_fed (part_of (turn - 1) 4) 1 (inl refl))
        (subst (λ i. Speaks S number run (at_iteration d k) (part_of i 4) (value.Int n)) (sym count_back) says))

    bound_first_says : (a : Activation) (d : Context) (n : ℤ) → Opens S number run a begin d
        → Speaks S number run a (origin P upper) (value.Int n)
        → Speaks S number run (at_iteration d 0) (output (h + 2)) (value.Int n)
    bound_first_says a d n opened says =
        subst (λ i. Speaks S number run (at_iteration d 0) (output i) (value.Int n)) bound_at
        (first_says 1 (omega arith) a d (origin P upper) (value.Int n) opened
        (number_fits (h + 1 + 1) n (ap (node P) bound_at ∙ c.bound))
        (begin_fed (output begin) 2 Zero (inr (inr (inl refl))))
        (begin_fed (origin P upper) 2 Second (inr (inr (inr (inl refl))))) says)

    bound_next_says : (d : Context) (k : ℕ) (n : ℤ)
        → Speaks S number run (at_iteration d k) (name_in P (arm_at w true) (h + 2)) (value.Int n)
        → Speaks S number run (at_iteration d (suc k)) (output (h + 2)) (value.Int n)
    bound_next_says d k n says =
        subst (λ i. Speaks S number run (at_iteration d (suc k)) (output i) (value.Int n)) bound_at
        (next_says 1 (omega arith) d k (name_in P (region P turn) (h + 2)) (value.Int n)
        (number_fits (h + 1 + 1) n (ap (node P) bound_at ∙ c.bound))
        (turn_fed (name_in P (region P turn) (h + 2)) 2 (inr (inl refl)))
        (subst (λ q. Speaks S number run (at_iteration d k) (name_in P q (h + 2)) (value.Int n))
        (sym (turn_region P known h x)) says))

    pub flag_first : (a : Activation) (d : Context) (b : Truth) → Opens S number run a begin d
        → Speaks S number run a (output (bounds_row h)) (value.Bool b)
        → Speaks S number run (at_iteration d 0) (output (h + 3)) (value.Bool b)
    flag_first a d b opened says =
        subst (λ i. Speaks S number run (at_iteration d 0) (output i) (value.Bool b)) flag_at
        (first_says 2 (omega arith) a d (output (begin - 1)) (value.Bool b) opened
        (truth_fits (h + 1 + 2) b (ap (node P) flag_at ∙ c.flag))
        (begin_fed (output begin) 3 Zero (inr (inr (inr (inr (inl refl))))))
        (begin_fed (output (begin - 1)) 3 Second (inr (inr (inr (inr (inr (inl refl)))))))
        (subst (λ i. Speaks S number run a (output i) (value.Bool b)) (sym bounds_back) says))

    pub flag_next : (d : Context) (k : ℕ) (b : Truth)
        → Speaks S number run (at_iteration d k) (output (w + 1)) (value.Bool b)
        → Speaks S number run (at_iteration d (suc k)) (output (h + 3)) (value.Bool b)
    flag_next d k b says =
        subst (λ i. Speaks S number run (at_iteration d (suc k)) (output i) (value.Bool b)) flag_at
        (next_says 2 (omega arith) d k (output (turn - 1)) (value.Bool b)
        (truth_fits (h + 1 + 2) b (ap (node P) flag_at ∙ c.flag))
        (turn_fed (output (turn - 1)) 3 (inr (inr (inl refl))))
        (subst (λ i. Speaks S number run (at_iteration d k) (output i) (value.Bool b)) (sym count_back) says))

    -- what was decided the flag speaks
    pub decided_said : {a : Activation} {b : Truth} → Decided S number run h (value.Bool b) a
        → Speaks S number run a (output (h + 3)) (value.Bool b)
    decided_said {b = b} (at_first {a = a} {c = d} opened says) = flag_first a d b opened says
    decided_said {b = b} (at_next {c = d} {k = k} says) =
        flag_next d k b
        (subst (λ i. Speaks S number run (at_iteration d k) (output (i + 1)) (value.Bool b)) (switches_same P known h x)
        says)

  -- where a side is chosen the predicate, or the flag in its place, has spoken so
  pub chosen_said : {a : Activation} {n e : ℕ} {b : Truth} → n < length (rows P) → Tests P n e
      → Chosen S number run a n b → Speaks S number run a (origin P e) (value.Bool b)
  chosen_said {a} {b = b} within tests (has_said is says) =
      subst (λ i. Speaks S number run a (origin P i) (value.Bool b)) (one_test is tests) says
  chosen_said {e = e} within (of_arms is) (has_counted {e = t} at has decided) =
      let bad : Split e ≡ Switches t = sym is ∙ at in cc
  chosen_said {a} {n} {e} within (of_turns is) (has_counted at has decided) =
      let z = switches_of known within is in
      let l = z.loop in
      let c = counted_of P l.all has in
      let test = ((l.all).test).test in
      let both : Switches test ≡ Switches e = sym ((l.all).test).node ∙ ap (node P) z.switches ∙ is in
      let same : test ≡ e = cc in
      subst (λ o. Speaks S number run a o (value.Bool true)) (sym (flag_origin P known (block P n) l c)
      ∙ ap (origin P) same) (decided_said l c decided)

  -- the upper bound comes to each iteration
  module _ {h : ℕ} (x : LoopOf P h) (c : IsCounted P x.all) where
    pub record BoundHome (b : Activation) : Type 0 where
      pub outer : InLoop S known number run b h
      pub comes : (n : ℤ) → Speaks S number run outer.outer (origin P (c.bounds).upper) (value.Int n)
          → Speaks S number run b (output (h + 2)) (value.Int n)

    -- from where the switches stand into the side of the body
    pub bound_inside : {b : Activation} (n : ℤ) → Chosen S number run b (x.the).switches true
        → Speaks S number run b (output (h + 2)) (value.Int n)
        → Speaks S number run b (name_in P (arm_at (x.the).switches true) (h + 2)) (value.Int n)
    bound_inside {b} n chosen says =
        let v = (x.the).switches in
        let within = switches_within P known h x in
        let tests = of_turns (switches_node P known h x) in
        let first : get_or (imports_of P v) 0 0 ≡ h + 2 = ap (λ bs. get_or bs 0 0) (bound_first P known h x c) in
        let some : 0 < length (imports_of P v) =
        subst (λ bs. 0 < length bs) (sym (bound_first P known h x c)) (omega arith) in
        let port : port_at P (h + 2) ≡ kinds.Int =
        ap (λ o. port_of (unwrap_or o sort.Int)) (carried_row P (h + 2) sort.Int c.bound).kind in
        let fits : same_kind kinds.Int (port_at P (get_or (imports_of P v) 0 0)) ≡ true =
        ap (λ i. same_kind kinds.Int (port_at P i)) first ∙ ap
        (same_kind kinds.Int) port in
        let from : name_in P (region P v) (get_or (imports_of P v) 0 0) ≡ output (h + 2) =
        ap (name_in P (region P v)) first ∙ ap (λ q. name_in P q (h + 2)) (switches_region P known h x)
        ∙ bound_top P known h x c in
        subst (λ o. Speaks S number run b o (value.Int n)) (sym (bound_side P known h x c true))
        (handed_on b v ((x.all).test).test 0 true (value.Int n) within tests some fits (chosen_said within tests chosen)
        (subst (λ o. Speaks S number run b o (value.Int n)) (sym from) says))

    pub bound_home : {b : Activation} {q : Region} → Live S number run b q → q ≡ top h → BoundHome b
    bound_home at_start at =
        let bad : Head ≡ LoopHead (h - 1) = sym (main_head_is known) ∙ ap (λ (q : Region). node P q.head) at ∙ x.head in
        cc
    bound_home (on_side within tests live says goes) at =
        absurd (tests_no_block tests (ap (λ (q : Region). begins_block (node P q.head)) at ∙ ap begins_block x.head))
    bound_home (entered within (of_call is) live opened) at =
        let bad : Head ≡ LoopHead (h - 1) =
        sym (called_head known within is).1 ∙ ap (λ (q : Region). node P q.head) at ∙ x.head in
        cc
    bound_home (entered {a = a} {n = n} {c = d} within (of_loop is) live opened) at =
        let head : n + 1 ≡ h = ap (λ (q : Region). q.head) at in
        let back : n ≡ h - 1 = omega (arith, head) in
        record {
          outer = record { outer = a; start = n; within = within; node = is; head = head; live = live; opens = opened };
          comes = λ v says. bound_first_says x c a d v (subst (λ i. Opens S number run a i d) back opened) says;
        }
    bound_home (again {c = d} {k = k} {n = n} within is live chosen goes) at =
        let z = switches_of known within is in
        let head : block P n ≡ h = ap (λ (q : Region). q.head) (sym z.right ∙ at) in
        let l : (l : LoopOf P h) × ((l.the).switches ≡ n) =
        subst (λ i. (l : LoopOf P i) × ((l.the).switches ≡ n)) head (z.loop, z.switches) in
        let same : n ≡ (x.the).switches = sym l.1 ∙ (same_loop known (l.0).the x).switches in
        let before = bound_home live at in
        let o = before.outer in
        let here = subst (λ i. Chosen S number run (at_iteration d k) i true) same chosen in
        record {
          outer = record {
            outer = o.outer;
            start = o.start;
            within = o.within;
            node = o.node;
            head = o.head;
            live =
                o.live;
            opens = o.opens;
          };
          comes = λ v says. bound_next_says x c d k v (bound_inside v here (before.comes v says));
        }
