-- In a quiet run what conditionals, calls and loops run in regions of their own is carried, and so is what comes back.
use Rattle.std.proofs.Common.{◌≡◌, inl, inr, ℕ, suc, ◌+◌, ◌-◌, ◌<◌, arith, get_or, Bool as Truth, true, false, cond}
use Rattle.std.proofs.Common.{Some, List, [], ◌∷◌, length, refl, sym}
use Rattle.std.proofs.Common.{◌∙◌, ap, subst, unwrap_or, slice_get}
use Rattle.id_value.specs.List.{Among}
use Rattle.id_value.proofs.AmongLemmas.{Among-from_at}
use Rattle.id_table.specs.declared.row.Node.TheVariants.{Param, Split, If, Head, Enter, Arg, Call, Def, Start, LoopHead}
use Rattle.id_table.specs.declared.row.Node.TheVariants.{Variable, Next, Reset, Loop, Program}
use Rattle.id_table.specs.declared.row.Region.{Region}
use Rattle.id_table.specs.Rows.{arm_at, top}
use Rattle.id_table.specs.Tables.{HasNear, HasOperand, begins_block, is_binder, is_expression, is_thing}
use Rattle.id_check.specs.declared.checked.Checked.{Checked}
use Rattle.id_check.specs.Programs.{Stands, place, region, rows, binder}
use Rattle.id_instr.specs.declared.dests.Port.TheVariants.{Zero, One}
use Rattle.id_instr.specs.declared.instr.Op.TheVariants as op
use Rattle.id_instr.specs.Graph.{Parts}
use Rattle.id_tag.specs.declared.Value.TheVariants as value
use Rattle.id_tag.specs.declared.Payload.TheVariants.{Token}
use Rattle.id_ops.specs.declared.Operands.TheVariants.{One as Alone}
use Rattle.id_ops.specs.declared.Fired.TheVariants.{Entered}
use Rattle.id_value.specs.declared.Constant.TheVariants as constants
use Rattle.id_core.specs.Machines.{World}
use Rattle.id_source.specs.declared.Path.{Path}
use Rattle.id_source.specs.declared.SourceValue.{SourceValue}
use Rattle.id_source.specs.declared.SourceValue.TheVariants as source
use Rattle.id_source.specs.declared.Fact.TheVariants.{Has}
use Rattle.id_source.specs.Sources.{Source, AreInputs}
use Rattle.id_source.specs.Facts.{Chooses, then_arm, else_arm, below, without, LoopStands, NextStands, between}
use Rattle.id_source.specs.Rounds.{Holds}
use Rattle.id_build.specs.declared.arc.Origin.{Origin}
use Rattle.id_build.specs.Rows as built
use Rattle.id_build.specs.Rows.{block, entering, first_binder, loop_entries, name_in, next_of, label, node, feed}
use Rattle.id_build.specs.Rows.{origin, output, trigger_of, port_at, port_of}
use Rattle.id_build.specs.Rows.{called, home as home_of, home_by, label_by, param_of}
use Rattle.id_desugar.specs.Regions.{first_variable, nexts_of}
use Rattle.id_build.specs.Schemas.{Feeds, Numbered}
use Rattle.id_runs.specs.Activations.{Activation, tag_in, at_iteration}
use Rattle.id_runs.specs.Events.{Event, FiresAs}
use Rattle.id_runs.specs.Runs.{Reach, handled}
use Rattle.id_runs.specs.OneMessage.{Exclusive}
use Rattle.id_laws.specs.Activations.{Seat, Outermost, Below, path_at, SeatOf, GoesAt, of_call, of_loop, Live, on_side}
use Rattle.id_laws.specs.Activations.{by_test, of_arms, of_turns}
use Rattle.id_laws.specs.Activations.{Chosen, has_said}
use Rattle.id_laws.specs.Activations.{PathOf, Speaks, Opens, entered}
use Rattle.id_laws.specs.Carried.{Here, CarriedHas, speaker}
use Rattle.id_laws.proofs.Rows.Arcs.{carries_on}
use Rattle.id_laws.proofs.Rows.Arcs.{Does, enters, joins, opens, passes, gets, returns, varies, advances, resets}
use Rattle.id_laws.proofs.Rows.Arcs.{gives_back, gets_last}
use Rattle.id_laws.proofs.Rows.Assumed.{IsKnown}
use Rattle.id_laws.proofs.Paths.Iterations.{turned_again as live_again}
use Rattle.id_laws.proofs.Rows.Loops.{LoopOf, last_region, next_at, reset_node, reset_within, start_region}
use Rattle.id_laws.proofs.Rows.LoopFacts.{entering_long, entry_of, first_entering, first_entry, loop_is, next_numbered}
use Rattle.id_laws.proofs.Rows.LoopFacts.{variable_of}
use Rattle.id_laws.proofs.Completeness.LoopFirings.{entered_in, moved_came, next_moves, reset_moves}
use Rattle.id_laws.proofs.Paths.Opened.{InLoop, live_loop, loop_path, one_seats}
use Rattle.id_runs.proofs.Serials.{contexts_apart}
use Rattle.id_laws.proofs.Validity.PortsTake.{Takes}
use Rattle.id_laws.proofs.Rows.Regions.{region_of, same_depth}
use Rattle.id_laws.proofs.Rows.Blocks.{a_param}
use Rattle.id_laws.proofs.Rows.Conditionals.{arm_live, arm_of, arms_test, Conditional, conditional, no_within, test_at}
use Rattle.id_build.proofs.EndsLemmas as ends
use Rattle.id_laws.proofs.Validity.HasKinds.{port_taking, binder_thing, expression_thing, operand_of}
use Rattle.id_laws.proofs.Completeness.Firings.{IsSettled, alone_fired, both_fired, came, spoken, alone_formed}
use Rattle.id_laws.proofs.Completeness.Firings.{both_formed, sent_handled}
use Rattle.id_build.proofs.NamesSeen.{Sees, listed}
use Rattle.id_laws.proofs.Completeness.Triggers.{Home, home, live_turned, one_activation, second_came}
use Rattle.id_laws.proofs.Rows.Speakers.{own_origin, binder_speaks, fed_as}
use Rattle.id_laws.proofs.Paths.Seats.{below_is, length_snoc, entered_path}
use Rattle.id_build.specs.declared.arc.Form.TheVariants.{Plain, EnterAt, SendTo}
use Rattle.id_laws.proofs.Completeness.CarriedValues.{sent_in, expression_plain, merged, stands_constant, value_fits}
use Rattle.id_laws.proofs.Rows.Calls.{arg_at, call_at, enter_at, as_def, called_head, called_is}
use Rattle.id_table.specs.Turns.{IsDefOf, params_at}
use Rattle.id_tag.specs.declared.Context.{Context}
use Rattle.id_desugar.specs.Ends.{end_of}
use Rattle.id_value.specs.declared.Kind.{Kind}
use Rattle.id_value.specs.declared.Kind.TheVariants as sort
use Rattle.id_laws.proofs.Completeness.CarriedThings.{thing_here, here_is, live_at, same_here, said_at, has_spoken}
use Rattle.id_laws.proofs.Completeness.CarriedThings.{label_has, own_has}

some_is : {A : Type 0} {x y : A} → Some x ≡ Some y → x ≡ y
some_is h = cc

module _ (S : Source) (g : Parts) (number : ℕ → ℕ
    → ℕ) (numbered : Numbered S.checked g number) (known : IsKnown S.checked)
    (inputs : AreInputs S.checked S.inputs) (count : ℕ) (only : Exclusive g S.inputs count) (s : World)
    (run : List Event)
    (r : Reach g S.inputs count s run) (quiet : IsSettled S s) where
  abbrev P : Checked
  P = S.checked

  abbrev H : Path → ℕ → Type 0
  H p e = Here S number run p e

  -- the rows of a conditional, of which the predicate chooses an arm
  pub record ArmRows (n t a : ℕ) (b : Truth) : Type 0 where
    pub split : ℕ
    pub then : ℕ
    pub otherwise : ℕ
    pub stands : Stands P n (If split then otherwise)
    pub rows_of : Conditional P n split then otherwise
    pub test : t ≡ rows_of.test
    pub arm : a ≡ arm_of b then otherwise

  same_test : {e e' : ℕ} → Split e ≡ Split e' → e ≡ e'
  same_test h = cc

  pub arm_rows : {n t a : ℕ} {b : Truth} → Chooses S n t b a → ArmRows n t a b
  arm_rows (then_arm {s = s} {a = x} {b = y} h k) =
      let c = conditional known h.within h.node in
      record {
        split = s;
        then = x;
        otherwise = y;
        stands = h;
        rows_of = c;
        test = same_test (sym k.node ∙ c.node);
        arm = refl;
      }
  arm_rows (else_arm {s = s} {a = x} {b = y} h k) =
      let c = conditional known h.within h.node in
      record {
        split = s;
        then = x;
        otherwise = y;
        stands = h;
        rows_of = c;
        test = same_test (sym k.node ∙ c.node);
        arm = refl;
      }

  pub test_here : {p : Path} {n t a : ℕ} {b : Truth} → ArmRows n t a b → H p (place P n) → H p (place P t)
  test_here {p} x h =
      let c = x.rows_of in
      let z = c.test_at in
      subst (λ e. H p (place P e)) (sym x.test)
      (same_here S g number numbered known inputs count only s run r quiet h c.test z.within
      (arms_test known c.within c.node)
      (subst (Live S number run h.activation) (sym (z.region ∙ c.region))
      (live_at S g number numbered known inputs count only s run r quiet h x.stands refl refl)))

  -- where the predicate has spoken, the arm that it chooses is live
  pub arm_here : {p : Path} {n t a : ℕ} {b : Truth} → ArmRows n t a b → H p (place P n)
      → CarriedHas S number run p (place P t) (source.Bool b) → Holds S (Has p (place P t) (source.Bool b))
      → H p (place P a)
  arm_here {p} {b = b} x h has holds =
      let c = x.rows_of in
      let z = c.test_at in
      let e = arm_of b x.then x.otherwise in
      let tested = subst (λ k. CarriedHas S number run p (place P k) (source.Bool b)) x.test has in
      let said =
      subst (Speaks S number run h.activation (origin P c.test)) (stands_constant (constants.Bool b) tested.stands)
      (said_at S g number numbered known inputs count only s run r quiet h c.test z.within
      (arms_test known c.within c.node) tested) in
      let tests = of_arms c.node in
      let live = subst (Live S number run h.activation) (sym c.region)
      (live_at S g number numbered known inputs count only s run r quiet h x.stands refl refl) in
      let goes =
      by_test tests (no_within (node P c.test) (arms_test known c.within c.node))
      (subst (λ k. Holds S (Has p (place P k) (source.Bool b))) x.test holds) in
      let arm =
      on_side c.within tests live (has_said tests said) (record { path = p; path_of = h.path_of; goes = goes }) in
      subst (λ k. H p (place P k)) (sym x.arm)
      (same_here S g number numbered known inputs count only s run r quiet h e (c.arm_within b) (c.arm_expression b)
      (subst (Live S number run h.activation) (sym (c.arm_region b)) arm))

  -- what the arm has spoken came to the conditional's merge
  pub merge_has : {p : Path} {n t a : ℕ} {b : Truth} {v : SourceValue} → ArmRows n t a b → H p (place P n)
      → CarriedHas S number run p (place P a) v → Holds S (Has p (place P n) v)
      → CarriedHas S number run p (place P n) v
  merge_has {p} {n} {b = b} {v = v} x h has holds =
      let c = x.rows_of in
      let e = arm_of b x.then x.otherwise in
      let has = subst (λ k. CarriedHas S number run p (place P k) v) x.arm has in
      let said =
      said_at S g number numbered known inputs count only s run r quiet h e (c.arm_within b) (c.arm_expression b) has in
      let stands = x.stands in
      let m = If x.split x.then x.otherwise in
      let to = came S g number numbered known count only s run r quiet h.activation (origin P e) n 0 Zero has.value said
      (fed_as P known (origin P e) n 0 Zero m stands.within stands.node
      (arm_listed b (origin P x.then) (origin P x.otherwise) (origin P e) (by_side b))) in
      let fired_so =
      alone_fired S g number numbered known count only s run r quiet h.activation n 0 (op.Merge (port_at P n)) Zero
      has.value stands.within
      (joins stands.node) refl to in
      let kind_is = port_taking S known inputs n p v stands.within (ap is_thing stands.node) holds in
      let out =
      spoken S g number numbered known count only s run r quiet h.activation n 0 (op.Merge (port_at P n))
      (Alone has.value) has.value fired_so
      (λ f. merged known has.stands (port_at P n) kind_is) in
      has_spoken S g number numbered known inputs count only s run r quiet h stands refl refl has.stands
      (subst (λ z. Speaks S number run h.activation z has.value)
      (sym (own_origin P known n m stands.within stands.node refl refl (λ q. refl))) out)
    where
      by_side : (c : Truth) → origin P (arm_of c x.then x.otherwise) ≡ cond c (origin P x.then) (origin P x.otherwise)
      by_side true = refl
      by_side false = refl

      arm_listed : (c : Truth) (o q s : Origin) → s ≡ cond c o q
          → Among (feed s 0 Zero) (feed o 0 Zero ∷ feed q 0 Zero ∷ [])
      arm_listed true o q s e = inl (ap (λ z. feed z 0 Zero) e)
      arm_listed false o q s e = inr (inl (ap (λ z. feed z 0 Zero) e))

  -- the context in which an On call runs, which its `Enter` has made
  pub record Calling (p : Path) (n e : ℕ) (a : Activation) : Type 0 where
    pub context : Context
    pub opens : Opens S number run a e context
    pub path_of : PathOf S number run (at_iteration context 0) (below p (place P n) 0)
    pub live : Live S number run (at_iteration context 0) (top (called P e))

  pub calling : {p : Path} {n e c : ℕ} (h : H p (place P n)) → Stands P n (Call e c) → Calling p n e h.activation
  calling {p} {n} {e} h x =
      let z = enter_at known x.within x.node in
      let d = call_at known z.within z.node in
      let a = h.activation in
      let live = subst (Live S number run a) (sym (d.region ∙ ap (region P) z.ends))
      (live_at S g number numbered known inputs count only s run r quiet h x refl refl) in
      let signal =
      came S g number numbered known count only s run r quiet a (trigger_of (region P e)) e 0 Zero value.Signal
      (live_turned S g number numbered known count only s run r quiet live)
      (fed_as P known (trigger_of (region P e)) e 0 Zero (Enter z.name) z.within z.node (inl refl)) in
      let fired_so =
      alone_formed S g number numbered known count only s run r quiet a e 0 (EnterAt (called P e) (end_of P e)) Zero
      value.Signal z.within
      (opens (of_call z.node)) refl signal in
      record {
        context = (fired_so.fresh).context;
        opens = fired_so.fires;
        path_of =
            subst (λ q. PathOf S number run (at_iteration (fired_so.fresh).context 0) (below p q 0)) (d.place
            ∙ ap (place P) z.ends)
            (entered_path 0 z.within (of_call z.node) fired_so.fires h.path_of);
        live = entered z.within (of_call z.node) live fired_so.fires;
      }

  -- the body of a definition stands right in the region of its head
  pub body_row : {d y f b : ℕ} {k : Kind} → Stands P d (Def y f k b)
      → (b < length (rows P)) × (is_expression (node P b) ≡ true) × (region P b ≡ top f)
  body_row {d} {y} {f} {b} {k} def =
      let body = ends.body_region P known.table d f (as_def def) in
      (body.0, ((known.table).head_is d y f b k def.within def.node).2, body.1)

  -- so its procedure's body is carried there
  abbrev pub callee_at : {p : Path} {n e x d y f b : ℕ} {k : Kind} {a : Activation} → Calling p n e a
      → e < length (rows P) → node P e ≡ Enter x → binder P e ≡ Some d → Stands P d (Def y f k b)
      → H (below p (place P n) 0) (place P b)
  callee_at {b = b} w within is bound def =
      let body = body_row def in
      thing_here S g number numbered known inputs count only s run r quiet (at_iteration w.context 0) w.path_of b body.0
      body.1
      (subst (Live S number run (at_iteration w.context 0)) (ap top (called_is known within is bound def) ∙ sym body.2)
      w.live)

  -- and what an argument has spoken came to the label of its parameter
  pub argument_carried : {p : Path} {n e c d y f b m i v q : ℕ} {k : Kind} {u : SourceValue} (h : H p (place P n))
      → Stands P n (Call e c) → Stands P m (Arg e i v)
      → binder P e ≡ Some d → Stands P d (Def y f k b) → slice_get (params_at (rows P) f) i ≡ Some q
      → CarriedHas S number run p (place P v) u → Holds S (Has p (place P v) u)
      → CarriedHas S number run (below p (place P n) 0) (place P q) u
  argument_carried {p} {n} {e} {m = m} {i = i} {v = v} {q = q} {u = u} h x arg bound def param has holds =
      let w = calling h x in
      let a = h.activation in
      let z = enter_at known x.within x.node in
      let t = param_of P e i in
      let y = arg_at known arg.within arg.node in
      let goes = known.passed m e i v arg.within arg.node in
      let head = called_is known z.within z.node bound def in
      let to : t ≡ q = some_is (sym goes.0 ∙ ap (λ k. slice_get (params_at (rows P) k) i) head ∙ param) in
      let said = said_at S g number numbered known inputs count only s run r quiet h v y.within y.expression has in
      let value_in = came S g number numbered known count only s run r quiet a (origin P v) m 0 One has.value said
      (fed_as P known (origin P v) m 0 One (Arg e i v) arg.within arg.node (inr (inl refl))) in
      let speaks : Speaks S number run a (output e) (value.Context w.context) =
      record { fired = Entered w.context; fires = w.opens; gives = (refl, refl) } in
      let context_in =
      came S g number numbered known count only s run r quiet a (output e) m 0 Zero (value.Context w.context) speaks
      (fed_as P known (output e) m 0 Zero (Arg e i v) arg.within arg.node (inl refl)) in
      let fired_so =
      both_formed S g number numbered known count only s run r quiet a m 0 (SendTo (port_at P t) t 0)
      (value.Context w.context)
      has.value arg.within (passes arg.node) refl context_in value_in in
      let of_value = port_taking S known inputs v p u y.within (expression_thing (node P v) y.expression) holds in
      let kind_is : Takes P u (port_at P t) =
      subst (Takes P u) (ap (λ o. port_of (unwrap_or o sort.Int)) goes.1) of_value in
      let into = tag_in (at_iteration w.context 0) (number t 0) in
      let out = sent_handled S g number numbered known count only s run r quiet
      (subst (λ k. FiresAs run (tag_in a (number m 0)) k) (sent_in known has.stands (port_at P t) into kind_is)
      fired_so.fires) (Token into Zero has.value)
      (inl refl) in
      let row =
      a_param (rows P) (called P e) (length (rows P)) t (Among-from_at t (params_at (rows P) (called P e)) i goes.0) in
      let live = subst (Live S number run (at_iteration w.context 0))
      (sym (known.params t (row.param).name (row.param).kind row.within (row.param).is ∙ ap top row.block)) w.live in
      let stands : Stands P t (Param (row.param).name (row.param).kind) =
      record { within = row.within; node = (row.param).is } in
      subst (λ k. CarriedHas S number run (below p (place P n) 0) (place P k) u) to
      (own_has S g number numbered known inputs count only s run r quiet t (Param (row.param).name (row.param).kind)
      has.stands
      (at_iteration w.context 0) w.path_of stands refl refl refl live
      (enters (row.param).is) kind_is out)

  -- what the body has spoken came back to the call's merge
  pub call_carried : {p : Path} {n e c d y f b : ℕ} {k : Kind} {u : SourceValue} (h : H p (place P n))
      → Stands P n (Call e c) → binder P e ≡ Some d → Stands P d (Def y f k b)
      → CarriedHas S number run (below p (place P n) 0) (place P b) u
      → Holds S (Has (below p (place P n) 0) (place P b) u) → Holds S (Has p (place P n) u)
      → CarriedHas S number run p (place P n) u
  call_carried {p} {n} {e} {c} {d} {y} {f} {b} {k} {u} h x bound def has body_has holds =
      let w = calling h x in
      let a = h.activation in
      let z = enter_at known x.within x.node in
      let i = called P e in
      let hd = called_head known z.within z.node in
      let head : i ≡ f = called_is known z.within z.node bound def in
      let here : IsDefOf (rows P) d i = subst (λ q. IsDefOf (rows P) d q) (sym head) (as_def def) in
      let end : end_of P i ≡ d = (known.table).one_def (end_of P i) d i (ends.end_is P known.table i hd.0 hd.1) here in
      let body_is : built.body_of (node P (end_of P i)) ≡ b =
      ap (λ q. built.body_of (node P q)) end ∙ ap built.body_of def.node in
      let inner = callee_at w z.within z.node bound def in
      let row = body_row def in
      let said = said_at S g number numbered known inputs count only s run r quiet inner b row.0 row.1 has in
      let t = at_iteration w.context 0 in
      let from = origin P (built.body_of (node P (end_of P i))) in
      let result = came S g number numbered known count only s run r quiet t from i 1 One has.value
      (subst (λ q. Speaks S number run t (origin P q) has.value) (sym body_is) said)
      (fed_as P known from i 1 One Head hd.0 hd.1 (inl refl)) in
      let way_back = second_came S g number numbered known count only s run r quiet z.within (of_call z.node) w.opens in
      let reply = tag_in a (number (end_of P e) 0) in
      let back = port_of (built.result_of (node P (end_of P i))) in
      let fired_so =
      both_fired S g number numbered known count only s run r quiet t i 1 (op.Back back) (value.Continuation reply)
      has.value hd.0
      (returns hd.1) refl way_back result in
      let of_body =
      port_taking S known inputs b (below p (place P n) 0) u row.0 (expression_thing (node P b) row.1) body_has in
      let result_is : back ≡ port_at P b =
      ap (λ q. port_of (built.result_of (node P q))) end ∙ ap (λ q. port_of (built.result_of q)) def.node
      ∙ ap (λ o. port_of (unwrap_or o sort.Int)) (sym (known.result_kind d f (as_def def))) in
      let back_is = subst (Takes P u) (sym result_is) of_body in
      let out = sent_handled S g number numbered known count only s run r quiet
      (subst (λ q. FiresAs run (tag_in t (number i 1)) q) (sent_in known has.stands back reply back_is) fired_so.fires)
      (Token reply Zero has.value) (inl refl) in
      let there = subst (λ q. Among (Token (tag_in a (number q 0)) Zero has.value) (handled run)) z.ends out in
      let merge_so =
      alone_fired S g number numbered known count only s run r quiet a n 0 (op.Merge (port_at P n)) Zero has.value
      x.within
      (gets x.node) refl there in
      let kind_is = port_taking S known inputs n p u x.within (ap is_thing x.node) holds in
      let spoken_so =
      spoken S g number numbered known count only s run r quiet a n 0 (op.Merge (port_at P n)) (Alone has.value)
      has.value merge_so
      (λ q. merged known has.stands (port_at P n) kind_is) in
      has_spoken S g number numbered known inputs count only s run r quiet h x refl refl has.stands
      (subst (λ q. Speaks S number run a q has.value)
      (sym (own_origin P known n (Call e c) x.within x.node refl refl (λ q. refl))) spoken_so)

  -- ---- loops

  -- a variable is at home where its label stands
  next_home : (m : ℕ) {y k o v : ℕ} → node P m ≡ Next y k o v → home_of P m ≡ label P m
  next_home m is = ap (home_by (block P m) m) is ∙ sym (ap (label_by (block P m) m) is)

  -- the context in which an On loop runs, which its `Start` has made
  pub record Starting (p : Path) (n h : ℕ) (a : Activation) : Type 0 where
    pub start : ℕ
    pub head : start + 1 ≡ h
    pub within : start < length (rows P)
    pub begins : node P start ≡ Start
    pub of_block : block P start ≡ block P n
    pub outside : Live S number run a (region P start)
    pub context : Context
    pub opens : Opens S number run a start context
    pub path_of : (j : ℕ) → PathOf S number run (at_iteration context j) (below p (place P n) j)
    pub live : Live S number run (at_iteration context 0) (top h)

  pub starting : {p : Path} {n h w l : ℕ} (u : H p (place P n)) → Stands P n (Loop h w l) → Starting p n h u.activation
  starting {p} {n} {h} {w} {l} u x =
      let z = (loop_is known x).loop in
      let all = (known.table).loop_is n h (record { switches = w; last = l; within = x.within; node = x.node }) in
      let a = u.activation in
      let i = all.start in
      let beside = (all.start_of).beside in
      let begins = (all.start_of).node in
      let less : i < length (rows P) = omega (arith, all.begins, z.within) in
      let live = subst (Live S number run a) (sym beside.region)
      (live_at S g number numbered known inputs count only s run r quiet u x refl refl) in
      let signal =
      came S g number numbered known count only s run r quiet a (trigger_of (region P i)) i 0 Zero value.Signal
      (live_turned S g number numbered known count only s run r quiet live)
      (fed_as P known (trigger_of (region P i)) i 0 Zero Start less begins (inl refl)) in
      let fired_so =
      alone_formed S g number numbered known count only s run r quiet a i 0 (EnterAt (i + 1) (end_of P (i + 1))) Zero
      value.Signal less
      (opens (of_loop begins)) refl signal in
      let c = (fired_so.fresh).context in
      record {
        start = i;
        head = all.begins;
        within = less;
        begins = begins;
        of_block = beside.block;
        outside = live;
        context = c;
        opens = fired_so.fires;
        path_of = λ j. subst (λ q. PathOf S number run (at_iteration c j) (below p q j)) beside.place
            (entered_path j less (of_loop begins) fired_so.fires u.path_of);
        live = subst (λ g. Live S number run (at_iteration c 0) (top g)) all.begins
            (entered less (of_loop begins) live fired_so.fires);
      }

  -- the predicate of a loop is carried where the loop's region is live
  pub loop_test_here : {n h w t l : ℕ} {q : Path} (x : LoopStands P n h w t l) (a : Activation)
      → PathOf S number run a q → Live S number run a (region P w)
      → H q (place P t)
  loop_test_here {w = w} {t = t} x a path live =
      let k = test_at known (x.switches).within (of_turns (x.switches).node) in
      thing_here S g number numbered known inputs count only s run r quiet a path t k.within (k.expression x.predicate)
      (subst (Live S number run a) (sym k.region) live)

  -- the variable's row takes in what comes to it
  variable_does : {m x k o v : ℕ} (within : m < length (rows P)) (is : node P m ≡ Next x k o v)
      → Does P (label P m) 0 (Plain (op.Merge (port_at P m)))
  variable_does {m} within is =
      let z = variable_of known within is in
      subst (λ i. Does P (label P m) 0 (Plain (op.Merge (port_at P i)))) z.next (varies z.is)

  -- what the binder of a first value has spoken came to the variable
  pub first_carried : {n h w l m o v c : ℕ} {p : Path} {u : SourceValue} (d : H p (place P n))
      → (x : Stands P n (Loop h w l)) → (y : NextStands P m h o v)
      → binder P o ≡ Some c → CarriedHas S number run (without (between S n c) p) (place P c) u
      → Holds S (Has (without (between S n c) p) (place P c) u)
      → Holds S (Has (below p (place P n) 0) (place P m) u)
      → CarriedHas S number run (below p (place P n) 0) (place P m) u
  first_carried {n} {h} {w} {l} {m} {o} {v} {c} {p} {u} d x y bound has has_holds holds =
      let z = starting d x in
      let a = d.activation in
      let i = z.start in
      let less = (y.next).within in
      let is = (y.next).node in
      let k = y.index in
      let var = variable_of known less is in
      let number_of = next_numbered known less is in
      let head : block P m ≡ i + 1 = y.block ∙ sym z.head in
      let slot = number_of.slot in
      let few : slot < length (nexts_of P (i + 1)) = subst (λ g. slot < length (nexts_of P g)) head number_of.less in
      let there : get_or (nexts_of P (i + 1)) slot 0 ≡ m =
      ap (λ g. get_or (nexts_of P g) slot 0) (sym head) ∙ number_of.there in
      let long = entering_long P (i + 1) in
      let inside : slot < length (entering P (i + 1)) = omega (arith, few, long) in
      let same : first_binder P m ≡ c = some_is (sym (known.first_bound m y.name k o v less is) ∙ bound) in
      let name : get_or (entering P (i + 1)) slot 0 ≡ c =
      first_entering P (i + 1) slot few ∙ ap (first_binder P) there ∙ same in
      let seen =
      known.loop_names i z.within z.begins (get_or (entering P (i + 1)) slot 0)
      (listed (entering P (i + 1)) slot inside) in
      let c_within = subst (λ b. b < length (rows P)) name seen.0 in
      let c_binds = subst (λ b. is_binder (node P b) ≡ true) name seen.1 in
      let c_sees = subst (λ b. Sees P b (region P i)) name seen.2 in
      let q : Home S g number numbered known count only s run r quiet a (region P i) c =
      home S g number numbered known count only s run r quiet c c_within c_binds z.outside c_sees in
      let near : block P (region P i).head ≡ block P n =
      (region_of known z.within (λ e. let bad : Start ≡ Program = sym z.begins ∙ e in cc)).block ∙ z.of_block in
      let deep = same_depth P (region P i).head n c near in
      let row_is =
      here_is S g number numbered known inputs count only s run r quiet has.here (record {
        within = c_within;
        node =
            refl;
      })
      (binder_thing (node P c) c_binds) in
      let one =
      one_activation S g number numbered known count only s run r quiet (has.here).live q.live (has.here).path_of
      (subst (λ j. PathOf S number run q.activation (without j p)) deep (q.path p d.path_of)) in
      let said : Speaks S number run q.activation (output (label P c)) has.value =
      subst (λ (e : Activation × Origin). Speaks S number run e.0 e.1 has.value) {x =
      ((has.here).activation, speaker P (has.here).row)}
      {y = (q.activation, output (label P c))}
      (λ j. (one j, (ap (speaker P) row_is ∙ binder_speaks P known c (node P c) refl c_binds) j)) has.spoken in
      let fits =
      value_fits known has.stands (port_at P c)
      (port_taking S known inputs c _ u c_within (binder_thing (node P c) c_binds) has_holds) in
      let comes =
      subst (λ b. Speaks S number run a (name_in P (region P i) b) has.value) (sym name)
      (q.comes has.value fits said) in
      let kind_is = port_taking S known inputs m _ u less (ap is_thing is) holds in
      let index : k ≡ carries_on P (i + 1) + slot = number_of.is ∙ ap (λ g. carries_on P g + slot) head in
      let row : first_variable P (i + 1) + slot ≡ label P m = omega (arith, var.row, head, index) in
      let entry : slice_get (loop_entries P (i + 1)) (carries_on P (i + 1) + slot) ≡ Some (entry_of m (label P m) 0) =
      first_entry P (i + 1) slot few ∙ (λ j. Some (entry_of (there j) (row j) 0)) in
      let came_in =
      entered_in S g number numbered known count only s run r quiet a i slot z.context (entry_of m (label P m) 0)
      has.value z.within z.begins z.opens inside entry
      (value_fits known has.stands (port_at P m) kind_is) comes in
      let live =
      subst (Live S number run (at_iteration z.context 0))
      (sym (ap (region P) (next_home m is) ∙ var.right ∙ ap top y.block)) z.live in
      label_has S g number numbered known inputs count only s run r quiet m (Next y.name k o v) has.stands
      (at_iteration z.context 0) (z.path_of 0) y.next refl live (variable_does less is) kind_is came_in

  -- an iteration of the loop at the row n, with a live region of it
  pub record Iteration (p : Path) (n k : ℕ) (a : Activation) (q : Region) : Type 0 where
    pub context : Context
    pub is : a ≡ at_iteration context k
    pub live : Live S number run (at_iteration context k) q
    pub path_of : (j : ℕ) → PathOf S number run (at_iteration context j) (below p (place P n) j)

  pub iteration : {p : Path} {n k : ℕ} {a : Activation} {q : Region} → PathOf S number run a (below p (place P n) k)
      → Live S number run a q → Iteration p n k a q
  iteration {p} {n} {k} {a} {q} path live = by path.seat path.of_context path.is
    where
      by : (u : Seat) → SeatOf S number run a.context u → below p (place P n) k ≡ path_at u a.iteration
          → Iteration p n k a q
      by Outermost seat is =
          let long : length (below p (place P n) k).steps ≡ 0 = ap (λ (z : Path). length z.steps) is in
          absurd (omega (arith, long, length_snoc p.steps (record { place = place P n; number = k })))
      by (Below p' e) seat is =
          let parts = below_is p p' (place P n) e k a.iteration is in
          let same : a ≡ at_iteration a.context k = λ i. record { context = a.context; iteration = sym parts.2 i } in
          record {
            context = a.context;
            is = same;
            live = subst (λ z. Live S number run z q) same live;
            path_of = λ j. record { seat = Below p' e; of_context = seat; is = λ i. below (parts.0 i) (parts.1 i) j };
          }

  -- the loop was found to go on in an iteration, or not
  pub record Tested (p : Path) (n k w : ℕ) (b : Truth) : Type 0 where
    pub context : Context
    pub live : Live S number run (at_iteration context k) (region P w)
    pub chosen : Chosen S number run (at_iteration context k) w b
    pub goes : GoesAt S number run (at_iteration context k) w b
    pub path_of : (j : ℕ) → PathOf S number run (at_iteration context j) (below p (place P n) j)

  -- by its predicate
  pub by_test_tested : {n h w t l : ℕ} (p : Path) (k : ℕ) (b : Truth) → LoopStands P n h w t l
      → CarriedHas S number run (below p (place P n) k) (place P t) (source.Bool b)
      → Holds S (Has (below p (place P n) k) (place P t) (source.Bool b)) → Tested p n k w b
  by_test_tested {n} {h} {w} {t} p k b x has holds =
      let tests = of_turns (x.switches).node in
      let e = test_at known (x.switches).within tests in
      let expression = e.expression x.predicate in
      let live = subst (Live S number run (has.here).activation) e.region
      (live_at S g number numbered known inputs count only s run r quiet has.here (record {
        within = e.within;
        node =
            refl;
      })
      (expression_thing (node P t) expression) (expression_plain (node P t) expression)) in
      let it = iteration (has.here).path_of live in
      let said =
      subst (Speaks S number run (has.here).activation (origin P t)) (stands_constant (constants.Bool b) has.stands)
      (said_at S g number numbered known inputs count only s run r quiet has.here t e.within expression has) in
      record {
        context = it.context;
        live = it.live;
        chosen = has_said tests (subst (λ a. Speaks S number run a (origin P t) (value.Bool b)) it.is said);
        goes = record { path = below p (place P n) k; path_of = it.path_of k; goes = by_test tests x.predicate holds };
        path_of = it.path_of;
      }

  -- a side of the loop's switches is live where it was chosen
  pub side_live : {n h w l : ℕ} {p : Path} {k : ℕ} {b : Truth} → Stands P n (Loop h w l) → (z : Tested p n k w b)
      → Live S number run (at_iteration z.context k) (arm_at w b)
  side_live x z = let l = loop_is known x in on_side l.within (of_turns l.is) z.live z.chosen z.goes

  -- what stands in it is carried
  pub side_here : {n h w l : ℕ} {p : Path} {k : ℕ} {b : Truth} (e : ℕ) → Stands P n (Loop h w l) → Tested p n k w b
      → e < length (rows P) → is_expression (node P e) ≡ true
      → region P e ≡ arm_at w b → H (below p (place P n) k) (place P e)
  side_here {k = k} e x z within expression right =
      thing_here S g number numbered known inputs count only s run r quiet (at_iteration z.context k) (z.path_of k) e
      within expression
      (subst (Live S number run (at_iteration z.context k)) (sym right) (side_live x z))

  -- a `next` statement stands in the body of its loop, and so does its expression
  next_region : {n h w l m o v : ℕ} → Stands P n (Loop h w l) → (y : NextStands P m h o v) → region P m ≡ arm_at w true
  next_region {n} {h} {w} {m = m} x y =
      let l = loop_is known x in
      let right : (z : LoopOf P h) → region P m ≡ arm_at (z.the).switches true =
      subst (λ j. (z : LoopOf P j)
      → region P m ≡ arm_at (z.the).switches true) y.block
      (λ z. (next_at known (y.next).within (y.next).node z).region) in
      right l.loop ∙ ap (λ j. arm_at j true) l.switches

  pub next_value : {n h w l m o v : ℕ} → Stands P n (Loop h w l) → (y : NextStands P m h o v)
      → region P v ≡ arm_at w true
  next_value {m = m} {v = v} x y =
      ((known.table).part_stands m v (y.next).within (subst (λ z. HasNear z v) (sym (y.next).node) (inr refl))).1
      ∙ next_region x y

  pub next_operand : {m h o v : ℕ} (y : NextStands P m h o v) → HasOperand (node P m) v
  next_operand {v = v} y = subst (λ z. HasOperand z v) (sym (y.next).node) refl

  -- what a `next` expression has spoken came to the variable in the next iteration
  pub next_carried : {n h w l m o v : ℕ} {u : SourceValue} (p : Path) (k : ℕ) (x : Stands P n (Loop h w l))
      (y : NextStands P m h o v) → CarriedHas S number run (below p (place P n) k) (place P v) u
      → Holds S (Has (below p (place P n) (suc k)) (place P m) u)
      → CarriedHas S number run (below p (place P n) (suc k)) (place P m) u
  next_carried {n} {h} {w} {l} {m} {o} {v} {u} p k x y has holds =
      let z = loop_is known x in
      let less = (y.next).within in
      let is = (y.next).node in
      let inner = operand_of S known inputs m v less (next_operand y) in
      let expression = known.operands m v less (next_operand y) in
      let at_v =
      live_at S g number numbered known inputs count only s run r quiet has.here (record {
        within = inner.0;
        node =
            refl;
      }) inner.1
      (expression_plain (node P v) expression) in
      let it = iteration (has.here).path_of (subst (Live S number run (has.here).activation) (next_value x y) at_v) in
      let a = at_iteration it.context k in
      let said = subst (λ b. Speaks S number run b (origin P v) has.value) it.is
      (said_at S g number numbered known inputs count only s run r quiet has.here v inner.0 expression has) in
      let to = came S g number numbered known count only s run r quiet a (origin P v) m 0 Zero has.value said
      (fed_as P known (origin P v) m 0 Zero (Next y.name y.index o v) less is (inl refl)) in
      let kind_is = port_taking S known inputs m _ u less (ap is_thing is) holds in
      let fired_so =
      alone_fired S g number numbered known count only s run r quiet a m 0 (op.Next (port_at P m)) Zero has.value less
      (advances is) refl to in
      let moves = next_moves S g number numbered known count only s run r quiet a m 0 (port_at P m) has.value fired_so
      (value_fits known has.stands (port_at P m) kind_is) in
      let var = variable_of known less is in
      let fed : Feeds P (output m) (label P m) 0 Zero =
      subst (λ j. Feeds P (output j) (label P m) 0 Zero) var.next
      (fed_as P known (output (next_of P (label P m))) (label P m) 0 Zero Variable var.within var.is (inl refl)) in
      let came_in =
      moved_came S g number numbered known count only s run r quiet a (output m) (suc k) (label P m) 0 Zero has.value
      moves fed in
      let live =
      subst (Live S number run (at_iteration it.context (suc k))) (z.right
      ∙ sym (ap (region P) (next_home m is) ∙ var.right ∙ ap top y.block))
      (live_again known z.within z.is it.live) in
      label_has S g number numbered known inputs count only s run r quiet m (Next y.name y.index o v) has.stands
      (at_iteration it.context (suc k))
      (it.path_of (suc k)) y.next refl live
      (variable_does less is) kind_is came_in

  -- the last expression of a loop stands on the other side
  pub last_at : {n h w l : ℕ} → Stands P n (Loop h w l) → region P l ≡ arm_at w false
  last_at {h = h} x =
      let z = loop_is known x in
      ap (region P) (sym z.last) ∙ last_region P known h z.loop ∙ ap (λ j. arm_at j false) z.switches

  pub last_operand : {n h w l : ℕ} (x : Stands P n (Loop h w l)) → HasOperand (node P n) l
  last_operand {l = l} x = subst (λ z. HasOperand z l) (sym x.node) refl

  -- what the last expression has spoken came back to the loop's merge
  pub loop_carried : {n h w l : ℕ} {u : SourceValue} (p : Path) (k : ℕ) (x : Stands P n (Loop h w l))
      → CarriedHas S number run (below p (place P n) k) (place P l) u
      → Holds S (Has (below p (place P n) k) (place P l) u) → Holds S (Has p (place P n) u)
      → CarriedHas S number run p (place P n) u
  loop_carried {n} {h} {w} {l} {u} p k x has has_holds holds =
      let z = loop_is known x in
      let inner = operand_of S known inputs n l x.within (last_operand x) in
      let expression = known.operands n l x.within (last_operand x) in
      let at_l =
      live_at S g number numbered known inputs count only s run r quiet has.here (record {
        within = inner.0;
        node =
            refl;
      }) inner.1
      (expression_plain (node P l) expression) in
      let it = iteration (has.here).path_of (subst (Live S number run (has.here).activation) (last_at x) at_l) in
      let c = it.context in
      let a = at_iteration c k in
      let first = at_iteration c 0 in
      let said = subst (λ b. Speaks S number run b (origin P l) has.value) it.is
      (said_at S g number numbered known inputs count only s run r quiet has.here l inner.0 expression has) in
      let of_last = port_taking S known inputs l _ u inner.0 inner.1 has_holds in
      let e = end_of P h - 2 in
      let e_within = reset_within P known h z.loop in
      let e_node : node P e ≡ Reset l = reset_node P known h z.loop ∙ ap (λ j. Reset j) z.last in
      let to = came S g number numbered known count only s run r quiet a (origin P l) e 0 Zero has.value said
      (fed_as P known (origin P l) e 0 Zero (Reset l) e_within e_node (inl refl)) in
      let reset_so =
      alone_fired S g number numbered known count only s run r quiet a e 0 (op.Reset (port_at P l)) Zero has.value
      e_within
      (resets e_node) refl to in
      let moves = reset_moves S g number numbered known count only s run r quiet a e 0 (port_at P l) has.value reset_so
      (value_fits known has.stands (port_at P l) of_last) in
      let head = (z.loop).head in
      let h_within = (z.loop).within in
      let result = moved_came S g number numbered known count only s run r quiet a (output e) 0 h 1 One has.value moves
      (fed_as P known (output e) h 1 One (LoopHead (h - 1)) h_within head (inr (inl refl))) in
      let live = (arm_live known it.live refl (of_turns z.is)).live in
      let h_block : block P h ≡ h = (known.table).head_block h h_within (ap begins_block head) in
      let in_h : Live S number run a (top h) = subst (Live S number run a) z.right live in
      let outer : InLoop S known number run a h = subst (InLoop S known number run a) h_block
      (live_loop S known number run in_h (ap (node P) h_block ∙ head)) in
      let b = outer.outer in
      let reply = tag_in b (number n 0) in
      let back =
      second_came S g number numbered known count only s run r quiet outer.within (of_loop outer.node) outer.opens in
      let way_back : Among (Token (tag_in first (number h 1)) Zero (value.Continuation reply)) (handled run) =
      subst (λ (j : ℕ
      × ℕ). Among (Token (tag_in first (number j.0 1)) Zero (value.Continuation (tag_in b (number j.1 0))))
      (handled run))
      {x = (outer.start + 1, end_of P (outer.start + 1))} {y = (h, n)}
      (λ i. (outer.head i, (ap (end_of P) outer.head ∙ sym z.row) i)) back in
      let kind_is = port_taking S known inputs n p u x.within (ap is_thing x.node) holds in
      let port : Takes P u (port_at P (end_of P h)) = subst (Takes P u) (ap (port_at P) z.row) kind_is in
      let back_so =
      both_fired S g number numbered known count only s run r quiet first h 1 (op.Back (port_at P (end_of P h)))
      (value.Continuation reply)
      has.value h_within (gives_back head) refl way_back result in
      let out = sent_handled S g number numbered known count only s run r quiet
      (subst (λ f. FiresAs run (tag_in first (number h 1)) f)
      (sent_in known has.stands (port_at P (end_of P h)) reply port) back_so.fires)
      (Token reply Zero has.value) (inl refl) in
      let merge_so =
      alone_fired S g number numbered known count only s run r quiet b n 0 (op.Merge (port_at P n)) Zero has.value
      x.within
      (gets_last x.node) refl out in
      let spoken_so =
      spoken S g number numbered known count only s run r quiet b n 0 (op.Merge (port_at P n)) (Alone has.value)
      has.value merge_so (λ f. merged known has.stands (port_at P n) kind_is) in
      let up = loop_path S known number run
      (one_seats S known number run g numbered (contexts_apart g S.inputs count s run r)) z.loop outer (it.path_of k) in
      let parts = below_is p up.path (place P n) (place P (end_of P h)) k k up.is in
      let out_path : PathOf S number run b p = subst (PathOf S number run b) (sym parts.0) up.path_of in
      let at_start : outer.start ≡ h - 1 = omega (arith, outer.head) in
      let right : region P outer.start ≡ region P n =
      ap (region P) at_start ∙ start_region P known h z.loop ∙ ap (region P) (sym z.row) in
      let on = thing_here S g number numbered known inputs count only s run r quiet b out_path n x.within
      (ap is_expression x.node)
      (subst (Live S number run b) right outer.live) in
      has_spoken S g number numbered known inputs count only s run r quiet on x refl refl has.stands
      (subst (λ j. Speaks S number run b j has.value)
      (sym (own_origin P known n (Loop h w l) x.within x.node refl refl (λ j. refl))) spoken_so)
