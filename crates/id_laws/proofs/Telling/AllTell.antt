-- Every message of a run of a schemas' graph tells what its port wants, and so does every firing.
use Rattle.std.proofs.Common.{◌≡◌, ◌⊎◌, inl, inr, length, arith, ℕ, ◌+◌, ◌<◌, Bool as Truth, true, Some, List}
use Rattle.std.proofs.Common.{slice_get, refl, sym, ◌∙◌, ap, subst}
use Rattle.std.specs.Prelude.{option_map}
use Rattle.id_value.specs.List.{Among}
use Rattle.id_value.proofs.AmongLemmas.{Among-from_at}
use Rattle.id_table.specs.declared.row.Node.TheVariants.{Head, Param, Enter, Call, Program}
use Rattle.id_table.specs.Rows.{at, top}
use Rattle.id_table.specs.Tables.{HasPart, is_expression}
use Rattle.id_table.specs.Turns.{IsDefOf, params_at}
use Rattle.id_check.specs.declared.checked.Checked.{Checked}
use Rattle.id_check.specs.Programs.{Stands, place, region, rows}
use Rattle.id_instr.specs.declared.dests.Dest.{Dest}
use Rattle.id_instr.specs.declared.dests.Port.{Port}
use Rattle.id_instr.specs.declared.dests.Port.TheVariants.{Zero, One}
use Rattle.id_instr.specs.declared.instr.Instr.{Instr}
use Rattle.id_instr.specs.declared.instr.Op.TheVariants as op
use Rattle.id_instr.specs.Graph.{Parts}
use Rattle.id_tag.specs.declared.Context.{Context}
use Rattle.id_tag.specs.declared.Tag.{Tag}
use Rattle.id_tag.specs.declared.Value.{Value}
use Rattle.id_tag.specs.declared.Value.TheVariants as value
use Rattle.id_tag.specs.declared.Payload.{Payload}
use Rattle.id_tag.specs.declared.Payload.TheVariants.{Token}
use Rattle.id_ops.specs.declared.Operands.{Operands}
use Rattle.id_ops.specs.declared.Fresh.{Fresh}
use Rattle.id_ops.specs.declared.Fired.{Fired}
use Rattle.id_ops.specs.declared.Fired.TheVariants.{Out, Side, Entered, Sent, Moved, Asked, Stored, Failed, Nothing}
use Rattle.id_ops.specs.Operators.{fired, tag_within}
use Rattle.id_valid.specs.Roles.{op_at}
use Rattle.id_record.specs.Sends.{beside, moved_to}
use Rattle.id_record.specs.Records.{dests_at, sent_by}
use Rattle.id_core.specs.Steps.{token_to}
use Rattle.id_core.specs.Machines.{World}
use Rattle.id_source.specs.declared.Path.{Path}
use Rattle.id_source.specs.declared.Fact.TheVariants.{Has}
use Rattle.id_source.specs.Sources.{Source}
use Rattle.id_source.specs.Facts.{below, without, argument_has, call_has, fetch_has, put as put_fact, site}
use Rattle.id_source.specs.Rounds.{Holds}
use Rattle.id_desugar.specs.Ends.{end_of}
use Rattle.id_build.specs.declared.arc.Form.{Form}
use Rattle.id_build.specs.declared.arc.Origin.{Origin}
use Rattle.id_build.specs.Rows.{answer_row, called, node, op_by, param_of}
use Rattle.id_build.specs.Schemas.{Numbered}
use Rattle.id_runs.specs.Activations.{Activation, main_activation, at_iteration, activation_of, tag_in}
use Rattle.id_runs.specs.Events.{Event, FiresAs, GivesOn}
use Rattle.id_runs.specs.Runs.{Reach, handled, starting}
use Rattle.id_runs.proofs.Givings.{SentAs, along as along_arc, moving, to_tag, sent_as, to_start, reading, writing}
use Rattle.id_runs.proofs.Messages.{SentFrom, by_firing, by_answer, sent_from}
use Rattle.id_runs.specs.Serials.{StructuresApart}
use Rattle.id_laws.proofs.Paths.Names.{one_name, replied}
use Rattle.id_tag.specs.declared.Cell.{Cell}
use Rattle.id_runs.proofs.Waiting.{HasFired, has_fired, OperandsHandled, one_handled, two_handled}
use Rattle.id_runs.proofs.EveryMessage.{Passes, every_message}
use Rattle.id_laws.specs.Activations.{Begins, of_call, of_loop, Opens, PathOf, Speaks, Live, entered, ReturnsTo}
use Rattle.id_laws.specs.Activations.{to_answer, to_row}
use Rattle.id_laws.specs.Topics.{ToldRead, ToldWrite}
use Rattle.id_laws.specs.Topics.{IsPart, Shown, ShownContext, Tells, Told, AllTell, AllSpeak, ContextOf, speaks_of}
use Rattle.id_laws.specs.Topics.{topic_of, topic_at, wants, result_at, result_of}
use Rattle.id_laws.proofs.Rows.Assumed.{IsKnown}
use Rattle.id_laws.proofs.Telling.LoopTells.{given_tells, looped_tells}
use Rattle.id_laws.proofs.Paths.Begun.{begun_at}
use Rattle.id_laws.proofs.Paths.Sendings.{head_parts, wants_back, wants_signal}
use Rattle.id_laws.proofs.Rows.Regions.{own_depth}
use Rattle.id_laws.proofs.Rows.Arcs.{Does, answers, enters, gets, gets_reply, opens, doing, makes, part_of, target_part}
use Rattle.id_laws.proofs.Rows.Blocks.{a_param, all_listed}
use Rattle.id_laws.proofs.Rows.Calls.{arg_at, call_at, callee_stands}
use Rattle.id_laws.proofs.Paths.Sent.{sends_there}
use Rattle.id_build.proofs.EndsLemmas.{end_is}
use Rattle.id_laws.proofs.Rows.Tokens.{one_part, told_at}
use Rattle.id_laws.proofs.Paths.Seats.{OneSeat, one_path, entered_path, live_path}
use Rattle.id_laws.proofs.Rows.Sources.{feeds_source, is_mover}
use Rattle.id_laws.proofs.Paths.Movers.{moved_by}
use Rattle.id_laws.proofs.Telling.Feeding.{feeds_tell, moves_tell}
use Rattle.id_laws.proofs.Telling.TurnedOn.{holds_by, turned_on, without_none}
use Rattle.id_laws.proofs.Telling.Firing.{firing_means}
use Rattle.id_laws.proofs.Telling.FiringMeans.{IsBacked, Returned, Passed, Given, Entering, Means, OperandsTell, one}
use Rattle.id_laws.proofs.Telling.FiringMeans.{two}
use Rattle.id_laws.proofs.Paths.Started.{Starts, first, second, starts_as}

-- ---- the part that a firing is of

-- the instruction at the tag is a part of a row, whose operator fires
pub record FiredPart (P : Checked) (g : Parts) (number : ℕ → ℕ
    → ℕ) (t : Tag) (f : Fired) (ops : Operands) : Type 0 where
  pub row : ℕ
  pub part : ℕ
  pub form : Form
  pub fresh : Fresh
  pub does : Does P row part form
  pub is_part : IsPart P row part
  pub at : tag_in (activation_of t) (number row part) ≡ t
  pub is : f ≡ fired (op_by number form) t ops fresh

one_instr : {i j : Instr} → Some i ≡ Some j → i ≡ j
one_instr e = cc

pub fired_part : {P : Checked} {g : Parts} {number : ℕ → ℕ
    → ℕ} {run : List Event} {t : Tag} {f : Fired} {ops : Operands} → Numbered P g number
    → HasFired g run t f ops → FiredPart P g number t f ops
fired_part {P} {g} {number} {run} {t} {f} {ops} numbered h =
    let n = numbered.only t.instr h.instr h.at in
    let d = doing n.makes in
    let m = numbered.made n.row n.part n.form n.place n.makes in
    let same : h.instr ≡ m.instr = one_instr (sym h.at ∙ ap (slice_get g.instrs) (sym n.is) ∙ m.at) in
    let op_is : (h.instr).op ≡ op_by number n.form = ap (λ (i : Instr). i.op) same ∙ m.op in
    record {
      row = n.row;
      part = n.part;
      form = n.form;
      fresh = h.fresh;
      does = d.does;
      is_part = record { form = n.form; place = n.place; makes = n.makes };
      at = ap (tag_in (activation_of t)) n.is;
      is = h.is ∙ ap (λ o. fired o t ops h.fresh) op_is;
    }

module _ (S : Source) (known : IsKnown S.checked) (g : Parts) (number : ℕ → ℕ
    → ℕ) (numbered : Numbered S.checked g number) (run : List Event)
    (seats : OneSeat S number run) (structures : StructuresApart g run) (backed : IsBacked S run) where
  abbrev P : Checked
  P = S.checked

  abbrev T : Payload → Type 0
  T x = Told S number run x

  -- a message that tells, at the part
  tells_at : (t : Tag) (row part : ℕ) (p : Port) (v : Value) → IsPart P row part
      → tag_in (activation_of t) (number row part) ≡ t → T (Token t p v)
      → Tells S number run (activation_of t) (topic_at P row part p) v
  tells_at t row part p v is_part at x =
      told_at S g number run numbered (activation_of t) row part p v is_part (subst (λ u. T (Token u p v)) (sym at) x)

  operands_tell : (hs : List Event) → ((x : Payload) → Among x (handled hs) → T x)
      → (t : Tag) (two_of : Truth) (ops : Operands) (row part : ℕ)
      → IsPart P row part → tag_in (activation_of t) (number row part) ≡ t
      → OperandsHandled hs t two_of ops → OperandsTell S number run (activation_of t) row part ops
  operands_tell hs all t b ops row part is_part at (one_handled p v is few h) =
      one p v is (tells_at t row part p v is_part at (all _ h))
  operands_tell hs all t b ops row part is_part at (two_handled v w is few h k) =
      two v w is (tells_at t row part Zero v is_part at (all _ h))
      (tells_at t row part One w is_part at (all _ k))

  -- what a firing means, where all that was handled tells
  pub firing_tells : {count : ℕ} {s : World} (hs : List Event) → Reach g S.inputs count s hs
      → ((x : Payload) → Among x (handled hs) → T x) → {t : Tag} {f : Fired} (x : FiresAs hs t f)
      → (y : FiredPart P g number t f x.operands) × Means S number run (activation_of t) y.row y.part f
  firing_tells {count} {s} hs r all {t} {f} x =
      let h = has_fired g S.inputs count s hs r x in
      let y = fired_part numbered h in
      let tell = operands_tell hs all t _ x.operands y.row y.part y.is_part y.at h.handled_are in (
        y,
        subst (Means S number run (activation_of t) y.row y.part) (sym y.is)
            (firing_means S known number run seats backed.once backed.wholes (activation_of t) y.row
            ((y.is_part).makes).within t refl y.fresh y.part y.form x.operands
            (ap (λ (u : Tag). u.instr) (sym y.at)) y.does tell),
      )

  -- the body of the procedure that an `Enter` calls is what its block gives
  callee_body : (n : ℕ) {d : ℕ} (def : IsDefOf (rows P) d (called P n)) → result_of P (called P n) ≡ def.body
  callee_body n {d} def =
      let t = known.table in
      let head = (t.head_is d def.name (called P n) def.body def.result def.within def.node).0 in
      let less =
      ((t.formed).each d def.within).parts (called P n)
      (subst (λ m. HasPart m (called P n)) (sym def.node) (inl refl)) in
      let end = end_is P t (called P n) (omega (arith, def.within, less.1)) head in
      let one = t.one_def (end_of P (called P n)) d (called P n) end def in
      ap (λ z. result_at (node P z)) one ∙ ap result_at def.node

  -- what a procedure gives goes to the call
  called_tells : {a : Activation} {n x : ℕ} {c : Context} → n < length (rows P) → node P n ≡ Enter x
      → Live S number run a (region P n) →
      Opens S number run a n c
      → (v : Value) (k : ℕ) → Live S number run (at_iteration c k) (region P (result_of P (called P n)))
      → Shown S number run (at_iteration c k) 0 (place P (result_of P (called P n))) v →
      Tells S number run a (topic_at P (end_of P n) 0 Zero) v × IsPart P (end_of P n) 0
  called_tells {a} {n} {x} {c} within is live opened v k up shown =
      let d = call_at known within is in
      let q = end_of P n in
      let body_is : result_of P (called P n) ≡ (d.def).body = callee_body n d.def in
      let first : k ≡ 0 =
      seats.first d.def (subst (λ i. Live S number run (at_iteration c k) (region P i)) body_is up) in
      let path = live_path live in
      let here = entered_path 0 within (of_call is) opened path.1 in
      let shown_path = subst (λ j. PathOf S number run (at_iteration c j) shown.path) first shown.path_of in
      let same : shown.path ≡ below path.0 (place P q) 0 =
      one_path seats shown_path here ∙ ap (λ z. below path.0 z 0) d.place in
      let has =
      subst (λ (z : Path × ℕ). Holds S (Has z.0 (place P z.1) shown.value)) {x = (_, result_of P (called P n))}
      {y = (below path.0 (place P q) 0, (d.def).body)} (λ i. ((without_none shown.path ∙ same) i, body_is i))
      shown.holds in
      let call_live = subst (Live S number run a) d.region live in
      let on = turned_on S known seats call_live path.1 ((known.table).turned q d.within (ap is_expression d.node)) in
      let stands : Stands P q (Call n d.count) = record { within = d.within; node = d.node } in
      let gives = holds_by S _ _ (call_has stands d.bound (callee_stands d.def)) (on, (has, tt)) in (
        subst (λ m. Tells S number run a (wants P q (region P q) m 0 Zero) v) (sym d.node) (
          call_live,
          record {
            path = path.0;
            path_of = path.1;
            value = shown.value;
            stands = shown.stands;
            holds = subst (λ z. Holds S (Has z (place P q) shown.value)) (sym (without_none path.0)) gives;
          },
        ),
        part_of d.within (gets d.node),
      )

  -- what a block gives goes to where it returns
  return_tells : {c : Context} {h : ℕ} {caller : Activation} {row : ℕ} → ReturnsTo S number run c h caller row
      → (v : Value) (k : ℕ) → Live S number run (at_iteration c k) (region P (result_of P h))
      → Shown S number run (at_iteration c k) 0 (place P (result_of P h)) v
      → Tells S number run caller (topic_at P row 0 Zero) v × IsPart P row 0
  return_tells to_answer v k live shown =
      let ends = (known.table).ends in (
        subst (λ m. Tells S number run main_activation (wants P (answer_row P) (region P (answer_row P)) m 0 Zero) v)
            (sym ends)
            (record { iteration = k; live = live; shown = shown; at_first = refl }),
        part_of (Rattle.id_laws.proofs.Paths.Senders.last_row (known.table).some) (answers ends),
      )
  return_tells {c = c} (to_row {a = a} {n = n} within begins live opened) v k up shown = by begins up shown
    where
      by : {h q : ℕ} → Begins P n h q → Live S number run (at_iteration c k) (region P (result_of P h))
          → Shown S number run (at_iteration c k) 0 (place P (result_of P h)) v
          → Tells S number run a (topic_at P q 0 Zero) v × IsPart P q 0
      by (of_call is) up shown = called_tells within is live opened v k up shown
      by (of_loop is) up shown = looped_tells S known number run seats within is live opened v k shown

  -- what begins a context speaks of it
  opens_topic : {n h q : ℕ} → Begins P n h q → (part : ℕ) → part ≡ 0
      → topic_of P (record { row = n; part = part; side = true }) ≡ ContextOf n
  opens_topic {n} (of_call is) part at = ap (λ m. speaks_of P n (region P n) m part true) is
  opens_topic {n} (of_loop is) part at = (λ i. speaks_of P n (region P n) (is i) (at i) true)

  -- what comes from a part, where its firing means so
  origin_tells : (a : Activation) (s : Origin) (row part : ℕ) (f : Fired) (v : Value)
      → FiresAs run (tag_in a (number row part)) f → IsPart P s.row s.part → (node P s.row ≡ Program → ⊥)
      → IsPart P row part → number s.row s.part ≡ number row part → GivesOn f s.side v
      → Means S number run a row part f → Tells S number run a (topic_of P s) v
  origin_tells a s row part (Out w) v fires here other there same gives means =
      let at = one_part numbered here there same in
      let is : record { row = row; part = part; side = true } ≡ s =
      (λ i. record { row = sym at.0 i; part = sym at.1 i; side = sym gives.0 i }) in
      subst (λ (z : Origin × Value). Tells S number run a (topic_of P z.0) z.1) {x =
      (record { row = row; part = part; side = true }, w)} {y = (s, v)}
      (λ i. (is i, sym gives.1 i)) (means (λ e. other (ap (node P) at.0 ∙ e)) fires)
  origin_tells a s row part (Side b w) v fires here other there same gives means =
      let at = one_part numbered here there same in
      let is : record { row = row; part = part; side = b } ≡ s =
      (λ i. record { row = sym at.0 i; part = sym at.1 i; side = sym gives.0 i }) in
      subst (λ (z : Origin × Value). Tells S number run a (topic_of P z.0) z.1) {x =
      (record { row = row; part = part; side = b }, w)} {y = (s, v)}
      (λ i. (is i, sym gives.1 i)) means
  origin_tells a s row part (Entered c) v fires here other there same gives means =
      let at = one_part numbered here there same in
      let is : record { row = row; part = part; side = true } ≡ s =
      (λ i. record { row = sym at.0 i; part = sym at.1 i; side = sym gives.0 i }) in
      let context : ShownContext S number run a row (value.Context c) =
      record {
        context = c;
        is = refl;
        live = means.live;
        opens =
            subst (λ k. FiresAs run (tag_in a (number row k)) (Entered c)) means.first fires;
      } in
      let tells : Tells S number run a (topic_of P (record { row = row; part = part; side = true })) (value.Context c) =
      subst (λ t. Tells S number run a t (value.Context c)) (sym (opens_topic means.begins part means.first)) context in
      subst (λ (z : Origin × Value). Tells S number run a (topic_of P z.0) z.1) {x =
      (record { row = row; part = part; side = true }, value.Context c)}
      {y = (s, v)} (λ i. (is i, sym gives.1 i)) tells
  origin_tells a s row part (Moved k w) v fires here other there same gives means = absurd gives
  origin_tells a s row part (Sent u w) v fires here other there same gives means = absurd gives
  origin_tells a s row part (Asked c u) v fires here other there same gives means = absurd gives
  origin_tells a s row part (Stored c w u) v fires here other there same gives means = absurd gives
  origin_tells a s row part (Failed k) v fires here other there same gives means = absurd gives
  origin_tells a s row part Nothing v fires here other there same gives means = absurd gives

  moved_tells : (a : Activation) (s : Origin) (row part k : ℕ) (v : Value) → IsPart P s.row s.part → IsPart P row part
      → number s.row s.part ≡ number row part → s.side ≡ true → Means S number run a row part (Moved k v) →
      Tells S number run (at_iteration a.context k) (topic_of P s) v
  moved_tells a s row part k v here there same side means =
      let at = one_part numbered here there same in
      let is : record { row = row; part = part; side = true } ≡ s =
      (λ i. record { row = sym at.0 i; part = sym at.1 i; side = sym side i }) in
      subst (λ z. Tells S number run (at_iteration a.context k) (topic_of P z) v) is means

  along : (t : Tag) (row part : ℕ) (f : Fired) (b : Truth) (v : Value) → FiresAs run t f → GivesOn f b v
      → IsPart P row part → tag_in (activation_of t) (number row part) ≡ t
      → Means S number run (activation_of t) row part f
      → (d : Dest) → Among d (dests_at g t.instr b) → T (token_to t v d)
  along t row part f b v fires gives is_part at means d among =
      let arc = numbered.no_more t.instr b d (sends_there g t.instr b d _ refl among) in
      let source = feeds_source P known arc.feeds in
      let a = activation_of t in
      let gives' = subst (λ c. GivesOn f c v) (sym arc.on) gives in
      let tells =
      origin_tells a arc.origin row part f v (subst (λ u. FiresAs run u f) (sym at) fires) source.is_part
      source.not_answer is_part
      (arc.from ∙ ap (λ (u : Tag). u.instr) (sym at)) gives' means in
      let says : Speaks S number run a arc.origin v = record {
        fired = f;
        fires = subst (λ u. FiresAs run u f) (ap (tag_in a) (sym arc.from)) fires;
        gives = gives';
      } in
      record {
        activation = a;
        row = arc.row;
        part = arc.part;
        port = d.port;
        value = v;
        is_part = target_part arc.feeds;
        is = ap (λ n. Token (tag_in a n) d.port v) (sym arc.goes);
        tells = feeds_tell S known number run seats a arc.origin arc.row arc.part d.port v arc.feeds says tells;
      }

  back : (a : Activation) (h : ℕ) (u : Tag) (v : Value) → Returned S number run a h u v → T (Token u Zero v)
  back a h u v r =
      let z = return_tells r.returns_to v (r.result).iteration (r.result).live (r.result).shown in
      record {
        activation = r.caller;
        row = r.row;
        part = 0;
        port = Zero;
        value = v;
        is_part = z.1;
        is =
            ap (λ t. Token t Zero v) r.goes;
        tells = z.0;
      }

  -- the head of the procedure that an `Enter` calls
  callee_head : (n : ℕ) {d : ℕ} (def : IsDefOf (rows P) d (called P n))
      → (called P n < length (rows P)) × (node P (called P n) ≡ Head)
  callee_head n {d} def =
      let t = known.table in
      let less =
      ((t.formed).each d def.within).parts (called P n)
      (subst (λ m. HasPart m (called P n)) (sym def.node) (inl refl)) in
      (omega (arith, def.within, less.1), (t.head_is d def.name (called P n) def.body def.result def.within def.node).0)

  -- an argument goes to its parameter, in the context that its `Enter` has made
  passed_tells : (a : Activation) (n : ℕ) (u : Tag) (v : Value) → n < length (rows P) → Passed S number run a n u v
      → T (Token u Zero v)
  passed_tells a n u v within x =
      let arg = arg_at known within x.node in
      let d = call_at known arg.enter_within arg.enter in
      let e = x.enter in
      let q = end_of P e in
      let b = param_of P e x.index in
      let goes = known.passed n e x.index x.argument within x.node in
      let param =
      a_param (rows P) (called P e) (length (rows P)) b
      (Among-from_at b (params_at (rows P) (called P e)) x.index goes.0) in
      let region_is : region P b ≡ top (called P e) =
      known.params b (param.param).name (param.param).kind param.within (param.param).is ∙ ap top param.block in
      let shown = (x.value).1 in
      let here = entered_path 0 arg.enter_within (of_call arg.enter) x.opens shown.path_of in
      let on = turned_on S known seats (subst (Live S number run a) d.region x.live) shown.path_of
      ((known.table).turned q d.within (ap is_expression d.node))
      in
      let stands : Stands P q (Call e d.count) = record { within = d.within; node = d.node } in
      let has = subst (λ z. Holds S (Has z (place P x.argument) shown.value)) (without_none shown.path) shown.holds in
      let gets_it =
      holds_by S _ _
      (argument_has stands (record { within = within; node = x.node }) d.bound (callee_stands d.def) goes.0) (
        on,
        (has, tt),
      ) in
      let path_is : below shown.path (place P q) 0 ≡ below shown.path (place P e) 0 =
      ap (λ z. below shown.path z 0) (sym d.place) in
      let p = below shown.path (place P e) 0 in
      let deep =
      own_depth known param.within (λ z. let bad : Param (param.param).name (param.param).kind ≡ Program =
      sym (param.param).is ∙ z in cc) in
      record {
        activation = at_iteration x.context 0;
        row = b;
        part = 0;
        port = Zero;
        value = v;
        is_part = part_of param.within (enters (param.param).is);
        is = ap (λ t. Token t Zero v) x.goes;
        tells = subst (λ m. Tells S number run (at_iteration x.context 0) (wants P b (region P b) m 0 Zero) v)
            (sym (param.param).is) (
              subst (Live S number run (at_iteration x.context 0)) (sym region_is)
                  (entered arg.enter_within (of_call arg.enter) x.live x.opens),
              record {
                path = p;
                path_of = here;
                value = shown.value;
                stands = shown.stands;
                holds = subst (λ z. Holds S (Has z (place P b) shown.value)) (path_is
                    ∙ sym (ap (λ d. without d p) deep ∙ without_none p)) gets_it;
              },
            );
      }

  -- the operator of an `Enter` or `Start` names the first instruction of its block, and that of where the block's value
  -- goes
  enter_names : {n h q b r : ℕ} (t : Tag) → n < length (rows P) → Begins P n h q → t.instr ≡ number n 0
      → op_at g t.instr ≡ Some (op.Enter b r) → (b ≡ number h 0) × (r ≡ number q 0)
  enter_names {n} {h} {q} {b} {r} t within is at names_are =
      let m = numbered.made n 0 _ _ (makes within (opens is)) in
      let made : op_at g t.instr ≡ Some (op.Enter (number h 0) (number q 0)) =
      ap (op_at g) at ∙ ap (option_map (λ (i : Instr). i.op)) m.at ∙ ap (λ o. Some o) m.op in
      let both : Some (op.Enter b r) ≡ Some (op.Enter (number h 0) (number q 0)) = sym names_are ∙ made in
      (cc, cc)

  -- its signal
  first_tells : (t : Tag) (n : ℕ) (c : Context) (b : ℕ) → n < length (rows P)
      → (x : Entering S number run (activation_of t) n 0) → Opens S number run (activation_of t) n c
      → b ≡ number x.head 0 → T (Token (tag_within c b) Zero value.Signal)
  first_tells t n c b within x opened at =
      let h = x.head in
      record {
        activation = at_iteration c 0;
        row = h;
        part = 0;
        port = Zero;
        value = value.Signal;
        is_part = (head_parts known within x.begins).0;
        is = ap (λ m. Token (tag_within c m) Zero value.Signal) at;
        tells = subst (λ z. Tells S number run (at_iteration c 0) z value.Signal)
            (sym (wants_signal P h (region P h) (node P h) (begun_at known within x.begins).head))
            (refl, entered within x.begins x.live opened);
      }

  -- and its way back
  second_tells : (t : Tag) (n : ℕ) (c : Context) (b r : ℕ) → n < length (rows P)
      → (x : Entering S number run (activation_of t) n 0) → Opens S number run (activation_of t) n c
      → b ≡ number x.head 0 → r ≡ number x.end 0
      → T (Token (tag_within c (b + 1)) Zero (value.Continuation (beside t r)))
  second_tells t n c b r within x opened at back_at =
      let h = x.head in
      let begun = begun_at known within x.begins in
      let second : b + 1 ≡ number h 1 =
      ap (λ m. m + 1) at ∙ sym (numbered.second_behind h (all_listed P h begun.head_within begun.head)) in
      let v = value.Continuation (beside t r) in
      let value_is : v ≡ value.Continuation (tag_in (activation_of t) (number x.end 0)) =
      ap (λ m. value.Continuation (beside t m)) back_at in
      record {
        activation = at_iteration c 0;
        row = h;
        part = 1;
        port = Zero;
        value = v;
        is_part = (head_parts known within x.begins).1;
        is = ap (λ m. Token (tag_within c m) Zero v) second;
        tells = subst (λ z. Tells S number run (at_iteration c 0) z v)
            (sym (wants_back P h (region P h) (node P h) (begun_at known within x.begins).head))
            (record {
              caller = activation_of t;
              row = x.end;
              is = value_is;
              returns =
                  to_row within x.begins x.live opened;
              at_first = refl;
            });
      }

  -- what goes on to another iteration
  goes_on : (t : Tag) (row part k : ℕ) (v : Value) → FiresAs run t (Moved k v) → IsPart P row part
      → tag_in (activation_of t) (number row part) ≡ t → Means S number run (activation_of t) row part (Moved k v)
      → is_mover (node P row) ≡ true → (d : Dest) → Among d (dests_at g t.instr true) → T (token_to (moved_to t k) v d)
  goes_on t row part k v fires is_part at means mover d among =
      let arc = numbered.no_more t.instr true d (sends_there g t.instr true d _ refl among) in
      let source = feeds_source P known arc.feeds in
      let a = activation_of t in
      let same = arc.from ∙ ap (λ (u : Tag). u.instr) (sym at) in
      let tells = moved_tells a arc.origin row part k v source.is_part is_part same arc.on means in
      let here = (one_part numbered source.is_part is_part same).0 in
      record {
        activation = at_iteration a.context k;
        row = arc.row;
        part = arc.part;
        port = d.port;
        value = v;
        is_part = target_part arc.feeds;
        is = ap (λ n. Token (tag_in (at_iteration a.context k) n) d.port v) (sym arc.goes);
        tells = moves_tell S known number run seats a k arc.origin arc.row arc.part d.port v arc.feeds
            (record {
              on = arc.on;
              fires =
                  subst (λ u. FiresAs run u (Moved k v)) (ap (tag_in a) (sym arc.from)) fires;
            })
            (ap (λ z. is_mover (node P z)) here ∙ mover) tells;
      }

  sent_tells : (t : Tag) (row part : ℕ) → IsPart P row part → tag_in (activation_of t) (number row part) ≡ t
      → (f : Fired) → FiresAs run t f → Means S number run (activation_of t) row part f
      → ((k : ℕ) (v : Value) → f ≡ Moved k v → is_mover (node P row) ≡ true)
      → (x : Payload) → Among x (sent_by g t f) → T x
  sent_tells t row part is_part at f fires means mover x out = by (sent_as g t f x out)
    where
      entering : (c : Context) → f ≡ Entered c
          → (Entering S number run (activation_of t) row 0) × (Opens S number run (activation_of t) row c)
          × (t.instr ≡ number row 0)
      entering c is =
          let z = subst (Means S number run (activation_of t) row part) is means in
          let tag_is : t ≡ tag_in (activation_of t) (number row 0) =
          sym at ∙ ap (λ k. tag_in (activation_of t) (number row k)) z.first in (
            record { head = z.head; end = z.end; begins = z.begins; first = refl; live = z.live },
            subst (λ (y : Tag × Fired). FiresAs run y.0 y.1) {x = (t, f)} {y =
                (tag_in (activation_of t) (number row 0), Entered c)} (λ i. (tag_is i, is i))
                fires,
            ap (λ (u : Tag). u.instr) tag_is,
          )

      sends : (u : Tag) (v : Value) → Returned S number run (activation_of t) row u v ⊎
          (Passed S number run (activation_of t) row u v ⊎ Given S number run (activation_of t) row u v)
          → T (Token u Zero v)
      sends u v (inl z) = back (activation_of t) row u v z
      sends u v (inr (inl z)) = passed_tells (activation_of t) row u v (is_part.makes).within z
      sends u v (inr (inr z)) = given_tells S known number run seats (activation_of t) row u v (is_part.makes).within z

      starting_tells : (c : Context) → f ≡ Entered c → Starts (op_at g t.instr) t c x → T x
      starting_tells c is (first b r names_are says) =
          let z = entering c is in
          let names = enter_names t (is_part.makes).within (z.0).begins z.2 names_are in
          subst T (sym says) (first_tells t row c b (is_part.makes).within z.0 z.1 names.0)
      starting_tells c is (second b r names_are says) =
          let z = entering c is in
          let names = enter_names t (is_part.makes).within (z.0).begins z.2 names_are in
          subst T (sym says) (second_tells t row c b r (is_part.makes).within z.0 z.1 names.0 names.1)

      by : SentAs g t f x → T x
      by (along_arc b v d gives among says) =
          subst T (sym says) (along t row part f b v fires gives is_part at means d among)
      by (moving k v d is among says) =
          subst T (sym says) (goes_on t row part k v (subst (FiresAs run t) is fires) is_part at
          (subst (Means S number run (activation_of t) row part) is means) (mover k v is) d among)
      by (to_tag u v is says) =
          subst T (sym says) (sends u v (subst (Means S number run (activation_of t) row part) is means))
      by (to_start c is h) = starting_tells c is (starts_as t c x (op_at g t.instr) h)
      by (reading c u is says) = subst T (sym says) (subst (Means S number run (activation_of t) row part) is means)
      by (writing c v u is says) = subst T (sym says) (subst (Means S number run (activation_of t) row part) is means)

  -- a fetch that asks for a cell Has what is put there
  reply_tells : (u : Tag) (v : Value) (c : Cell) (w : Tag) → ToldRead S number run c u → ToldWrite S number run c v w
      → T (Token u Zero v)
  reply_tells u v c w asked put =
      let n = asked.row in
      let name_is : put.name ≡ asked.name = one_name S g number numbered run seats structures put.named asked.named in
      let given =
      subst (λ z. Holds S (put_fact z (c.index) put.value (site put.path (place P put.row)))) name_is put.holds in
      let has = holds_by S _ _ (fetch_has {f = site asked.path (place P n)}) (asked.holds, (given, tt)) in
      record {
        activation = asked.activation;
        row = n;
        part = 2;
        port = Zero;
        value = v;
        is_part = part_of asked.within (gets_reply asked.node);
        is = ap (λ t. Token t Zero v) asked.is;
        tells = subst (λ m. Tells S number run asked.activation (wants P n (region P n) m 2 Zero) v) (sym asked.node) (
          asked.live,
          record {
            path = asked.path;
            path_of = asked.path_of;
            value = put.value;
            stands = put.stands;
            holds = subst (λ z. Holds S (Has z (place P n) put.value)) (sym (without_none asked.path)) has;
          },
        );
      }

  abbrev InRun : Event → Type 0
  InRun e = Among e run

  passes : (count : ℕ) → Passes g S.inputs count InRun T
  passes count s hs r e among in_run all x out =
      by (sent_from g hs e among x out)
    where
      by : SentFrom g hs e x → T x
      by (by_firing t f y is sends) =
          let m = firing_tells hs r all y in
          let fires : FiresAs run t f =
          record {
            element = y.element;
            port = y.port;
            value = y.value;
            operands = y.operands;
            among =
                in_run _ y.among;
          } in
          sent_tells t (m.0).row (m.0).part (m.0).is_part (m.0).at f fires m.1
          (λ k v e. moved_by P number (m.0).does t y.operands (m.0).fresh
          (sym (m.0).is ∙ e)) x sends
      by (by_answer t v is replies) =
          let z = replied g S.inputs count s hs r t v e replies in
          subst T (sym is) (reply_tells t v z.cell z.origin (all _ z.asked) (all _ z.put))

  module _ (starts : (x : Payload) → Among x (starting g S.inputs)
      → T x) (count : ℕ) (s : World) (r : Reach g S.inputs count s run) where
    -- every message tells what its port wants
    pub all_tell : AllTell S number run s
    all_tell x flows = every_message g S.inputs count InRun T starts (passes count) s run r (λ e among. among) x flows

    -- and what feeds a part tells what it speaks of
    pub all_speak : AllSpeak S number run
    all_speak = record {
      stays = λ a o n part p v feeds x.
          let source = feeds_source P known feeds in
          let m = firing_tells run r (λ z h. all_tell z (inr h)) x.fires in
          let here : number o.row o.part ≡ number (m.0).row (m.0).part = sym (ap (λ (t : Tag). t.instr) (m.0).at) in
          origin_tells a o (m.0).row (m.0).part x.fired v (subst (λ u. FiresAs run u x.fired) (sym (m.0).at) x.fires)
          source.is_part source.not_answer
          (m.0).is_part here x.gives m.1;
      moves = λ a o k n part p v feeds x.
          let source = feeds_source P known feeds in
          let m = firing_tells run r (λ z h. all_tell z (inr h)) x.fires in
          let here : number o.row o.part ≡ number (m.0).row (m.0).part = sym (ap (λ (t : Tag). t.instr) (m.0).at) in
          moved_tells a o (m.0).row (m.0).part k v source.is_part (m.0).is_part here x.on m.1;
    }
