-- Two ways to one port under one tag are of one event, and none leads to what the start sends to.
use Rattle.std.proofs.Common.{◌≡◌, ◌⊎◌, inl, inr, ℕ, Bool as Truth, true, false, Some, List, length, slice_get, refl}
use Rattle.std.proofs.Common.{sym}
use Rattle.std.proofs.Common.{◌∙◌, ap, subst, zero, suc, ◌+◌, ◌-◌, ◌<◌, arith}
use Rattle.id_value.proofs.AmongLemmas.{Among-from_at}
use Rattle.id_table.specs.declared.row.Node.{Node}
use Rattle.id_table.specs.declared.row.Node.TheVariants.{Carried, Head, If, Program, Enter, Arg, Call, Start, LoopHead}
use Rattle.id_table.specs.declared.row.Node.TheVariants.{Variable, Entries, Turn, Next, Reset, Loop, Fetch}
use Rattle.id_table.specs.Tables.{begins_block}
use Rattle.id_table.specs.Rows.{arm_at}
use Rattle.id_table.specs.Turns.{params_at}
use Rattle.id_check.specs.Programs.{region, rows}
use Rattle.id_instr.specs.declared.dests.Port.{Port}
use Rattle.id_instr.specs.declared.dests.Port.TheVariants.{Zero, One}
use Rattle.id_instr.specs.Graph.{Parts}
use Rattle.id_tag.specs.declared.Context.{Context}
use Rattle.id_tag.specs.declared.Tag.{Tag}
use Rattle.id_tag.specs.declared.Value.{Value}
use Rattle.id_ops.specs.declared.Fired.TheVariants.{Entered}
use Rattle.id_value.specs.declared.Constant.{Constant}
use Rattle.id_source.specs.Sources.{Source, IsInput}
use Rattle.id_build.specs.declared.arc.Origin.{Origin}
use Rattle.id_build.specs.Rows.{Entry, answer_row, block, node, origin, called, param_of}
use Rattle.id_build.specs.Schemas.{Feeds, Numbered}
use Rattle.id_runs.specs.Activations.{Activation, at_iteration, main_activation, tag_in}
use Rattle.id_runs.specs.Events.{Event, FiresOnce, FiresAs, fired_event}
use Rattle.id_runs.specs.Cells.{Replies}
use Rattle.id_runs.proofs.Messages.{one_firing}
use Rattle.id_laws.specs.Activations.{Begins, of_call, of_loop, main_head, Speaks, Moves, Live, ReturnsTo}
use Rattle.id_laws.specs.Activations.{to_answer, to_row}
use Rattle.id_laws.specs.Topics.{AllSpeak}
use Rattle.id_laws.specs.Ways.{Way, by_arc, by_move, by_back, StartsAt, signal, way_back, input, by_send, by_enter}
use Rattle.id_laws.specs.Ways.{by_continuation, by_reply, of_argument, of_entry, SendsTo}
use Rattle.id_laws.proofs.Rows.Feeders.{FromArm, one_feed}
use Rattle.id_laws.proofs.Rows.Feeders.{answer_unfed, call_unfed, head_unfed, loop_head_unfed, loop_unfed}
use Rattle.id_laws.proofs.Rows.Feeders.{reply_unfed}
use Rattle.id_laws.proofs.Paths.Begun.{EndsAs, as_call, as_loop, begun_at, one_begun, one_head}
use Rattle.id_laws.proofs.Paths.Movers.{Steps}
use Rattle.id_laws.proofs.Paths.Steps.{Stepping}
use Rattle.id_laws.proofs.Rows.Sources.{to_carried_again}
use Rattle.id_laws.proofs.Rows.Sources.{is_entry, is_mover, Stays, Returns, to_trigger_again, to_result}
use Rattle.id_laws.proofs.Rows.Sources.{to_variable_again}
use Rattle.id_laws.proofs.Rows.Sources.{to_entry_again, feeds_source, fed_from, mover_returns, returned_mover}
use Rattle.id_laws.proofs.Rows.Assumed.{IsKnown}
use Rattle.id_laws.proofs.Telling.LoopEntries.{GivenAs, as_carried, as_first, as_import, given_as, one_entry}
use Rattle.id_laws.proofs.Rows.Loops.{carried_loop, carried_node, counted_of}
use Rattle.id_laws.proofs.Rows.Loops.{last_region, loop_of_head, loop_of_row, loop_of_start, reset_last, switches_node}
use Rattle.id_laws.proofs.Rows.Loops.{switches_row, switches_within, turn_node}
use Rattle.id_laws.proofs.Paths.OneEnd.{one_end}
use Rattle.id_build.proofs.LoopsLemmas.{entries_node, next_is}
use Rattle.id_laws.proofs.Rows.Blocks.{IsParam, a_param, params_differ}
use Rattle.id_laws.proofs.Rows.Conditionals.{arm_of, conditional, sides_apart}
use Rattle.id_laws.proofs.Telling.Origins.{origin_shows}
use Rattle.id_laws.proofs.Rows.Calls.{arg_at}
use Rattle.id_laws.proofs.Paths.Seats.{OneSeat, one_opening, not_main, event_context}
use Rattle.id_laws.proofs.Telling.StartTells.{seats}
use Rattle.id_laws.proofs.Validity.ValidCounts.{differ_at as place_once}
use Rattle.id_runs.specs.Serials.{ContextsApart}

true_false : true ≡ false → ⊥
true_false h = cc

-- whether the values of blocks come back to rows of this node
abbrev is_return : Node → Truth
is_return Program = true
is_return (Call e c) = true
is_return (Loop h w l) = true
is_return _ = false

-- ---- two ways to one port are of one event

module _ (S : Source) (number : ℕ → ℕ → ℕ) (run : List Event) (known : IsKnown S.checked) (seats : OneSeat S number run)
    (once : FiresOnce run)
    (speak : AllSpeak S number run) (steps : Stepping S number run) (g : Parts) (numbered : Numbered S.checked g number)
    (apart : ContextsApart run) (replies_once : (t : Tag) (v v' : Value) (e e' : Event) → Replies run t v e
    → Replies run t v' e' → e ≡ e') where
  abbrev main : ℕ
  main = main_head S.checked

  main_is : node S.checked main ≡ Head
  main_is = let d = known.main in ((known.table).head_is (S.checked).main d.name main d.body d.result d.within d.node).0

  input_is : {b : ℕ} {v : Constant} → IsInput S b v → IsParam (node S.checked b)
  input_is {b} x =
      let among = Among-from_at b (params_at (rows S.checked) main) x.number x.param in
      (a_param (rows S.checked) main (length (rows S.checked)) b among).param

  -- a block returns to the answer's row, to a call or to a loop
  ending : (n m : ℕ) → EndsAs m (node S.checked n) → is_return (node S.checked n) ≡ true
  ending n m (as_call is) = ap is_return is
  ending n m (as_loop is) = ap is_return is

  returned : {c : Context} {h : ℕ} {a : Activation} {n : ℕ} → ReturnsTo S number run c h a n
      → is_return (node S.checked n) ≡ true
  returned to_answer = ap is_return (known.table).ends
  returned (to_row within is live opened) = ending _ _ (begun_at known within is).ends

  -- no arc goes to where a block returns
  return_unfed : (n : ℕ) {part : ℕ} {p : Port} {s : Origin} → is_return (node S.checked n) ≡ true
      → Feeds S.checked s n part p → ⊥
  return_unfed n e feeds = by (node S.checked n) refl e
    where
      by : (m : Node) → node S.checked n ≡ m → is_return m ≡ true → ⊥
      by Program is h = answer_unfed is feeds
      by (Call i c) is h = call_unfed is feeds
      by (Loop g w l) is h = loop_unfed is feeds
      by _ is h = true_false (sym h)

  -- the answer's row ends nothing
  no_answer : (n m : ℕ) → EndsAs m (node S.checked n) → n ≡ answer_row S.checked → ⊥
  no_answer n m (as_call {c = c} is) e =
      let bad : Program ≡ Call m c = sym (known.table).ends ∙ ap (node S.checked) (sym e) ∙ is in cc
  no_answer n m (as_loop {w = w} {l = l} is) e =
      let bad : Program ≡ Loop (m + 1) w l = sym (known.table).ends ∙ ap (node S.checked) (sym e) ∙ is in cc

  -- all that returns to one row under one activation is of one block and context
  returns_once : {c c' : Context} {h h' : ℕ} {a a' : Activation} {n n' : ℕ} → ReturnsTo S number run c h a n
      → ReturnsTo S number run c' h' a' n' → a ≡ a' → n ≡ n' → (c ≡ c') × (h ≡ h')
  returns_once to_answer to_answer e d = (refl, refl)
  returns_once to_answer (to_row within is live o) e d = absurd (no_answer _ _ (begun_at known within is).ends (sym d))
  returns_once (to_row within is live o) to_answer e d = absurd (no_answer _ _ (begun_at known within is).ends d)
  returns_once {h' = h'} {n' =
      n'} (to_row {a = a} {n = i} within is live o) (to_row {a = b} {n = j} within' is' live' o') e d =
      let row = one_begun known within within' is is' d in
      let tags : tag_in a (number i 0) ≡ tag_in b (number j 0) = (λ m. tag_in (e m) (number (row m) 0)) in (
        event_context o o' (one_firing once tags o o'),
        (one_head is (subst (λ z. Begins S.checked z h' n') (sym row) is')).0,
      )

  -- what goes into a context goes to an entry, and no two of one context to one
  sent_entry : {m k i n part : ℕ} → SendsTo S.checked m k i n part → is_entry (node S.checked n) ≡ true
  sent_entry (of_argument {e = e} {k = k} {v = v} within is) =
      let b = param_of S.checked e k in
      let ps = params_at (rows S.checked) (called S.checked e) in
      ap is_entry ((a_param (rows S.checked) (called S.checked e) (length (rows S.checked)) b
      (Among-from_at b ps k (known.passed _ e k v within is).0)).param).is
  sent_entry {m = m} (of_entry k q within is at) = by (given_as S.checked (m + 1) k q at)
    where
      by : GivenAs S.checked (m + 1) k q → is_entry (node S.checked q.row) ≡ true
      by (as_carried has less entry) =
          let l = loop_of_start known within is in
          let row = carried_node S.checked known (m + 1) l (counted_of S.checked l.all has) k less in
          ap (λ (z : Entry). is_entry (node S.checked z.row)) entry ∙ ap is_entry row.1
      by (as_first w i less at_w low high here slot entry first) =
          ap (λ (z : Entry). is_entry (node S.checked z.row)) entry ∙ ap is_entry at_w
      by (as_import j less slot entry there) =
          let l = loop_of_start known within is in
          ap (λ (z : Entry). is_entry (node S.checked z.row)) entry
          ∙ ap is_entry (entries_node S.checked (m + 1) ((m + 1) - 1) l.within l.head)

  enter_start : {x : ℕ} {n : Node} → n ≡ Enter x → n ≡ Start → ⊥
  enter_start {x = x} e h = let bad : Enter x ≡ Start = sym e ∙ h in cc

  one_send : {m m' k k' i i' n n' part part' : ℕ} → SendsTo S.checked m k i n part → SendsTo S.checked m' k' i' n' part'
      → i ≡ i' → n ≡ n' → part ≡ part' →
      (m ≡ m') × (k ≡ k')
  one_send (of_argument {e = e} {k = k} {v = v} within is) (of_argument {e = f} {k = l} {v = w} within' is') same to
      at =
      let ps = params_at (rows S.checked) (called S.checked f) in
      let first =
      ap (λ z. slice_get (params_at (rows S.checked) (called S.checked z)) k) (sym same)
      ∙ (known.passed _ e k v within is).0 ∙
      ap (λ z. Some z) to in
      let index : k ≡ l =
      place_once ps k l (param_of S.checked f l)
      (params_differ (rows S.checked) (called S.checked f) (length (rows S.checked))) first
      (known.passed _ f l w within' is').0 in (
        (known.table).one_arg _ _ f l (record {
          value = v;
          within = within;
          node =
              is ∙ (λ z. Arg (same z) (index z) v);
        })
            (record { value = w; within = within'; node = is' }),
        refl,
      )
  one_send (of_argument {e = e} within is) (of_entry k q within' is' at) same to there = absurd
      (enter_start ((arg_at known within is).enter) (ap (node S.checked) same ∙ is'))
  one_send (of_entry k q within is at) (of_argument {e = f} within' is') same to there = absurd
      (enter_start ((arg_at known within' is').enter) (ap (node S.checked) (sym same) ∙ is))
  one_send {m} {m'} (of_entry k q within is at) (of_entry l q' within' is' at') same to there =
      (same, ap suc (one_entry S.checked (m + 1) (m' + 1) k l q q' at at' (ap (λ z. z + 1) same) to there))

  -- what is fed is not where a block begins
  moved_feed : {s : Origin} {n n' part part' : ℕ} {p p' : Port} → Feeds S.checked s n part p → n ≡ n' → part ≡ part'
      → p ≡ p' → Feeds S.checked s n' part' p'
  moved_feed {s = s} {n} {n'} {part} {part'} {p} {p'} feeds e d q =
      subst (λ (z : ℕ × (ℕ × Port)). Feeds S.checked s z.0 z.1.0 z.1.1) {x = (n, (part, p))} {y =
      (n', (part', p'))} (λ i. (e i, (d i, q i))) feeds

  zero_one : zero ≡ suc zero → ⊥
  zero_one h = cc

  -- an arm that has spoken is live
  spoken_live : (a : Activation) (n part : ℕ) (p : Port) (s x y k : ℕ) (b : Truth) (v : Value)
      → node S.checked n ≡ If s x y → Feeds S.checked (origin S.checked (arm_of b x y)) n part p
      → Speaks S number run a (origin S.checked (arm_of b x y)) v → k ≡ s → Live S number run a (arm_at k b)
  spoken_live a n part p s x y k b v is feeds says e =
      let c = conditional known feeds.within is in
      let tells = speak.stays a (origin S.checked (arm_of b x y)) n part p v feeds says in
      let shows =
      origin_shows S known number run seats a (arm_of b x y) v (c.arm_within b) (c.arm_expression b) tells in
      subst (Live S number run a) (c.arm_region b ∙ ap (λ m. arm_at m b) (sym e)) shows.0

  -- the arms of one conditional do not both speak
  arms_apart : (a : Activation) (n part : ℕ) (p : Port) (s x y : ℕ) (v v' : Value) → node S.checked n ≡ If s x y
      → Feeds S.checked (origin S.checked x) n part p → Feeds S.checked (origin S.checked y) n part p
      → Speaks S number run a (origin S.checked x) v → Speaks S number run a (origin S.checked y) v' → ⊥
  arms_apart a n part p s x y v v' is feeds feeds' says says' =
      let c = conditional known feeds.within is in
      sides_apart known once c.node (spoken_live a n part p s x y s true v is feeds says refl)
      (spoken_live a n part p s x y s false v' is feeds' says' refl)

  -- what has spoken to a port is one origin
  one_origin : (a : Activation) (n part : ℕ) (p : Port) (s s' : Origin) (v v' : Value) → Feeds S.checked s n part p
      → Feeds S.checked s' n part p → Speaks S number run a s v → Speaks S number run a s' v' → s ≡ s'
  one_origin a n part p s s' v v' feeds feeds' says says' =
      elim (one_feed feeds feeds') [
        | inl is ↦ is
        | inr arms ↦ by (arms.0).split (arms.0).then (arms.0).otherwise (arms.0).node (arms.0).from
            (same_arms arms.0 arms.1)
      ]
    where
      same_arms : (x : FromArm S.checked n s) (y : FromArm S.checked n s')
          → (s' ≡ origin S.checked x.then) ⊎ (s' ≡ origin S.checked x.otherwise)
      same_arms x y =
          let both : If y.split y.then y.otherwise ≡ If x.split x.then x.otherwise = sym y.node ∙ x.node in
          let then_is : y.then ≡ x.then = cc in
          let else_is : y.otherwise ≡ x.otherwise = cc in
          elim y.from [
            | inl h ↦ inl (h ∙ ap (origin S.checked) then_is)
            | inr h ↦ inr (h ∙ ap (origin S.checked) else_is)
          ]

      by : (k x y : ℕ) → node S.checked n ≡ If k x y → (s ≡ origin S.checked x) ⊎ (s ≡ origin S.checked y)
          → (s' ≡ origin S.checked x) ⊎ (s' ≡ origin S.checked y) → s ≡ s'
      by k x y is (inl h) (inl h') = h ∙ sym h'
      by k x y is (inr h) (inr h') = h ∙ sym h'
      by k x y is (inl h) (inr h') =
          absurd (arms_apart a n part p k x y v v' is (subst (λ z. Feeds S.checked z n part p) h feeds)
          (subst (λ z. Feeds S.checked z n part p) h' feeds')
          (subst (λ z. Speaks S number run a z v) h says) (subst (λ z. Speaks S number run a z v') h' says'))
      by k x y is (inr h) (inl h') =
          absurd (arms_apart a n part p k x y v' v is (subst (λ z. Feeds S.checked z n part p) h' feeds')
          (subst (λ z. Feeds S.checked z n part p) h feeds)
          (subst (λ z. Speaks S number run a z v') h' says') (subst (λ z. Speaks S number run a z v) h says))

  -- the row that makes the context
  sends_within : {m k i n part : ℕ} → SendsTo S.checked m k i n part → (i < length (rows S.checked)) × (h : ℕ) × (q : ℕ)
      × Begins S.checked i h q
  sends_within (of_argument within is) = let z = arg_at known within is in (z.enter_within, _, _, of_call z.enter)
  sends_within (of_entry k q within is at) = (within, _, _, of_loop is)

  -- two firings that make one context are one event
  same_opening : {t u : Tag} {c d : Context} (x : FiresAs run t (Entered c)) (y : FiresAs run u (Entered d)) → c ≡ d
      → fired_event x ≡ fired_event y
  same_opening {t} {u} {c} {d} x y e = by d y e
    where
      by : (d : Context) (y : FiresAs run u (Entered d)) → c ≡ d → fired_event x ≡ fired_event y
      by d y e = apart.one (fired_event x) (fired_event y) x.among y.among d (ap Entered e) refl

  -- what goes to one port, save that of a conditional, from an iteration comes from one origin
  no_arm : {n part : ℕ} {p : Port} {s t : Origin} → Returns S.checked n part p s → FromArm S.checked n t → ⊥
  no_arm (to_trigger_again {t = t} is) x = let bad : LoopHead t ≡ If x.split x.then x.otherwise = sym is ∙ x.node in cc
  no_arm (to_result {t = t} is) x = let bad : LoopHead t ≡ If x.split x.then x.otherwise = sym is ∙ x.node in cc
  no_arm (to_variable_again is) x = let bad : Variable ≡ If x.split x.then x.otherwise = sym is ∙ x.node in cc
  no_arm (to_carried_again {k = k} is) x = let bad : Carried k ≡ If x.split x.then x.otherwise = sym is ∙ x.node in cc
  no_arm (to_entry_again k is less) x = let bad : Entries ≡ If x.split x.then x.otherwise = sym is ∙ x.node in cc

  mover_is : {a : Activation} {s : Origin} {k : ℕ} {v : Value} {n part : ℕ} {p : Port} → Feeds S.checked s n part p
      → Moves S number run a s k v → is_mover (node S.checked s.row) ≡ true
  mover_is {a} {s} {k} {v} feeds x =
      by (node S.checked s.row) (steps.goes a s k v (feeds_source S.checked known feeds).is_part x)
    where
      by : (m : Node) → Steps m a.iteration k → is_mover m ≡ true
      by Turn h = refl
      by (Next y j o w) h = refl
      by (Reset w) h = refl
      by _ h = absurd h

  stays_is : {a : Activation} {s : Origin} {v : Value} {n part : ℕ} {p : Port} → Feeds S.checked s n part p
      → Speaks S number run a s v → is_mover (node S.checked s.row) ≡ false
  stays_is {a} {s} {v} feeds x = steps.stays a s v (feeds_source S.checked known feeds).is_part x

  -- what speaks and what moves do not feed one port
  no_both : {a b : Activation} {s t : Origin} {k : ℕ} {v w : Value} {n part : ℕ} {p : Port} → Feeds S.checked s n part p
      → Speaks S number run a s v → Feeds S.checked t n part p → Moves S number run b t k w → ⊥
  no_both feeds x feeds' x' = elim (one_feed feeds feeds') [
    | inl same ↦ true_false (sym (mover_is feeds' x')
        ∙ ap (λ z. is_mover (node S.checked z)) (ap (λ (o : Origin). o.row) (sym same)) ∙ stays_is feeds x)
    | inr arms ↦ no_arm (mover_returns S.checked known feeds' (mover_is feeds' x')) arms.1
  ]

  -- what an arc leads to that stays is no entry and no head's port 0
  stays_at : {a : Activation} {s : Origin} {v : Value} {n part : ℕ} {p : Port} → Feeds S.checked s n part p
      → Speaks S number run a s v → Stays S.checked n p s
  stays_at feeds x = elim (fed_from S.checked known feeds) [
    | inl y ↦ y
    | inr y ↦ absurd (true_false (sym (returned_mover S.checked known feeds.within y) ∙ stays_is feeds x))
  ]

  zero_port : Zero ≡ One → ⊥
  zero_port h = cc

  arc_entry : {a : Activation} {s : Origin} {v : Value} {n part : ℕ} {p : Port} → Feeds S.checked s n part p
      → Speaks S number run a s v → is_entry (node S.checked n) ≡ true → ⊥
  arc_entry feeds x entry = true_false (sym entry ∙ (stays_at feeds x).no_entry)

  arc_head : {a : Activation} {s : Origin} {v : Value} {n part : ℕ} → Feeds S.checked s n part Zero
      → Speaks S number run a s v → begins_block (node S.checked n) ≡ true → ⊥
  arc_head feeds x head = zero_port ((stays_at feeds x).at_head head)

  -- what goes to an iteration goes to no first one, but as a loop's result
  later : {a : Activation} {s : Origin} {v : Value} {k n part : ℕ} → Feeds S.checked s n part Zero
      → Moves S number run a s k v → k ≡ 0 → ⊥
  later {a} {s} {v} {k} feeds x first =
      by_returns (mover_returns S.checked known feeds (mover_is feeds x)) feeds.within
      (steps.goes a s k v (feeds_source S.checked known feeds).is_part x)
    where
      behind : Steps Turn a.iteration k → ⊥
      behind h = omega (arith, h, first)

      by_returns : {n part : ℕ} {s : Origin} → Returns S.checked n part Zero s → n < length (rows S.checked)
          → Steps (node S.checked s.row) a.iteration k → ⊥
      by_returns {n} (to_trigger_again {t = t} is) within h = behind
          (subst (λ m. Steps m a.iteration k) (turn_node S.checked known n (loop_of_head known within is)) h)
      by_returns {n} (to_variable_again is) within h =
          behind (subst (λ m. Steps m a.iteration k) (next_is S.checked n within is).node h)
      by_returns {n} (to_carried_again is) within h =
          behind (subst (λ m. Steps m a.iteration k)
          (turn_node S.checked known (block S.checked n) (carried_loop known within is).loop) h)
      by_returns {n} (to_entry_again j is less) within h =
          behind (subst (λ m. Steps m a.iteration k)
          (turn_node S.checked known (block S.checked n) (loop_of_row known Entries within is refl)) h)

  -- no arc goes to what takes the way back of a block
  way_back_unfed : {n : ℕ} {s : Origin} → begins_block (node S.checked n) ≡ true → Feeds S.checked s n 1 Zero → ⊥
  way_back_unfed {n} head feeds = by (node S.checked n) refl head
    where
      by : (m : Node) → node S.checked n ≡ m → begins_block m ≡ true → ⊥
      by Head is h = head_unfed is feeds
      by (LoopHead t) is h = loop_head_unfed is feeds
      by _ is h = true_false (sym h)

  -- entries, heads and returns are apart
  entry_no_head : (m : Node) → is_entry m ≡ true → begins_block m ≡ true → ⊥
  entry_no_head Head h k = true_false (sym h)
  entry_no_head (LoopHead t) h k = true_false (sym h)
  entry_no_head _ h k = true_false (sym k)

  return_no_head : (m : Node) → is_return m ≡ true → begins_block m ≡ true → ⊥
  return_no_head Head h k = true_false (sym h)
  return_no_head (LoopHead t) h k = true_false (sym h)
  return_no_head _ h k = true_false (sym k)

  return_no_entry : (m : Node) → is_return m ≡ true → is_entry m ≡ true → ⊥
  return_no_entry Program h k = true_false (sym k)
  return_no_entry (Call i c) h k = true_false (sym k)
  return_no_entry (Loop g w l) h k = true_false (sym k)
  return_no_entry _ h k = true_false (sym h)

  entered_head : {i h q : ℕ} → i < length (rows S.checked) → Begins S.checked i h q
      → begins_block (node S.checked h) ≡ true
  entered_head within enter = (begun_at known within enter).head

  there : (f : Node → Truth) {n n' : ℕ} → f (node S.checked n) ≡ true → n ≡ n' → f (node S.checked n') ≡ true
  there f h e = ap (λ z. f (node S.checked z)) (sym e) ∙ h

  -- two moves to one port under one activation are one
  one_move : {a b : Activation} {s t : Origin} {k l n part : ℕ} {p : Port} {v w : Value}
      (feeds : Feeds S.checked s n part p) → Feeds S.checked t n part p
      → (x : Moves S number run a s k v) → (y : Moves S number run b t l w)
      → at_iteration a.context k ≡ at_iteration b.context l →
      fired_event x.fires ≡ fired_event y.fires
  one_move {a} {b} {s} {t} {k} {l} {n} {part} {p} {v} {w} feeds feeds' x y same = elim (one_feed feeds feeds') [
    | inl is ↦ from_one is
    | inr arms ↦ absurd (no_arm (mover_returns S.checked known feeds (mover_is feeds x)) arms.0)
  ]
    where
      contexts : a.context ≡ b.context
      contexts = ap (λ (z : Activation). z.context) same

      targets : k ≡ l
      targets = ap (λ (z : Activation). z.iteration) same

      -- a loop ends in one iteration alone
      ended : (e : ℕ) → node S.checked s.row ≡ Reset e → s ≡ t → a.iteration ≡ b.iteration
      ended e is from =
          let part_of_s = (feeds_source S.checked known feeds).is_part in
          let part_of_t = (feeds_source S.checked known feeds').is_part in
          let within = ((feeds_source S.checked known feeds).is_part).makes.within in
          let here = steps.ends a s k e v part_of_s x is in
          let there = steps.ends b t l e w part_of_t y (ap (λ (o : Origin). node S.checked o.row) (sym from) ∙ is) in
          let loop = loop_of_row known (Reset e) within is refl in
          let last = reset_last known within is loop in
          let h = block S.checked s.row in
          let stands : region S.checked e ≡ arm_at (switches_row S.checked known h loop) false =
          ap (region S.checked) last ∙
          last_region S.checked known h loop in
          one_end S known g number numbered run apart once seats speak (switches_within S.checked known h loop)
          (switches_node S.checked known h loop)
          (subst (Live S number run a) stands here)
          (subst (λ c. Live S number run (at_iteration c b.iteration)
          (arm_at (switches_row S.checked known h loop) false)) (sym contexts)
          (subst (Live S number run b) stands there))

      iterations : (m : Node) → node S.checked s.row ≡ m → s ≡ t → Steps m a.iteration k → Steps m b.iteration l
          → a.iteration ≡ b.iteration
      iterations Turn is from h h' = omega (arith, h, h', targets)
      iterations (Next z j o u) is from h h' = omega (arith, h, h', targets)
      iterations (Reset e) is from h h' = ended e is from
      iterations _ is from h h' = absurd h

      from_one : s ≡ t → fired_event x.fires ≡ fired_event y.fires
      from_one from =
          let steps_s = steps.goes a s k v (feeds_source S.checked known feeds).is_part x in
          let steps_t = steps.goes b t l w (feeds_source S.checked known feeds').is_part y in
          let one = iterations (node S.checked s.row) refl from steps_s
          (subst (λ (o : Origin). Steps (node S.checked o.row) b.iteration l) (sym from) steps_t) in
          one_firing once
          (λ i. tag_in (record { context = contexts i; iteration = one i }) (number (from i).row (from i).part)) x.fires
          y.fires

  -- where a reply comes stands a fetch, and no other
  not_there : (f : Node → Truth) {n n' t i : ℕ} → f (Fetch t i) ≡ false → node S.checked n ≡ Fetch t i → n ≡ n'
      → f (node S.checked n') ≡ true → ⊥
  not_there f other is same there_so =
      true_false (sym there_so ∙ ap (λ z. f (node S.checked z)) (sym same) ∙ ap f is ∙ other)

  first_iteration : {b c : Context} {k : ℕ} → at_iteration b k ≡ at_iteration c 0 → k ≡ 0
  first_iteration e = ap (λ (z : Activation). z.iteration) e

  pub one_way : (e e' : Event) (a : Activation) (n part : ℕ) (p : Port) (v v' : Value) → Way S number run e a n part p v
      → Way S number run e' a n part p v' → e ≡ e'
  one_way e e' a n part p v v' x y = by e a n part p v x e' a n part p v' y refl refl refl refl
    where
      by : (e : Event) (a : Activation) (n part : ℕ) (p : Port) (v : Value) → Way S number run e a n part p v
          → (e' : Event) (a' : Activation) (n' part' : ℕ) (p' : Port) (v' : Value)
          → Way S number run e' a' n' part' p' v' → a ≡ a' → n ≡ n'
          → part ≡ part' → p ≡ p' → e ≡ e'
      by e a n part p v (by_arc _ s _ _ _ _ feeds x is) e' a' n' part' p' v' (by_arc _ s' _ _ _ _ feeds' x' is') sa sn
          sp sq =
          let from = one_origin a n part p s s' v v' feeds (moved_feed feeds' (sym sn) (sym sp) (sym sq)) x
          (subst (λ b. Speaks S number run b s' v') (sym sa) x') in
          sym is ∙ one_firing once (λ i. tag_in (sa i) (number (from i).row (from i).part)) x.fires x'.fires ∙ is'
      by e a n part p v (by_arc _ s _ _ _ _ feeds x is) e' a' n' part' p' v' (by_move u' s' k' _ _ _ _ feeds' x' is') sa
          sn sp sq = absurd
          (no_both feeds x (moved_feed feeds' (sym sn) (sym sp) (sym sq)) x')
      by e a n part p v (by_arc _ s _ _ _ _ feeds x is) e' a' n' part' p' v'
          (by_send _ c' m' j' i' _ _ _ sends' o' x' is') sa sn sp sq = absurd
          (arc_entry (moved_feed feeds sn sp sq) x (sent_entry sends'))
      by e a n part p v (by_arc _ s _ _ _ _ feeds x is) e' a' n' part' p' v'
          (by_enter _ i' h' q' c' within' enter' x' is') sa sn sp sq = absurd
          (arc_head (moved_feed feeds sn sp sq) x (entered_head within' enter'))
      by e a n part p v (by_arc _ s _ _ _ _ feeds x is) e' a' n' part' p' v'
          (by_continuation _ i' h' q' c' within' enter' x' is') sa sn sp sq = absurd
          (arc_head (moved_feed feeds sn sp sq) x (entered_head within' enter'))
      by e a n part p v (by_arc _ s _ _ _ _ feeds x is) e' a' n' part' p' v' (by_back c' h' _ _ _ back' x' is') sa sn sp
          sq = absurd
          (return_unfed _ (returned back') (moved_feed feeds sn sp sq))
      by e a n part p v (by_move u s k _ _ _ _ feeds x is) e' a' n' part' p' v' (by_arc _ s' _ _ _ _ feeds' x' is') sa
          sn sp sq = absurd
          (no_both feeds' x' (moved_feed feeds sn sp sq) x)
      by e a n part p v (by_move u s k _ _ _ _ feeds x is) e' a' n' part' p' v' (by_move u' s' k' _ _ _ _ feeds' x' is')
          sa sn sp sq = sym is ∙
          one_move feeds (moved_feed feeds' (sym sn) (sym sp) (sym sq)) x x' sa ∙ is'
      by e a n part p v (by_move u s k _ _ _ _ feeds x is) e' a' n' part' p' v'
          (by_send _ c' m' j' i' _ _ _ sends' o' x' is') sa sn sp sq = absurd
          (later (moved_feed feeds sn sp sq) x (first_iteration sa))
      by e a n part p v (by_move u s k _ _ _ _ feeds x is) e' a' n' part' p' v'
          (by_enter _ i' h' q' c' within' enter' x' is') sa sn sp sq = absurd
          (later (moved_feed feeds sn sp sq) x (first_iteration sa))
      by e a n part p v (by_move u s k _ _ _ _ feeds x is) e' a' n' part' p' v'
          (by_continuation _ i' h' q' c' within' enter' x' is') sa sn sp sq = absurd
          (way_back_unfed (entered_head within' enter') (moved_feed feeds sn sp sq))
      by e a n part p v (by_move u s k _ _ _ _ feeds x is) e' a' n' part' p' v' (by_back c' h' _ _ _ back' x' is') sa sn
          sp sq = absurd
          (return_unfed _ (returned back') (moved_feed feeds sn sp sq))
      by e a n part p v (by_send _ c m j i _ _ _ sends o x is) e' a' n' part' p' v' (by_arc _ s' _ _ _ _ feeds' x' is')
          sa sn sp sq = absurd
          (arc_entry (moved_feed feeds' (sym sn) (sym sp) (sym sq)) x' (sent_entry sends))
      by e a n part p v (by_send _ c m j i _ _ _ sends o x is) e' a' n' part' p' v'
          (by_move u' s' k' _ _ _ _ feeds' x' is') sa sn sp sq = absurd
          (later (moved_feed feeds' (sym sn) (sym sp) (sym sq)) x' (first_iteration (sym sa)))
      by e a n part p v (by_send _ c m j i _ _ _ sends o x is) e' a' n' part' p' v'
          (by_send _ c' m' j' i' _ _ _ sends' o' x' is') sa sn sp sq =
          let z = sends_within sends in
          let z' = sends_within sends' in
          let opening =
          one_opening S known g number numbered run apart z.0 z'.0 z.3 z'.3 o o'
          (ap (λ (y : Activation). y.context) sa) in
          let row = one_send sends sends' opening.1 sn sp in
          sym is ∙ one_firing once (λ t. tag_in (opening.0 t) (number (row.0 t) (row.1 t))) x x' ∙ is'
      by e a n part p v (by_send _ c m j i _ _ _ sends o x is) e' a' n' part' p' v'
          (by_enter _ i' h' q' c' within' enter' x' is') sa sn sp sq = absurd
          (entry_no_head _ (there is_entry (sent_entry sends) sn) (entered_head within' enter'))
      by e a n part p v (by_send _ c m j i _ _ _ sends o x is) e' a' n' part' p' v'
          (by_continuation _ i' h' q' c' within' enter' x' is') sa sn sp sq = absurd
          (entry_no_head _ (there is_entry (sent_entry sends) sn) (entered_head within' enter'))
      by e a n part p v (by_send _ c m j i _ _ _ sends o x is) e' a' n' part' p' v' (by_back c' h' _ _ _ back' x' is')
          sa sn sp sq = absurd
          (return_no_entry _ (returned back') (there is_entry (sent_entry sends) sn))
      by e a n part p v (by_enter _ i h q c within enter x is) e' a' n' part' p' v' (by_arc _ s' _ _ _ _ feeds' x' is')
          sa sn sp sq = absurd
          (arc_head (moved_feed feeds' (sym sn) (sym sp) (sym sq)) x' (entered_head within enter))
      by e a n part p v (by_enter _ i h q c within enter x is) e' a' n' part' p' v'
          (by_move u' s' k' _ _ _ _ feeds' x' is') sa sn sp sq = absurd
          (later (moved_feed feeds' (sym sn) (sym sp) (sym sq)) x' (first_iteration (sym sa)))
      by e a n part p v (by_enter _ i h q c within enter x is) e' a' n' part' p' v'
          (by_send _ c' m' j' i' _ _ _ sends' o' x' is') sa sn sp sq = absurd
          (entry_no_head _ (there is_entry (sent_entry sends') (sym sn)) (entered_head within enter))
      by e a n part p v (by_enter _ i h q c within enter x is) e' a' n' part' p' v'
          (by_enter _ i' h' q' c' within' enter' x' is') sa sn sp sq = sym is ∙
          same_opening x x' (ap (λ (y : Activation). y.context) sa) ∙ is'
      by e a n part p v (by_enter _ i h q c within enter x is) e' a' n' part' p' v'
          (by_continuation _ i' h' q' c' within' enter' x' is') sa sn sp sq = absurd
          (zero_one sp)
      by e a n part p v (by_enter _ i h q c within enter x is) e' a' n' part' p' v' (by_back c' h' _ _ _ back' x' is')
          sa sn sp sq = absurd
          (return_no_head _ (returned back') (there begins_block (entered_head within enter) sn))
      by e a n part p v (by_continuation _ i h q c within enter x is) e' a' n' part' p' v'
          (by_arc _ s' _ _ _ _ feeds' x' is') sa sn sp sq = absurd
          (arc_head (moved_feed feeds' (sym sn) (sym sp) (sym sq)) x' (entered_head within enter))
      by e a n part p v (by_continuation _ i h q c within enter x is) e' a' n' part' p' v'
          (by_move u' s' k' _ _ _ _ feeds' x' is') sa sn sp sq = absurd
          (way_back_unfed (entered_head within enter) (moved_feed feeds' (sym sn) (sym sp) (sym sq)))
      by e a n part p v (by_continuation _ i h q c within enter x is) e' a' n' part' p' v'
          (by_send _ c' m' j' i' _ _ _ sends' o' x' is') sa sn sp sq = absurd
          (entry_no_head _ (there is_entry (sent_entry sends') (sym sn)) (entered_head within enter))
      by e a n part p v (by_continuation _ i h q c within enter x is) e' a' n' part' p' v'
          (by_enter _ i' h' q' c' within' enter' x' is') sa sn sp sq = absurd
          (zero_one (sym sp))
      by e a n part p v (by_continuation _ i h q c within enter x is) e' a' n' part' p' v'
          (by_continuation _ i' h' q' c' within' enter' x' is') sa sn sp sq =
          sym is ∙ same_opening x x' (ap (λ (y : Activation). y.context) sa) ∙ is'
      by e a n part p v (by_continuation _ i h q c within enter x is) e' a' n' part' p' v'
          (by_back c' h' _ _ _ back' x' is') sa sn sp sq = absurd
          (return_no_head _ (returned back') (there begins_block (entered_head within enter) sn))
      by e a n part p v (by_back c h _ _ _ back x is) e' a' n' part' p' v' (by_arc _ s' _ _ _ _ feeds' x' is') sa sn sp
          sq = absurd
          (return_unfed _ (returned back) (moved_feed feeds' (sym sn) (sym sp) (sym sq)))
      by e a n part p v (by_back c h _ _ _ back x is) e' a' n' part' p' v' (by_move u' s' k' _ _ _ _ feeds' x' is') sa
          sn sp sq = absurd
          (return_unfed _ (returned back) (moved_feed feeds' (sym sn) (sym sp) (sym sq)))
      by e a n part p v (by_back c h _ _ _ back x is) e' a' n' part' p' v'
          (by_send _ c' m' j' i' _ _ _ sends' o' x' is') sa sn sp sq = absurd
          (return_no_entry _ (returned back) (there is_entry (sent_entry sends') (sym sn)))
      by e a n part p v (by_back c h _ _ _ back x is) e' a' n' part' p' v'
          (by_enter _ i' h' q' c' within' enter' x' is') sa sn sp sq = absurd
          (return_no_head _ (returned back) (there begins_block (entered_head within' enter') (sym sn)))
      by e a n part p v (by_back c h _ _ _ back x is) e' a' n' part' p' v'
          (by_continuation _ i' h' q' c' within' enter' x' is') sa sn sp sq = absurd
          (return_no_head _ (returned back) (there begins_block (entered_head within' enter') (sym sn)))
      by e a n part p v (by_back c h _ _ _ back x is) e' a' n' part' p' v' (by_back c' h' _ _ _ back' x' is') sa sn sp
          sq =
          let one = returns_once back back' sa sn in
          sym is ∙ one_firing once (λ i. tag_in (at_iteration (one.0 i) 0) (number (one.1 i) 1)) x x' ∙ is'
      by e a n part p v (by_arc _ s _ _ _ _ feeds x is) e' a' n' part' p' v' (by_reply _ _ t' i' _ within' at' answer')
          sa sn sp sq =
          absurd (reply_unfed at' (moved_feed feeds sn sp sq))
      by e a n part p v (by_move u s k _ _ _ _ feeds x is) e' a' n' part' p' v'
          (by_reply _ _ t' i' _ within' at' answer') sa sn sp sq =
          absurd (reply_unfed at' (moved_feed feeds sn sp sq))
      by e a n part p v (by_send _ c m j i _ _ _ sends o x is) e' a' n' part' p' v'
          (by_reply _ _ t' i' _ within' at' answer') sa sn sp sq =
          absurd (not_there is_entry refl at' (sym sn) (sent_entry sends))
      by e a n part p v (by_enter _ i h q c within enter x is) e' a' n' part' p' v'
          (by_reply _ _ t' i' _ within' at' answer') sa sn sp sq =
          absurd (not_there begins_block refl at' (sym sn) (entered_head within enter))
      by e a n part p v (by_continuation _ i h q c within enter x is) e' a' n' part' p' v'
          (by_reply _ _ t' i' _ within' at' answer') sa sn sp sq =
          absurd (not_there begins_block refl at' (sym sn) (entered_head within enter))
      by e a n part p v (by_back c h _ _ _ back x is) e' a' n' part' p' v' (by_reply _ _ t' i' _ within' at' answer') sa
          sn sp sq =
          absurd (not_there is_return refl at' (sym sn) (returned back))
      by e a n part p v (by_reply _ _ t i _ within at answer) e' a' n' part' p' v' (by_arc _ s' _ _ _ _ feeds' x' is')
          sa sn sp sq =
          absurd (reply_unfed at (moved_feed feeds' (sym sn) (sym sp) (sym sq)))
      by e a n part p v (by_reply _ _ t i _ within at answer) e' a' n' part' p' v'
          (by_move u' s' k' _ _ _ _ feeds' x' is') sa sn sp sq =
          absurd (reply_unfed at (moved_feed feeds' (sym sn) (sym sp) (sym sq)))
      by e a n part p v (by_reply _ _ t i _ within at answer) e' a' n' part' p' v'
          (by_send _ c' m' j' i' _ _ _ sends' o' x' is') sa sn sp sq =
          absurd (not_there is_entry refl at sn (sent_entry sends'))
      by e a n part p v (by_reply _ _ t i _ within at answer) e' a' n' part' p' v'
          (by_enter _ i' h' q' c' within' enter' x' is') sa sn sp sq =
          absurd (not_there begins_block refl at sn (entered_head within' enter'))
      by e a n part p v (by_reply _ _ t i _ within at answer) e' a' n' part' p' v'
          (by_continuation _ i' h' q' c' within' enter' x' is') sa sn sp sq =
          absurd (not_there begins_block refl at sn (entered_head within' enter'))
      by e a n part p v (by_reply _ _ t i _ within at answer) e' a' n' part' p' v' (by_back c' h' _ _ _ back' x' is') sa
          sn sp sq =
          absurd (not_there is_return refl at sn (returned back'))
      by e a n part p v (by_reply _ _ t i _ within at answer) e' a' n' part' p' v'
          (by_reply _ _ t' i' _ within' at' answer') sa sn sp sq =
          replies_once (tag_in a' (number n' 2)) v v' e e'
          (subst (λ (z : Activation × ℕ). Replies run (tag_in z.0 (number z.1 2)) v e) {x = (a, n)}
          {y = (a', n')} (λ j. (sa j, sn j)) answer) answer'

  -- no arc that stays goes to where the start sends, and no block returns there
  started_at : {n part : ℕ} {p : Port} {w : Value} → StartsAt S number n part p w
      → (p ≡ Zero) × ((is_entry (node S.checked n) ≡ true) ⊎ (begins_block (node S.checked n) ≡ true))
  started_at signal = (refl, inr (ap begins_block main_is))
  started_at way_back = (refl, inr (ap begins_block main_is))
  started_at (input b v x) = (refl, inl (ap is_entry (input_is x).is))

  unfed : {a : Activation} {s : Origin} {n part : ℕ} {p : Port} {v w : Value} → StartsAt S number n part p w
      → Feeds S.checked s n part p →
      Speaks S number run a s v → ⊥
  unfed start feeds x =
      let z = started_at start in
      let feeds' = moved_feed feeds refl refl z.0 in
      elim z.1 [ inl entry ↦ arc_entry feeds' x entry | inr head ↦ arc_head feeds' x head ]

  no_return : {n part : ℕ} {p : Port} {w : Value} → StartsAt S number n part p w → is_return (node S.checked n) ≡ true
      → ⊥
  no_return start at =
      elim (started_at start).1 [ inl entry ↦ return_no_entry _ at entry | inr head ↦ return_no_head _ at head ]

  -- no way leads to where the start sends
  pub not_started : (e : Event) (a : Activation) (n part : ℕ) (p : Port) (v w : Value) → Way S number run e a n part p v
      → StartsAt S number n part p w → a ≡ main_activation → ⊥
  not_started e a n part p v w (by_arc _ s _ _ _ _ feeds x is) start main_one = unfed start feeds x
  not_started e a n part p v w (by_move u s k _ _ _ _ feeds x is) start main_one =
      later (moved_feed feeds refl refl (started_at start).0) x (ap (λ (z : Activation). z.iteration) main_one)
  not_started e a n part p v w (by_send _ c m j i _ _ _ sends o x is) start main_one =
      not_main S known g number numbered run apart o
      (ap (λ (z : Activation). z.context) main_one)
  not_started e a n part p v w (by_enter _ i h q c within enter x is) start main_one =
      not_main S known g number numbered run apart x
      (ap (λ (z : Activation). z.context) main_one)
  not_started e a n part p v w (by_continuation _ i h q c within enter x is) start main_one =
      not_main S known g number numbered run apart x (ap (λ (z : Activation). z.context) main_one)
  not_started e a n part p v w (by_back c h _ _ _ back x is) start main_one = no_return start (returned back)
  not_started e a n part p v w (by_reply _ _ t i _ within at answer) start main_one =
      elim (started_at start).1
      [ inl entry ↦ not_there is_entry refl at refl entry | inr head ↦ not_there begins_block refl at refl head ]
