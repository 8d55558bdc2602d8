-- The records say under which tag a context was entered.
use Rattle.std.proofs.Common.{◌≡◌, ◌⊎◌, inl, inr, ℕ, zero, suc, ◌-◌, ◌≤◌, Bool, true, false, ◌&&◌, cond, Option, Some}
use Rattle.std.proofs.Common.{None, List, [], ◌∷◌, ◌++◌}
use Rattle.std.proofs.Common.{length, length-append, map, slice_get, refl, sym, ◌∙◌, ap, subst, arith}
use Rattle.std.specs.Option.{option_map}
use Rattle.std.proofs.lemmas.List.{append_assoc, length-map}
use Rattle.id_instr.specs.declared.dests.Dest.{Dest}
use Rattle.id_instr.specs.declared.instr.Instr.{Instr}
use Rattle.id_instr.specs.declared.instr.Op.{Op}
use Rattle.id_instr.specs.declared.instr.Op.TheVariants as op
use Rattle.id_instr.specs.Graph.{Parts}
use Rattle.id_valid.specs.Roles.{op_at}
use Rattle.id_tag.specs.declared.Context.{Context}
use Rattle.id_tag.specs.declared.Tag.{Tag}
use Rattle.id_tag.specs.declared.Value.TheVariants as value
use Rattle.id_tag.specs.declared.Payload.{Payload}
use Rattle.id_tag.specs.declared.Payload.TheVariants.{Token}
use Rattle.id_tag.specs.declared.Value.{Value}
use Rattle.id_instr.specs.declared.dests.Port.{Port}
use Rattle.id_tag.specs.declared.Message.{Message}
use Rattle.id_tag.specs.Tags.{same_context}
use Rattle.id_tag.proofs.TagsLemmas.{one_from_same_tag, same_tag_laws}
use Rattle.id_ops.specs.declared.Operands.{Operands}
use Rattle.id_ops.specs.declared.Operands.TheVariants.{One}
use Rattle.id_ops.specs.declared.Fresh.{Fresh}
use Rattle.id_ops.specs.declared.Fired.{Fired}
use Rattle.id_ops.specs.declared.Fired.TheVariants as fires
use Rattle.id_ops.specs.Operators.{fired, fired_enter}
use Rattle.id_record.specs.Sends.{token_to}
use Rattle.id_record.specs.Records.{dests_at}
use Rattle.id_core.specs.Events.{EventView, tag_of}
use Rattle.id_core.specs.Steps.{sent}
use Rattle.id_core.specs.Machines.{World}
use Rattle.id_core.specs.Observed.{events_of}
use Rattle.id_observe.specs.Paths.{last_context, entered_by, entered, if_same, enter_of, enter_in}
use Rattle.id_observe.proofs.PathsLemmas.{enter_in-is, enter_in-nothing}
use Rattle.id_value.specs.declared.Constant.{Constant}
use Rattle.id_value.specs.List.{Among, AllDiffer}
use Rattle.id_value.proofs.AmongLemmas.{Among-map}
use Rattle.id_value.proofs.DifferLemmas.{AllDiffer-few}
use Rattle.id_value.proofs.PlacesLemmas.{slice_get-last}
use Rattle.id_runs.specs.Activations.{main_context}
use Rattle.id_runs.specs.Events.{Waits, Blocked, Fires, Event, Took, Looked, Wrote, FiresAs, fired_event, sent_on}
use Rattle.id_runs.specs.Events.{Enters}
use Rattle.id_runs.specs.Runs.{Reach}
use Rattle.id_runs.specs.Serials.{ContextsApart}
use Rattle.id_runs.proofs.Enters as firing
use Rattle.id_runs.proofs.RecordsOfRuns.{Shows, from_record, to_record, recorded, among_events}
use Rattle.id_runs.proofs.Serials.{contexts_apart}
use Rattle.id_runs.proofs.Waiting.{has_fired}

-- ---- tests of contexts

of_both : (b : Bool) → (b && true) ≡ true → b ≡ true
of_both true e = refl
of_both false e = cc

abbrev in_context : Context → Tag
in_context c = record { context = c; iteration = 0; instr = 0 }

same_itself : (c : Context) → same_context c c ≡ true
same_itself c = of_both (same_context c c) (same_tag_laws.refl (in_context c))

one_context : (c d : Context) → same_context c d ≡ true → c ≡ d
one_context c d e =
    ap (λ (t : Tag). t.context) (one_from_same_tag (in_context c) (in_context d) (ap (λ b. b && true) e))

-- ---- the last message

abbrev context_of : Payload → Context
context_of x = (tag_of x).context

-- the context of the last of these
abbrev last_of : List Payload → Option Context
last_of xs = option_map context_of (slice_get xs (length xs - 1))

said_at : (ms : List Message) (k : ℕ)
    → option_map (λ (m : Message). context_of m.payload) (slice_get ms k)
    ≡ option_map context_of (slice_get (map (λ (m : Message). m.payload) ms) k)
said_at [] k = refl
said_at (m ∷ ms) zero = refl
said_at (m ∷ ms) (suc k) = said_at ms k

last_said : (ms : List Message) → last_context ms ≡ last_of (map (λ (m : Message). m.payload) ms)
last_said ms =
    said_at ms (length ms - 1)
    ∙ ap (λ n. option_map context_of (slice_get (map (λ (m : Message). m.payload) ms) (n - 1)))
    (sym (length-map ms (λ (m : Message). m.payload)))

last_added : (xs : List Payload) (x : Payload) → last_of (xs ++ x ∷ []) ≡ Some (context_of x)
last_added xs x =
    let long : length (xs ++ x ∷ []) - 1 ≡ length xs = omega (arith, length-append xs (x ∷ [])) in
    ap (λ k. option_map context_of (slice_get (xs ++ x ∷ []) k)) long ∙ ap (option_map context_of) (slice_get-last x xs)

last_of_two : (xs : List Payload) (x y : Payload) → last_of (xs ++ x ∷ y ∷ []) ≡ Some (context_of y)
last_of_two xs x y = ap last_of (sym (append_assoc xs (x ∷ []) (y ∷ []))) ∙ last_added (xs ++ x ∷ []) y

-- an `enter` sends its last message into the context that it makes
last_started : (ds : List Dest) (b r : ℕ) (t : Tag) (c : Context)
    → last_of (sent (Some (op.Enter b r)) ds t (fires.Entered c)) ≡ Some c
last_started ds b r t c = last_of_two (map (token_to t (value.Context c)) ds) _ _

-- ---- what an operator enters

-- where nothing is sent nothing is entered
nothing_sent : (o : Option Op) (ms : List Message) → last_context ms ≡ None → entered_by o ms ≡ None
nothing_sent None ms e = refl
nothing_sent (Some (op.Const k)) ms e = refl
nothing_sent (Some (op.Unary o)) ms e = refl
nothing_sent (Some (op.Binary o)) ms e = refl
nothing_sent (Some (op.Merge k)) ms e = refl
nothing_sent (Some (op.Switch k)) ms e = refl
nothing_sent (Some (op.Back k)) ms e = refl
nothing_sent (Some (op.Enter b r)) ms e = e
nothing_sent (Some (op.Send k n)) ms e = refl
nothing_sent (Some (op.Next k)) ms e = refl
nothing_sent (Some (op.Reset k)) ms e = refl
nothing_sent (Some (op.Alloc nested)) ms e = refl
nothing_sent (Some (op.Address nested)) ms e = refl
nothing_sent (Some (op.Fetch nested r)) ms e = refl
nothing_sent (Some (op.Store nested)) ms e = refl

-- an `enter` makes a context or comes to nothing
enter_fires : (f : Fired) (next : Context) (ops : Operands) → f ≡ fired_enter next ops
    → (f ≡ fires.Nothing) ⊎ (f ≡ fires.Entered next)
enter_fires f next (One value.Signal) e = inr e
enter_fires f next _ e = inl e

-- another operator enters nothing
op_fires : (f : Fired) (o : Op) (t : Tag) (ops : Operands) (fresh : Fresh) (ms : List Message) → f ≡ fired o t ops fresh
    → (entered_by (Some o) ms ≡ None) ⊎ ((f ≡ fires.Nothing) ⊎ (f ≡ fires.Entered fresh.context))
op_fires f (op.Const k) t ops fresh ms e = inl refl
op_fires f (op.Unary o) t ops fresh ms e = inl refl
op_fires f (op.Binary o) t ops fresh ms e = inl refl
op_fires f (op.Merge k) t ops fresh ms e = inl refl
op_fires f (op.Switch k) t ops fresh ms e = inl refl
op_fires f (op.Back k) t ops fresh ms e = inl refl
op_fires f (op.Enter b r) t ops fresh ms e = inr (enter_fires f fresh.context ops e)
op_fires f (op.Send k n) t ops fresh ms e = inl refl
op_fires f (op.Next k) t ops fresh ms e = inl refl
op_fires f (op.Reset k) t ops fresh ms e = inl refl
op_fires f (op.Alloc nested) t ops fresh ms e = inl refl
op_fires f (op.Address nested) t ops fresh ms e = inl refl
op_fires f (op.Fetch nested r) t ops fresh ms e = inl refl
op_fires f (op.Store nested) t ops fresh ms e = inl refl

-- an event of the run has entered the context
pub record WasEntered (run : List Event) (o : Option Context) : Type 0 where
  pub context : Context
  pub is : o ≡ Some context
  pub tag : Tag
  pub fires : FiresAs run tag (fires.Entered context)

module _ (g : Parts) (vs : List Constant) (count : ℕ) (s : World) (run : List Event) (r : Reach g vs count s run) where
  abbrev all : List EventView
  all = events_of s.elements

  abbrev apart : ContextsApart run
  apart = contexts_apart g vs count s run r

  -- which context an event has entered
  entered_is : {t : Tag} {d : Context} (x : FiresAs run t (fires.Entered d)) (v : EventView) → Shows g v (fired_event x)
      → entered g v.message.payload v.outputs ≡ Some d
  entered_is {t} {d} x v shows =
      let y = has_fired g vs count s run r x in
      let e = firing.entered_by (y.instr).op t x.operands y.fresh d (sym y.is) in
      let op_is : op_at g t.instr ≡ Some (op.Enter e.block e.reply) =
      ap (option_map (λ (i : Instr). i.op)) y.at ∙ ap (λ o. Some o) e.is in
      let ds = dests_at g t.instr true in
      ap (λ z. entered g z v.outputs) shows.payload
      ∙ ap (λ o. entered_by o v.outputs) op_is
      ∙ last_said v.outputs
      ∙ ap last_of shows.outputs
      ∙ ap (λ o. last_of (sent o ds t (fires.Entered d))) op_is
      ∙ last_started ds e.block e.reply t d

  -- and under which tag
  tag_said : {t : Tag} {d : Context} (x : FiresAs run t (fires.Entered d)) (v : EventView) → Shows g v (fired_event x)
      → (c : Context) → enter_of g v c ≡ if_same t c (Some d)
  tag_said x v shows c = (λ i. if_same (tag_of (shows.payload i)) c (entered_is x v shows i))

  said_itself : {t : Tag} {c : Context} (x : FiresAs run t (fires.Entered c)) (v : EventView)
      → Shows g v (fired_event x) → enter_of g v c ≡ Some t
  said_itself {t} {c} x v shows = tag_said x v shows c ∙ ap (λ b. cond b (Some t) None) (same_itself c)

  silent : (v : EventView) (t : Tag) (p : Port) (u : Value) (c : Context) → v.message.payload ≡ Token t p u
      → map (λ (m : Message). m.payload) v.outputs ≡ [] → enter_of g v c ≡ None
  silent v t p u c is e =
      ap (λ x. if_same (tag_of x) c (entered g x v.outputs)) is
      ∙ ap (if_same t c) (nothing_sent (op_at g t.instr) v.outputs (last_said v.outputs ∙ ap last_of e))

  -- an event that has not entered the context does not say so
  said_none : (v : EventView) (h : Event) → Among h run → Shows g v h → (c : Context)
      → (enter_of g v c ≡ None) ⊎ Enters h c
  said_none v (Looked n d t a) among shows c =
      inl (ap (λ x. if_same (tag_of x) c (entered g x v.outputs)) shows.payload)
  said_none v (Wrote n d u w a) among shows c =
      inl (ap (λ x. if_same (tag_of x) c (entered g x v.outputs)) shows.payload)
  said_none v (Took n t p u Waits) among shows c = inl (silent v t p u c shows.payload shows.outputs)
  said_none v (Took n t p u Blocked) among shows c = inl (silent v t p u c shows.payload shows.outputs)
  said_none v (Took n t p u (Fires ops f)) among shows c =
      let x : FiresAs run t f = record { element = n; port = p; value = u; operands = ops; among = among } in
      let y = has_fired g vs count s run r x in
      elim (op_fires f (y.instr).op t ops y.fresh v.outputs y.is) [
        | inl none ↦
            inl (
            ap (λ x. if_same (tag_of x) c (entered g x v.outputs)) shows.payload
            ∙ ap (λ o. if_same t c (entered_by (option_map (λ (i : Instr). i.op) o) v.outputs)) y.at
            ∙ ap (if_same t c) none
            )
        | inr (inl nothing) ↦ inl (silent v t p u c shows.payload
            (shows.outputs ∙ ap (λ z. sent_on (op_at g t.instr) (dests_at g t.instr) t (Fires ops z)) nothing))
        | inr (inr is) ↦ made (y.fresh).context is
      ]
    where
      made : (d : Context) → f ≡ fires.Entered d → (enter_of g v c ≡ None) ⊎ (f ≡ fires.Entered c)
      made d is = go (same_context d c) refl
        where
          there : enter_of g v c ≡ if_same t c (Some d)
          there =
              tag_said (record {
                element = n;
                port = p;
                value = u;
                operands = ops;
                among =
                    subst (λ z. Among (Took n t p u (Fires ops z)) run) is among;
              }) v
              (subst (λ z. Shows g v (Took n t p u (Fires ops z))) is shows) c

          go : (b : Bool) → same_context d c ≡ b → (enter_of g v c ≡ None) ⊎ (f ≡ fires.Entered c)
          go true e = inr (is ∙ ap fires.Entered (one_context d c e))
          go false e = inl (there ∙ ap (λ b. cond b (Some t) None) e)

  -- a context that was entered, was so under that tag
  pub entered_under : {t : Tag} {c : Context} → FiresAs run t (fires.Entered c) → enter_in g all c ≡ Some t
  entered_under {t} {c} x =
      let z = to_record g vs count s run r (fired_event x) x.among in
      enter_in-is g all c z.0 t (among_events s z.0 z.1) (said_itself x z.0 z.2)
      (λ v h.
      let k = from_record g vs count s run r v (recorded s v h) in
      elim (said_none v k.0 k.1 k.2 c) [
        | inl none ↦ inl none
        | inr enters ↦ inr
            (said_itself x v (subst (Shows g v) (apart.one k.0 (fired_event x) k.1 x.among c enters refl) k.2))
      ])

  -- and main's was not entered
  pub main_unentered : enter_in g all main_context ≡ None
  main_unentered =
      enter_in-nothing g all main_context
      (λ v h.
      let k = from_record g vs count s run r v (recorded s v h) in
      elim (said_none v k.0 k.1 k.2 main_context)
      [ inl none ↦ none | inr enters ↦ absurd (apart.not_main k.0 k.1 enters) ])

  -- no more contexts were entered than there are events
  pub few_entered : (os : List (Option Context)) → AllDiffer os → ((o : Option Context) → Among o os → WasEntered run o)
      → length os ≤ length all
  few_entered os differ each =
      let f = λ (v : EventView). entered g v.message.payload v.outputs in
      subst (λ n. length os ≤ n) (length-map all f)
      (AllDiffer-few os (map f all) differ
      (λ o h.
      let x = each o h in
      let z = to_record g vs count s run r (fired_event x.fires) (x.fires).among in
      subst (λ w. Among w (map f all)) (entered_is x.fires z.0 z.2 ∙ sym x.is)
      (Among-map f z.0 all (among_events s z.0 z.1))))
