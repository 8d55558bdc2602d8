-- Lemmas on specs/Tellings.antt: in a record that leads to its state, tellings say of contexts, of structures and of
-- the answer what events say.
use Rattle.std.proofs.Common.{◌≡◌, ◌≢◌, ◌⊎◌, inl, inr, ℕ, zero, suc, ◌+◌, ◌-◌, Bool, true, false, Option, Some, None}
use Rattle.std.proofs.Common.{List, []}
use Rattle.std.proofs.Common.{◌∷◌, ◌++◌, get_or, length, map, take, refl, sym, ap, subst, ◌∙◌, append_assoc, append-nil}
use Rattle.std.proofs.Common.{arith}
use Rattle.std.specs.Prelude.{◌==◌, if◌then◌else◌, slice_get, option_map, option_and_then}
use Rattle.std.specs.List.{AllByRecursion, filter_map, cons_option}
use Rattle.std.specs.FinMap as cells
use Rattle.std.specs.HashMap.{get}
use Rattle.std.specs.Option.{option_map_or, option_or}
use Rattle.std.proofs.lemmas.List.Elements.{filter_map-append, recursion_from_All}
use Rattle.id_instr.specs.declared.instr.Instr.{Instr}
use Rattle.id_instr.specs.declared.instr.Op.{Op}
use Rattle.id_instr.specs.declared.instr.Op.TheVariants.{Alloc, Enter}
use Rattle.id_instr.specs.declared.dests.Port.TheVariants.{Zero}
use Rattle.id_instr.specs.Graph.{Parts}
use Rattle.id_valid.specs.Roles.{op_at}
use Rattle.id_tag.specs.declared.Context.{Context}
use Rattle.id_tag.specs.declared.Structure.{Structure}
use Rattle.id_tag.specs.declared.Tag.{Tag}
use Rattle.id_tag.specs.declared.Message.{Message}
use Rattle.id_tag.specs.declared.Payload.{Payload}
use Rattle.id_tag.specs.declared.Payload.TheVariants.{Token, Read, Write}
use Rattle.id_tag.specs.declared.Value.{Value}
use Rattle.id_tag.specs.declared.Value.TheVariants as value
use Rattle.id_tag.specs.Tags.{same_context, same_structure}
use Rattle.id_ops.specs.declared.Fired.{Fired}
use Rattle.id_ops.specs.declared.Fired.TheVariants as fired
use Rattle.id_ops.specs.Operators.{tag_within}
use Rattle.id_bank.specs.declared.cell.ReadAnswer.{ReadAnswer}
use Rattle.id_bank.specs.declared.cell.ReadAnswer.TheVariants.{Now, Deferred}
use Rattle.id_bank.specs.Cells.{read_answer}
use Rattle.id_source.specs.declared.Path.{Path}
use Rattle.id_source.specs.declared.Site.{Site}
use Rattle.id_step.specs.Replays.{ElementView, Replays, after_all, messages}
use Rattle.id_step.specs.Steps.{Outcome, State, answer_fired, event_of, fresh, next_numbers, next_stamp, outcome}
use Rattle.id_step.specs.Steps.{state_after}
use Rattle.id_step.proofs.TellingsLemmas.{Enters, alloc-number, enter-enters}
use Rattle.id_record.specs.declared.telling.Telling.{Telling}
use Rattle.id_record.specs.declared.telling.Told.{Told}
use Rattle.id_record.specs.declared.telling.Told.TheVariants.{Entered, Made, Came}
use Rattle.id_record.specs.Events.{EventView, tag_of, value_of}
use Rattle.id_record.specs.Sends.{beside, numbered, token_to}
use Rattle.id_record.specs.Tellings.{came_in, is_merged, is_number, is_value_merge, made_in, merged, tellings, told_in}
use Rattle.id_record.proofs.EachLemmas.{each-append, each-weaker}
use Rattle.id_observe.specs.declared.paths.Tables.{Tables}
use Rattle.id_observe.specs.Observed.{is_label_of, name_at, name_in, names_of}
use Rattle.id_observe.specs.Paths.{answers, brought, enter_in, entered, entered_by, if_made, if_same, is_alloc}
use Rattle.id_observe.specs.Paths.{is_enter}
use Rattle.id_observe.specs.Paths.{last_context, made, made_by, maker_in, makings_of}
use Rattle.id_observe.specs.Sourced.{source_value}
use Rattle.id_observe.specs.Tellings.{AddsOne, AddsTold, enter_by, entered_told, made_told, maker_by, making_told}
use Rattle.id_observe.specs.Tellings.{value_told}
use Rattle.id_observe.proofs.PathsLemmas.{TakesLast, enter_in-last, last-one, last-same, maker_in-last, or-assoc}
use Rattle.id_observe.proofs.SkippedLemmas.{brought-elsewhere, entered_by-none, made_by-none}
use Rattle.id_observe.proofs.WalksLemmas.{filter_map-next}

-- this is told of the tag
abbrev pub telling : Tag → Told → Telling
telling t w = record { tag = t; told = w }

-- ---- what an event tells

-- of a firing that is no `enter`'s no context is told
untold-enter : (g : Parts) (x : Payload) (f : Fired) → is_enter (op_at g (tag_of x).instr) ≡ false
    → option_and_then (entered_told g) (made_in x f) ≡ None
untold-enter g x (fired.Entered c) not = ap (λ b. if b then Some c else None) not
untold-enter g x (fired.Out (value.Structure s)) not = from (is_number (value_of x))
  where
    from : (b : Bool) → option_and_then (entered_told g) (if b then Some (telling (tag_of x) (Made s)) else None) ≡ None
    from true = refl
    from false = refl
untold-enter g x f not = refl

-- and of one that is no `alloc`'s no structure
untold-made : (g : Parts) (x : Payload) (f : Fired) → is_alloc (op_at g (tag_of x).instr) ≡ false
    → option_and_then (made_told g) (made_in x f) ≡ None
untold-made g x (fired.Entered c) not = refl
untold-made g x (fired.Out (value.Structure s)) not = from (is_number (value_of x))
  where
    from : (b : Bool) → option_and_then (made_told g) (if b then Some (telling (tag_of x) (Made s)) else None) ≡ None
    from true = ap (λ b. if b then Some s else None) not
    from false = refl
untold-made g x f not = refl

enter-is : (o : Option Op) → is_enter o ≡ true → (k : ℕ) × (r : ℕ) × (o ≡ Some (Enter k r))
enter-is (Some (Enter k r)) is = (k, r, refl)
enter-is o is = cc

alloc-is : (o : Option Op) → is_alloc o ≡ true → (nested : Bool) × (o ≡ Some (Alloc nested))
alloc-is (Some (Alloc nested)) is = (nested, refl)
alloc-is o is = cc

-- what is told of an `alloc`, where a structure goes out for a number
told-alloc : (g : Parts) (x : Payload) (f : Fired) (nested : Bool) → op_at g (tag_of x).instr ≡ Some (Alloc nested)
    → ((s : Structure) → f ≡ fired.Out (value.Structure s) → is_number (value_of x) ≡ true)
    → made_by (op_at g (tag_of x).instr) f ≡ option_and_then (made_told g) (made_in x f)
told-alloc g x f nested is number = ap (λ o. made_by o f) is ∙ from f number
  where
    from : (h : Fired) → ((s : Structure) → h ≡ fired.Out (value.Structure s) → is_number (value_of x) ≡ true)
        → made_by (Some (Alloc nested)) h ≡ option_and_then (made_told g) (made_in x h)
    from (fired.Entered c) each = refl
    from (fired.Out (value.Structure s)) each =
        sym (ap (λ b. option_and_then (made_told g) (if b then Some (telling (tag_of x) (Made s)) else None))
        (each s refl)
        ∙ ap (λ o. if is_alloc o then Some s else None) is)
    from h each = refl

-- the last of some messages that end by these two is for the second
last-behind : (m : Message) (ms : List Message) (c : Context) → last_context ms ≡ Some c
    → last_context (m ∷ ms) ≡ Some c
last-behind m [] c is = cc
last-behind m (x ∷ ms) c is =
    let next : length (m ∷ x ∷ ms) - 1 ≡ suc (length (x ∷ ms) - 1) = omega arith in
    ap (λ i. option_map (λ y. (tag_of y.payload).context) (slice_get (m ∷ x ∷ ms) i)) next ∙ is

last-two : (n position stamp k : ℕ) (xs : List Payload) (a b : Payload) →
    last_context (numbered n position stamp k (xs ++ a ∷ b ∷ [])) ≡ Some (tag_of b).context
last-two n position stamp k [] a b = refl
last-two n position stamp k (x ∷ xs) a b =
    last-behind _ (numbered n position stamp (k + 1) (xs ++ a ∷ b ∷ [])) (tag_of b).context
    (last-two n position stamp (k + 1) xs a b)

-- an event of a graph tells which context it entered, and which structure it made
pub record Tells (g : Parts) (e : EventView) : Type 0 where
  pub enters : entered g e.message.payload e.outputs
      ≡ option_and_then (entered_told g) (made_in e.message.payload e.fired)
  pub makes : made g e ≡ option_and_then (made_told g) (made_in e.message.payload e.fired)

enters-tell : (g : Parts) (n position stamp : ℕ) (s : State) (x : Payload) →
    entered g x (numbered n position stamp 0 (outcome g (next_numbers n s) s.waiting s.cells x).sends)
    ≡ option_and_then (entered_told g) (made_in x (outcome g (next_numbers n s) s.waiting s.cells x).fired)
enters-tell g n position stamp s (Token t p v) = from (is_enter (op_at g t.instr)) refl
  where
    o : Outcome
    o = outcome g (next_numbers n s) s.waiting s.cells (Token t p v)

    ms : List Message
    ms = numbered n position stamp 0 o.sends

    at : (k r : ℕ) → op_at g t.instr ≡ Some (Enter k r) → Enters t k r o →
        entered_by (op_at g t.instr) ms ≡ option_and_then (entered_told g) (made_in (Token t p v) o.fired)
    at k r is (inl (c, ds, fires, sends)) =
        ap (λ a. entered_by a ms) is ∙ ap (λ xs. last_context (numbered n position stamp 0 xs)) sends
        ∙ last-two n position stamp 0 (map (token_to t (value.Context c)) ds) (Token (tag_within c k) Zero value.Signal)
        (Token (tag_within c (k + 1)) Zero (value.Continuation (beside t r)))
        ∙ sym (ap (λ f. option_and_then (entered_told g) (made_in (Token t p v) f)) fires
        ∙ ap (λ a. if is_enter a then Some c else None) is)
    at k r is (inr (fires, sends)) =
        ap (λ a. entered_by a ms) is ∙ ap (λ xs. last_context (numbered n position stamp 0 xs)) sends
        ∙ sym (ap (λ f. option_and_then (entered_told g) (made_in (Token t p v) f)) fires)

    from : (b : Bool) → is_enter (op_at g t.instr) ≡ b
        → entered_by (op_at g t.instr) ms ≡ option_and_then (entered_told g) (made_in (Token t p v) o.fired)
    from true is =
        let enter = enter-is (op_at g t.instr) is in
        at enter.0 enter.1 enter.2 (enter-enters g (next_numbers n s) s.waiting s.cells t p v enter.0 enter.1 enter.2)
    from false is = entered_by-none (op_at g t.instr) ms is ∙ sym (untold-enter g (Token t p v) o.fired is)
enters-tell g n position stamp s (Read c t) = from (read_answer (cells.get s.cells c))
  where
    from : (a : ReadAnswer) → None ≡ option_and_then (entered_told g) (made_in (Read c t) (answer_fired t a))
    from (Now v) = refl
    from Deferred = refl
enters-tell g n position stamp s (Write c v t) = refl

makes-tell : (g : Parts) (n : ℕ) (s : State) (x : Payload) →
    made_by (op_at g (tag_of x).instr) (outcome g (next_numbers n s) s.waiting s.cells x).fired
    ≡ option_and_then (made_told g) (made_in x (outcome g (next_numbers n s) s.waiting s.cells x).fired)
makes-tell g n s (Token t p v) = from (is_alloc (op_at g t.instr)) refl
  where
    f : Fired
    f = (outcome g (next_numbers n s) s.waiting s.cells (Token t p v)).fired

    from : (b : Bool) → is_alloc (op_at g t.instr) ≡ b
        → made_by (op_at g t.instr) f ≡ option_and_then (made_told g) (made_in (Token t p v) f)
    from true is =
        let alloc = alloc-is (op_at g t.instr) is in
        told-alloc g (Token t p v) f alloc.0 alloc.1
        (alloc-number g (next_numbers n s) s.waiting s.cells t p v alloc.0 alloc.1)
    from false is = made_by-none (op_at g t.instr) f is ∙ sym (untold-made g (Token t p v) f is)
makes-tell g n s (Read c t) = from (op_at g t.instr) (read_answer (cells.get s.cells c))
  where
    from : (o : Option Op) (a : ReadAnswer)
        → made_by o (answer_fired t a) ≡ option_and_then (made_told g) (made_in (Read c t) (answer_fired t a))
    from (Some (Alloc nested)) (Now v) = refl
    from (Some (Alloc nested)) Deferred = refl
    from o (Now v) = refl
    from o Deferred = refl
makes-tell g n s (Write c v t) = from (op_at g t.instr)
  where
    from : (o : Option Op) → made_by o fired.Nothing ≡ None
    from (Some (Alloc nested)) = refl
    from o = refl

Tells-event : (g : Parts) (n : ℕ) (s : State) (m : Message) → Tells g (event_of g n s m)
Tells-event g n s m = record {
  enters = enters-tell g n (length s.events) (next_stamp s m) s m.payload;
  makes = makes-tell g n s m.payload;
}

Tells-all : (g : Parts) (n : ℕ) (s : State) (ms : List Message) → AllByRecursion (Tells g) s.events
    → AllByRecursion (Tells g) (after_all g n s ms).events
Tells-all g n s [] old = old
Tells-all g n s (m ∷ ms) old =
    Tells-all g n (state_after g n s m) ms
    (each-append (Tells g) s.events (event_of g n s m ∷ []) old (Tells-event g n s m, tt))

Tells-from : (e : ElementView) → Replays e → AllByRecursion (Tells e.graph) e.state.events
Tells-from e replays = subst (λ s. AllByRecursion (Tells e.graph) s.events) (sym replays.state)
    (Tells-all e.graph e.number fresh (messages e.state.events) tt)

-- ---- tellings of one event

-- a token for instruction 0 tells what came, and nothing else
came-cases : (x : Payload) → (came_in x ≡ None) ⊎ ((v : Value) × (came_in x ≡ Some (telling (tag_of x) (Came v))))
came-cases (Token t p v) = from (t.instr == 0)
  where
    from : (b : Bool) → ((if b then Some (telling t (Came v)) else None) ≡ None)
        ⊎ ((w : Value) × ((if b then Some (telling t (Came v)) else None) ≡ Some (telling t (Came w))))
    from true = inr (v, refl)
    from false = inl refl
came-cases (Read c t) = inl refl
came-cases (Write c v t) = inl refl

-- what a firing tells is told of the tag of its message
made-cases : (x : Payload) (f : Fired)
    → (made_in x f ≡ None) ⊎ ((t : Telling) × (made_in x f ≡ Some t) × (t.tag ≡ tag_of x))
made-cases x (fired.Entered c) = inr (telling (tag_of x) (Entered c), refl, refl)
made-cases x (fired.Out (value.Structure s)) = from (is_number (value_of x))
  where
    from : (b : Bool) → ((if b then Some (telling (tag_of x) (Made s)) else None) ≡ None)
        ⊎ ((t : Telling) × ((if b then Some (telling (tag_of x) (Made s)) else None) ≡ Some t) × (t.tag ≡ tag_of x))
    from true = inr (telling (tag_of x) (Made s), refl, refl)
    from false = inl refl
made-cases x f = inl refl

-- so what an event tells of the tag of its message is what its firing tells, where what came tells nothing
told-gives : {X Y : Type 0} (w : Telling → Option X) (k : Tag → Option X → Option Y) → ((t : Tag) → k t None ≡ None)
    → ((t : Tag) (v : Value) → w (telling t (Came v)) ≡ None) → (x : Payload) (f : Fired)
    → filter_map (λ t. k t.tag (w t)) (told_in x f) ≡ cons_option (k (tag_of x) (option_and_then w (made_in x f))) []
told-gives {Y = Y} w k none came x f = elim (came-cases x) [
  | inl not ↦ ap (λ o. filter_map h (cons_option o made)) not ∙ of_made
  | inr (v, is) ↦
      ap (λ o. filter_map h (cons_option o made)) is
      ∙ ap (λ o. cons_option o (filter_map h made)) (ap (k (tag_of x)) (came (tag_of x) v) ∙ none (tag_of x)) ∙ of_made
]
  where
    h : Telling → Option Y
    h t = k t.tag (w t)

    made : List Telling
    made = cons_option (made_in x f) []

    of_made : filter_map h made ≡ cons_option (k (tag_of x) (option_and_then w (made_in x f))) []
    of_made = elim (made-cases x f) [
      | inl not ↦
          ap (λ o. filter_map h (cons_option o [])) not
          ∙ sym (ap (λ o. cons_option o []) (ap (λ o. k (tag_of x) (option_and_then w o)) not ∙ none (tag_of x)))
      | inr (t, is, tag) ↦
          ap (λ o. filter_map h (cons_option o [])) is ∙ ap (λ u. cons_option (k u (w t)) []) tag
          ∙ sym (ap (λ o. cons_option (k (tag_of x) (option_and_then w o)) []) is)
    ]

-- what a firing tells is no answer
values-made : (x : Payload) (f : Fired) → filter_map value_told (cons_option (made_in x f) []) ≡ []
values-made x (fired.Entered c) = refl
values-made x (fired.Out (value.Structure s)) = from (is_number (value_of x))
  where
    from : (b : Bool)
        → filter_map value_told (cons_option (if b then Some (telling (tag_of x) (Made s)) else None) []) ≡ []
    from true = refl
    from false = refl
values-made x f = refl

-- so what an event tells of the answer is what its message brought
values-told : (x : Payload) (f : Fired) → filter_map value_told (told_in x f) ≡ cons_option (brought x) []
values-told (Token t p v) f = from (t.instr == 0) refl
  where
    elsewhere : (n : ℕ) → (n == 0) ≡ false → n ≢ 0
    elsewhere zero is = cc
    elsewhere (suc n) is = λ first. absurd (omega (arith, first))

    from : (b : Bool) → (t.instr == 0) ≡ b
        → filter_map value_told
        (cons_option (if b then Some (telling t (Came v)) else None) (cons_option (made_in (Token t p v) f) []))
        ≡ cons_option (brought (Token t p v)) []
    from true is = ap (cons_option (brought (Token t p v))) (values-made (Token t p v) f)
    from false is =
        values-made (Token t p v) f
        ∙ sym (ap (λ o. cons_option o []) (brought-elsewhere (Token t p v) (elsewhere t.instr is)))
values-told (Read c t) f = values-made (Read c t) f
values-told (Write c v t) f = values-made (Write c v t) f

-- ---- tellings of all events

-- the last telling that tells of the context counts, and the last that tells of the structure
enter_by-last : (g : Parts) (c : Context) → TakesLast (λ ts. enter_by g ts c) (λ t. if_same t.tag c (entered_told g t))
unfolding enter_by
enter_by-last g c = record { none = refl; more = λ t ts. refl }

maker_by-last : (g : Parts) (s : Structure) → TakesLast (λ ts. maker_by g ts s) (λ t. if_made t.tag s (made_told g t))
unfolding maker_by
maker_by-last g s = record { none = refl; more = λ t ts. refl }

-- what tellings give is what events do, where it is so of each event
told-all : {Y : Type 0} (h : Telling → Option Y) (d : EventView → Option Y) (es : List EventView)
    → AllByRecursion (λ e. filter_map h (told_in e.message.payload e.fired) ≡ cons_option (d e) []) es
    → filter_map h (tellings es) ≡ filter_map d es
told-all h d [] all = refl
told-all {Y = Y} h d (e ∷ es) all =
    filter_map-append h (told_in e.message.payload e.fired) (tellings es)
    ∙ ap (λ ys. ys ++ filter_map h (tellings es)) all.0
    ∙ one (d e) ∙ ap (cons_option (d e)) (told-all h d es all.1)
  where
    one : (o : Option Y) → cons_option o [] ++ filter_map h (tellings es) ≡ cons_option o (filter_map h (tellings es))
    one None = refl
    one (Some y) = refl

tells-all : {X Y : Type 0} (e : ElementView) (w : Telling → Option X) (k : Tag → Option X → Option Y) (d : EventView
    → Option X) → ((t : Tag) → k t None ≡ None) → ((t : Tag) (v : Value) → w (telling t (Came v)) ≡ None)
    → ((v : EventView) → Tells e.graph v → d v ≡ option_and_then w (made_in v.message.payload v.fired)) → Replays e
    → filter_map (λ t. k t.tag (w t)) (tellings e.state.events)
    ≡ filter_map (λ v. k (tag_of v.message.payload) (d v)) e.state.events
tells-all e w k d none came tell replays =
    told-all (λ t. k t.tag (w t)) (λ v. k (tag_of v.message.payload) (d v)) e.state.events
    (each-weaker (Tells e.graph) _
    (λ v tells. told-gives w k none came v.message.payload v.fired
    ∙ ap (λ o. cons_option (k (tag_of v.message.payload) o) []) (sym (tell v tells)))
    e.state.events (Tells-from e replays))

-- what the events of an element tell is what they do
pub enters-told : (e : ElementView) (c : Context) → Replays e
    → enter_by e.graph (tellings e.state.events) c ≡ enter_in e.graph e.state.events c
enters-told e c replays =
    last-same (enter_by-last e.graph c) (enter_in-last e.graph c) (tellings e.state.events) e.state.events
    (tells-all e (entered_told e.graph) (λ t o. if_same t c o) (λ v. entered e.graph v.message.payload v.outputs)
    (λ t. refl) (λ t v. refl)
    (λ v tells. tells.enters) replays)

pub makers-told : (e : ElementView) (s : Structure) → Replays e
    → maker_by e.graph (tellings e.state.events) s ≡ maker_in e.graph e.state.events s
makers-told e s replays =
    last-same (maker_by-last e.graph s) (maker_in-last e.graph s) (tellings e.state.events) e.state.events
    (tells-all e (made_told e.graph) (λ t o. if_made t s o) (made e.graph) (λ t. refl) (λ t v. refl)
    (λ v tells. tells.makes) replays)

pub makings-of_told : (e : ElementView) → Replays e
    → filter_map (making_told e.graph) (tellings e.state.events) ≡ makings_of e.graph e.state.events
makings-of_told e replays =
    tells-all e (made_told e.graph) (λ t o. option_map (λ s. record { structure = s; tag = t }) o) (made e.graph)
    (λ t. refl) (λ t v. refl)
    (λ v tells. tells.makes) replays

pub answers-told : (es : List EventView) → filter_map value_told (tellings es) ≡ answers es
answers-told es =
    told-all value_told (λ e. brought e.message.payload) es
    (recursion_from_All (λ e. filter_map value_told (told_in e.message.payload e.fired)
    ≡ cons_option (brought e.message.payload) []) es
    (λ k e within. values-told (get_or es k e).message.payload (get_or es k e).fired))

-- ---- what came to merges

label-merged : (g : Parts) (o : Option Instr) → option_map_or (λ i. is_value_merge i.op) o false ≡ false
    → is_label_of g o ≡ false
label-merged g None not = refl
label-merged g (Some i) not = rw not

-- what did not has no name
name_in-none : (g : Parts) (path : Tag → Path) (name : Structure → Site) (x : Payload) → is_merged g x ≡ false
    → name_in g path name x ≡ None
name_in-none g path name (Token t p v) not =
    ap (λ b. if b then name_at g t.instr (path t) (source_value name v)
    else None) (label-merged g (slice_get g.instrs t.instr) not)
name_in-none g path name (Read c t) not = refl
name_in-none g path name (Write c v t) not = refl

-- so what did has the names of all events
pub names-merged : (g : Parts) (path : Tag → Path) (name : Structure → Site) (es : List EventView) →
    filter_map (name_in g path name) (merged g es) ≡ names_of g path name es
names-merged g path name [] = refl
names-merged g path name (e ∷ es) = from (names-merged g path name es) (is_merged g e.message.payload) refl
  where
    x : Payload
    x = e.message.payload

    from : filter_map (name_in g path name) (merged g es) ≡ names_of g path name es → (b : Bool) → is_merged g x ≡ b
        → filter_map (name_in g path name) (cons_option (if b then Some x else None) (merged g es))
        ≡ cons_option (name_in g path name x) (names_of g path name es)
    from rest true is = ap (cons_option (name_in g path name x)) rest
    from rest false is = rest ∙ sym (ap (λ o. cons_option o (names_of g path name es)) (name_in-none g path name x is))

-- ---- tables

-- nothing is told yet
pub AddsTold-none : (g : Parts) (old : Tables) → AddsTold g [] old old
AddsTold-none g old = record {
  enters = λ c. sym (ap (λ o. option_or o (get same_context old.enters c)) (enter_by-last g c).none);
  makers = λ s. sym (ap (λ o. option_or o (get same_structure old.makers s)) (maker_by-last g s).none);
  makings = sym (append-nil old.makings.items);
  values = sym (append-nil old.values.items);
}

-- one more telling in a map of the tables
found-next : {Y : Type 0} {walk : List Telling → Option Y} {h : Telling → Option Y} → TakesLast walk h
    → (ts : List Telling) (i : ℕ) (t : Telling)
    (old mid new : Option Y) → slice_get ts i ≡ Some t → mid ≡ option_or (walk (take i ts)) old
    → new ≡ option_or (h t) mid
    → new ≡ option_or (walk (take (i + 1) ts)) old
found-next {walk = walk} {h = h} takes ts i t old mid new at told one =
    one ∙ ap (option_or (h t)) told ∙ sym (or-assoc (h t) (walk (take i ts)) old)
    ∙ ap (λ o. option_or o old) (sym (last-one takes ts i t at))

-- and in a list of theirs
items-next : {Y : Type 0} (h : Telling → Option Y) (ts : List Telling) (i : ℕ) (t : Telling) (old mid new : List Y)
    → slice_get ts i ≡ Some t → mid ≡ old ++ filter_map h (take i ts) → new ≡ mid ++ cons_option (h t) []
    → new ≡ old ++ filter_map h (take (i + 1) ts)
items-next h ts i t old mid new at told one =
    one ∙ ap (λ ys. ys ++ cons_option (h t) []) told
    ∙ append_assoc old (filter_map h (take i ts)) (cons_option (h t) [])
    ∙ ap (λ ys. old ++ ys) (sym (filter_map-next h ts i t at))

-- what is told next comes after what was told
pub AddsTold-next : (g : Parts) (ts : List Telling) (i : ℕ) (t : Telling) (old mid new : Tables)
    → slice_get ts i ≡ Some t → AddsTold g (take i ts) old mid → AddsOne g t mid new
    → AddsTold g (take (i + 1) ts) old new
AddsTold-next g ts i t old mid new at told one = record {
  enters = λ c. found-next (enter_by-last g c) ts i t _ _ _ at (told.enters c) (one.enters c);
  makers = λ s. found-next (maker_by-last g s) ts i t _ _ _ at (told.makers s) (one.makers s);
  makings = items-next (making_told g) ts i t _ _ _ at told.makings one.makings;
  values = items-next value_told ts i t _ _ _ at told.values one.values;
}
