-- *Serials*: each element numbers its contexts and its structures on, so each of a run is made by one event.
use Rattle.std.proofs.Common.{◌≡◌, inl, inr, ℕ, ℤ, ◌+◌, ◌≤◌, Bool, true, false, cond, Option, Some, None, List, set}
use Rattle.std.proofs.Common.{slice_get, refl, sym, ◌∙◌, ap, subst, arith}
use Rattle.std.specs.Prelude.{option_map}
use Rattle.std.proofs.lemmas.Bool.{cases_eq}
use Rattle.id_instr.specs.declared.dests.Port.{Port}
use Rattle.id_instr.specs.declared.instr.Op.{Op}
use Rattle.id_instr.specs.declared.instr.Op.TheVariants.{Alloc}
use Rattle.id_instr.specs.declared.instr.Instr.{Instr}
use Rattle.id_instr.specs.Graph.{Parts}
use Rattle.id_value.specs.declared.FaultKind.TheVariants.{BadBounds}
use Rattle.id_value.specs.Bounds.{are_good}
use Rattle.id_valid.specs.Roles.{op_at}
use Rattle.id_tag.specs.declared.Context.{Context}
use Rattle.id_tag.specs.declared.Structure.{Structure}
use Rattle.id_tag.specs.declared.Tag.{Tag}
use Rattle.id_tag.specs.declared.Value.{Value}
use Rattle.id_tag.specs.declared.Value.TheVariants as value
use Rattle.id_tag.specs.declared.Payload.{Payload}
use Rattle.id_tag.specs.declared.Payload.TheVariants.{Token, Read, Write}
use Rattle.id_tag.specs.declared.Message.{Message}
use Rattle.id_tag.specs.Routes.{route_of}
use Rattle.id_ops.specs.declared.Fresh.{Fresh}
use Rattle.id_ops.specs.declared.Operands.{Operands}
use Rattle.id_ops.specs.declared.Operands.TheVariants as operands
use Rattle.id_ops.specs.declared.Fired.TheVariants as fires
use Rattle.id_ops.specs.Operators.{fired, fired_enter, fired_alloc, structure_in}
use Rattle.id_match.specs.Waiting.{Store, offer_answer}
use Rattle.id_match.specs.declared.meeting.Offered.{Offered}
use Rattle.id_match.specs.declared.meeting.Offered.TheVariants.{Kept, Pair, Taken}
use Rattle.id_instr.specs.Ports.{two_ports}
use Rattle.id_step.specs.Steps.{State, made_by, next_numbers, state_after}
use Rattle.id_core.specs.Machines.{World, taken_from}
use Rattle.id_value.specs.declared.Constant.{Constant}
use Rattle.id_value.specs.List.{Among}
use Rattle.id_value.proofs.PlacesLemmas.{set-here, set-elsewhere}
use Rattle.id_runs.specs.Activations.{main_context}
use Rattle.id_runs.specs.Events.{Arrival, Waits, Blocked, Fires, Event, Took, Looked, Wrote, FiresAs, fired_event}
use Rattle.id_runs.specs.Events.{Enters, Makes}
use Rattle.id_runs.specs.Runs.{fires_on, offered_to, arrival_at, happens, Reach, begin, deliver}
use Rattle.id_runs.specs.Serials.{ContextsApart, StructuresApart, Serials}
use Rattle.id_runs.proofs.Events.{made_at, allocated_in, allocated_at, outcome_made, outcome_allocated}
use Rattle.id_runs.proofs.Enters.{entered_by}

-- ---- what is made has the element's next number

next_entered : (o : Operands) (next : Fresh) (c : Context) → fired_enter next.context o ≡ fires.Entered c
    → c ≡ next.context
next_entered (operands.One value.Signal) next c e = cc
next_entered _ next c e = cc

entered_next : (o : Op) (t : Tag) (ops : Operands) (next : Fresh) (c : Context) → fired o t ops next ≡ fires.Entered c
    → c ≡ next.context
entered_next o t ops next c e =
    next_entered ops next c (subst (λ z. fired z t ops next ≡ fires.Entered c) (entered_by o t ops next c e).is e)

-- the numbers of a structure are the next ones, and it is nested where this is true
abbrev pub IsNext : Bool → Fresh → Structure → Type 0
IsNext nested next s = (s.element ≡ next.element) × (s.serial ≡ next.structure) × (s.nested ≡ nested)

structure_next : (nested : Bool) (next : Fresh) (lo hi : ℤ) (s : Structure)
    → structure_in nested next lo hi ≡ fires.Out (value.Structure s) →
    IsNext nested next s
structure_next nested next lo hi s e = by (are_good lo hi) e
  where
    by : (b : Bool)
        → cond b (fires.Out
        (value.Structure (record {
          element = next.element;
          serial = next.structure;
          low = lo;
          high = hi;
          nested =
              nested;
        })))
        (fires.Failed BadBounds) ≡ fires.Out (value.Structure s)
        → IsNext nested next s
    by true e =
        let is : (record { element = next.element; serial = next.structure; low = lo; high = hi; nested = nested })
        ≡ s = cc in (
          sym (ap (λ (x : Structure). x.element) is),
          sym (ap (λ (x : Structure). x.serial) is),
          sym (ap (λ (x : Structure). x.nested) is),
        )
    by false e = cc

pub allocated_next : (nested : Bool) (ops : Operands) (next : Fresh) (s : Structure)
    → fired_alloc nested next ops ≡ fires.Out (value.Structure s) →
    IsNext nested next s
allocated_next nested (operands.Two (value.Int lo) (value.Int hi)) next s e = structure_next nested next lo hi s e
allocated_next nested _ next s e = cc

-- an arrival that enters a block does so in the next context
abbrev EntersBy : Arrival → Context → Type 0
EntersBy a c = (ops : Operands) × (a ≡ Fires ops (fires.Entered c))

by_offer : (next : Fresh) (i : Instr) (t : Tag) (a : Offered) (c : Context) → EntersBy (offered_to next i t a) c
    → c ≡ next.context
by_offer next i t Kept c h = let e = h.1 in cc
by_offer next i t (Pair v w) c h =
    let e : fires_on next i t (operands.Two v w) ≡ Fires h.0 (fires.Entered c) = h.1 in
    let f : fired i.op t (operands.Two v w) next ≡ fires.Entered c = cc in
    entered_next i.op t (operands.Two v w) next c f
by_offer next i t Taken c h = let e = h.1 in cc

-- what an arrival at an `alloc` gives has the next numbers
abbrev GivesBy : Arrival → Structure → Type 0
GivesBy a s = (ops : Operands) × (a ≡ Fires ops (fires.Out (value.Structure s)))

fires_next : (next : Fresh) (i : Instr) (t : Tag) (ops : Operands) (s : Structure) → i.op ≡ Alloc s.nested
    → GivesBy (fires_on next i t ops) s → IsNext s.nested next s
fires_next next i t ops s is h =
    let e : fires_on next i t ops ≡ Fires h.0 (fires.Out (value.Structure s)) = h.1 in
    let f : fired i.op t ops next ≡ fires.Out (value.Structure s) = cc in
    allocated_next s.nested ops next s (ap (λ o. fired o t ops next) (sym is) ∙ f)

offer_next : (next : Fresh) (i : Instr) (t : Tag) (a : Offered) (s : Structure) → i.op ≡ Alloc s.nested
    → GivesBy (offered_to next i t a) s → IsNext s.nested next s
offer_next next i t Kept s is h = let e = h.1 in cc
offer_next next i t (Pair v w) s is h = fires_next next i t (operands.Two v w) s is h
offer_next next i t Taken s is h = let e = h.1 in cc

ports_next : (next : Fresh) (i : Instr) (t : Tag) (a : Offered) (v : Value) (s : Structure) (b : Bool)
    → i.op ≡ Alloc s.nested → GivesBy (cond b (offered_to next i t a) (fires_on next i t (operands.One v))) s
    → IsNext s.nested next s
ports_next next i t a v s true is h = offer_next next i t a s is h
ports_next next i t a v s false is h = fires_next next i t (operands.One v) s is h

arrival_next : (next : Fresh) (o : Option Instr) (w : Store) (t : Tag) (p : Port) (v : Value) (s : Structure)
    → option_map (λ (i : Instr). i.op) o ≡ Some (Alloc s.nested) → GivesBy (arrival_at next o w t p v) s
    → IsNext s.nested next s
arrival_next next None w t p v s is h = let e = h.1 in cc
arrival_next next (Some i) w t p v s is h = ports_next next i t (offer_answer w t p v) v s (two_ports i.op) (cc) h

by_ports : (next : Fresh) (i : Instr) (t : Tag) (a : Offered) (v : Value) (c : Context) (b : Bool) →
    EntersBy (cond b (offered_to next i t a) (fires_on next i t (operands.One v))) c
    → c ≡ next.context
by_ports next i t a v c true h = by_offer next i t a c h
by_ports next i t a v c false h =
    let e : fires_on next i t (operands.One v) ≡ Fires h.0 (fires.Entered c) = h.1 in
    let f : fired i.op t (operands.One v) next ≡ fires.Entered c = cc in
    entered_next i.op t (operands.One v) next c f

by_arrival : (next : Fresh) (o : Option Instr) (w : Store) (t : Tag) (p : Port) (v : Value) (c : Context)
    → EntersBy (arrival_at next o w t p v) c →
    c ≡ next.context
by_arrival next None w t p v c h = let e = h.1 in cc
by_arrival next (Some i) w t p v c h = by_ports next i t (offer_answer w t p v) v c (two_ports i.op) h

-- what an event enters it enters by its arrival, and it takes one context for it
enters_by : (n : ℕ) (t : Tag) (p : Port) (v : Value) (a : Arrival) (c : Context) → Enters (Took n t p v a) c
    → EntersBy a c
enters_by n t p v Waits c h = absurd h
enters_by n t p v Blocked c h = absurd h
enters_by n t p v (Fires ops f) c h = (ops, ap (Fires ops) h)

takes_one : (e : Event) (c : Context) → Enters e c → made_at e ≡ 1
takes_one (Took n t p v Waits) c h = absurd h
takes_one (Took n t p v Blocked) c h = absurd h
takes_one (Took n t p v (Fires ops f)) c h = ap made_by h
takes_one (Looked n d t a) c h = absurd h
takes_one (Wrote n d v w a) c h = absurd h

pub enters_next : (g : Parts) (n : ℕ) (e : State) (x : Payload) (c : Context) → Enters (happens g n e x) c
    → c ≡ (next_numbers n e).context
enters_next g n e (Token t p v) c h =
    by_arrival (next_numbers n e) (slice_get g.instrs t.instr) e.waiting t p v c (enters_by n t p v _ c h)
enters_next g n e (Read d t) c h = absurd h
enters_next g n e (Write d v w) c h = absurd h

-- and a structure that an event makes takes one
makes_by : (g : Parts) (n : ℕ) (t : Tag) (p : Port) (v : Value) (a : Arrival) (s : Structure)
    → Makes g (Took n t p v a) s →
    (op_at g t.instr ≡ Some (Alloc s.nested)) × GivesBy a s
makes_by g n t p v Waits s h = absurd h
makes_by g n t p v Blocked s h = absurd h
makes_by g n t p v (Fires ops f) s h = (h.0, (ops, ap (Fires ops) h.1))

takes_structure : (g : Parts) (e : Event) (s : Structure) → Makes g e s → allocated_at g e ≡ 1
takes_structure g (Took n t p v Waits) s h = absurd h
takes_structure g (Took n t p v Blocked) s h = absurd h
takes_structure g (Took n t p v (Fires ops f)) s h = (λ j. allocated_in (h.0 j) (Fires ops (h.1 j)))
takes_structure g (Looked n c t a) s h = absurd h
takes_structure g (Wrote n c v w a) s h = absurd h

makes_next : (g : Parts) (n : ℕ) (e : State) (x : Payload) (s : Structure) → Makes g (happens g n e x) s
    → IsNext s.nested (next_numbers n e) s
makes_next g n e (Token t p v) s h =
    let z = makes_by g n t p v _ s h in
    arrival_next (next_numbers n e) (slice_get g.instrs t.instr) e.waiting t p v s z.0 z.1
makes_next g n e (Read c t) s h = absurd h
makes_next g n e (Write c v w) s h = absurd h

-- ---- each context that was entered is numbered by its element

-- the element of the context has given its number
pub record Given (s : World) (c : Context) : Type 0 where
  pub state : State
  pub at : slice_get s.elements c.element ≡ Some state
  pub from_one : 1 ≤ c.serial
  pub counted : c.serial ≤ state.contexts

module _ (g : Parts) (vs : List Constant) (count : ℕ) where
  -- a number that was given was given after one more event
  given_later : (k : ℕ) (s : World) (m : Message) (n : ℕ) (e : State) (c : Context) → slice_get s.elements n ≡ Some e
      → Given s c →
      Given (taken_from g k s m n e) c
  given_later k s m n e c at w =
      let e' = state_after g n e m in
      elim (cases_eq c.element n) [
        | inl here ↦
            let both : Some w.state ≡ Some e = sym w.at ∙ ap (slice_get s.elements) here ∙ at in
            let one : w.state ≡ e = cc in
            let known : c.serial ≤ e.contexts = subst (λ (y : State). c.serial ≤ y.contexts) one w.counted in
            record {
              state = e';
              at = ap (slice_get (set s.elements n e')) here ∙ set-here s.elements n e' e at;
              from_one = w.from_one;
              counted = omega (arith, known);
            }
        | inr other ↦ record {
          state = w.state;
          at = set-elsewhere s.elements n c.element e' other ∙ w.at;
          from_one =
              w.from_one;
          counted = w.counted;
        }
      ]

  -- the context of the newest event has the next number
  given_now : (k : ℕ) (s : World) (m : Message) (n : ℕ) (e : State) (c : Context) → slice_get s.elements n ≡ Some e
      → Enters (happens g n e m.payload) c → Given (taken_from g k s m n e) c
  given_now k s m n e c at enters =
      let e' = state_after g n e m in
      let is = enters_next g n e m.payload c enters in
      let made = outcome_made g n e m.payload ∙ takes_one (happens g n e m.payload) c enters in
      let element_is : c.element ≡ n = ap (λ (x : Context). x.element) is in
      let serial_is : c.serial ≡ e.contexts + 1 = ap (λ (x : Context). x.serial) is in
      record {
        state = e';
        at = ap (slice_get (set s.elements n e')) element_is ∙ set-here s.elements n e' e at;
        from_one = omega (arith, serial_is);
        counted = omega (arith, serial_is, made);
      }

  pub given : (s : World) (run : List Event) → Reach g vs count s run → (h : Event) → Among h run → (c : Context)
      → Enters h c → Given s c
  given s run begin h a c enters = absurd a
  given s run (deliver {s = s₀} {run = run₀} k m e r f q) h (inl is) c enters =
      given_now k s₀ m (route_of m.payload count) e c q (subst (λ z. Enters z c) is enters)
  given s run (deliver {s = s₀} {run = run₀} k m e r f q) h (inr old) c enters =
      given_later k s₀ m (route_of m.payload count) e c q (given s₀ run₀ r h old c enters)

  -- so the newest event enters another context than those before it
  not_again : (s : World) (run : List Event) → Reach g vs count s run → (m : Message) (n : ℕ) (e : State)
      → slice_get s.elements n ≡ Some e → (h : Event) →
      Among h run
      → (c : Context) → Enters (happens g n e m.payload) c → Enters h c → ⊥
  not_again s run r m n e q h old c now before =
      let w = given s run r h old c before in
      let is = enters_next g n e m.payload c now in
      let element_is : c.element ≡ n = ap (λ (x : Context). x.element) is in
      let serial_is : c.serial ≡ e.contexts + 1 = ap (λ (x : Context). x.serial) is in
      let both : Some w.state ≡ Some e = sym w.at ∙ ap (slice_get s.elements) element_is ∙ q in
      let one : w.state ≡ e = cc in
      let known : c.serial ≤ e.contexts = subst (λ (y : State). c.serial ≤ y.contexts) one w.counted in
      omega (arith, serial_is, known)

  -- two events that enter one context are one
  apart : (s : World) (run : List Event) → Reach g vs count s run → (h h' : Event) → Among h run → Among h' run
      → (c : Context) → Enters h c → Enters h' c →
      h ≡ h'
  apart s run begin h h' a b c x y = absurd a
  apart s run (deliver k m e r f q) h h' (inl i) (inl j) c x y = i ∙ sym j
  apart s run (deliver {s = s₀} {run = run₀} k m e r f q) h h' (inl i) (inr b) c x y =
      absurd (not_again s₀ run₀ r m (route_of m.payload count) e q h' b c (subst (λ z. Enters z c) i x) y)
  apart s run (deliver {s = s₀} {run = run₀} k m e r f q) h h' (inr a) (inl j) c x y =
      absurd (not_again s₀ run₀ r m (route_of m.payload count) e q h a c (subst (λ z. Enters z c) j y) x)
  apart s run (deliver {s = s₀} {run = run₀} k m e r f q) h h' (inr a) (inr b) c x y = apart s₀ run₀ r h h' a b c x y

-- ---- and each structure that was made by the element that made it

-- the element has given the number to a structure
pub record Made (s : World) (x : Structure) : Type 0 where
  pub state : State
  pub at : slice_get s.elements x.element ≡ Some state
  pub counted : x.serial ≤ state.structures

module _ (g : Parts) (vs : List Constant) (count : ℕ) where
  made_later : (k : ℕ) (s : World) (m : Message) (n : ℕ) (e : State) (x : Structure) → slice_get s.elements n ≡ Some e
      → Made s x →
      Made (taken_from g k s m n e) x
  made_later k s m n e x at w =
      let e' = state_after g n e m in
      elim (cases_eq x.element n) [
        | inl here ↦
            let both : Some w.state ≡ Some e = sym w.at ∙ ap (slice_get s.elements) here ∙ at in
            let one : w.state ≡ e = cc in
            let known : x.serial ≤ e.structures = subst (λ (y : State). x.serial ≤ y.structures) one w.counted in
            record {
              state = e';
              at = ap (slice_get (set s.elements n e')) here ∙ set-here s.elements n e' e at;
              counted = omega (arith, known);
            }
        | inr other ↦ record {
          state = w.state;
          at = set-elsewhere s.elements n x.element e' other ∙ w.at;
          counted =
              w.counted;
        }
      ]

  made_now : (k : ℕ) (s : World) (m : Message) (n : ℕ) (e : State) (x : Structure) → slice_get s.elements n ≡ Some e
      → Makes g (happens g n e m.payload) x → Made (taken_from g k s m n e) x
  made_now k s m n e x at makes =
      let e' = state_after g n e m in
      let is = makes_next g n e m.payload x makes in
      let element_is : x.element ≡ n = is.0 in
      let serial_is : x.serial ≡ e.structures + 1 = is.1 in
      let made = outcome_allocated g n e m.payload ∙ takes_structure g (happens g n e m.payload) x makes in
      record {
        state = e';
        at = ap (slice_get (set s.elements n e')) element_is ∙ set-here s.elements n e' e at;
        counted = omega (arith, serial_is, made);
      }

  made_before : (s : World) (run : List Event) → Reach g vs count s run → (h : Event) → Among h run → (x : Structure)
      → Makes g h x → Made s x
  made_before s run begin h a x makes = absurd a
  made_before s run (deliver {s = s₀} {run = run₀} k m e r f q) h (inl is) x makes =
      made_now k s₀ m (route_of m.payload count) e x q (subst (λ z. Makes g z x) is makes)
  made_before s run (deliver {s = s₀} {run = run₀} k m e r f q) h (inr old) x makes =
      made_later k s₀ m (route_of m.payload count) e x q (made_before s₀ run₀ r h old x makes)

  -- so the newest event makes another structure than those before it
  not_made : (s : World) (run : List Event) → Reach g vs count s run → (m : Message) (n : ℕ) (e : State)
      → slice_get s.elements n ≡ Some e → (h : Event) →
      Among h run
      → (x y : Structure) → x.element ≡ y.element → x.serial ≡ y.serial → Makes g (happens g n e m.payload) x
      → Makes g h y → ⊥
  not_made s run r m n e q h old x y one_element one_serial now before =
      let w = made_before s run r h old y before in
      let is = makes_next g n e m.payload x now in
      let serial_is : x.serial ≡ e.structures + 1 = is.1 in
      let here : y.element ≡ n = sym one_element ∙ is.0 in
      let both : Some w.state ≡ Some e = sym w.at ∙ ap (slice_get s.elements) here ∙ q in
      let one : w.state ≡ e = cc in
      let known : y.serial ≤ e.structures = subst (λ (z : State). y.serial ≤ z.structures) one w.counted in
      omega (arith, serial_is, one_serial, known)

  -- two events that make structures of one number are one
  pub structures_apart : (s : World) (run : List Event) → Reach g vs count s run → StructuresApart g run
  structures_apart s run begin h h' a b x y i j one_element one_serial = absurd a
  structures_apart s run (deliver k m e r f q) h h' (inl i) (inl j) x y u w one_element one_serial = i ∙ sym j
  structures_apart s run (deliver {s = s₀} {run = run₀} k m e r f q) h h' (inl i) (inr b) x y u w one_element
      one_serial =
      absurd (not_made s₀ run₀ r m (route_of m.payload count) e q h' b x y one_element one_serial
      (subst (λ z. Makes g z x) i u) w)
  structures_apart s run (deliver {s = s₀} {run = run₀} k m e r f q) h h' (inr a) (inl j) x y u w one_element
      one_serial =
      absurd (not_made s₀ run₀ r m (route_of m.payload count) e q h a y x (sym one_element) (sym one_serial)
      (subst (λ z. Makes g z y) j w) u)
  structures_apart s run (deliver {s = s₀} {run = run₀} k m e r f q) h h' (inr a) (inr b) x y u w one_element
      one_serial =
      structures_apart s₀ run₀ r h h' a b x y u w one_element one_serial

-- of contexts alone
pub contexts_apart : (g : Parts) (vs : List Constant) (count : ℕ) (s : World) (run : List Event)
    → Reach g vs count s run → ContextsApart run
contexts_apart g vs count s run r = record {
  one = apart g vs count s run r;
  not_main = λ h a enters. let w = given g vs count s run r h a main_context enters in omega (arith, w.from_one);
}

-- *Serials*
pub all_numbered : Serials
all_numbered g vs count s run r =
    record { contexts = contexts_apart g vs count s run r; structures = structures_apart g vs count s run r }

-- so a context is entered by one firing
pub entered_once : {run : List Event} → ContextsApart run →
    {t u : Tag} {c : Context} (x : FiresAs run t (fires.Entered c)) (y : FiresAs run u (fires.Entered c))
    → fired_event x ≡ fired_event y
entered_once contexts {c = c} x y = contexts.one (fired_event x) (fired_event y) x.among y.among c refl refl
