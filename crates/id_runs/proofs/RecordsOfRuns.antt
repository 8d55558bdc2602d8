-- The records of the elements have the events of the run, and no others.
use Rattle.std.proofs.Common.{◌≡◌, inl, inr, ℕ, zero, suc, ◌+◌, ◌≤◌, Option, Some, None, List, [], ◌∷◌, ◌++◌, map}
use Rattle.std.proofs.Common.{set, replicate, slice_get, refl, sym, ◌∙◌, ap, subst, arith}
use Rattle.std.specs.List.{All, filter_map, cons_option}
use Rattle.std.proofs.lemmas.Bool.{cases_eq}
use Rattle.std.proofs.lemmas.List.{map-append}
use Rattle.id_instr.specs.Graph.{Parts}
use Rattle.id_tag.specs.declared.Payload.{Payload}
use Rattle.id_tag.specs.declared.Message.{Message}
use Rattle.id_tag.specs.Routes.{route_of}
use Rattle.id_record.specs.declared.step.Step.TheVariants.{Went}
use Rattle.id_core.specs.Events.{EventView}
use Rattle.id_core.specs.Steps.{State, fresh, event_of, state_after}
use Rattle.id_core.specs.Machines.{World, IsQuiet}
use Rattle.id_core.specs.Observed.{events_of}
use Rattle.id_value.specs.declared.Constant.{Constant}
use Rattle.id_value.specs.List.{Among}
use Rattle.id_value.proofs.AmongLemmas.{Among-left, Among-right, Among-either, Among-from_at, Among-from_map}
use Rattle.id_value.proofs.PlacesLemmas.{slice_get-set, set-here, set-elsewhere}
use Rattle.id_runs.specs.Events.{Event, payload_of, sends_of, fired_in, came_to}
use Rattle.id_runs.specs.Keys.{Key}
use Rattle.id_runs.specs.Runs.{happens, Reach, begin, deliver, handled}
use Rattle.id_runs.specs.OneMessage.{count_for, Exclusive}
use Rattle.id_runs.proofs.Events.{payload_of-happens, outcome_fired, outcome_step}
use Rattle.id_runs.proofs.Keys.{hit, count_none, count_cons, count_append}
use Rattle.id_runs.proofs.Messages.{sent_payloads}
use Rattle.id_runs.proofs.OneMessage.{few}

-- the event of a record is the event of the run
pub record Shows (g : Parts) (v : EventView) (h : Event) : Type 0 where
  pub payload : v.message.payload ≡ payload_of h
  pub fired : v.fired ≡ fired_in h
  pub outputs : map (λ m. m.payload) v.outputs ≡ sends_of g h
  pub step : v.step ≡ came_to h

-- some element's record has the event
pub record Recorded (s : World) (v : EventView) : Type 0 where
  pub element : ℕ
  pub state : State
  pub at : slice_get s.elements element ≡ Some state
  pub among : Among v state.events

unrecorded : (n m : ℕ) (e : State) (v : EventView) → slice_get (replicate n fresh) m ≡ Some e → Among v e.events → ⊥
unrecorded zero m e v h a = cc
unrecorded (suc n) zero e v h a = let is : e ≡ fresh = cc in subst (λ (y : State). Among v y.events) is a
unrecorded (suc n) (suc m) e v h a = unrecorded n m e v h a

module _ (g : Parts) (vs : List Constant) (count : ℕ) where
  shown_now : (n : ℕ) (e : State) (m : Message) → Shows g (event_of g n e m) (happens g n e m.payload)
  shown_now n e m = record {
    payload = sym (payload_of-happens g n e m.payload);
    fired = outcome_fired g n e m.payload;
    outputs = sent_payloads g n e m;
    step = outcome_step g n e m.payload;
  }

  -- each event of a record is one of the run
  pub from_record : (s : World) (run : List Event) → Reach g vs count s run → (v : EventView) → Recorded s v
      → (h : Event) × Among h run × Shows g v h
  from_record s run begin v r = absurd (unrecorded count r.element r.state v r.at r.among)
  from_record s run (deliver {s = s₀} {run = run₀} k m e r f q) v w =
      let n = route_of m.payload count in
      let new = happens g n e m.payload in
      let old =
      λ (y : Recorded s₀ v). (let t = from_record s₀ run₀ r v y in
      let z : (h : Event) × Among h (new ∷ run₀) × Shows g v h = (t.0, inr t.1, t.2) in
      z) in
      elim (slice_get-set s₀.elements n w.element (state_after g n e m) w.state w.at) [
        | inl is ↦
            elim (Among-either v e.events (event_of g n e m ∷ [])
            (subst (λ (y : State). Among v y.events) is.1 w.among)) [
              | inl before ↦ old (record { element = n; state = e; at = q; among = before })
              | inr now ↦ elim now [
                | inl one ↦ (new, inl refl, subst (λ (y : EventView). Shows g y new) (sym one) (shown_now n e m))
                | inr none ↦ absurd none
              ]
            ]
        | inr at ↦ old (record { element = w.element; state = w.state; at = at; among = w.among })
      ]

  record_on : (s s' : World) (n : ℕ) (e e' : State) (v : EventView) → slice_get s.elements n ≡ Some e
      → s'.elements ≡ set s.elements n e' → ((u : EventView) → Among u e.events → Among u e'.events) → Recorded s v
      → Recorded s' v
  record_on s s' n e e' v at is grows w =
      elim (cases_eq w.element n) [
        | inl here ↦
            let both : Some w.state ≡ Some e = sym w.at ∙ ap (slice_get s.elements) here ∙ at in
            let one : w.state ≡ e = cc in
            record {
              element = n;
              state = e';
              at = ap (λ xs. slice_get xs n) is ∙ set-here s.elements n e' e at;
              among = grows v (subst (λ (y : State). Among v y.events) one w.among);
            }
        | inr other ↦ record {
          element = w.element;
          state = w.state;
          at = ap (λ xs. slice_get xs w.element) is ∙ set-elsewhere s.elements n w.element e' other ∙ w.at;
          among = w.among;
        }
      ]

  -- each event of the run is in a record
  pub to_record : (s : World) (run : List Event) → Reach g vs count s run → (h : Event) → Among h run
      → (v : EventView) × Recorded s v × Shows g v h
  to_record s run begin h a = absurd a
  to_record s run (deliver {s = s₀} {run = run₀} k m e r f q) h (inl is) =
      let n = route_of m.payload count in
      let e' = state_after g n e m in
      let v = event_of g n e m in (
        v,
        record {
          element = n;
          state = e';
          at = set-here s₀.elements n e' e q;
          among = Among-right v e.events (v ∷ []) (inl refl);
        },
        subst (λ (y : Event). Shows g v y) (sym is) (shown_now n e m),
      )
  to_record s run (deliver {s = s₀} {run = run₀} k m e r f q) h (inr old) =
      let n = route_of m.payload count in
      let e' = state_after g n e m in
      let t = to_record s₀ run₀ r h old in
      (t.0, record_on s₀ _ n e e' t.0 q refl (λ u a. Among-left u e.events (event_of g n e m ∷ []) a) t.1, t.2)

-- ---- lists of all records

abbrev record_of : State → List EventView
record_of e = e.events

record_cons : (e : State) (es : List State) (s : World) (v : EventView) → s.elements ≡ e ∷ es
    → ((n : ℕ) × (x : State) × (slice_get es n ≡ Some x) × Among v x.events) → Recorded s v
record_cons e es s v is t =
    record { element = suc t.0; state = t.1; at = ap (λ xs. slice_get xs (suc t.0)) is ∙ t.2; among = t.3 }

among_records : (es : List State) (v : EventView) → Among v (events_of es)
    → (n : ℕ) × (x : State) × (slice_get es n ≡ Some x) × Among v x.events
among_records [] v h = absurd h
among_records (e ∷ es) v h =
    elim (Among-either v e.events (events_of es) h) [
      | inl here ↦ (0, e, refl, here)
      | inr there ↦ let t = among_records es v there in (suc t.0, t.1, t.2, t.3)
    ]

pub recorded : (s : World) (v : EventView) → Among v (events_of s.elements) → Recorded s v
recorded s v h = let t = among_records s.elements v h in record { element = t.0; state = t.1; at = t.2; among = t.3 }

records_have : (es : List State) (n : ℕ) (x : State) (v : EventView) → slice_get es n ≡ Some x → Among v x.events
    → Among v (events_of es)
records_have [] n x v e a = cc
records_have (y ∷ es) zero x v e a =
    let is : y ≡ x = cc in Among-left v y.events (events_of es) (subst (λ (z : State). Among v z.events) (sym is) a)
records_have (y ∷ es) (suc n) x v e a = Among-right v y.events (events_of es) (records_have es n x v e a)

pub among_events : (s : World) (v : EventView) → Recorded s v → Among v (events_of s.elements)
among_events s v r = records_have s.elements r.element r.state v r.at r.among

pub among_filter_map : {A B : Type 0} (f : A → Option B) (xs : List A) (y : B) → Among y (filter_map f xs)
    → (x : A) × Among x xs × (f x ≡ Some y)
among_filter_map f [] y h = absurd h
among_filter_map {A} {B} f (x ∷ xs) y h = go (f x) refl h (among_filter_map f xs y)
  where
    go : (o : Option B) → f x ≡ o → Among y (cons_option o (filter_map f xs))
        → (Among y (filter_map f xs) → (z : A) × Among z xs × (f z ≡ Some y))
        → (z : A) × Among z (x ∷ xs) × (f z ≡ Some y)
    go None e k rest = let t = rest k in (t.0, inr t.1, t.2)
    go (Some z) e (inl is) rest = (x, inl refl, e ∙ ap Some (sym is))
    go (Some z) e (inr k) rest = let t = rest k in (t.0, inr t.1, t.2)

pub filter_map_has : {A B : Type 0} (f : A → Option B) (xs : List A) (x : A) (y : B) → Among x xs → f x ≡ Some y
    → Among y (filter_map f xs)
filter_map_has f [] x y h e = absurd h
filter_map_has {A} {B} f (z ∷ xs) x y (inl is) e = go (f z) (ap f (sym is) ∙ e)
  where
    go : (o : Option B) → o ≡ Some y → Among y (cons_option o (filter_map f xs))
    go None e = cc
    go (Some w) e = inl (let is : w ≡ y = cc in sym is)
filter_map_has {A} {B} f (z ∷ xs) x y (inr h) e = go (f z) (filter_map_has f xs x y h e)
  where
    go : (o : Option B) → Among y (filter_map f xs) → Among y (cons_option o (filter_map f xs))
    go None k = k
    go (Some w) k = inr k

-- what was handled was handled by an event
pub among_from_handled : (run : List Event) (x : Payload) → Among x (map payload_of run)
    → (h : Event) × Among h run × (x ≡ payload_of h)
among_from_handled run x h = Among-from_map payload_of x run h

-- ---- the records count as the run

abbrev pub told : List EventView → List Payload
told vs = map (λ v. v.message.payload) vs

nothing_told : (n : ℕ) → told (events_of (replicate n fresh)) ≡ []
nothing_told zero = refl
nothing_told (suc n) = nothing_told n

told_append : (vs ws : List EventView) (j : Key)
    → count_for j (told (vs ++ ws)) ≡ count_for j (told vs) + count_for j (told ws)
told_append vs ws j = ap (count_for j) (map-append (λ v. v.message.payload) vs ws) ∙ count_append j (told vs) (told ws)

-- where one element's record counts so many more, so do all
told_more : (es : List State) (n : ℕ) (e e' : State) (j : Key) (c : ℕ) → slice_get es n ≡ Some e
    → count_for j (told e'.events) ≡ c + count_for j (told e.events)
    → count_for j (told (events_of (set es n e'))) ≡ c + count_for j (told (events_of es))
told_more [] n e e' j c at more = cc
told_more (y ∷ es) zero e e' j c at more =
    let is : y ≡ e = cc in
    let here : count_for j (told y.events) ≡ count_for j (told e.events) =
    ap (λ (z : State). count_for j (told z.events)) is in
    omega (arith, told_append e'.events (events_of es) j, told_append y.events (events_of es) j)
told_more (y ∷ es) (suc n) e e' j c at more =
    omega (
      arith,
      told_append y.events (events_of (set es n e')) j,
      told_append y.events (events_of es) j,
      told_more es n e e' j c at more,
    )

module _ (g : Parts) (vs : List Constant) (count : ℕ) where
  -- one event more
  told_step : (n : ℕ) (e : State) (m : Message) (j : Key)
      → count_for j (told (state_after g n e m).events) ≡ hit j m.payload + count_for j (told e.events)
  told_step n e m j =
      omega (arith, told_append e.events (event_of g n e m ∷ []) j, count_cons j m.payload [], count_none j)

  pub told_all : (s : World) (run : List Event) → Reach g vs count s run → (j : Key)
      → count_for j (told (events_of s.elements)) ≡ count_for j (handled run)
  told_all s run begin j = ap (count_for j) (nothing_told count)
  told_all s run (deliver {s = s₀} {run = run₀} k m e r f q) j =
      let n = route_of m.payload count in
      let new = happens g n e m.payload in
      let same : hit j (payload_of new) ≡ hit j m.payload = ap (hit j) (payload_of-happens g n e m.payload) in
      omega (
        arith,
        told_more s₀.elements n e (state_after g n e m) j (hit j m.payload) q (told_step n e m j),
        told_all s₀ run₀ r j,
        count_cons j (payload_of new) (handled run₀),
      )

  -- where each key comes at most once, the records have it at most once
  pub told_once : Exclusive g vs count → (s : World) (run : List Event) → Reach g vs count s run → (j : Key)
      → count_for j (told (events_of s.elements)) ≤ 1
  told_once only s run r j = omega (arith, told_all s run r j, few g vs count only s run r j)

-- ---- quiet runs

-- what holds of each thing in a list holds of what is among them
pub of_all : {A : Type 0} (Q : A → Type 0) (xs : List A) (x : A) → All Q xs → Among x xs → Q x
of_all Q [] x all h = absurd h
of_all Q (y ∷ xs) x all (inl e) = subst Q (sym e) (all 0 y (omega arith))
of_all Q (y ∷ xs) x all (inr h) = of_all Q xs x (λ k d lt. all (suc k) d (omega arith)) h

-- no event of a quiet run was a fault or `Stuck`
pub quiet_went : (g : Parts) (vs : List Constant) (count : ℕ) (s : World) (run : List Event) → Reach g vs count s run
    → IsQuiet s → (e : Event) → Among e run → came_to e ≡ Went
quiet_went g vs count s run r quiet e among =
    let x = to_record g vs count s run r e among in
    let w = x.1 in
    sym (x.2).step
    ∙ of_all (λ (u : EventView). u.step ≡ Went) (w.state).events x.0
    (of_all (λ (y : State). All (λ (u : EventView). u.step ≡ Went) y.events) s.elements w.state quiet.went
    (Among-from_at w.state s.elements w.element w.at))
    w.among
