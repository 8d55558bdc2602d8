-- Lemmas on specs/Rest.antt: each delivery is an event more, and there are no more events than the paths pay for.
use Rattle.std.proofs.Common.{◌≡◌, ◌≢◌, ◌⊎◌, inl, inr, ℕ, zero, suc, ◌+◌, ◌-◌, ◌*◌, ◌^◌, ◌≤◌, ◌<◌, false, cond, List}
use Rattle.std.proofs.Common.{[], ◌∷◌, ◌++◌}
use Rattle.std.proofs.Common.{length, map, slice_get, Option, Some, None, refl, sym, ap, subst, ◌∙◌, arith}
use Rattle.std.proofs.Common.{length-append}
use Rattle.std.proofs.Math.Nat.{mul-le-mul_left}
use Rattle.std.proofs.lemmas.List.{length-map}
use Rattle.std.specs.Prelude.{All}
use Rattle.id_instr.specs.Graph.{Parts}
use Rattle.id_value.specs.List.{Among}
use Rattle.id_value.proofs.AmongLemmas.{Among-from_at, at-from_Among}
use Rattle.id_value.proofs.DifferLemmas.{AllDiffer-few}
use Rattle.id_tag.specs.declared.Message.{Message}
use Rattle.id_tag.specs.declared.Structure.{Structure}
use Rattle.id_tag.specs.declared.Tag.{Tag}
use Rattle.id_tag.specs.Routes.{route_of}
use Rattle.id_tag.proofs.RoutesLemmas.{route_of_below}
use Rattle.id_record.specs.declared.step.Step.{Step}
use Rattle.id_record.specs.declared.step.Step.TheVariants.{Went, Stuck, Fault as FaultStep}
use Rattle.id_record.specs.declared.step.Fault.TheVariants.{Operator, SecondStore}
use Rattle.id_core.specs.Events.{AllWent, EventView}
use Rattle.id_core.specs.Steps.{State, is_ended, state_after}
use Rattle.id_core.specs.Machines.{World, IsQuiet, delivered, given_to, routed_to, run, start, taken_from}
use Rattle.id_core.specs.Observed.{events_of, fault_of, faults, faults_of, path_in, structure_in}
use Rattle.id_source.specs.declared.Path.{Path}
use Rattle.id_source.specs.declared.Site.{Site}
use Rattle.id_source.specs.declared.SourceFault.{SourceFault}
use Rattle.id_source.specs.Sources.{Source, AreInputs}
use Rattle.id_source.specs.Rounds.{Faulty, FaultFree}
use Rattle.id_runs.proofs.RecordsOfRuns.{Recorded, among_events, filter_map_has}
use Rattle.id_laws.specs.Determinate.{RunOf, end_of}
use Rattle.id_laws.specs.Laws.{IsComplete, IsNeverStuck, IsSound, NeverStuck, QuietIsComplete, Soundness, events}
use Rattle.id_laws.specs.Laws.{messages}
use Rattle.id_laws.proofs.Validity.ValidCounts.{all_among}
use Rattle.id_laws.specs.Bounded.{AreActive, Bounded, IsBounded, messages_at_once}
use Rattle.id_laws.specs.Rest.{Rest, TakeOn, continued}
use Rattle.id_laws.proofs.Bounding.StampsLemmas.{AreStamped, ended_not, events_more, one_more, stamped}

-- ---- messages, by what pays for them

pub messages_many : (s : World) → length (messages s) ≡ length (events s) + length s.flight
messages_many s =
    length-append (map (λ (v : EventView). v.message.payload) (events s)) (map (λ (m : Message). m.payload) s.flight)
    ∙ (λ i. length-map (events s) (λ (v : EventView). v.message.payload) i
    + length-map s.flight (λ (m : Message). m.payload) i)

-- where something is On at these paths alone, there are no more messages than they pay for
pub paid : (S : Source) (g : Parts) (s : World) (ps : List Path) → AreActive S ps → IsBounded S g s
    → length (messages s) ≤ messages_at_once g * length ps
paid S g s ps active b =
    let few : length b.paths ≤ length ps = AllDiffer-few b.paths ps b.differ (λ p h. active p (b.active p h)) in
    let most : messages_at_once g * length b.paths ≤ messages_at_once g * length ps =
    mul-le-mul_left (messages_at_once g) few in
    omega (arith, b.few, most)

-- ---- deliveries

-- what stands at a position
there : {A : Type 0} (xs : List A) (k : ℕ) → k < length xs → (x : A) × (slice_get xs k ≡ Some x)
there [] k h = absurd (omega arith)
there (x ∷ xs) zero h = (x, refl)
there (x ∷ xs) (suc k) h = there xs k (omega arith)

module _ (g : Parts) (count : ℕ) where
  taken : (s : World) (k : ℕ) (m : Message) (e : State) → slice_get s.flight k ≡ Some m
      → slice_get s.elements (route_of m.payload count) ≡ Some e
      → is_ended e m ≡ false → delivered g count s k ≡ taken_from g k s m (route_of m.payload count) e
  taken s k m e at element left =
      ap (routed_to g count k s) at ∙ ap (given_to g k s m (route_of m.payload count)) element
      ∙ ap (λ b. cond b s (taken_from g k s m (route_of m.payload count) e)) left

  -- where a stamp is left, the delivery of a message is one event more
  pub event_more : (s : World) (k : ℕ) → 0 < count → AreStamped count s → k < length s.flight
      → length (events s) < 2 ^ 64 - 1 → length (events (delivered g count s k)) ≡ suc (length (events s))
  event_more s k some stamps within few =
      let m = there s.flight k within in
      let n = route_of (m.0).payload count in
      let e = there s.elements n (omega (arith, route_of_below (m.0).payload count some, stamps.many)) in
      let left = ended_not count s n e.0 m.0 stamps e.1 (Among-from_at m.0 s.flight k m.1) few in
      subst (λ (w : World). length (events w) ≡ suc (length (events s))) (sym (taken s k m.0 e.0 m.1 e.1 left))
      (events_more s.elements n e.0 (state_after g n e.0 m.0) e.1 (one_more g n e.0 m.0))

  -- where nothing is in flight, nothing changes
  nothing_given : (s : World) (k : ℕ) → s.flight ≡ [] → delivered g count s k ≡ s
  nothing_given s k none = ap (λ ms. routed_to g count k s (slice_get ms k)) none

  nothing_more : (ks : List ℕ) (s : World) → s.flight ≡ [] → (run g count ks s).flight ≡ []
  nothing_more [] s none = none
  nothing_more (k ∷ ks) s none =
      subst (λ (w : World). (run g count ks w).flight ≡ []) (sym (nothing_given s k none)) (nothing_more ks s none)

  -- deliveries one after another
  pub run-append : (ks js : List ℕ) (s : World) → run g count (ks ++ js) s ≡ run g count js (run g count ks s)
  run-append [] js s = refl
  run-append (k ∷ ks) js s = run-append ks js (delivered g count s k)

none_left : {A : Type 0} (xs : List A) → length xs ≡ 0 → xs ≡ []
none_left [] h = refl
none_left (x ∷ xs) h = absurd (omega (arith, h))

none_or_some : {A : Type 0} (xs : List A) → (xs ≡ []) ⊎ (xs ≢ [])
none_or_some [] = inl refl
none_or_some (x ∷ xs) = inr (λ h. absurd cc)

module _ (bounded : Bounded) (S : Source) (ps : List Path) (inputs : AreInputs S.checked S.inputs)
    (active : AreActive S ps) where
  -- what was handled and what is in flight
  pub in_all : (r : RunOf S)
      → length (events (end_of S r)) + length (end_of S r).flight ≤ messages_at_once r.graph * length ps
  in_all r = omega (arith, messages_many (end_of S r), paid S r.graph (end_of S r) ps active (bounded S inputs r))

  pub end_on : (r : RunOf S) (ks : List ℕ) → end_of S (continued S r ks) ≡ run r.graph r.count ks (end_of S r)
  end_on r ks = run-append r.graph r.count r.positions ks (start r.graph S.inputs r.count)

  -- each delivery is an event more, until nothing is in flight
  pub emptied : (ks : List ℕ) (r : RunOf S) → 0 < r.count → messages_at_once r.graph * length ps < 2 ^ 64 - 1
      → TakeOn r.graph r.count (end_of S r) ks
      → messages_at_once r.graph * length ps ≤ length (events (end_of S r)) + length ks
      → (run r.graph r.count ks (end_of S r)).flight ≡ []
  emptied [] r some small on enough = none_left (end_of S r).flight (omega (arith, in_all r, enough))
  emptied (k ∷ ks) r some small on enough = elim (none_or_some (end_of S r).flight) [
    | inl none ↦ nothing_more r.graph r.count (k ∷ ks) (end_of S r) none
    | inr left ↦
        let q : RunOf S = continued S r (k ∷ []) in
        let is : end_of S q ≡ delivered r.graph r.count (end_of S r) k = end_on r (k ∷ []) in
        let more =
        event_more r.graph r.count (end_of S r) k some (stamped r.graph S.inputs r.count r.positions) (on.0 left)
        (omega (arith, in_all r, small)) in
        let now : length (events (end_of S q)) ≡ suc (length (events (end_of S r))) =
        ap (λ (w : World). length (events w)) is ∙ more in
        subst (λ (w : World). (run r.graph r.count ks w).flight ≡ []) is
        (emptied ks q some small (subst (λ (w : World). TakeOn r.graph r.count w ks) (sym is) on.1)
        (omega (arith, now, enough)))
  ]

-- ---- the end

went_of : (g : Parts) (p : Tag → Path) (m : Structure → Site) (x : Step) → fault_of g p m x ≡ None → x ≢ Stuck
    → x ≡ Went
went_of g p m Went none stuck = refl
went_of g p m (FaultStep (Operator f t)) none stuck = absurd cc
went_of g p m (FaultStep (SecondStore c t u)) none stuck = absurd cc
went_of g p m Stuck none stuck = absurd (stuck refl)

no_fault : (g : Parts) (p : Tag → Path) (m : Structure → Site) (vs : List EventView) (v : EventView)
    → faults_of g p m vs ≡ [] → Among v vs → fault_of g p m v.step ≡ None
no_fault g p m vs v none among = by (fault_of g p m v.step) refl
  where
    by : (o : Option SourceFault) → fault_of g p m v.step ≡ o → o ≡ None
    by None e = refl
    by (Some f) e =
        let here =
        filter_map_has (λ (u : EventView). fault_of g p m u.step) vs v f among e in absurd (subst (Among f) none here)

recorded_in : (w : World) (e : State) (v : EventView) → Among e w.elements → Among v e.events → Recorded w v
recorded_in w e v a b = let k = at-from_Among e w.elements a in record { element = k.0; state = e; at = k.1; among = b }

-- where no fault was shown and no event was `Stuck`, every event went well
all_went : (g : Parts) (w : World) → IsNeverStuck g w → faults g w ≡ [] → All (λ e. AllWent e.events) w.elements
all_went g w never none =
    all_among _ w.elements (λ e a. all_among _ e.events (λ v b. (
    let here = among_events w v (recorded_in w e v a b) in
    let p = path_in g w.elements in
    let m = structure_in g w.elements in
    went_of g p m v.step (no_fault g p m (events_of w.elements) v none here) (never.goes_on v here))))

none_among : {A : Type 0} (xs : List A) → ((x : A) → Among x xs → ⊥) → xs ≡ []
none_among [] none = refl
none_among (x ∷ xs) none = absurd (none x (inl refl))

module _ (sound : Soundness) (never : NeverStuck) (complete : QuietIsComplete) (S : Source)
    (inputs : AreInputs S.checked S.inputs) (r : RunOf S)
    (none : (end_of S r).flight ≡ []) where
  -- a run with nothing in flight that has shown no fault is quiet
  pub still : faults r.graph (end_of S r) ≡ [] → IsQuiet (end_of S r)
  still shown =
      record {
        empty = none;
        went =
            all_went r.graph (end_of S r) (never S r.graph r.count r.positions inputs r.schemas) shown;
      }

  pub quiet_end : FaultFree S → IsQuiet (end_of S r)
  quiet_end free =
      let s : IsSound S r.graph r.schemas.number (end_of S r) = sound S r.graph r.count r.positions inputs r.schemas in
      still (none_among (faults r.graph (end_of S r)) (λ f h. free f (s.faults f h)))

  pub faulty_end : (f : SourceFault) → Faulty S f → faults r.graph (end_of S r) ≢ []
  faulty_end f fault shown =
      let c : IsComplete S r.graph (end_of S r) =
      complete S r.graph r.count r.positions inputs r.schemas (still shown) in
      c.no_fault f fault

pub rest_from : Bounded → Soundness → NeverStuck → QuietIsComplete → Rest
rest_from bounded sound never complete = λ S ps inputs active r some small. record {
  few = omega (arith, in_all bounded S ps inputs active r);
  ends = λ ks on enough.
      subst (λ (w : World). w.flight ≡ []) (sym (end_on bounded S ps inputs active r ks))
      (emptied bounded S ps inputs active ks r some small on enough);
  quiet = λ none free. quiet_end sound never complete S inputs r none free;
  faulty = λ none f fault. faulty_end sound never complete S inputs r none f fault;
}
