-- All events, in order, of elements whose records lead to their states and account for every message
-- (specs/Orders.antt).
use Rattle.std.proofs.Common.{◌≡◌, ℕ, zero, suc, ◌+◌, ◌<◌, ◌≤◌, ◌==◌, Bool, true, false, cond, filter, Some}
use Rattle.std.proofs.Common.{List, [], ◌∷◌, ◌++◌, map, length, replicate, slice_get, slice_set, inl, inr}
use Rattle.std.proofs.Common.{refl, sym, ap, ◌∙◌, subst, arith, append-nil, ⊎_elim}
use Rattle.std.specs.List.{AllByRecursion, flat_map, sum_by}
use Rattle.std.specs.List.Sorted.{IsStrictlySortedBy}
use Rattle.std.specs.declared.cmp.Ordering.TheVariants.{Less, Equal}
use Rattle.std.proofs.lemmas.Bool.{cases_Bool, cases_lt, eq-eqb, eqb-true}
use Rattle.std.proofs.lemmas.Bool.Decides.{nat_tests}
use Rattle.std.proofs.lemmas.List.Sorted.{sum_by-IsPermutation}
use Rattle.std.proofs.lemmas.List.Elements.{recursion_from_All}
use Rattle.id_instr.specs.Graph.{Parts}
use Rattle.id_tag.specs.declared.Message.{Message}
use Rattle.id_tag.specs.contracts.Message as message
use Rattle.id_tag.specs.Routes.{route_of}
use Rattle.id_value.specs.declared.Constant.{Constant}
use Rattle.id_value.specs.List.{Among}
use Rattle.id_record.specs.Events.{EventView}
use Rattle.id_step.specs.Steps.{State, event_of, fresh, state_after}
use Rattle.id_core.specs.Machines.{World, start_messages}
use Rattle.id_record.proofs.EachLemmas.{each-append, each-weaker}
use Rattle.id_observe.specs.Paths.{events_of}
use Rattle.id_observe.specs.Merged.{by_moment}
use Rattle.id_observe.specs.Firsts.{AreMergedOf}
use Rattle.id_observe.proofs.MergedLemmas.{by_moment_total}
use Rattle.id_runs.specs.Legal.{next, IsRunOf, LeadTo, no_more, follow}
use Rattle.id_runs.proofs.Legal as runs
use Rattle.id_runs.specs.Accounts.{IsAccounted, sent_of, taken_of}
use Rattle.id_runs.specs.Orders.{AreReplayed, IsLegalOrder, IsOfRecords, OrdersAreRuns}
use Rattle.id_runs.proofs.Weights.{Tells, among_weight, is, sum_flat, sum_map, sum_same, tells, weight_among}
use Rattle.id_runs.proofs.Flights.{Flies, Rises, flies}
use Rattle.id_runs.proofs.Flights as flight
use Rattle.id_runs.proofs.Ordered.{AreApart, all-pass, apart-both, apart-sorted, each-permutation, filter-both}
use Rattle.id_runs.proofs.Ordered.{none-passes, picked, sorting}
use Rattle.id_runs.proofs.Records.{IsNext, Leads, Stamped, message_of, replayed, sent_by_event, stamp_in, stamp_of}
use Rattle.id_runs.proofs.Records.{IsOwn, is_own, stamped}

-- ---- the events of one element

-- the event is of the element n
abbrev of_element : ℕ → EventView → Bool
of_element n v = v.element == n

mine : (n : ℕ) (v : EventView) → v.element ≡ n → of_element n v ≡ true
mine n v e = eq-eqb v.element n e

other : (n : ℕ) (v : EventView) → (v.element ≡ n → ⊥) → of_element n v ≡ false
other n v differ =
    ⊎_elim (λ (same : of_element n v ≡ true). absurd (differ (eqb-true v.element n same)))
    (λ (not : of_element n v ≡ false). not) (cases_Bool (of_element n v))

-- the records are those of the elements from k on
abbrev AreOwn : ℕ → List State → Type 0
AreOwn k [] = Unit {0}
AreOwn k (s ∷ ss) = IsOwn k s × AreOwn (suc k) ss

own : (k : ℕ) (ss : List State) → ((n : ℕ) (s : State) → slice_get ss n ≡ Some s → IsOwn (k + n) s) → AreOwn k ss
own k [] each = tt
own k (s ∷ ss) each =
    let here : k + 0 ≡ k = omega arith in (
      subst (λ j. IsOwn j s) here (each 0 s refl),
      own (suc k) ss (λ n q at. let e : k + suc n ≡ suc k + n = omega arith in
          subst (λ j. IsOwn j q) e (each (suc n) q at)),
    )

from_first : (k : ℕ) (ss : List State) → AreOwn k ss → AllByRecursion (λ v. k ≤ v.element) (events_of ss)
from_first k [] h = tt
from_first k (s ∷ ss) h =
    each-append (λ (v : EventView). k ≤ v.element) s.events (events_of ss)
    (each-weaker (λ v. v.element ≡ k) (λ v. k ≤ v.element) (λ v e. omega arith) s.events h.0.own)
    (each-weaker (λ v. suc k ≤ v.element) (λ v. k ≤ v.element) (λ v e. omega arith) (events_of ss)
    (from_first (suc k) ss h.1))

below_end : (k : ℕ) (ss : List State) → AreOwn k ss → AllByRecursion (λ v. v.element < k + length ss) (events_of ss)
below_end k [] h = tt
below_end k (s ∷ ss) h =
    each-append (λ (v : EventView). v.element < k + length (s ∷ ss)) s.events (events_of ss)
    (each-weaker (λ v. v.element ≡ k) (λ v. v.element < k + length (s ∷ ss)) (λ v e. omega arith) s.events h.0.own)
    (each-weaker (λ v. v.element < suc k + length ss) (λ v. v.element < k + length (s ∷ ss)) (λ v e. omega arith)
    (events_of ss)
    (below_end (suc k) ss h.1))

-- what is picked for one element of all events is its record
own_events : (k : ℕ) (ss : List State) → AreOwn k ss → (n : ℕ) (s : State) → slice_get ss n ≡ Some s
    → filter (of_element (k + n)) (events_of ss) ≡ s.events
own_events k [] h n s at = absurd cc
own_events k (r ∷ ss) h zero s at =
    let here : r ≡ s = cc in
    let all = all-pass (of_element (k + 0)) r.events
    (each-weaker (λ v. v.element ≡ k) (λ v. of_element (k + 0) v ≡ true) (λ v e. mine (k + 0) v (omega arith)) r.events
    h.0.own) in
    let rest = none-passes (of_element (k + 0)) (events_of ss)
    (each-weaker (λ v. suc k ≤ v.element) (λ v. of_element (k + 0) v ≡ false)
    (λ v e. other (k + 0) v (λ q. omega arith)) (events_of ss)
    (from_first (suc k) ss h.1)) in
    filter-both (of_element (k + 0)) r.events (events_of ss)
    ∙ ap (λ vs. vs ++ filter (of_element (k + 0)) (events_of ss)) all ∙ ap (λ vs. r.events ++ vs) rest
    ∙ append-nil r.events ∙ ap (λ (x : State). x.events) here
own_events k (r ∷ ss) h (suc n) s at =
    let e : suc k + n ≡ k + suc n = omega arith in
    let first = none-passes (of_element (k + suc n)) r.events
    (each-weaker (λ v. v.element ≡ k) (λ v. of_element (k + suc n) v ≡ false)
    (λ v q. other (k + suc n) v (λ x. omega arith)) r.events
    h.0.own) in
    filter-both (of_element (k + suc n)) r.events (events_of ss)
    ∙ ap (λ vs. vs ++ filter (of_element (k + suc n)) (events_of ss)) first
    ∙ subst (λ j. filter (of_element j) (events_of ss) ≡ s.events) e (own_events (suc k) ss h.1 n s at)

each_event : (P : EventView → Type 0) (ss : List State)
    → ((n : ℕ) (s : State) → slice_get ss n ≡ Some s → AllByRecursion P s.events)
    → AllByRecursion P (events_of ss)
each_event P [] each = tt
each_event P (s ∷ ss) each =
    each-append P s.events (events_of ss) (each 0 s refl) (each_event P ss (λ n q at. each (suc n) q at))

-- ---- orders

not_later : (x y : EventView) → by_moment x y ≡ Less → x.stamp ≤ y.stamp
not_later x y less = grind (arith, nat_tests)

one_element : (x y : EventView) → by_moment x y ≡ Equal → x.element ≡ y.element
one_element x y equal = grind (arith, nat_tests)

rises : (vs : List EventView) → IsStrictlySortedBy by_moment vs → Rises stamp_of vs
unfolding IsStrictlySortedBy
rises [] s = tt
rises (v ∷ vs) s = (
  each-weaker (λ u. by_moment v u ≡ Less) (λ u. v.stamp ≤ u.stamp) (λ u less. not_later v u less) vs s.0,
  rises vs s.1,
)

apart : (k : ℕ) (ss : List State) → AreOwn k ss → AreApart by_moment_total (events_of ss)
apart k [] h = tt
apart k (s ∷ ss) h =
    apart-both by_moment_total s.events (events_of ss) (apart-sorted by_moment_total s.events h.0.sorted)
    (apart (suc k) ss h.1)
    (each-weaker (λ x. x.element ≡ k) (λ x. AllByRecursion (λ y. by_moment x y ≡ Equal → ⊥) (events_of ss))
    (λ x e. each-weaker (λ y. suc k ≤ y.element) (λ y. by_moment x y ≡ Equal → ⊥)
    (λ y le equal. let same = one_element x y equal in omega arith) (events_of ss) (from_first (suc k) ss h.1)) s.events
    h.0.own)

module _ (g : Parts) (count : ℕ) where
  -- ---- each element's events lead it on

  -- from the element k on, each element's events of the list lead from its state to its end
  abbrev AreLeading : ℕ → List State → List EventView → List State → Type 0
  AreLeading k [] vs [] = Unit {0}
  AreLeading k [] vs (s ∷ ss) = ⊥
  AreLeading k (u ∷ us) vs [] = ⊥
  AreLeading k (u ∷ us) vs (s ∷ ss) = Leads g count k u (filter (of_element k) vs) s × AreLeading (suc k) us vs ss

  begun : (k : ℕ) (vs : List EventView) (ss : List State)
      → ((n : ℕ) (s : State) → slice_get ss n ≡ Some s → Leads g count (k + n) fresh (filter (of_element (k + n)) vs) s)
      → AreLeading k (replicate (length ss) fresh) vs ss
  begun k vs [] each = tt
  begun k vs (s ∷ ss) each =
      let here : k + 0 ≡ k = omega arith in (
        subst (λ j. Leads g count j fresh (filter (of_element j) vs) s) here (each 0 s refl),
        begun (suc k) vs ss (λ n q at. let e : k + suc n ≡ suc k + n = omega arith in
            subst (λ j. Leads g count j fresh (filter (of_element j) vs) q) e (each (suc n) q at)),
      )

  ended : (k : ℕ) (us ss : List State) → AreLeading k us [] ss → us ≡ ss
  ended k [] [] h = refl
  ended k [] (s ∷ ss) h = absurd h
  ended k (u ∷ us) [] h = absurd h
  ended k (u ∷ us) (s ∷ ss) h =
      let first : u ≡ s = h.0 in
      let rest = ended (suc k) us ss h.1 in
      λ i. first i ∷ rest i

  without : (n : ℕ) (u s : State) (v : EventView) (vs : List EventView) → of_element n v ≡ false
      → Leads g count n u (filter (of_element n) (v ∷ vs)) s → Leads g count n u (filter (of_element n) vs) s
  without n u s v vs differs h =
      subst (λ b. Leads g count n u (cond b (v ∷ filter (of_element n) vs) (filter (of_element n) vs)) s) differs h

  -- an event of an element below k is none of those from k on
  skip : (k : ℕ) (us : List State) (v : EventView) (vs : List EventView) (ss : List State) → v.element < k
      → AreLeading k us (v ∷ vs) ss → AreLeading k us vs ss
  skip k [] v vs [] lt h = tt
  skip k [] v vs (s ∷ ss) lt h = h
  skip k (u ∷ us) v vs [] lt h = h
  skip k (u ∷ us) v vs (s ∷ ss) lt h =
      (without k u s v vs (other k v (λ e. omega arith)) h.0, skip (suc k) us v vs ss (omega arith) h.1)

  -- the event is the next of the element n, which has the place i, and leads it on
  record Following (k i n : ℕ) (us : List State) (v : EventView) (vs : List EventView) (ss : List State) : Type 0 where
    state : State
    there : slice_get us i ≡ Some state
    is_next : IsNext g count n state v
    on : AreLeading k (slice_set us i (state_after g n state v.message)) vs ss

  following : (k i n : ℕ) (us : List State) (v : EventView) (vs : List EventView) (ss : List State) → n ≡ k + i
      → v.element ≡ n → i < length ss → AreLeading k us (v ∷ vs) ss → Following k i n us v vs ss
  following k i n [] v vs [] num of lt h = absurd (omega arith)
  following k i n [] v vs (s ∷ ss) num of lt h = absurd h
  following k i n (u ∷ us) v vs [] num of lt h = absurd h
  following k zero n (u ∷ us) v vs (s ∷ ss) num of lt h =
      let here : k ≡ n = omega arith in
      let first : Leads g count k u (v ∷ filter (of_element k) vs) s =
      subst (λ b. Leads g count k u (cond b (v ∷ filter (of_element k) vs) (filter (of_element k) vs)) s)
      (mine k v (omega arith)) h.0 in
      record {
        state = u;
        there = refl;
        is_next = subst (λ j. IsNext g count j u v) here first.0;
        on = subst (λ j. AreLeading k (state_after g j u v.message ∷ us) vs (s ∷ ss)) here
            (first.1, skip (suc k) us v vs ss (omega arith) h.1);
      }
  following k (suc i) n (u ∷ us) v vs (s ∷ ss) num of lt h =
      let f = following (suc k) i n us v vs ss (omega arith) of (omega arith) h.1 in
      record {
        state = f.state;
        there = f.there;
        is_next = f.is_next;
        on = (without k u s v vs (other k v (λ e. omega arith)) h.0, f.on);
      }

  -- ---- what flies and what each element does, together

  leads_on : (us ss : List State) (ms end : List Message) (vs : List EventView) → AreLeading 0 us vs ss
      → AllByRecursion (λ v. v.element < length ss) vs → Flies message_of sent_by_event ms vs end
      → LeadTo g count (record { elements = us; flight = ms }) vs (record { elements = ss; flight = end })
  leads_on us ss ms end [] h below flight.no_more =
      subst (λ (xs : List State). LeadTo g count (record { elements = us; flight = ms }) []
      (record { elements = xs; flight = ms }))
      (ended 0 us ss h) no_more
  leads_on us ss ms end (v ∷ vs) h below (flight.follow others flying on) =
      let f = following 0 v.element v.element us v vs ss (omega arith) refl below.0 h in
      let turn = sym f.is_next.routed in
      let m : Message = v.message in
      let n : ℕ = route_of v.message.payload count in
      follow (record {
        others = others;
        flying = flying;
        state = f.state;
        element = subst (λ j. slice_get us j ≡ Some f.state) turn f.there;
        left = f.is_next.left;
        made = subst (λ j. event_of g j f.state v.message ≡ v) turn f.is_next.made;
      })
      (leads_on (slice_set us n (state_after g n f.state m)) ss (others ++ v.outputs) end vs
      (subst (λ j. AreLeading 0 (slice_set us j (state_after g j f.state v.message)) vs ss) turn f.on) below.1 on)

  -- ---- what the records of elements say

  module _ (ss : List State) (h : AreReplayed g count ss) where
    led : (n : ℕ) (s : State) → slice_get ss n ≡ Some s → Leads g count n fresh s.events s
    led n s at = replayed g count n s (h.replayed n s at) (recursion_from_All _ s.events (h.legal n s at))

    owned : AreOwn 0 ss
    owned = own 0 ss (λ n s at.
        let e : n ≡ 0 + n = omega arith in subst (λ j. IsOwn j s) e (is_own g count n s (led n s at)))

    all_stamped : AllByRecursion Stamped (events_of ss)
    all_stamped = each_event Stamped ss (λ n s at. stamped g count n fresh s s.events (led n s at))

    order_of : (es : List EventView) × AreMergedOf ss es
    order_of =
        let s = sorting by_moment_total (events_of ss) (apart 0 ss owned) in
        (s.list, record { all = s.all; sorted = s.sorted })

    leading : (es : List EventView) → AreMergedOf ss es → AreLeading 0 (replicate (length ss) fresh) es ss
    leading es merged = begun 0 es ss (λ n s at.
        let e : n ≡ 0 + n = omega arith in
        let mine = own_events 0 ss owned n s at in
        let sorted = (is_own g count n s (led n s at)).sorted in
        let same =
        picked by_moment_total (of_element (0 + n)) (events_of ss) es (apart 0 ss owned) merged.all merged.sorted
        (subst (IsStrictlySortedBy by_moment) (sym mine) sorted) in
        subst (λ vs. Leads g count (0 + n) fresh vs s) (sym (same ∙ mine))
        (subst (λ j. Leads g count j fresh s.events s) e (led n s at)))

-- ---- accounts

sent_is : (f : Message → ℕ) (ss : List State) (es : List EventView) → AreMergedOf ss es
    → sum_by f (flat_map sent_by_event es) ≡ sent_of f ss
sent_is f ss es merged =
    sum_flat f sent_by_event es
    ∙ sum_by-IsPermutation (λ v. sum_by f (sent_by_event v)) (events_of ss) es merged.all
    ∙ sum_flat (λ v. sum_by f (sent_by_event v)) (λ (s : State). s.events) ss
    ∙ sum_same (λ (s : State). sum_by (λ v. sum_by f (sent_by_event v)) s.events)
    (λ (s : State). sum_by f (flat_map sent_by_event s.events)) ss (λ s. sym (sum_flat f sent_by_event s.events))

taken_is : (f : Message → ℕ) (ss : List State) (es : List EventView) → AreMergedOf ss es
    → sum_by f (map message_of es) ≡ taken_of f ss
taken_is f ss es merged =
    sum_map f message_of es
    ∙ sum_by-IsPermutation (λ v. f (message_of v)) (events_of ss) es merged.all
    ∙ sum_flat (λ v. f (message_of v)) (λ (s : State). s.events) ss

told : Tells Message
told = tells message.the_row.coded

legal_order : (g : Parts) (vs : List Constant) (count : ℕ) (w : World) → AreReplayed g count w.elements
    → IsAccounted (start_messages g vs) w.elements w.flight
    → (es : List EventView) → AreMergedOf w.elements es → IsLegalOrder g vs count es w
legal_order g vs count w h accounted es merged =
    let all = each-permutation Stamped (events_of w.elements) es merged.all (all_stamped g count w.elements h) in
    let below = each-permutation (λ v. v.element < length w.elements) (events_of w.elements) es merged.all
    (each-weaker (λ v. v.element < 0 + length w.elements) (λ v. v.element < length w.elements) (λ v lt. omega arith)
    (events_of w.elements) (below_end 0 w.elements (owned g count w.elements h))) in
    let r = flies told message_of sent_by_event stamp_of stamp_in (start_messages g vs) es w.flight
    (rises es merged.sorted) all (λ f.
    let a = accounted f in
    let s = sent_is f w.elements es merged in
    let t = taken_is f w.elements es merged in
    omega (arith, a, s, t)) in
    record {
      flight = r.0;
      lead = subst (λ n. LeadTo g count (record { elements = replicate n fresh; flight = start_messages g vs }) es
          (record { elements = w.elements; flight = r.0 })) h.len
          (leads_on g count (replicate (length w.elements) fresh) w.elements (start_messages g vs) r.0 es
          (leading g count w.elements h es merged) below r.1);
      in_flight = r.2;
    }

run_of : (g : Parts) (vs : List Constant) (count : ℕ) (es : List EventView) (w : World) → IsLegalOrder g vs count es w
    → IsRunOf g vs count es w
run_of g vs count es w o =
    let r = runs.legal.are_runs g vs count es
    (record { end = record { elements = w.elements; flight = o.flight }; lead = o.lead }) in
    record {
      positions = r.positions;
      events = r.events;
      end = record { elements = r.end.elements; flight = next r.end.flight o.in_flight };
    }

among_left : (g : Parts) (vs : List Constant) (w : World) → IsAccounted (start_messages g vs) w.elements w.flight
    → (m : Message) → Among m w.flight → IsOfRecords g vs w.elements m
among_left g vs w accounted m among =
    let a = accounted (is told m) in
    let some = weight_among told m w.flight among in
    let sent : sum_by (is told m) (flat_map sent_by_event (events_of w.elements)) ≡ sent_of (is told m) w.elements =
    sum_flat (is told m) sent_by_event (events_of w.elements)
    ∙ sum_flat (λ v. sum_by (is told m) (sent_by_event v)) (λ (s : State). s.events) w.elements
    ∙ sum_same (λ (s : State). sum_by (λ v. sum_by (is told m) (sent_by_event v)) s.events)
    (λ (s : State). sum_by (is told m) (flat_map sent_by_event s.events)) w.elements
    (λ s. sym (sum_flat (is told m) sent_by_event s.events)) in
    ⊎_elim (λ (here : 0 < sum_by (is told m) (start_messages g vs)). inl
    (among_weight told m (start_messages g vs) here))
    (λ (none : sum_by (is told m) (start_messages g vs) ≤ 0).
    inr (among_weight told m (flat_map sent_by_event (events_of w.elements)) (omega (arith, a, some, sent))))
    (cases_lt 0 (sum_by (is told m) (start_messages g vs)))

-- what holds of each message of the start and of each that was sent holds of each that is left
pub left_holds : (P : Message → Type 0) (g : Parts) (vs : List Constant) (w : World)
    → IsAccounted (start_messages g vs) w.elements w.flight → AllByRecursion P (start_messages g vs)
    → AllByRecursion P (flat_map (λ v. v.outputs) (events_of w.elements)) → AllByRecursion P w.flight
left_holds P g vs w accounted begun sent = go w.flight (λ m among. among_left g vs w accounted m among)
  where
    one : (ms : List Message) (m : Message) → AllByRecursion P ms → Among m ms → P m
    one [] m all a = absurd a
    one (x ∷ xs) m all (inl e) = subst P (sym e) all.0
    one (x ∷ xs) m all (inr a) = one xs m all.1 a

    of : (m : Message) → IsOfRecords g vs w.elements m → P m
    of m (inl a) = one (start_messages g vs) m begun a
    of m (inr a) = one (flat_map (λ v. v.outputs) (events_of w.elements)) m sent a

    go : (ms : List Message) → ((m : Message) → Among m ms → IsOfRecords g vs w.elements m) → AllByRecursion P ms
    go [] each = tt
    go (m ∷ ms) each = (of m (each m (inl refl)), go ms (λ x a. each x (inr a)))

pub orders : OrdersAreRuns
orders = record {
  legal = legal_order;
  runs = λ g vs count w h accounted es merged. run_of g vs count es w (legal_order g vs count w h accounted es merged);
  order = λ g count ss h. order_of g count ss h;
  left_among = among_left;
}
