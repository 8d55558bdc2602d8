-- A record that leads to a state does so event by event.
use Rattle.std.proofs.Common.{◌≡◌, ℕ, ◌+◌, ◌<◌, ◌-◌, ◌^◌, ◌==◌, ◌||◌, Bool, true, false, max}
use Rattle.std.proofs.Common.{List, [], ◌∷◌, ◌++◌, refl, sym, ap}
use Rattle.std.proofs.Common.{◌∙◌, subst, append_assoc, append-nil, arith, length, ⊎_elim}
use Rattle.std.specs.List.{AllByRecursion}
use Rattle.std.specs.List.Sorted.{IsStrictlySortedBy}
use Rattle.std.specs.declared.cmp.Ordering.TheVariants.{Less}
use Rattle.std.proofs.lemmas.Bool.{cases_Bool, eqb-true}
use Rattle.id_instr.specs.Graph.{Parts}
use Rattle.id_tag.specs.declared.Message.{Message}
use Rattle.id_tag.specs.declared.Payload.{Payload}
use Rattle.id_tag.specs.Routes.{route_of}
use Rattle.id_record.specs.Events.{EventView}
use Rattle.id_record.specs.Sends.{numbered}
use Rattle.id_step.specs.Steps.{State, event_of, fresh, is_ended, next_stamp, outcome_of, state_after}
use Rattle.id_step.specs.Replays.{IsLegal, IsReplayed, after_all, messages}
use Rattle.id_record.proofs.EachLemmas.{each-weaker}
use Rattle.id_observe.specs.Merged.{by_moment}
use Rattle.id_observe.proofs.MergedLemmas.{earlier_stamp}
use Rattle.id_runs.proofs.Flights.{IsStamped}

abbrev pub message_of : EventView → Message
message_of v = v.message

abbrev pub sent_by_event : EventView → List Message
sent_by_event v = v.outputs

abbrev pub stamp_of : EventView → ℕ
stamp_of v = v.stamp

abbrev pub stamp_in : Message → ℕ
stamp_in m = m.stamp

abbrev pub Stamped : EventView → Type 0
Stamped v = IsStamped message_of sent_by_event stamp_of stamp_in v

-- the event is the one that the element n of so many makes of its message in this state
pub record IsNext (g : Parts) (count n : ℕ) (s : State) (v : EventView) : Type 0 where
  pub routed : route_of v.message.payload count ≡ n
  pub left : is_ended s v.message ≡ false
  pub made : event_of g n s v.message ≡ v

module _ {A : Type 0} where
  first_same : {x y : A} {xs ys : List A} → x ∷ xs ≡ y ∷ ys → x ≡ y
  first_same h = cc

  rest_same : {x y : A} {xs ys : List A} → x ∷ xs ≡ y ∷ ys → xs ≡ ys
  rest_same h = cc

not_last : (n : ℕ) → n < 2 ^ 64 - 1 → (n == 2 ^ 64 - 1) ≡ false
not_last n lt = ⊎_elim (λ (yes : (n == 2 ^ 64 - 1) ≡ true). absurd (let e = eqb-true n (2 ^ 64 - 1) yes in omega arith))
    (λ (no : (n == 2 ^ 64 - 1) ≡ false). no) (cases_Bool (n == 2 ^ 64 - 1))

neither : (a b : Bool) → a ≡ false → b ≡ false → (a || b) ≡ false
neither a b h k = cc

not_ended : (s : State) (m : Message) → s.stamp < 2 ^ 64 - 1 → m.stamp < 2 ^ 64 - 1 → is_ended s m ≡ false
not_ended s m a b = neither (s.stamp == 2 ^ 64 - 1) (m.stamp == 2 ^ 64 - 1) (not_last s.stamp a) (not_last m.stamp b)

module _ (g : Parts) (count n : ℕ) where
  -- each of these events is the element's next, and they lead from one state to another
  abbrev pub Leads : State → List EventView → State → Type 0
  Leads s [] e = s ≡ e
  Leads s (v ∷ vs) e = IsNext g count n s v × Leads (state_after g n s v.message) vs e

  -- the events that the element makes of these messages, one after another
  abbrev made_of : State → List Message → List EventView
  made_of s [] = []
  made_of s (m ∷ ms) = event_of g n s m ∷ made_of (state_after g n s m) ms

  events_after : (s : State) (ms : List Message) → (after_all g n s ms).events ≡ s.events ++ made_of s ms
  events_after s [] = sym (append-nil s.events)
  events_after s (m ∷ ms) =
      events_after (state_after g n s m) ms
      ∙ append_assoc s.events (event_of g n s m ∷ []) (made_of (state_after g n s m) ms)

  is_next : (s : State) (v : EventView) → IsLegal g count n v → event_of g n s v.message ≡ v → IsNext g count n s v
  is_next s v legal made =
      let stamp : max s.stamp v.message.stamp + 1 ≡ v.stamp = ap stamp_of made in
      let below = legal.stamp in
      record {
        routed = legal.for_it.routed;
        left = not_ended s v.message (omega arith) legal.stamp_left;
        made = made;
      }

  leads : (s e : State) (vs : List EventView) → AllByRecursion (IsLegal g count n) vs → vs ≡ made_of s (messages vs)
      → e ≡ after_all g n s (messages vs) → Leads s vs e
  leads s e [] legal is end = sym end
  leads s e (v ∷ vs) legal is end = (
    is_next s v legal.0 (sym (first_same is)),
    leads (state_after g n s v.message) e vs legal.1 (rest_same is) end,
  )

  -- the record of a state that it leads to does so event by event
  pub replayed : (s : State) → IsReplayed g n s → AllByRecursion (IsLegal g count n) s.events → Leads fresh s.events s
  replayed s is legal =
      leads fresh s s.events legal (ap (λ (x : State). x.events) is ∙ events_after fresh (messages s.events)) is

  sent_stamps : (position stamp k : ℕ) (xs : List Payload)
      → AllByRecursion (λ (m : Message). m.stamp ≡ stamp) (numbered n position stamp k xs)
  sent_stamps position stamp k [] = tt
  sent_stamps position stamp k (x ∷ xs) = (refl, sent_stamps position stamp (k + 1) xs)

  stamped_event : (s : State) (m : Message) → Stamped (event_of g n s m)
  stamped_event s m = record {
    taken = omega arith;
    sent = sent_stamps (length s.events) (next_stamp s m) 0 (outcome_of g n s m).sends;
  }

  -- what its events sent has their stamps, and these are above those of the messages that they took
  pub stamped : (s e : State) (vs : List EventView) → Leads s vs e → AllByRecursion Stamped vs
  stamped s e [] h = tt
  stamped s e (v ∷ vs) h =
      (subst Stamped h.0.made (stamped_event s v.message), stamped (state_after g n s v.message) e vs h.1)

  -- stamps rise in it, and its events are the element's own
  pub rising : (s e : State) (vs : List EventView) → Leads s vs e
      → AllByRecursion (λ v. s.stamp < v.stamp) vs × IsStrictlySortedBy by_moment vs
  unfolding IsStrictlySortedBy
  rising s e [] h = (tt, tt)
  rising s e (v ∷ vs) h =
      let stamp : max s.stamp v.message.stamp + 1 ≡ v.stamp = ap stamp_of h.0.made in
      let r = rising (state_after g n s v.message) e vs h.1 in (
        (
          omega arith,
          each-weaker (λ u. next_stamp s v.message < u.stamp) (λ u. s.stamp < u.stamp) (λ u lt. omega arith) vs r.0,
        ),
        (
          each-weaker (λ u. next_stamp s v.message < u.stamp) (λ u. by_moment v u ≡ Less)
              (λ u lt. earlier_stamp v u (omega arith)) vs r.0,
          r.1,
        ),
      )

  pub own : (s e : State) (vs : List EventView) → Leads s vs e → AllByRecursion (λ v. v.element ≡ n) vs
  own s e [] h = tt
  own s e (v ∷ vs) h =
      let made : n ≡ v.element = ap (λ (x : EventView). x.element) h.0.made in
      (sym made, own (state_after g n s v.message) e vs h.1)

-- the events of a record in order, all of one element
pub record IsOwn (n : ℕ) (s : State) : Type 0 where
  pub sorted : IsStrictlySortedBy by_moment s.events
  pub own : AllByRecursion (λ v. v.element ≡ n) s.events

pub is_own : (g : Parts) (count n : ℕ) (s : State) → Leads g count n fresh s.events s → IsOwn n s
is_own g count n s h =
    record { sorted = (rising g count n fresh s s.events h).1; own = own g count n fresh s s.events h }
