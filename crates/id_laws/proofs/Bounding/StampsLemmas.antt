-- The stamps of a run: none is greater than the number of its events.
use Rattle.std.proofs.Common.{◌≡◌, ◌⊎◌, inl, inr, ℕ, zero, suc, ◌+◌, ◌-◌, ◌^◌, ◌≤◌, ◌<◌, Bool, true, false, List, []}
use Rattle.std.proofs.Common.{◌∷◌, ◌++◌, length, Some}
use Rattle.std.proofs.Common.{set, replicate, slice_get, refl, ap, subst, ◌∙◌, arith, length-append, length-set}
use Rattle.std.specs.Prelude.{◌==◌}
use Rattle.std.specs.List.{filter, remove}
use Rattle.std.proofs.lemmas.Bool.{eqb-true, or_cases}
use Rattle.std.proofs.lemmas.List.{length-replicate}
use Rattle.id_instr.specs.declared.instr.Block.{Block}
use Rattle.id_instr.specs.Graph.{Parts}
use Rattle.id_value.specs.List.{Among}
use Rattle.id_value.proofs.AmongLemmas.{Among-either, Among-from_at}
use Rattle.id_value.proofs.PlacesLemmas.{Among-from_remove, slice_get-set}
use Rattle.id_tag.specs.declared.Payload.{Payload}
use Rattle.id_tag.specs.declared.Message.{Message}
use Rattle.id_tag.specs.Routes.{route_of}
use Rattle.id_value.specs.declared.Constant.{Constant}
use Rattle.id_valid.specs.Roles.{has_main_place}
use Rattle.id_record.specs.Sends.{numbered}
use Rattle.id_core.specs.Steps.{State, fresh, is_ended, next_stamp, outcome_of, outputs_of, state_after}
use Rattle.id_core.specs.Machines.{World, block_messages, input_messages, run, start, taken_from}
use Rattle.id_core.specs.Observed.{events_of}
use Rattle.id_runs.specs.Legal.{InSomeOrder, IsSameBut, none, keep, swap, next}
use Rattle.id_runs.specs.Events.{Event}
use Rattle.id_runs.specs.Runs.{Reach, begin, deliver}
use Rattle.id_runs.proofs.Runs.{reached}

-- ---- how many events there are

-- where one element has an event more, so have all
pub events_more : (es : List State) (n : ℕ) (e e' : State) → slice_get es n ≡ Some e
    → length e'.events ≡ suc (length e.events) → length (events_of (set es n e')) ≡ suc (length (events_of es))
events_more [] n e e' at more = cc
events_more (y ∷ es) zero e e' at more =
    let is : y ≡ e = cc in
    let here : length y.events ≡ length e.events = ap (λ (z : State). length z.events) is in
    omega (arith, length-append e'.events (events_of es), length-append y.events (events_of es), here, more)
events_more (y ∷ es) (suc n) e e' at more =
    omega (
      arith,
      length-append y.events (events_of (set es n e')),
      length-append y.events (events_of es),
      events_more es n e e' at more,
    )

-- one element has no more than all
pub events_few : (es : List State) (n : ℕ) (e : State) → slice_get es n ≡ Some e
    → length e.events ≤ length (events_of es)
events_few [] n e at = cc
events_few (y ∷ es) zero e at =
    let is : y ≡ e = cc in
    let here : length y.events ≡ length e.events = ap (λ (z : State). length z.events) is in
    omega (arith, length-append y.events (events_of es), here)
events_few (y ∷ es) (suc n) e at = omega (arith, length-append y.events (events_of es), events_few es n e at)

-- a step is one event more
pub one_more : (g : Parts) (n : ℕ) (e : State) (m : Message)
    → length (state_after g n e m).events ≡ suc (length e.events)
one_more g n e m = simp length-append (omega arith)

-- ---- stamps

-- there are so many elements, and no stamp is greater than the number of events
pub record AreStamped (count : ℕ) (s : World) : Type 0 where
  pub many : length s.elements ≡ count
  pub elements : (n : ℕ) (e : State) → slice_get s.elements n ≡ Some e → e.stamp ≤ length (events_of s.elements)
  pub flight : (m : Message) → Among m s.flight → m.stamp ≤ length (events_of s.elements)

fresh_stamp : (k n : ℕ) (e : State) → slice_get (replicate k fresh) n ≡ Some e → e.stamp ≡ 0
fresh_stamp zero n e h = cc
fresh_stamp (suc k) zero e h = let is : e ≡ fresh = cc in ap (λ (z : State). z.stamp) is
fresh_stamp (suc k) (suc n) e h = fresh_stamp k n e h

input_stamp : (k : ℕ) (ns : List ℕ) (vs : List Constant) (m : Message) → Among m (input_messages k ns vs) → m.stamp ≡ 0
input_stamp k [] vs m h = absurd h
input_stamp k (n ∷ ns) [] m h = absurd h
input_stamp k (n ∷ ns) (v ∷ vs) m (inl e) = ap (λ (z : Message). z.stamp) e
input_stamp k (n ∷ ns) (v ∷ vs) m (inr h) = input_stamp (suc k) ns vs m h

block_stamp : (bs : List Block) (vs : List Constant) (m : Message) → Among m (block_messages bs vs) → m.stamp ≡ 0
block_stamp [] vs m h = absurd h
block_stamp (b ∷ bs) vs m (inl e) = ap (λ (z : Message). z.stamp) e
block_stamp (b ∷ bs) vs m (inr (inl e)) = ap (λ (z : Message). z.stamp) e
block_stamp (b ∷ bs) vs m (inr (inr h)) = input_stamp 2 b.entries vs m h

sent_stamp : (n position stamp k : ℕ) (xs : List Payload) (m : Message) → Among m (numbered n position stamp k xs)
    → m.stamp ≡ stamp
sent_stamp n position stamp k [] m h = absurd h
sent_stamp n position stamp k (x ∷ xs) m (inl e) = ap (λ (z : Message). z.stamp) e
sent_stamp n position stamp k (x ∷ xs) m (inr h) = sent_stamp n position stamp (k + 1) xs m h

module _ (g : Parts) (vs : List Constant) (count : ℕ) where
  begun : AreStamped count (start g vs count)
  begun = record {
    many = length-replicate count fresh;
    elements = λ n e h. omega (arith, fresh_stamp count n e h);
    flight = λ m h. omega (arith, block_stamp (filter (has_main_place g) g.blocks) vs m h);
  }

  module _ (s : World) (k : ℕ) (m : Message) (e : State) (at : slice_get s.flight k ≡ Some m)
      (element : slice_get s.elements (route_of m.payload count) ≡ Some e) (h : AreStamped count s) where
    more : length (events_of (set s.elements (route_of m.payload count) (state_after g (route_of m.payload count) e m)))
        ≡ suc (length (events_of s.elements))
    more = events_more s.elements (route_of m.payload count) e (state_after g (route_of m.payload count) e m) element
        (one_more g (route_of m.payload count) e m)

    stamp : next_stamp e m ≤ suc (length (events_of s.elements))
    stamp = omega (arith, h.elements (route_of m.payload count) e element, h.flight m (Among-from_at m s.flight k at))

    stepped : AreStamped count (taken_from g k s m (route_of m.payload count) e)
    stepped = record {
      many = length-set s.elements (route_of m.payload count) (state_after g (route_of m.payload count) e m) ∙ h.many;
      elements = elements;
      flight = flight;
    }
      where
        elements : (i : ℕ) (x : State)
            → slice_get (set s.elements (route_of m.payload count) (state_after g (route_of m.payload count) e m)) i
            ≡ Some x → x.stamp ≤ length
            (events_of (set s.elements (route_of m.payload count) (state_after g (route_of m.payload count) e m)))
        elements i x there =
            by (slice_get-set s.elements (route_of m.payload count) i (state_after g (route_of m.payload count) e m) x
            there)
          where
            by : ((i ≡ route_of m.payload count) × (x ≡ state_after g (route_of m.payload count) e m))
                ⊎ (slice_get s.elements i ≡ Some x)
                → x.stamp ≤ length
                (events_of (set s.elements (route_of m.payload count) (state_after g (route_of m.payload count) e m)))
            by (inl is) =
                let same : x.stamp ≡ next_stamp e m =
                ap (λ (z : State). z.stamp) is.1 in omega (arith, more, stamp, same)
            by (inr old) = omega (arith, more, h.elements i x old)

        flight : (x : Message) → Among x (remove s.flight k ++ outputs_of g (route_of m.payload count) e m)
            → x.stamp ≤ length
            (events_of (set s.elements (route_of m.payload count) (state_after g (route_of m.payload count) e m)))
        flight x there = elim (Among-either x (remove s.flight k) (outputs_of g (route_of m.payload count) e m) there) [
          | inl old ↦ omega (arith, more, h.flight x (Among-from_remove x s.flight k old))
          | inr new ↦ omega (
            arith,
            more,
            stamp,
            sent_stamp (route_of m.payload count) (length e.events) (next_stamp e m) 0
                (outcome_of g (route_of m.payload count) e m).sends x new,
          )
        ]

  stamped_at : (s : World) (es : List Event) → Reach g vs count s es → AreStamped count s
  stamped_at s es begin = begun
  stamped_at s es (deliver {s = s₀} {run = es₀} k m e r at element) = stepped s₀ k m e at element (stamped_at s₀ es₀ r)

  pub stamped : (ks : List ℕ) → AreStamped count (run g count ks (start g vs count))
  stamped ks = let r = reached g vs count ks in stamped_at _ r.events r.reach

-- ---- in another order

module _ {A : Type 0} where
  pub same_order : (xs : List A) → InSomeOrder xs xs
  same_order [] = none
  same_order (x ∷ xs) = keep x (same_order xs)

  pub none_left : {xs ys : List A} → InSomeOrder xs ys → ys ≡ [] → xs ≡ []
  none_left none e = refl
  none_left (keep x h) e = absurd cc
  none_left (swap x y) e = absurd cc
  none_left (next h k) e = none_left h (none_left k e)

  pub as_many : {xs ys : List A} → InSomeOrder xs ys → length xs ≡ length ys
  as_many none = refl
  as_many (keep x h) = ap suc (as_many h)
  as_many (swap x y) = refl
  as_many (next h k) = as_many h ∙ as_many k

  pub also_among : {xs ys : List A} → InSomeOrder xs ys → (x : A) → Among x ys → Among x xs
  also_among none x h = h
  also_among (keep y p) x (inl e) = inl e
  also_among (keep y p) x (inr h) = inr (also_among p x h)
  also_among (swap y z) x (inl e) = inr (inl e)
  also_among (swap y z) x (inr (inl e)) = inl e
  also_among (swap y z) x (inr (inr h)) = inr (inr h)
  also_among (next p q) x h = also_among p x (also_among q x h)

-- so it is in a state that is one with the run's but for the order of what is in flight
pub AreStamped-same : (count : ℕ) (s w : World) → IsSameBut s w → AreStamped count s → AreStamped count w
AreStamped-same count s w same h = record {
  many = subst (λ (es : List State). length es ≡ count) same.elements h.many;
  elements =
      subst (λ (es : List State). (n : ℕ) (e : State) → slice_get es n ≡ Some e
      → e.stamp ≤ length (events_of es)) same.elements h.elements;
  flight = λ m there. subst (λ (es : List State). m.stamp ≤ length (events_of es)) same.elements
      (h.flight m (also_among same.flight m there));
}

-- ---- the end of stamps

-- where no stamp is left, there were as many events as stamps
pub ended_late : (count : ℕ) (s : World) (n : ℕ) (e : State) (m : Message) → AreStamped count s
    → slice_get s.elements n ≡ Some e → Among m s.flight → is_ended e m ≡ true
    → 2 ^ 64 - 1 ≤ length (events_of s.elements)
ended_late count s n e m h at there ended = by (or_cases (e.stamp == 2 ^ 64 - 1) (m.stamp == 2 ^ 64 - 1) ended)
  where
    by : ((e.stamp == 2 ^ 64 - 1) ≡ true) ⊎ ((m.stamp == 2 ^ 64 - 1) ≡ true)
        → 2 ^ 64 - 1 ≤ length (events_of s.elements)
    by (inl k) = omega (arith, eqb-true e.stamp (2 ^ 64 - 1) k, h.elements n e at)
    by (inr k) = omega (arith, eqb-true m.stamp (2 ^ 64 - 1) k, h.flight m there)

-- so where there were fewer, one is left
pub ended_not : (count : ℕ) (s : World) (n : ℕ) (e : State) (m : Message) → AreStamped count s
    → slice_get s.elements n ≡ Some e → Among m s.flight → length (events_of s.elements) < 2 ^ 64 - 1
    → is_ended e m ≡ false
ended_not count s n e m h at there few = by (is_ended e m) refl
  where
    by : (b : Bool) → is_ended e m ≡ b → b ≡ false
    by true k = let late = ended_late count s n e m h at there k in absurd (omega (arith, few, late))
    by false k = refl
