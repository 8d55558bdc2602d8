-- What a delivery leaves.
use Rattle.std.proofs.Common.{◌≡◌, ℕ, zero, ◌-◌, ◌<◌, Bool, true, false, Some, List, [], ◌∷◌, ◌++◌, map, length, get_or}
use Rattle.std.proofs.Common.{set, slice_get, slice_set, inl, inr, refl, sym, ap, ◌∙◌, subst, append_assoc, arith}
use Rattle.std.specs.Prelude.{All, Err, IsTrue, Ok, OnErr, OnOk, Result, is_err, option_map}
use Rattle.std.specs.List.{remove}
use Rattle.std.proofs.lemmas.Bool.{false≢true}
use Rattle.std.proofs.lemmas.List.{length-set, length-append, map-set}
use Rattle.std.proofs.lemmas.List.Elements.{All-push}
use Rattle.std.proofs.lemmas.Option.{get_or_from_slice_get, slice_get_cases, slice_get_within, slice_get-map}
use Rattle.std.proofs.lemmas.Option.{slice_get-get_or, slice_get_read}
use Rattle.id_value.specs.List.{Among}
use Rattle.id_value.proofs.AmongLemmas.{Among-from_at, at-from_Among}
use Rattle.id_value.proofs.PlacesLemmas.{set-here, slice_get-last}
use Rattle.id_instr.specs.Graph.{Parts}
use Rattle.id_tag.specs.declared.Message.{Message}
use Rattle.id_tag.specs.Routes.{route_of}
use Rattle.id_record.specs.declared.kept.Keeps.{Keeps}
use Rattle.id_record.specs.declared.step.Step.{Step}
use Rattle.id_step.specs.declared.step.TakeError.{TakeError}
use Rattle.id_step.specs.Takes.{Handles}
use Rattle.id_core.specs.Events.{EventView}
use Rattle.id_core.specs.Fits.{Fits}
use Rattle.id_core.specs.Replays.{ElementView}
use Rattle.id_core.specs.Steps.{State, event_of, is_ended, outputs_of, state_after, step_of}
use Rattle.id_core.specs.Machines.{IsElement, IsMachine}
use Rattle.id_core.proofs.MachinesLemmas.{IsGiven, IsMachine-given, taken}
use Rattle.id_runs.specs.Legal.{CanFollow, InSomeOrder, after_event}
use Rattle.id_judge.specs.Benches.{BenchView, Delivers, IsLast, Replaces, number_for, world_in}
use Rattle.id_judge.proofs.OrderLemmas.{also_among, other_order}

-- what holds of all holds of those that are among them
pub all_among : {A : Type 0} (P : A → Type 0) (xs ys : List A) → ((y : A) → Among y ys → Among y xs) → All P xs
    → All P ys
all_among P xs ys inside all k d lt =
    let y = get_or ys k d in
    let found = at-from_Among y xs (inside y (Among-from_at y ys k (slice_get-get_or ys k d lt))) in
    subst P (get_or_from_slice_get xs found.0 y d found.1) (all found.0 d (slice_get_within xs found.0 y found.1))

-- ---- what is sent

-- a message that is added stands behind the others
pub sent_more : {A E : Type 0} (r : Result A E) (b : Bool) → b ≡ is_err r → b ≡ false
    → (flight more sent left all : List Message) (m : Message) → OnOk r (more ≡ flight ++ m ∷ []) → sent ≡ m ∷ left
    → flight ++ sent ≡ all → more ++ left ≡ all
sent_more (Ok x) b is kept flight more sent left all m added was same =
    ap (λ ms. ms ++ left) added ∙ append_assoc flight (m ∷ []) left ∙ ap (λ ms. flight ++ ms) (sym was) ∙ same
sent_more (Err e) b is kept flight more sent left all m added was same = absurd (false≢true (sym kept ∙ is))

-- whether it is added or not, all still fits
pub fit_more : {A E : Type 0} (r : Result A E) (g : Parts) (flight more sent left : List Message) (m : Message)
    → OnOk r (more ≡ flight ++ m ∷ []) → OnErr r (more ≡ flight) → sent ≡ m ∷ left
    → All (Fits g) flight × All (Fits g) sent → All (Fits g) more × All (Fits g) left
fit_more {A} {E} r g flight more sent left m added lost was fit =
    (here r added lost, all_among (Fits g) (m ∷ left) left (λ y a. inr a) rest)
  where
    rest : All (Fits g) (m ∷ left)
    rest = subst (All (Fits g)) was fit.1

    here : (a : Result A E) → OnOk a (more ≡ flight ++ m ∷ []) → OnErr a (more ≡ flight) → All (Fits g) more
    here (Ok x) is none = subst (All (Fits g)) (sym is) (All-push (Fits g) flight m fit.0 (rest zero m (omega arith)))
    here (Err e) none is = subst (All (Fits g)) (sym is) fit.0

-- what is left when a message is taken out fits, where all fitted
pub fit_left : (g : Parts) (old left : List Message) (k : ℕ) → k < length old
    → ((m : Message) → slice_get old k ≡ Some m → InSomeOrder old (m ∷ left)) → All (Fits g) old → All (Fits g) left
fit_left g old left k within out all = elim ((slice_get_cases old k).1) [
  | inl there ↦ all_among (Fits g) old left
      (λ y a. also_among y (there.0 ∷ left) old (other_order old (there.0 ∷ left) (out there.0 there.2)) (inr a)) all
  | inr past ↦ absurd (omega (arith, within, past.0))
]

-- ---- what every delivery keeps

module _ {g : Parts} {keeps : Keeps} {es : List ElementView} {flight : List Message} {k n : ℕ} {m : Message}
    {e : ElementView}
    (given : IsGiven g (length es) es flight k n m e) (old : IsMachine g keeps es flight) where
  -- the element is the one of its number
  own_element : IsElement g (length es) n e
  own_element = subst (IsElement g (length es) n) (get_or_from_slice_get es n e e given.element)
      (old.elements n e (slice_get_within es n e given.element))

  -- with other messages in flight, which fit, the machine stays one, whatever the delivery came to
  pub machine_after : (later : ElementView) (sent outs left : List Message) (r : Result Step TakeError)
      → Handles e later m sent sent outs r → All (Fits g) left → IsMachine g keeps (set es n later) left
  machine_after later sent outs left r h fit =
      let all : IsMachine g keeps (set es n later) (rest r) = IsMachine-given given old r (moved r h) in
      record {
        at_least_one = all.at_least_one;
        at_most_64 = all.at_most_64;
        elements = all.elements;
        kept = all.kept;
        flight_fits = fit;
      }
    where
      rest : Result Step TakeError → List Message
      rest (Ok s) = remove flight k ++ outputs_of e.graph e.number e.state m
      rest (Err x) = flight

      moved : (a : Result Step TakeError) → Handles e later m sent sent outs a
          → Handles e later m flight (remove flight k) (rest a) a
      moved (Ok s) x = record {
        becomes =
            record { stamp = x.becomes.stamp; step = x.becomes.step; element = x.becomes.element; outputs = refl };
        fits = x.fits;
        ended = x.ended;
      }
      moved (Err y) x = record {
        becomes = record { element = x.becomes.element; same = refl };
        fits = x.fits;
        ended = x.ended;
      }

  -- what was sent fits
  pub sent_fit : (later : ElementView) (sent outs : List Message) (s : Step) → sent ≡ []
      → Handles e later m sent sent outs (Ok s) → All (Fits g) outs
  sent_fit later sent outs s none h =
      let P : Parts → Type 0 = λ x. All (Fits x) (outputs_of e.graph e.number e.state m) in
      subst (All (Fits g)) (sym (h.becomes.outputs ∙ ap (λ ms. ms ++ outputs_of e.graph e.number e.state m) none))
      (subst P own_element.graph h.fits)

-- ---- what a delivery comes to

module _ (b : BenchView) (bench : IsMachine b.graph b.keeps b.elements b.flight) (k : ℕ) (m : Message)
    (at : slice_get b.flight k ≡ Some m) (e : ElementView)
    (element : slice_get b.elements (number_for b m) ≡ Some e) where
  abbrev n : ℕ
  n = number_for b m

  element_is : IsElement b.graph (length b.elements) n e
  element_is =
      own_element {flight = b.flight} {k = k} {m = m} (record { there = at; routed = refl; element = element }) bench

  module _ (left : is_ended e.state m ≡ false) (others : List Message) (out : InSomeOrder b.flight (m ∷ others)) where
    abbrev pub after : BenchView
    after = record {
      graph = b.graph;
      keeps = b.keeps;
      elements = set b.elements n (taken e m);
      flight = others ++ outputs_of e.graph e.number e.state m;
    }

    abbrev event : EventView
    event = event_of b.graph n e.state m

    abbrev can : CanFollow b.graph (length b.elements) (world_in b) event
    can = record {
      others = others;
      flying = out;
      state = e.state;
      element =
          slice_get-map (λ (x : ElementView). x.state) b.elements n
          ∙ ap (option_map (λ (x : ElementView). x.state)) element;
      left = left;
      made = refl;
    }

    followed : after_event b.graph (length b.elements) (world_in b) event can ≡ world_in after
    followed =
        let f : ElementView → State = λ x. x.state in
        let later : state_after b.graph n e.state m ≡ state_after e.graph e.number e.state m =
        λ i. state_after (sym element_is.graph i) (sym element_is.number i) e.state m in
        let sends : outputs_of b.graph n e.state m ≡ outputs_of e.graph e.number e.state m =
        λ i. outputs_of (sym element_is.graph i) (sym element_is.number i) e.state m in
        let states : slice_set (map f b.elements) n (state_after b.graph n e.state m)
        ≡ map f (set b.elements n (taken e m)) =
        ap (slice_set (map f b.elements) n) later ∙ sym (map-set f b.elements n (taken e m)) in
        λ i. record { elements = states i; flight = others ++ sends i }

    last_is : (xs : List EventView) (x : EventView) → slice_get (xs ++ x ∷ []) (length (xs ++ x ∷ []) - 1) ≡ Some x
    last_is xs x =
        let many : length (xs ++ x ∷ []) - 1 ≡ length xs = omega (arith, length-append xs (x ∷ [])) in
        ap (slice_get (xs ++ x ∷ [])) many ∙ slice_get-last x xs

    recorded : IsLast after m event
    recorded = record {
      element = taken e m;
      there =
          ap (λ c. slice_get (set b.elements n (taken e m)) (route_of m.payload c))
          (length-set b.elements n (taken e m))
          ∙ set-here b.elements n (taken e m) e element;
      last =
          subst (λ (v : EventView). slice_get (taken e m).state.events (length (taken e m).state.events - 1) ≡ Some v)
          (λ i. event_of (element_is.graph i) (element_is.number i) e.state m)
          (last_is e.state.events (event_of e.graph e.number e.state m));
    }

    came : (s : Step) → s ≡ step_of e.graph e.number e.state m → event.step ≡ s
    came s is = (λ i. step_of (sym element_is.graph i) (sym element_is.number i) e.state m) ∙ sym is

    pub delivers : (s : Step) → s ≡ step_of e.graph e.number e.state m → Delivers b m s after
    delivers s is = record {
      event = event;
      of = refl;
      came = came s is;
      follows = record { can = can; after = followed };
      same_graph = refl;
      same_keeps = refl;
      same_count = length-set b.elements n (taken e m);
      recorded = recorded;
    }

-- the element of a message, read at its number
pub element_there : (b : BenchView) (m : Message) (i : ℕ) (e : ElementView) → i ≡ number_for b m → i < length b.elements
    → e ≡ get_or b.elements i e → slice_get b.elements (number_for b m) ≡ Some e
element_there b m i e is below read =
    subst (λ j. slice_get b.elements j ≡ Some e) is (slice_get_read b.elements (length b.elements) i e refl below read)

-- the last event of its element
pub last_at : (b : BenchView) (m : Message) (v : EventView) (e : ElementView) (events : List EventView) → IsLast b m v
    → slice_get b.elements (number_for b m) ≡ Some e → events ≡ e.state.events
    → slice_get events (length events - 1) ≡ Some v
last_at b m v e events l there is =
    let one : l.element ≡ e = some_one l.element e (sym l.there ∙ there) in
    let here : l.element.state.events ≡ events = ap (λ (x : ElementView). x.state.events) one ∙ sym is in
    subst (λ (xs : List EventView). slice_get xs (length xs - 1) ≡ Some v) here l.last
  where
    some_one : (x y : ElementView) → Some x ≡ Some y → x ≡ y
    some_one x y h = cc

-- a message was taken by its element, and what it sent is in flight in its place
pub done : (b : BenchView) (bench : IsMachine b.graph b.keeps b.elements b.flight) (k : ℕ) (m : Message)
    (at : slice_get b.flight k ≡ Some m) (e : ElementView) (element : slice_get b.elements (number_for b m) ≡ Some e)
    (left : is_ended e.state m ≡ false)
    (sent outs : List Message) (c : BenchView) → sent ≡ [] → outs ≡ sent ++ outputs_of e.graph e.number e.state m
    → Replaces m b.flight outs c.flight → c.graph ≡ b.graph → c.keeps ≡ b.keeps
    → c.elements ≡ set b.elements (number_for b m) (taken e m)
    → (s : Step) → s ≡ step_of e.graph e.number e.state m → Delivers b m s c
done b bench k m at e element left sent outs c none is r graph keeps elements s came =
    let all : c.flight ≡ r.others ++ outputs_of e.graph e.number e.state m =
    r.flight ∙ ap (λ ms. r.others ++ ms) (is ∙ ap (λ ms. ms ++ outputs_of e.graph e.number e.state m) none) in
    let same : after b bench k m at e element left r.others r.out ≡ c =
    λ i. record { graph = sym graph i; keeps = sym keeps i; elements = sym elements i; flight = sym all i } in
    subst (Delivers b m s) same (delivers b bench k m at e element left r.others r.out s came)

pub left_ok : {A E : Type 0} (a : A) (x : E) (b : Bool) → (◌≡◌ {A = Result A E} (Ok a) (Err x) → IsTrue b)
    × (IsTrue b → ◌≡◌ {A = Result A E} (Ok a) (Err x)) → b ≡ false
left_ok {A} {E} a x true both = let end : ◌≡◌ {A = Result A E} (Ok a) (Err x) = both.1 refl in absurd cc
left_ok a x false both = refl

-- an error is the same, whatever else would be answered
pub other_err : {A B E : Type 0} (x y : E) → ◌≡◌ {A = Result A E} (Err x) (Err y) → ◌≡◌ {A = Result B E} (Err x) (Err y)
other_err {A} {B} {E} x y h = let same : x ≡ y = cc in ap (λ z. Err z) same
