-- The calling thread goes on with what is left (specs/Runs.antt).
use Rattle.std.proofs.Common.{◌≡◌, ◌≢◌, ℕ, zero, suc, ◌+◌, ◌-◌, ◌^◌, ◌==◌, ◌<◌, ◌≤◌, ◌⊎◌, Bool, true, false, cond, ◌||◌}
use Rattle.std.proofs.Common.{inl, inr, List, [], ◌∷◌, ◌++◌, All, length, take, drop, Some, None, IsTrue, IsFalse, refl}
use Rattle.std.proofs.Common.{sym, ap, subst, ◌∙◌, arith, length-append, length-set, append_assoc, get_or}
use Rattle.std.proofs.Common.{get_or-set_same, get_or-set_other}
use Rattle.std.specs.Prelude.{slice_get, slice_set, option_map}
use Rattle.std.specs.List.{remove, sum_by}
use Rattle.std.proofs.lemmas.Bool.{cases_eq}
use Rattle.std.proofs.lemmas.List.Elements.{All-append, All-cons, All-take}
use Rattle.std.proofs.Math.Seq.{take-append_seam}
use Rattle.std.proofs.lemmas.List.Sums.{sum_by-append, sum_by-set}
use Rattle.std.proofs.lemmas.Option.{get_or_from_slice_get, slice_get-get_or, slice_get_within}
use Rattle.id_instr.specs.Graph.{Parts}
use Rattle.id_tag.specs.declared.Message.{Message}
use Rattle.id_tag.specs.Routes.{route_of}
use Rattle.id_record.specs.declared.step.Step.{Step}
use Rattle.id_record.specs.declared.step.Step.TheVariants.{Went}
use Rattle.id_core.specs.Events.{EventView, AllWent}
use Rattle.id_core.specs.Steps.{State, event_of, is_ended, outputs_of, state_after}
use Rattle.id_core.specs.Machines.{World, MachineView, delivered, event_at, event_of_given, event_of_routed, given_to}
use Rattle.id_core.specs.Machines.{routed_to, taken_from, world_of}
use Rattle.id_step.specs.Replays.{ElementView}
use Rattle.id_value.proofs.PlacesLemmas.{set-here, set-elsewhere, slice_get-image}
use Rattle.id_runs.specs.Accounts.{IsAccounted}
use Rattle.id_elements.specs.Runs.{AreHeldBefore, GoesOn, HasWent, IsFree, IsHeldBack, StopAtFaults}
use Rattle.id_elements.specs.Workers.{StopsAtFault, sent_in, weight_taken}
use Rattle.id_elements.proofs.WorkersLemmas.{sent_after, taken_after, weight_removed}

abbrev pub IsHeldAt : ℕ → ℕ → World → ℕ → Type 0
IsHeldAt count steps w k = (m : Message) → slice_get w.flight k ≡ Some m → IsHeldBack count steps w m

-- ---- a message that is not held back

some_same : {A : Type 0} (x y : A) → Some x ≡ Some y → x ≡ y
some_same x y h = cc

-- its delivery makes an event, and this is the machine afterwards
pub event-free : (g : Parts) (count steps : ℕ) (w : World) (k : ℕ) → (f : IsFree count steps w k)
    → event_at g count w k ≡ Some (event_of g (route_of f.message.payload count) f.state f.message)
event-free g count steps w k f =
    let n = route_of f.message.payload count in
    ap (event_of_routed g count w) f.at ∙ ap (event_of_given g n f.message) f.element
    ∙ ap (λ b. cond b None (Some (event_of g n f.state f.message))) f.stamp

-- and what is said of it is its step
pub step-free : (g : Parts) (count steps : ℕ) (w : World) (k : ℕ) → (f : IsFree count steps w k) (x : Step)
    → option_map (λ (v : EventView). v.step) (event_at g count w k) ≡ Some x
    → (event_of g (route_of f.message.payload count) f.state f.message).step ≡ x
step-free g count steps w k f x is =
    some_same (event_of g (route_of f.message.payload count) f.state f.message).step x
    (sym (ap (option_map (λ (v : EventView). v.step)) (event-free g count steps w k f)) ∙ is)

pub delivered-free : (g : Parts) (count steps : ℕ) (w : World) (k : ℕ) → (f : IsFree count steps w k)
    → delivered g count w k ≡ taken_from g k w f.message (route_of f.message.payload count) f.state
delivered-free g count steps w k f =
    let n = route_of f.message.payload count in
    ap (routed_to g count k w) f.at ∙ ap (given_to g k w f.message n) f.element
    ∙ ap (λ b. cond b w (taken_from g k w f.message n f.state)) f.stamp

-- it is there
pub IsFree-within : (count steps : ℕ) (w : World) (k : ℕ) → IsFree count steps w k → k < length w.flight
IsFree-within count steps w k f = slice_get_within w.flight k f.message f.at

-- ---- what is left in place

before_taken : {A : Type 0} (xs zs : List A) (k j : ℕ) → j < k → k < length xs
    → slice_get (take k xs ++ zs) j ≡ slice_get xs j
before_taken [] zs k j lt within = absurd (omega (arith, within))
before_taken (x ∷ xs) zs zero j lt within = absurd (omega (arith, lt))
before_taken (x ∷ xs) zs (suc k) zero lt within = refl
before_taken (x ∷ xs) zs (suc k) (suc j) lt within = before_taken xs zs k j (omega (arith, lt)) (omega (arith, within))

pub before_removed : {A : Type 0} (xs ys : List A) (k j : ℕ) → j < k → k < length xs
    → slice_get (remove xs k ++ ys) j ≡ slice_get xs j
before_removed xs ys k j lt within = ap (λ zs. slice_get zs j) (append_assoc (take k xs) (drop (suc k) xs) ys) ∙
    before_taken xs (drop (suc k) xs ++ ys) k j lt within

-- ---- what is held back stays so

ended_by_message : (a b c : Bool) → (a || b) ≡ true → (a || c) ≡ false → b ≡ true
ended_by_message true b c h k = absurd cc
ended_by_message false b c h k = h

ended_whatever : (a b : Bool) → b ≡ true → (a || b) ≡ true
ended_whatever true b h = refl
ended_whatever false b h = h

pub strictly : (a b : ℕ) → a ≤ b → (a ≡ b → ⊥) → a < b
strictly zero zero le ne = absurd (ne refl)
strictly zero (suc b) le ne = omega arith
strictly (suc a) zero le ne = absurd (omega (arith, le))
strictly (suc a) (suc b) le ne = let r = strictly a b (omega (arith, le)) (λ e. ne (ap suc e)) in omega (arith, r)

module _ (g : Parts) (count steps : ℕ) (w : World) (k : ℕ) (f : IsFree count steps w k) where
  abbrev number : ℕ
  number = route_of f.message.payload count

  abbrev next : State
  next = state_after g number f.state f.message

  abbrev to : World
  to = taken_from g k w f.message number f.state

  -- a message for the element that took one
  held_same : (m : Message) (h : IsHeldBack count steps w m) → route_of m.payload count ≡ number
      → IsHeldBack count steps to m
  held_same m h is =
      let here : Some h.state ≡ Some f.state = sym h.element ∙ ap (slice_get w.elements) is ∙ f.element in
      let same : h.state ≡ f.state = some_same h.state f.state here in
      record {
        state = next;
        element = ap (slice_get to.elements) is ∙ set-here w.elements number next f.state f.element;
        held = at h.held same;
      }
    where
      at : (length h.state.events ≡ steps) ⊎ IsTrue (is_ended h.state m) → h.state ≡ f.state
          → (length next.events ≡ steps) ⊎ IsTrue (is_ended next m)
      at (inl limit) same = absurd (f.some (ap (λ s. length s.events) (sym same) ∙ limit))
      at (inr ended) same =
          let old : is_ended f.state m ≡ true = subst (λ (s : State). is_ended s m ≡ true) same ended in
          inr (ended_whatever (next.stamp == 2 ^ 64 - 1) (m.stamp == 2 ^ 64 - 1)
          (ended_by_message (f.state.stamp == 2 ^ 64 - 1) (m.stamp == 2 ^ 64 - 1) (f.message.stamp == 2 ^ 64 - 1) old
          f.stamp))

  -- a message for another element
  held_other : (m : Message) (h : IsHeldBack count steps w m) → (route_of m.payload count ≡ number → ⊥)
      → IsHeldBack count steps to m
  held_other m h other = record {
    state = h.state;
    element = set-elsewhere w.elements number (route_of m.payload count) next other ∙ h.element;
    held = h.held;
  }

  pub held_on : (m : Message) → IsHeldBack count steps w m → IsHeldBack count steps to m
  held_on m h = at (cases_eq (route_of m.payload count) number)
    where
      at : (route_of m.payload count ≡ number) ⊎ (route_of m.payload count ≡ number → ⊥) → IsHeldBack count steps to m
      at (inl is) = held_same m h is
      at (inr other) = held_other m h other

  held_before : AreHeldBefore count steps w k → AreHeldBefore count steps to k
  held_before held j m lt at =
      held_on m (held j m lt (sym (before_removed w.flight _ k j lt (IsFree-within count steps w k f)) ∙ at))

  -- no element has handled more than it may
  few_after : All (λ (s : State). length s.events ≤ steps) w.elements
      → All (λ (s : State). length s.events ≤ steps) to.elements
  few_after few n d lt = cases (cases_eq n number)
    where
      here : number < length w.elements
      here = slice_get_within w.elements number f.state f.element

      old : length f.state.events < steps
      old = strictly (length f.state.events) steps
          (subst (λ (s : State). length s.events ≤ steps)
          (get_or_from_slice_get w.elements number f.state f.state f.element) (few number f.state here)) f.some

      cases : (n ≡ number) ⊎ (n ≡ number → ⊥) → length (get_or (slice_set w.elements number next) n d).events ≤ steps
      cases (inl is) =
          let at : get_or (slice_set w.elements number next) n d ≡ next =
          ap (λ (k : ℕ). get_or (slice_set w.elements number next) k d) is
          ∙ get_or-set_same w.elements number next d here in
          let long = length-append f.state.events (event_of g number f.state f.message ∷ []) in
          let e = ap (λ (s : State). length s.events) at in
          let o = old in
          omega (arith, o, long, e)
      cases (inr other) =
          subst (λ (s : State). length s.events ≤ steps) (sym (get_or-set_other w.elements number n next d other))
          (few n d (omega (arith, lt, length-set w.elements number next)))

  -- the records account for as much as before
  accounted_after : (start : List Message) → IsAccounted start w.elements w.flight
      → IsAccounted start to.elements to.flight
  accounted_after start was h =
      let here = slice_get_within w.elements number f.state f.element in
      let is : get_or w.elements number f.state ≡ f.state =
      get_or_from_slice_get w.elements number f.state f.state f.element in
      let s = sum_by-set (λ (x : State). sum_by h (sent_in x)) w.elements number next f.state here in
      let t = sum_by-set (weight_taken h) w.elements number next f.state here in
      let a : sum_by h (sent_in (get_or w.elements number f.state)) ≡ sum_by h (sent_in f.state) =
      ap (λ (x : State). sum_by h (sent_in x)) is in
      let b : weight_taken h (get_or w.elements number f.state) ≡ weight_taken h f.state = ap (weight_taken h) is in
      let c : sum_by h (sent_in next) ≡ sum_by h (sent_in f.state ++ outputs_of g number f.state f.message) =
      ap (sum_by h) (sent_after g number f.state f.message) in
      let d = taken_after h g number f.state f.message in
      let e = weight_removed h w.flight k f.message f.at in
      let p = was h in
      omega (
        arith,
        s,
        t,
        a,
        b,
        c,
        d,
        e,
        p,
        sum_by-append h (sent_in f.state) (outputs_of g number f.state f.message),
        sum_by-append h (remove w.flight k) (outputs_of g number f.state f.message),
      )

long_enough : {A : Type 0} (xs zs : List A) (k : ℕ) → k < length xs → k ≤ length (take k xs ++ zs)
long_enough [] zs k lt = absurd (omega (arith, lt))
long_enough (x ∷ xs) zs zero lt = omega arith
long_enough (x ∷ xs) zs (suc k) lt = let le = long_enough xs zs k (omega (arith, lt)) in omega (arith, le)

still_within : {A : Type 0} (xs ys : List A) (k : ℕ) → k < length xs → k ≤ length (remove xs k ++ ys)
still_within {A = A} xs ys k lt =
    let le = long_enough xs (drop (suc k) xs ++ ys) k lt in
    subst (λ (zs : List A). k ≤ length zs) (sym (append_assoc (take k xs) (drop (suc k) xs) ys)) le

pub upto : (j k : ℕ) → j < k + 1 → (j ≡ k → ⊥) → j < k
upto j k lt ne = strictly j k (omega (arith, lt)) ne

-- one more that is held back
pub held_one_more : (count steps : ℕ) (w : World) (k : ℕ) → AreHeldBefore count steps w k → IsHeldAt count steps w k
    → AreHeldBefore count steps w (k + 1)
held_one_more count steps w k held here j m lt at = cases (cases_eq j k)
  where
    cases : (j ≡ k) ⊎ (j ≡ k → ⊥) → IsHeldBack count steps w m
    cases (inl is) = here m (ap (slice_get w.flight) (sym is) ∙ at)
    cases (inr other) = held j m (upto j k lt other) at

-- ---- what an element says of a message for it

pub element_at : (w : World) (count n : ℕ) (es : List ElementView) (e : ElementView) (x : Message)
    → world_of es w.flight ≡ w → slice_get es n ≡ Some e → n ≡ route_of x.payload count
    → slice_get w.elements (route_of x.payload count) ≡ Some e.state
element_at w count n es e x is at route =
    ap (slice_get w.elements) (sym route) ∙ ap (λ (v : World). slice_get v.elements n) (sym is)
    ∙ slice_get-image (λ (u : ElementView). u.state) es n e at

pub held_by : (w : World) (count steps k : ℕ) (s : State) (x : Message) → slice_get w.flight k ≡ Some x →
    slice_get w.elements (route_of x.payload count) ≡ Some s
    → (length s.events ≡ steps) ⊎ IsTrue (is_ended s x) → IsHeldAt count steps w k
held_by w count steps k s x there at held m here =
    let same : x ≡ m = some_same x m (sym there ∙ here) in
    subst (IsHeldBack count steps w) same (record { state = s; element = at; held = held })

pub free_by : (w : World) (count steps k : ℕ) (s : State) (x : Message) → slice_get w.flight k ≡ Some x →
    slice_get w.elements (route_of x.payload count) ≡ Some s
    → length s.events ≢ steps → IsFalse (is_ended s x) → IsFree count steps w k
free_by w count steps k s x there at some stamp =
    record { message = x; at = there; state = s; element = at; some = some; stamp = stamp }

-- ---- what a delivery leaves

module _ (steps k : ℕ) (old new : MachineView) (f : IsFree old.count steps old.world k)
    (is : new ≡ record old { world = delivered old.graph old.count old.world k }) where
  pub after_is : new.world ≡ to old.graph old.count steps old.world k f
  after_is = ap (λ (m : MachineView). m.world) is ∙ delivered-free old.graph old.count steps old.world k f

  pub goes_on : All (λ (s : State). length s.events ≤ steps) old.world.elements → GoesOn steps old new
  goes_on few = record {
    same_graph = ap (λ (m : MachineView). m.graph) is;
    same_count = ap (λ (m : MachineView). m.count) is;
    same_keeps = ap (λ (m : MachineView). m.keeps) is;
    few = subst (λ (w : World). All (λ (s : State). length s.events ≤ steps) w.elements) (sym after_is)
        (few_after old.graph old.count steps old.world k f few);
    accounted =
        λ start was. subst (λ (w : World). IsAccounted start w.elements w.flight) (sym after_is)
        (accounted_after old.graph old.count steps old.world k f start was);
  }

  pub as_many : length new.world.elements ≡ length old.world.elements
  as_many = ap (λ (w : World). length w.elements) after_is
      ∙ length-set old.world.elements (number old.graph old.count steps old.world k f)
      (next old.graph old.count steps old.world k f)

  pub within_on : k ≤ length new.world.flight
  within_on = subst (λ (w : World). k ≤ length w.flight) (sym after_is)
      (still_within old.world.flight
      (outputs_of old.graph (number old.graph old.count steps old.world k f) f.state f.message) k
      (IsFree-within old.count steps old.world k f))

  -- what is held back in front of a position of the old machine, if it is so behind the delivery
  pub held_of : (from : ℕ) → AreHeldBefore old.count steps (to old.graph old.count steps old.world k f) from
      → AreHeldBefore new.count steps new.world from
  held_of from held =
      subst (λ (n : ℕ). AreHeldBefore n steps new.world from) (sym (ap (λ (m : MachineView). m.count) is))
      (subst (λ (w : World). AreHeldBefore old.count steps w from) (sym after_is) held)

  pub held_on_all : AreHeldBefore old.count steps old.world k → AreHeldBefore new.count steps new.world k
  held_on_all held = held_of k (held_before old.graph old.count steps old.world k f held)

  -- the event of a delivery is the last of an element, so where it did not go well, not every event went well
  pub failed_on : (x : Step) → (event_of old.graph (route_of f.message.payload old.count) f.state f.message).step ≡ x
      → x ≢ Went → HasWent new.world → ⊥
  failed_on x step_is bad went =
      let n = number old.graph old.count steps old.world k f in
      let a = next old.graph old.count steps old.world k f in
      let here = slice_get_within old.world.elements n f.state f.element in
      let all : HasWent (to old.graph old.count steps old.world k f) = subst HasWent after_is went in
      let mine : AllWent (get_or (slice_set old.world.elements n a) n a).events =
      all n a (omega (arith, here, length-set old.world.elements n a)) in
      let mine' : AllWent a.events =
      subst (λ (s : State). AllWent s.events) (get_or-set_same old.world.elements n a a here) mine in
      let v : EventView = event_of old.graph n f.state f.message in
      let long = length-append f.state.events (v ∷ []) in
      bad (sym step_is
      ∙ (ap (λ (u : EventView). u.step) (sym (last f.state.events v))
      ∙ mine' (length f.state.events) v (omega (arith, long))))
    where
      last : (es : List EventView) (v : EventView) → get_or (es ++ v ∷ []) (length es) v ≡ v
      last [] v = refl
      last (x ∷ xs) v = last xs v

-- ---- no element handles a message behind a fault

-- where every event went well, none came behind a fault
stops_where_went : (es : List EventView) → AllWent es → StopsAtFault es
stops_where_went es all = All-take (λ (v : EventView). v.step ≡ Went) (length es - 1) es all

pub stop_where_went : (w : World) → HasWent w → StopAtFaults w
stop_where_went w went n d lt = stops_where_went (get_or w.elements n d).events (went n d lt)

before_last : (es : List EventView) (v : EventView) → take (length (es ++ v ∷ []) - 1) (es ++ v ∷ []) ≡ es
before_last es v =
    let long = length-append es (v ∷ []) in
    let n : length (es ++ v ∷ []) - 1 ≡ length es = omega (arith, long) in
    ap (λ (k : ℕ). take k (es ++ v ∷ [])) n ∙ take-append_seam es (v ∷ [])

-- one event more
stops_more : (es : List EventView) (v : EventView) → AllWent es → StopsAtFault (es ++ v ∷ [])
stops_more es v all = subst AllWent (sym (before_last es v)) all

went_more : (es : List EventView) (v : EventView) → AllWent es → v.step ≡ Went → AllWent (es ++ v ∷ [])
went_more es v all went = All-append (λ (u : EventView). u.step ≡ Went) es (v ∷ []) all
    (All-cons (λ (u : EventView). u.step ≡ Went) v [] went (λ k d lt. absurd (omega arith)))

-- what holds of the states but for one, and of that, holds of all
all_set : (P : State → Type 0) (ss : List State) (n : ℕ) (s : State) → All P ss → P s → All P (slice_set ss n s)
all_set P ss n s all mine k d lt = cases (cases_eq k n)
  where
    cases : (k ≡ n) ⊎ (k ≡ n → ⊥) → P (get_or (slice_set ss n s) k d)
    cases (inl is) =
        let here : n < length ss = (let long = length-set ss n s in omega (arith, lt, long, is)) in
        subst P (sym (ap (λ (j : ℕ). get_or (slice_set ss n s) j d) is ∙ get_or-set_same ss n s d here)) mine
    cases (inr other) =
        subst P (sym (get_or-set_other ss n k s d other)) (all k d (omega (arith, lt, length-set ss n s)))

module _ (steps k : ℕ) (old new : MachineView) (x : Step) (f : IsFree old.count steps old.world k)
    (is : new ≡ record old { world = delivered old.graph old.count old.world k })
    (step_is : (event_of old.graph (route_of f.message.payload old.count) f.state f.message).step ≡ x)
    (went : HasWent old.world) where
  abbrev place : ℕ
  place = route_of f.message.payload old.count

  abbrev event : EventView
  event = event_of old.graph place f.state f.message

  before_it : AllWent f.state.events
  before_it =
      subst (λ (s : State). AllWent s.events) (get_or_from_slice_get old.world.elements place f.state f.state f.element)
      (went place f.state (slice_get_within old.world.elements place f.state f.element))

  -- a delivery behind which every event went well keeps it so, where its own event does
  pub went_on : x ≡ Went → HasWent new.world
  went_on good = subst HasWent (sym (after_is steps k old new f is))
      (all_set (λ (s : State). AllWent s.events) old.world.elements place (next old.graph old.count steps old.world k f)
      went
      (went_more f.state.events event before_it (step_is ∙ good)))

  -- and whatever its event is, none came behind a fault
  pub stop_on : StopAtFaults new.world
  stop_on = subst StopAtFaults (sym (after_is steps k old new f is))
      (all_set (λ (s : State). StopsAtFault s.events) old.world.elements place
      (next old.graph old.count steps old.world k f)
      (stop_where_went old.world went) (stops_more f.state.events event before_it))

-- ---- one delivery after others

pub goes_on_more : (steps : ℕ) (a b c : MachineView) → GoesOn steps a b → GoesOn steps b c → GoesOn steps a c
goes_on_more steps a b c p q = record {
  same_graph = q.same_graph ∙ p.same_graph;
  same_count = q.same_count ∙ p.same_count;
  same_keeps = q.same_keeps ∙ p.same_keeps;
  few = q.few;
  accounted = λ start was. q.accounted start (p.accounted start was);
}

-- all messages are held back, where all before the end are
pub all_held : (count steps : ℕ) (w : World) (k : ℕ) → AreHeldBefore count steps w k → k ≡ length w.flight
    → All (IsHeldBack count steps w) w.flight
all_held count steps w k held end j d lt =
    let here : slice_get w.flight j ≡ Some (get_or w.flight j d) = slice_get-get_or w.flight j d lt in
    held j (get_or w.flight j d) (omega (arith, lt, end)) here
