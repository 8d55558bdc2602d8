-- What workers have come to is a machine, and its run (specs/Runs.antt).
use Rattle.std.proofs.Common.{◌≡◌, ◌≢◌, ℕ, zero, suc, ◌+◌, ◌<◌, ◌≤◌, ◌⊎◌, inl, inr, Bool, true, false, not, ◌||◌}
use Rattle.std.proofs.Common.{Result, Ok, Err, List, [], ◌∷◌, All, length, get_or, refl, sym, ap, subst, ◌∙◌, arith}
use Rattle.std.specs.Prelude.{◌↔◌, IfOk}
use Rattle.std.specs.List.Sorted.{IsPermutation, IsStrictlySortedBy}
use Rattle.std.proofs.lemmas.List.Folds.{flat_map-map}
use Rattle.id_core.specs.Merged.{by_moment}
use Rattle.id_core.specs.Firsts.{AreMergedOf}
use Rattle.std.specs.List.{flat_map}
use Rattle.std.proofs.lemmas.Grind.{flat_map-append}
use Rattle.std.proofs.lemmas.List.Elements.{All-append, All-from_recursion, All-nil, recursion_from_All}
use Rattle.id_instr.specs.Graph.{Parts}
use Rattle.id_value.specs.declared.Constant.{Constant}
use Rattle.id_tag.specs.declared.Message.{Message}
use Rattle.id_value.specs.List.{Among}
use Rattle.id_value.proofs.AmongLemmas.{Among-either, Among-left, Among-right}
use Rattle.id_record.specs.declared.kept.Keeps.{Keeps}
use Rattle.id_record.specs.declared.step.Step.{Step}
use Rattle.id_record.specs.declared.step.Step.TheVariants as steps
use Rattle.id_record.specs.declared.step.Step.TheVariants.{Stuck}
use Rattle.id_record.specs.Tellings.{any_stuck, is_stuck}
use Rattle.id_core.specs.Events.{AllWent, EventView}
use Rattle.id_step.specs.Fits.{Fits}
use Rattle.id_core.specs.Steps.{State}
use Rattle.id_step.specs.Replays.{ElementView, Replays}
use Rattle.id_core.specs.Machines.{AllKeep, AreElements, IsElement, IsMachine, MachineView, World, start_messages}
use Rattle.id_core.specs.Machines.{world_of}
use Rattle.id_core.specs.Observed.{events_of}
use Rattle.id_runs.specs.Accounts.{IsAccounted}
use Rattle.id_runs.specs.Orders.{AreReplayed, OrdersAreRuns}
use Rattle.id_runs.proofs.Elements.{AreReplayed-from}
use Rattle.id_runs.proofs.OrdersLemmas.{left_holds}
use Rattle.std.proofs.lemmas.Bool.{cases_eq}
use Rattle.std.proofs.lemmas.Option.{get_or_from_slice_get, slice_get-get_or}
use Rattle.id_elements.proofs.FinishLemmas.{upto}
use Rattle.id_elements.specs.Gathered.{AreGathered, states_of}
use Rattle.id_elements.specs.Runs.{AllMove, HasWent, IsFinished, IsHeldBack, IsRun, MovesOn, StopAtFaults}
use Rattle.id_elements.specs.Workers.{StopsAtFault, sent_in}

-- ---- what is gathered

pub elements_gathered : (g : Parts) (count most : ℕ) (keeps : Keeps) (es : List ElementView)
    → AreGathered g count most keeps 0 es → AreElements g count es
elements_gathered g count most keeps es all n d lt =
    subst (λ (k : ℕ). IsElement g count k (get_or es n d)) (let k : 0 + n ≡ n = omega arith in k) (all n d lt).element

pub kept_gathered : (g : Parts) (count most : ℕ) (keeps : Keeps) (es : List ElementView)
    → AreGathered g count most keeps 0 es → AllKeep keeps es
kept_gathered g count most keeps es all n d lt = (all n d lt).kept

pub few_gathered : (g : Parts) (count most : ℕ) (keeps : Keeps) (es : List ElementView)
    → AreGathered g count most keeps 0 es → All (λ (s : State). length s.events ≤ most) (states_of es)
few_gathered g count most keeps es all n d lt = go es n d lt (λ k e l. (all k e l).few)
  where
    go : (es : List ElementView) (n : ℕ) (d : State) → n < length (states_of es)
        → ((k : ℕ) (e : ElementView) → k < length es → length (get_or es k e).state.events ≤ most)
        → length (get_or (states_of es) n d).events ≤ most
    go [] n d lt each = absurd (omega arith)
    go (x ∷ xs) zero d lt each = each 0 x (omega arith)
    go (x ∷ xs) (suc n) d lt each = go xs n d (omega arith) (λ k e l. each (suc k) e (omega arith))

-- nor behind a fault
pub stops_gathered : (g : Parts) (count most : ℕ) (keeps : Keeps) (es : List ElementView)
    → AreGathered g count most keeps 0 es → All (λ (s : State). StopsAtFault s.events) (states_of es)
stops_gathered g count most keeps es all n d lt = go es n d lt (λ k e l. (all k e l).stops)
  where
    go : (es : List ElementView) (n : ℕ) (d : State) → n < length (states_of es)
        → ((k : ℕ) (e : ElementView) → k < length es → StopsAtFault (get_or es k e).state.events)
        → StopsAtFault (get_or (states_of es) n d).events
    go [] n d lt each = absurd (omega arith)
    go (x ∷ xs) zero d lt each = each 0 x (omega arith)
    go (x ∷ xs) (suc n) d lt each = go xs n d (omega arith) (λ k e l. each (suc k) e (omega arith))

-- what the elements sent fits
sent_fits : (g : Parts) (es : List ElementView)
    → ((k : ℕ) (e : ElementView) → k < length es → All (Fits g) (sent_in (get_or es k e).state))
    → All (Fits g) (flat_map (λ (v : EventView). v.outputs) (events_of (states_of es)))
sent_fits g [] each = All-nil (Fits g)
sent_fits g (x ∷ xs) each =
    subst (All (Fits g))
    (sym (flat_map-append (λ (v : EventView). v.outputs) x.state.events (events_of (states_of xs))))
    (All-append (Fits g) (sent_in x.state) (flat_map (λ (v : EventView). v.outputs) (events_of (states_of xs)))
    (each 0 x (omega arith))
    (sent_fits g xs (λ k e l. each (suc k) e (omega arith))))

-- so does what is left
pub left_fits : (g : Parts) (vs : List Constant) (count most : ℕ) (keeps : Keeps) (es : List ElementView)
    (left : List Message) → AreGathered g count most keeps 0 es
    → All (Fits g) (start_messages g vs) → IsAccounted (start_messages g vs) (states_of es) left → All (Fits g) left
left_fits g vs count most keeps es left all begun accounted =
    All-from_recursion (Fits g) left
    (left_holds (Fits g) g vs (record { elements = states_of es; flight = left }) accounted
    (recursion_from_All (Fits g) (start_messages g vs) begun)
    (recursion_from_All (Fits g) _ (sent_fits g es (λ k e l. (all k e l).sent))))

-- they are a machine's
pub machine_gathered : (g : Parts) (vs : List Constant) (count most : ℕ) (keeps : Keeps) (es : List ElementView)
    (left : List Message) → 0 < count → count ≤ 64 → length es ≡ count → AreGathered g count most keeps 0 es
    → All (Fits g) (start_messages g vs)
    → IsAccounted (start_messages g vs) (states_of es) left → IsMachine g keeps es left
machine_gathered g vs count most keeps es left some few long all begun accounted = record {
  at_least_one = omega arith;
  at_most_64 = omega arith;
  elements = subst (λ (n : ℕ). AreElements g n es) (sym long) (elements_gathered g count most keeps es all);
  kept = kept_gathered g count most keeps es all;
  flight_fits = left_fits g vs count most keeps es left all begun accounted;
}

-- ---- the records of a machine

-- one more of which it holds
pub one_more : {A : Type 0} (P : A → Type 0) (xs : List A) (n : ℕ) (x : A) → n < length xs → x ≡ get_or xs n x → P x
    → ((k : ℕ) (d : A) → k < n → P (get_or xs k d)) → (k : ℕ) (d : A) → k < n + 1 → P (get_or xs k d)
one_more P xs n x there is here before k d lt = cases (cases_eq k n)
  where
    cases : (k ≡ n) ⊎ (k ≡ n → ⊥) → P (get_or xs k d)
    cases (inl same) =
        subst P (is
        ∙ (get_or_from_slice_get xs n (get_or xs n d) x (slice_get-get_or xs n d there)
        ∙ ap (λ j. get_or xs j d) (sym same))) here
    cases (inr other) = before k d (upto k n lt other)

-- its states are what the records lead to
pub replayed_of : (m : MachineView) (es : List ElementView) → AreElements m.graph m.count es
    → world_of es m.world.flight ≡ m.world → length es ≡ m.count
    → ((k : ℕ) (d : ElementView) → k < length es → Replays (get_or es k d))
    → AreReplayed m.graph m.count m.world.elements
replayed_of m es are is long each =
    let same : states_of es ≡ m.world.elements = ap (λ (w : World). w.elements) is in
    subst (AreReplayed m.graph m.count) same
    (AreReplayed-from m.graph m.count es long are (recursion_from_All Replays es each))

-- ---- whether no event was `Stuck`

move_one : (es : List EventView) (v : EventView) → AllMove es → Among v es → v.step ≢ Stuck
move_one [] v all h = absurd h
move_one (x ∷ xs) v all (inl e) = λ is. all 0 x (omega arith) (ap (λ (u : EventView). u.step) (sym e) ∙ is)
move_one (x ∷ xs) v all (inr h) = move_one xs v (λ k d l. all (suc k) d (omega arith)) h

all_move : (es : List EventView) → ((v : EventView) → Among v es → v.step ≢ Stuck) → AllMove es
all_move [] each k d lt = absurd (omega arith)
all_move (x ∷ xs) each zero d lt = each x (inl refl)
all_move (x ∷ xs) each (suc k) d lt = all_move xs (λ v h. each v (inr h)) k d (omega arith)

moves_from : (es : List ElementView) → All (λ (e : ElementView). AllMove e.state.events) es → (v : EventView)
    → Among v (events_of (states_of es)) → v.step ≢ Stuck
moves_from [] all v h = absurd h
moves_from (x ∷ xs) all v h =
    at (Among-either v x.state.events (events_of (states_of xs)) h)
    (moves_from xs (λ n d l. all (suc n) d (omega arith)) v)
  where
    at : Among v x.state.events ⊎ Among v (events_of (states_of xs))
        → (Among v (events_of (states_of xs)) → v.step ≢ Stuck) → v.step ≢ Stuck
    at (inl k) rest = move_one x.state.events v (all 0 x (omega arith)) k
    at (inr k) rest = rest k

moves_to : (es : List ElementView) → ((v : EventView) → Among v (events_of (states_of es)) → v.step ≢ Stuck)
    → All (λ (e : ElementView). AllMove e.state.events) es
moves_to [] each k d lt = absurd (omega arith)
moves_to (x ∷ xs) each zero d lt =
    all_move x.state.events (λ v h. each v (Among-left v x.state.events (events_of (states_of xs)) h))
moves_to (x ∷ xs) each (suc k) d lt =
    moves_to xs (λ v h. each v (Among-right v x.state.events (events_of (states_of xs)) h)) k d (omega arith)

-- which is noted of each element
moves_step : (s : Step) → is_stuck s ≡ false → s ≢ Stuck
moves_step steps.Went h is = cc
moves_step (steps.Fault f) h is = cc
moves_step steps.Stuck h is = cc

step_moves : (s : Step) → s ≢ Stuck → is_stuck s ≡ false
step_moves steps.Went h = refl
step_moves (steps.Fault f) h = refl
step_moves steps.Stuck h = absurd (h refl)

neither : (a b : Bool) → (a || b) ≡ false → (a ≡ false) × (b ≡ false)
neither false b h = (refl, h)
neither true b h = absurd cc

none_of : (a b : Bool) → a ≡ false → b ≡ false → (a || b) ≡ false
none_of false b h k = k
none_of true b h k = absurd cc

move_all : (es : List EventView) → any_stuck es ≡ false → AllMove es
move_all [] none k d lt = absurd (omega arith)
move_all (x ∷ xs) none zero d lt = moves_step x.step (neither (is_stuck x.step) (any_stuck xs) none).0
move_all (x ∷ xs) none (suc k) d lt = move_all xs (neither (is_stuck x.step) (any_stuck xs) none).1 k d (omega arith)

none_stuck : (es : List EventView) → AllMove es → any_stuck es ≡ false
none_stuck [] all = refl
none_stuck (x ∷ xs) all = none_of (is_stuck x.step) (any_stuck xs) (step_moves x.step (all 0 x (omega arith)))
    (none_stuck xs (λ k d lt. all (suc k) d (omega arith)))

pub moves_noted : (es : List EventView) (stuck : Bool) → stuck ≡ any_stuck es → (not stuck ≡ true ↔ AllMove es)
moves_noted es true is = ((λ h. absurd cc), (λ all. absurd (let none = none_stuck es all in cc)))
moves_noted es false is = ((λ h. move_all es (sym is)), (λ all. refl))

-- no event of a machine was, where none of any element was
pub moves_on_from : (m : MachineView) (es : List ElementView) → world_of es m.world.flight ≡ m.world
    → (All (λ (e : ElementView). AllMove e.state.events) es ↔ MovesOn m.world)
moves_on_from m es is = (
  (λ all. subst MovesOn is (moves_from es all)),
  (λ moves. moves_to es (subst MovesOn (sym is) moves)),
)

-- every event of a machine went well, where every one of each element did
pub went_from : (m : MachineView) (es : List ElementView) → world_of es m.world.flight ≡ m.world
    → (All (λ (e : ElementView). AllWent e.state.events) es ↔ HasWent m.world)
went_from m es is = (
  (λ all. subst HasWent is (to es all)),
  (λ went. from es (subst HasWent (sym is) went)),
)
  where
    to : (es : List ElementView) → All (λ (e : ElementView). AllWent e.state.events) es
        → All (λ (s : State). AllWent s.events) (states_of es)
    to [] all k d lt = absurd (omega arith)
    to (x ∷ xs) all zero d lt = all 0 x (omega arith)
    to (x ∷ xs) all (suc k) d lt = to xs (λ n e l. all (suc n) e (omega arith)) k d (omega arith)

    from : (es : List ElementView) → All (λ (s : State). AllWent s.events) (states_of es)
        → All (λ (e : ElementView). AllWent e.state.events) es
    from [] all k d lt = absurd (omega arith)
    from (x ∷ xs) all zero d lt = all 0 x.state (omega arith)
    from (x ∷ xs) all (suc k) d lt = from xs (λ n s l. all (suc n) s (omega arith)) k d (omega arith)

-- ---- the run

-- a machine that has come to an end from what workers have left is a run
pub run_from : (g : Parts) (vs : List Constant) (count steps : ℕ) (a m : MachineView) → OrdersAreRuns → a.graph ≡ g
    → a.count ≡ count → IsAccounted (start_messages g vs) a.world.elements a.world.flight → StopAtFaults a.world
    → IsFinished steps a m → AreReplayed m.graph m.count m.world.elements
    → IsRun g vs count steps m
run_from g vs count steps a m law graph_is count_is accounted stops done replayed =
    let on = done.on in
    let g_is : m.graph ≡ g = on.same_graph ∙ graph_is in
    let c_is : m.count ≡ count = on.same_count ∙ count_is in
    let r : AreReplayed g count m.world.elements =
    subst (λ (h : Parts). AreReplayed h count m.world.elements) g_is
    (subst (λ (c : ℕ). AreReplayed m.graph c m.world.elements) c_is replayed) in
    let k : IsAccounted (start_messages g vs) m.world.elements m.world.flight =
    on.accounted (start_messages g vs) accounted in
    record {
      graph_is = g_is;
      count_is = c_is;
      few = on.few;
      stops = done.stops stops;
      order = law.order g count m.world.elements r;
      legal = law.legal g vs count m.world r k;
      runs = law.runs g vs count m.world r k;
      honest = λ went. subst (λ (c : ℕ). All (IsHeldBack c steps m.world) m.world.flight) c_is (done.honest went);
    }

-- ---- what is said of a result under a condition

pub if_so : {A E : Type 0} (P : A → Type 0) (Q : Type 0) (r : Result A E) → IfOk r P → IfOk r (λ x. Q → P x)
if_so P Q (Ok x) h = λ _. h
if_so P Q (Err e) h = tt

pub if_never : {A E : Type 0} (P : A → Type 0) (Q : Type 0) (r : Result A E) → (Q → ⊥) → IfOk r (λ x. Q → P x)
if_never P Q (Ok x) never = λ q. absurd (never q)
if_never P Q (Err e) never = tt

-- ---- all events

-- the events of the elements are those of the machine
pub merged_of : {E : Type 0} (es : List ElementView) (left : List Message) (w : World) (r : Result (List EventView) E)
    → world_of es left ≡ w → IfOk r (λ m. IsPermutation (flat_map (λ (e : ElementView). e.state.events) es) m)
    → IfOk r (λ m. IsStrictlySortedBy by_moment m) → IfOk r (AreMergedOf w.elements)
merged_of es left w (Err e) is all sorted = tt
merged_of es left w (Ok m) is all sorted = record {
  all = subst (λ (x : World). IsPermutation (events_of x.elements) m) is
      (subst (λ (l : List EventView). IsPermutation l m)
      (sym (flat_map-map (λ (s : State). s.events) (λ e. e.state) es)) all);
  sorted = sorted;
}
