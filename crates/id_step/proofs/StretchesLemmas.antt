-- Lemmas on specs/Stretches.antt: a stretch that has not begun, one event more, and what moves in the end.
use Rattle.std.proofs.Common.{◌≡◌, ◌<◌, ◌≤◌, ◌+◌, ◌-◌, ◌++◌, ◌∷◌, [], ℕ, suc, All, List, Option, Some, true, false}
use Rattle.std.proofs.Common.{drop, length, map, take, refl, sym, ap, subst, ◌∙◌, arith, append_assoc, length-append}
use Rattle.std.specs.Prelude.{Bool, IfSome, IsErr, Result, Ok, Err, slice_get}
use Rattle.std.specs.List.{remove, sum_by}
use Rattle.std.proofs.lemmas.Bool.{false≢true}
use Rattle.std.proofs.lemmas.Grind.{flat_map-append}
use Rattle.std.proofs.lemmas.List.Edits.{length-remove}
use Rattle.std.proofs.lemmas.List.{drop_all, get_or_push, length-take, length_push, take-append-le, take_all}
use Rattle.std.proofs.lemmas.List.Elements.{All-append, All-cons, All-drop, All-head, All-nil, All-pop, All-push}
use Rattle.std.proofs.lemmas.List.Elements.{All-tail, All-take}
use Rattle.std.proofs.lemmas.List.Sums.{sum_by-append, sum_by-cons, sum_by-remove, sum_by_push}
use Rattle.std.proofs.lemmas.Option.{get_or_from_slice_get, slice_get_read, slice_get_within}
use Rattle.std.proofs.Math.Seq.{take-append_seam}
use Rattle.id_instr.specs.Graph.{Parts}
use Rattle.id_instr.specs.declared.dests.Dest.{Dest}
use Rattle.id_instr.specs.declared.instr.Op.{Op}
use Rattle.id_tag.specs.declared.Message.{Message}
use Rattle.id_tag.specs.declared.Tag.{Tag}
use Rattle.id_tag.specs.declared.Value.{Value}
use Rattle.id_tag.specs.declared.Value.TheVariants.{Address}
use Rattle.id_tag.specs.declared.plain.PlainToken.{PlainToken}
use Rattle.id_tag.specs.Plains.{cell_of, message_of, tag_in, whole}
use Rattle.id_tag.specs.declared.Payload.{Payload}
use Rattle.id_tag.specs.declared.Payload.TheVariants.{Token, Read, Write}
use Rattle.id_tag.specs.Routes.{route_of, tag_route}
use Rattle.id_step.specs.Storage.{IsToken}
use Rattle.id_ops.specs.declared.plain_fired.PlainFired.{PlainFired}
use Rattle.id_ops.specs.declared.plain_fired.PlainFired.TheVariants.{Nothing, Out, Side, Moved, Sent, Addressed, Asked}
use Rattle.id_ops.specs.declared.plain_fired.PlainFired.TheVariants.{Stored}
use Rattle.id_ops.specs.PlainFired.{fired_of}
use Rattle.id_record.specs.declared.step.Step.{Step}
use Rattle.id_record.specs.declared.step.Step.TheVariants as step
use Rattle.id_record.specs.Events.{AllWent, EventView}
use Rattle.id_record.specs.Sends.{numbered, sent, token_to}
use Rattle.id_step.specs.declared.step.TakeError.{TakeError}
use Rattle.id_step.specs.Fits.{Fits, IsFor}
use Rattle.id_step.specs.Kept.{IsKept}
use Rattle.id_step.specs.Replays.{ElementView}
use Rattle.id_step.specs.declared.storage.Storage.{Storage}
use Rattle.id_step.specs.Storage.{element_at}
use Rattle.id_step.specs.Steps.{event_of, outputs_of, state_after}
use Rattle.id_step.specs.Takes.{GoesAt, HandlesAt, IsForAt, came_well}
use Rattle.id_step.proofs.ElementsLemmas.{sends_fit, stays}
use Rattle.id_step.specs.declared.step.Short.{Short}
use Rattle.id_step.specs.declared.step.Short.TheVariants as short
use Rattle.id_step.specs.Shorts.{short_step}
use Rattle.id_step.specs.Stretches.{GoesOn, IsBehind, LeavesNear, OthersStay, Spreads, Stretch, TakesNear, far_after}
use Rattle.id_step.specs.Stretches.{near_after, sent_by, taken_by}

-- ---- lists

none_behind : {X : Type 0} (xs : List X) → xs ++ [] ≡ xs
none_behind [] = refl
none_behind (x ∷ xs) = ap (λ ys. x ∷ ys) (none_behind xs)

-- a message at a place weighs what is missing without it
pub weight_removed : (f : Message → ℕ) (ms : List Message) (k : ℕ) (m : Message) → slice_get ms k ≡ Some m
    → sum_by f (remove ms k) + f m ≡ sum_by f ms
weight_removed f ms k m at =
    let lt = slice_get_within ms k m at in
    let is = ap f (get_or_from_slice_get ms k m m at) in
    omega (arith, sum_by-remove f ms k m lt, is)

All-removed : (P : Message → Type 0) (ms : List Message) (k : ℕ) → All P ms → All P (remove ms k)
All-removed P ms k all = All-append P _ _ (All-take P k ms all) (All-drop P (suc k) ms all)

-- at least as many stand there as the others were
pub behind_long : (k : ℕ) (list list1 : List Message) → k < length list → IsBehind k list list1
    → length list - 1 ≤ length list1
behind_long k list list1 lt is =
    let a : length (take (length list - 1) list1) ≡ length (remove list k) = ap length is in
    omega (arith, a, length-remove list k lt, length-take (length list - 1) list1)

-- what comes to the end leaves what stands behind where it stands
pub behind_more : (k : ℕ) (list list1 more : List Message) → k < length list → IsBehind k list list1
    → IsBehind k list (list1 ++ more)
behind_more k list list1 more lt is = take-append-le (length list - 1) list1 more (behind_long k list list1 lt is) ∙ is

-- so it is where the message has left
pub behind_first : (k : ℕ) (list : List Message) → k < length list → IsBehind k list (remove list k)
behind_first k list lt =
    let n : length list - 1 ≡ length (remove list k) = omega (arith, length-remove list k lt) in
    ap (λ i. take i (remove list k)) n ∙ take_all (length (remove list k)) (remove list k) (omega arith)

-- ---- events

-- what events say that was sent and taken, with one more
sent_more : (es : List EventView) (v : EventView) → sent_by (es ++ v ∷ []) ≡ sent_by es ++ v.outputs
sent_more es v =
    flat_map-append (λ (x : EventView). x.outputs) es (v ∷ []) ∙ ap (λ xs. sent_by es ++ xs) (none_behind v.outputs)

taken_more : (f : Message → ℕ) (es : List EventView) (v : EventView)
    → taken_by f (es ++ v ∷ []) ≡ taken_by f es + f v.message
taken_more f es v = sum_by_push (λ (x : EventView). f x.message) es v

-- ---- stretches

-- one that has not begun: the message is near, and no more in the list
pub stretch_start : (k : ℕ) (e : ElementView) (list : List Message) (m : Message) → slice_get list k ≡ Some m
    → Stretch 0 e e list (m ∷ []) (remove list k) true
stretch_start k e list m at = record {
  ran = [];
  element = refl;
  events = sym (none_behind e.state.events);
  count = refl;
  before = All-nil (λ (v : EventView). v.step ≡ step.Went);
  went = λ w. All-nil (λ (v : EventView). v.step ≡ step.Went);
  fits = All-nil (Fits e.graph);
  fit = All-removed (Fits e.graph) list k;
  weight = λ f. let r = weight_removed f list k m at in omega (arith, r, sum_by-cons f m []);
}

-- nothing has happened
pub stretch_none : (e : ElementView) (list : List Message) → Stretch 0 e e list [] list true
stretch_none e list = record {
  ran = [];
  element = refl;
  events = sym (none_behind e.state.events);
  count = refl;
  before = All-nil (λ (v : EventView). v.step ≡ step.Went);
  went = λ w. All-nil (λ (v : EventView). v.step ≡ step.Went);
  fits = All-nil (Fits e.graph);
  fit = λ all. all;
  weight = λ f. omega arith;
}

graph_of : {n : ℕ} {e e' : ElementView} {list near list' : List Message} {b : Bool} → Stretch n e e' list near list' b
    → e'.graph ≡ e.graph
graph_of s = ap (λ (y : ElementView). y.graph) s.element

-- one event more
pub stretch_more : (n : ℕ) (e e1 e2 : ElementView) (list : List Message) (m : Message)
    (near list1 near' list2 : List Message) (s : Step) (well : Bool)
    → Stretch n e e1 list (m ∷ near) list1 true → TakesNear e1 e2 m near near' list1 list2 s → All (Fits e1.graph) near
    → All (Fits e1.graph) (outputs_of e1.graph e1.number e1.state m) → (well ≡ true → s ≡ step.Went)
    → Stretch (n + 1) e e2 list near' list2 well
stretch_more n e e1 e2 list m near list1 near' list2 s well before x near_fits sent_fits is_well =
    let v = event_of e1.graph e1.number e1.state m in
    let after = state_after e1.graph e1.number e1.state m in
    let graph = graph_of before in
    let out : x.sent ≡ v.outputs = x.takes.outputs in
    let nears : All (Fits e.graph) near = subst (λ (g : Parts). All (Fits g) near) graph near_fits in
    let outs : All (Fits e.graph) v.outputs = subst (λ (g : Parts). All (Fits g) v.outputs) graph sent_fits in
    let sents : All (Fits e.graph) x.sent = subst (All (Fits e.graph)) (sym out) outs in
    record {
      ran = before.ran ++ v ∷ [];
      element =
          x.takes.element
          ∙ ap (λ (y : ElementView). record y { state = after }) before.element
          ∙ ap (λ z. record e { state = z }) (sym (ap (λ (y : ElementView). y.state) x.takes.element));
      events =
          ap (λ (y : ElementView). y.state.events) x.takes.element
          ∙ ap (λ es. es ++ v ∷ []) before.events
          ∙ append_assoc e.state.events before.ran (v ∷ []);
      count = let c = before.count in omega (arith, length-append before.ran (v ∷ []), c);
      before =
          let c : n + 1 - 1 ≡ length before.ran = (let c = before.count in omega (arith, c)) in
          subst AllWent (sym (ap (λ i. take i (before.ran ++ v ∷ [])) c ∙ take-append_seam before.ran (v ∷ [])))
          (before.went refl);
      went = λ w. All-push (λ (y : EventView). y.step ≡ step.Went) before.ran v (before.went refl) (sym x.takes.step
          ∙ is_well w);
      fits = subst (All (Fits e.graph)) (sym (sent_more before.ran v))
          (All-append (Fits e.graph) (sent_by before.ran) v.outputs before.fits outs);
      fit = λ all. x.spreads.fit e.graph nears (before.fit all) sents;
      weight = λ f.
          let a = before.weight f in
          let b = x.spreads.weight f in
          let c : sum_by f x.sent ≡ sum_by f v.outputs = ap (sum_by f) out in
          let d : sum_by f (sent_by (before.ran ++ v ∷ [])) ≡ sum_by f (sent_by before.ran ++ v.outputs) =
          ap (sum_by f) (sent_more before.ran v) in
          omega (
            arith,
            a,
            b,
            c,
            d,
            taken_more f before.ran v,
            sum_by-append f (sent_by before.ran) v.outputs,
            sum_by-cons f m near,
          );
    }

-- what is near or in the list has moved
pub stretch_moved : (n : ℕ) (e e' : ElementView) (list near list1 near' list2 : List Message) (b : Bool)
    → Stretch n e e' list near list1 b
    → ((f : Message → ℕ) → sum_by f list2 + sum_by f near' ≡ sum_by f list1 + sum_by f near)
    → (All (Fits e.graph) list1 → All (Fits e.graph) list2) → Stretch n e e' list near' list2 b
stretch_moved n e e' list near list1 near' list2 b s same fit = record {
  ran = s.ran;
  element = s.element;
  events = s.events;
  count = s.count;
  before = s.before;
  went = s.went;
  fits = s.fits;
  fit = λ all. fit (s.fit all);
  weight = λ f. let a = s.weight f in let c = same f in omega (arith, a, c);
}

-- the next is taken out of what is near
pub stretch_next : (n : ℕ) (e e' : ElementView) (list near list1 rest : List Message) (m : Message)
    → Stretch n e e' list near list1 true → near ≡ rest ++ m ∷ [] → Stretch n e e' list (m ∷ rest) list1 true
stretch_next n e e' list near list1 rest m s is =
    stretch_moved n e e' list near list1 (m ∷ rest) list1 true s
    (λ f. let a : sum_by f near ≡ sum_by f (rest ++ m ∷ []) = ap (sum_by f) is in
    omega (arith, a, sum_by_push f rest m, sum_by-cons f m rest))
    (λ all. all)

-- what is near has gone to the end of the list
pub stretch_back : (n : ℕ) (e e' : ElementView) (list near list1 list2 : List Message) (b : Bool)
    → Stretch n e e' list near list1 b → list2 ≡ list1 ++ near → All (Fits e'.graph) near
    → Stretch n e e' list [] list2 b
stretch_back n e e' list near list1 list2 b s is fits =
    let nears : All (Fits e.graph) near = subst (λ (g : Parts). All (Fits g) near) (graph_of s) fits in
    stretch_moved n e e' list near list1 [] list2 b s
    (λ f. let a : sum_by f list2 ≡ sum_by f (list1 ++ near) = ap (sum_by f) is in
    omega (arith, a, sum_by-append f list1 near))
    (λ all. subst (All (Fits e.graph)) (sym is) (All-append (Fits e.graph) list1 near all nears))

-- and the message at hand behind it
pub stretch_left : (n : ℕ) (e e' : ElementView) (list : List Message) (m : Message) (near list1 list2 : List Message)
    (b : Bool) → Stretch n e e' list (m ∷ near) list1 b → list2 ≡ (list1 ++ near) ++ m ∷ [] → All (Fits e'.graph) near
    → Fits e'.graph m
    → Stretch n e e' list [] list2 b
stretch_left n e e' list m near list1 list2 b s is fits fit =
    let nears : All (Fits e.graph) near = subst (λ (g : Parts). All (Fits g) near) (graph_of s) fits in
    let at : Fits e.graph m = subst (λ (g : Parts). Fits g m) (graph_of s) fit in
    stretch_moved n e e' list (m ∷ near) list1 [] list2 b s
    (λ f.
    let a : sum_by f list2 ≡ sum_by f ((list1 ++ near) ++ m ∷ []) = ap (sum_by f) is in
    omega (arith, a, sum_by_push f (list1 ++ near) m, sum_by-append f list1 near, sum_by-cons f m near))
    (λ all. subst (All (Fits e.graph)) (sym is)
    (All-push (Fits e.graph) (list1 ++ near) m (All-append (Fits e.graph) list1 near all nears) at))

-- ---- what is sent

abbrev IsBeside : Tag → Message → Type 0
IsBeside t x = (count : ℕ) → route_of x.payload count ≡ tag_route t count

-- what goes to destinations under a tag goes where the tag goes
pub numbered_beside : (n position stamp k : ℕ) (t : Tag) (v : Value) (ds : List Dest)
    → All (IsBeside t) (numbered n position stamp k (map (token_to t v) ds))
numbered_beside n position stamp k t v [] = All-nil (IsBeside t)
numbered_beside n position stamp k t v (d ∷ ds) =
    All-cons (IsBeside t) _ _ (λ count. refl) (numbered_beside n position stamp (k + 1) t v ds)

-- it comes near
spreads_near : (m : Message) (t : Tag) (near near' list list' sent : List Message)
    → ((count : ℕ) → route_of m.payload count ≡ tag_route t count)
    → near' ≡ near ++ sent → list' ≡ list → All (IsBeside t) sent → Spreads m near near' list list' sent
spreads_near m t near near' list list' sent at near_is list_is beside = record {
  more = [];
  behind = list_is ∙ sym (none_behind list);
  weight = λ f.
      let a : sum_by f near' ≡ sum_by f (near ++ sent) = ap (sum_by f) near_is in
      let b : sum_by f list' ≡ sum_by f list = ap (sum_by f) list_is in
      omega (arith, a, b, sum_by-append f near sent);
  fit_near = λ g nears sents. subst (All (Fits g)) (sym near_is) (All-append (Fits g) near sent nears sents);
  fit = λ g nears lists sents. subst (All (Fits g)) (sym list_is) lists;
  routed = λ count nears.
      let P : Message → Type 0 = λ x. route_of x.payload count ≡ route_of m.payload count in
      subst (All P) (sym near_is) (All-append P near sent nears (λ k d lt. beside k d lt count ∙ sym (at count)));
}

-- it comes to the end of the list
spreads_far : (m : Message) (near near' list list' sent : List Message) → near' ≡ near → list' ≡ list ++ sent
    → Spreads m near near' list list' sent
spreads_far m near near' list list' sent near_is list_is = record {
  more = sent;
  behind = list_is;
  weight = λ f.
      let a : sum_by f near' ≡ sum_by f near = ap (sum_by f) near_is in
      let b : sum_by f list' ≡ sum_by f (list ++ sent) = ap (sum_by f) list_is in
      omega (arith, a, b, sum_by-append f list sent);
  fit_near = λ g nears sents. subst (All (Fits g)) (sym near_is) nears;
  fit = λ g nears lists sents. subst (All (Fits g)) (sym list_is) (All-append (Fits g) list sent lists sents);
  routed = λ count nears. subst (All (λ (x : Message). route_of x.payload count ≡ route_of m.payload count))
      (sym near_is) nears;
}

all_first : (P : Message → Type 0) (xs ys : List Message) → All P (xs ++ ys) → All P xs
all_first P [] ys all = All-nil P
all_first P (x ∷ xs) ys all =
    All-cons P x xs (All-head P x (xs ++ ys) all) (all_first P xs ys (All-tail P x (xs ++ ys) all))

all_second : (P : Message → Type 0) (xs ys : List Message) → All P (xs ++ ys) → All P ys
all_second P [] ys all = all
all_second P (x ∷ xs) ys all = all_second P xs ys (All-tail P x (xs ++ ys) all)

-- a part of it comes near, and the rest to the end of the list
pub spreads_both : (m : Message) (t : Tag) (near near' list list' first second : List Message)
    → ((count : ℕ) → route_of m.payload count ≡ tag_route t count)
    → near' ≡ near ++ first → list' ≡ list ++ second → All (IsBeside t) first
    → Spreads m near near' list list' (first ++ second)
spreads_both m t near near' list list' first second at near_is list_is beside = record {
  more = second;
  behind = list_is;
  weight = λ f.
      let a : sum_by f near' ≡ sum_by f (near ++ first) = ap (sum_by f) near_is in
      let b : sum_by f list' ≡ sum_by f (list ++ second) = ap (sum_by f) list_is in
      omega (arith, a, b, sum_by-append f near first, sum_by-append f list second, sum_by-append f first second);
  fit_near = λ g nears sents.
      subst (All (Fits g)) (sym near_is) (All-append (Fits g) near first nears (all_first (Fits g) first second sents));
  fit = λ g nears lists sents.
      subst (All (Fits g)) (sym list_is)
      (All-append (Fits g) list second lists (all_second (Fits g) first second sents));
  routed = λ count nears.
      let P : Message → Type 0 = λ x. route_of x.payload count ≡ route_of m.payload count in
      subst (All P) (sym near_is) (All-append P near first nears (λ k d lt. beside k d lt count ∙ sym (at count)));
}

-- it comes there behind what was near
pub spreads_full : (m : Message) (near near' list list1 list' sent : List Message) → near' ≡ [] → list1 ≡ list ++ near
    → list' ≡ list1 ++ sent → Spreads m near near' list list' sent
spreads_full m near near' list list1 list' sent near_is first list_is =
    let is : list' ≡ (list ++ near) ++ sent = list_is ∙ ap (λ xs. xs ++ sent) first in
    record {
      more = near ++ sent;
      behind = is ∙ append_assoc list near sent;
      weight = λ f.
          let a : sum_by f near' ≡ sum_by f [] = ap (sum_by f) near_is in
          let b : sum_by f list' ≡ sum_by f ((list ++ near) ++ sent) = ap (sum_by f) is in
          omega (arith, a, b, sum_by-append f (list ++ near) sent, sum_by-append f list near);
      fit_near = λ g nears sents. subst (All (Fits g)) (sym near_is) (All-nil (Fits g));
      fit = λ g nears lists sents. subst (All (Fits g)) (sym is)
          (All-append (Fits g) (list ++ near) sent (All-append (Fits g) list near lists nears) sents);
      routed = λ count nears.
          let P : Message → Type 0 = λ x. route_of x.payload count ≡ route_of m.payload count in
          subst (All P) (sym near_is) (All-nil P);
    }

-- what a plain firing on a token sends is spread so
pub spreads_plain : (p : PlainFired) (t : PlainToken) (o : Option Op) (ds : (b : PlainFired)
    → List Dest) (n position stamp : ℕ) (near near' list list' xs : List Message)
    → xs ≡ numbered n position stamp 0 (sent o (ds p) (tag_in t) (fired_of (tag_in t) p))
    → near' ≡ near_after p near xs → list' ≡ far_after p list xs → Spreads (message_of t) near near' list list' xs
spreads_plain Nothing t o ds n position stamp near near' list list' xs is near_is list_is =
    spreads_far _ near near' list list' xs near_is (list_is ∙ sym (ap (λ ys. list ++ ys) is ∙ none_behind list))
spreads_plain (Out v) t o ds n position stamp near near' list list' xs is near_is list_is =
    spreads_near _ (tag_in t) near near' list list' xs (λ count. refl) near_is list_is
    (subst (All (IsBeside (tag_in t))) (sym is) (numbered_beside n position stamp 0 (tag_in t) (whole v) (ds (Out v))))
spreads_plain (Side b v) t o ds n position stamp near near' list list' xs is near_is list_is =
    spreads_near _ (tag_in t) near near' list list' xs (λ count. refl) near_is list_is
    (subst (All (IsBeside (tag_in t))) (sym is)
    (numbered_beside n position stamp 0 (tag_in t) (whole v) (ds (Side b v))))
spreads_plain (Addressed c) t o ds n position stamp near near' list list' xs is near_is list_is =
    spreads_near _ (tag_in t) near near' list list' xs (λ count. refl) near_is list_is
    (subst (All (IsBeside (tag_in t))) (sym is)
    (numbered_beside n position stamp 0 (tag_in t) (Address (cell_of c)) (ds (Addressed c))))
spreads_plain (Moved i v) t o ds n position stamp near near' list list' xs is near_is list_is =
    spreads_far _ near near' list list' xs near_is list_is
spreads_plain (Sent u v) t o ds n position stamp near near' list list' xs is near_is list_is =
    spreads_far _ near near' list list' xs near_is list_is
spreads_plain (Asked c i) t o ds n position stamp near near' list list' xs is near_is list_is =
    spreads_far _ near near' list list' xs near_is list_is
spreads_plain (Stored c v) t o ds n position stamp near near' list list' xs is near_is list_is =
    spreads_far _ near near' list list' xs near_is list_is

-- ---- what is near is for the element

abbrev AreFor : ElementView → List Message → Type 0
AreFor e ms = All (IsFor e.graph e.count e.number) ms

pub near_for : (e : ElementView) (m : Message) (near near' list list' sent : List Message)
    → IsFor e.graph e.count e.number m → AreFor e near → All (Fits e.graph) sent → Spreads m near near' list list' sent
    → AreFor e near'
near_for e m near near' list list' sent at nears sents x =
    let P : Message → Type 0 = λ y. route_of y.payload e.count ≡ route_of m.payload e.count in
    let fits : All (Fits e.graph) near' = x.fit_near e.graph (λ k d lt. (nears k d lt).fits) sents in
    let routed : All P near' = x.routed e.count (λ k d lt. (nears k d lt).routed ∙ sym at.routed) in
    λ k d lt. record { routed = routed k d lt ∙ at.routed; fits = fits k d lt }

-- ---- a stretch under way

-- the same of what is not the only element
stay_more : (e : ElementView) (k : ℕ) (list list1 more : List Message) → k < length list → OthersStay e k list list1
    → OthersStay e k list (list1 ++ more)
stay_more e k list list1 more lt is = λ several. behind_more k list list1 more lt (is several)

-- n events have happened, this message is at hand, and what is near comes next: all of it is for the element
pub record AtHand (n most k : ℕ) (e e' : ElementView) (list : List Message) (m : Message)
    (near list' : List Message) : Type 0 where
  pub kept : IsKept e' most
  pub for_it : IsFor e'.graph e'.count e'.number m
  pub nears : AreFor e' near
  pub stretch : Stretch n e e' list (m ∷ near) list' true
  pub behind : OthersStay e k list list'

-- the same where none is at hand
pub record Between (n most k : ℕ) (e e' : ElementView) (list near list' : List Message) (well : Bool) : Type 0 where
  pub kept : IsKept e' most
  pub nears : AreFor e' near
  pub stretch : Stretch n e e' list near list' well
  pub behind : OthersStay e k list list'

fits_for : (e : ElementView) (ms : List Message) → AreFor e ms → All (Fits e.graph) ms
fits_for e ms are k d lt = (are k d lt).fits

pub for_at : (P : Message → Type 0) (ms : List Message) (k : ℕ) (m : Message) → slice_get ms k ≡ Some m
    → IfSome (slice_get ms k) P → P m
for_at P ms k m at is = subst (λ (o : Option Message). IfSome o P) at is

pub hand_start : (most k : ℕ) (e : ElementView) (list near list1 : List Message) (m : Message) → IsKept e most
    → IsForAt e list k → k < length list → slice_get list k ≡ Some m → near ≡ [] → list1 ≡ remove list k
    → AtHand 0 most k e e list m near list1
hand_start most k e list near list1 m kept for lt at none left =
    let P : List Message → List Message → Type 0 = λ xs ys. AtHand 0 most k e e list m xs ys in
    subst (λ ys. P near ys) (sym left) (subst (λ xs. P xs (remove list k)) (sym none) (record {
      kept = kept;
      for_it = for_at (IsFor e.graph e.count e.number) list k m at for;
      nears = All-nil (IsFor e.graph e.count e.number);
      stretch = stretch_start k e list m at;
      behind = λ several. behind_first k list lt;
    }))

-- the message at hand was taken
pub hand_took : (n most k : ℕ) (e : ElementView) (d d' : Storage) (list : List Message) (m : Message)
    (near list1 near' list2 : List Message) (s : Step) (well : Bool)
    → AtHand n most k e (element_at d) list m near list1
    → TakesNear (element_at d) (element_at d') m near near' list1 list2 s
    → k < length list → (well ≡ true → s ≡ step.Went) → Between (n + 1) most k e (element_at d') list near' list2 well
hand_took n most k e d d' list m near list1 near' list2 s well h x lt is_well =
    let e1 = element_at d in
    let sends = sends_fit e1 d m most refl h.kept h.for_it in
    let sents : All (Fits e1.graph) x.sent = subst (All (Fits e1.graph)) (sym x.takes.outputs) sends in
    let nears : AreFor e1 near' = near_for e1 m near near' list1 list2 x.sent h.for_it h.nears sents x.spreads in
    record {
      kept = stays e1 d d' m [] [] x.sent (Some s) most refl h.for_it x.takes h.kept;
      nears = subst (λ (v : ElementView). AreFor v near') (sym x.takes.element) nears;
      stretch =
          stretch_more n e e1 (element_at d') list m near list1 near' list2 s well h.stretch x
          (fits_for e1 near h.nears) sends is_well;
      behind = subst (OthersStay e k list) (sym x.spreads.behind) (stay_more e k list list1 x.spreads.more lt h.behind);
    }

-- it was not, so it still is at hand
pub hand_same : (n most k : ℕ) (e e1 e2 : ElementView) (list : List Message) (m : Message)
    (near list1 near' list2 : List Message) → AtHand n most k e e1 list m near list1
    → LeavesNear e1 e2 near near' list1 list2 → AtHand n most k e e2 list m near' list2
hand_same n most k e e1 e2 list m near list1 near' list2 h x =
    subst (λ (v : ElementView). AtHand n most k e v list m near' list2) (sym x.element)
    (subst (λ xs. AtHand n most k e e1 list m xs list2) (sym x.near_same)
    (subst (λ xs. AtHand n most k e e1 list m near xs) (sym x.same) h))

-- what was handled in full went well, by the answer
pub took_well : (e e' : ElementView) (m : Message) (t : Tag) (near near' list list' : List Message) (s : Step)
    (q : Short) → short_step t q ≡ Some s → q ≡ short.Went → TakesNear e e' m near near' list list' s
    → TakesNear e e' m near near' list list' step.Went
took_well e e' m t near near' list list' s q is went x =
    subst (λ (o : Option Step). IfSome o (λ r. TakesNear e e' m near near' list list' r))
    (sym (ap (short_step t) (sym went) ∙ is)) x

-- the last of what is near is at hand
pub hand_next : (n most k : ℕ) (e e' : ElementView) (list near rest list' : List Message) (m : Message)
    → Between n most k e e' list near list' true → near ≡ rest ++ m ∷ [] → AtHand n most k e e' list m rest list'
hand_next n most k e e' list near rest list' m b is =
    let parts = All-pop (IsFor e'.graph e'.count e'.number) near rest (Some m) is b.nears in
    record {
      kept = b.kept;
      for_it = parts.1;
      nears = parts.0;
      stretch = stretch_next n e e' list near list' rest m b.stretch is;
      behind = b.behind;
    }

-- all goes to one element
route_one : (p : Payload) → IsToken p → route_of p 1 ≡ 0
route_one (Token t p v) is = omega arith
route_one (Read c t) is = absurd is
route_one (Write c v t) is = absurd is

-- the only element turns to what stands somewhere in the list, which is a token
pub hand_turn : (n most k : ℕ) (e e' : ElementView) (list near list1 list2 : List Message) (m0 m : Message)
    → Between n most k e e' list near list1 true → near ≡ [] → e.count ≡ 1 → IsFor e.graph e.count e.number m0
    → IsToken m0.payload → IsToken m.payload → All (Fits e.graph) list
    → slice_get list1 k ≡ Some m → list2 ≡ remove list1 k → AtHand n most k e e' list m near list2
hand_turn n most k e e' list near list1 list2 m0 m b empty one first token0 token fit at left =
    let count : e'.count ≡ 1 = ap (λ (v : ElementView). v.count) b.stretch.element ∙ one in
    let number : e'.number ≡ 0 =
    ap (λ (v : ElementView). v.number) b.stretch.element
    ∙ sym (sym (ap (route_of m0.payload) one ∙ route_one m0.payload token0) ∙ first.routed) in
    let fits : All (Fits e'.graph) list1 =
    subst (λ g. All (Fits g) list1) (sym (graph_of b.stretch)) (b.stretch.fit fit) in
    let own : Fits e'.graph m =
    subst (Fits e'.graph) (get_or_from_slice_get list1 k m m at) (fits k m (slice_get_within list1 k m at)) in
    let moved : Stretch n e e' list (m ∷ []) (remove list1 k) true =
    stretch_moved n e e' list [] list1 (m ∷ []) (remove list1 k) true
    (subst (λ xs. Stretch n e e' list xs list1 true) empty b.stretch)
    (λ f. let w = weight_removed f list1 k m at in
    omega (arith, w, sum_by-cons f m [])) (All-removed (Fits e.graph) list1 k) in
    subst (λ xs. AtHand n most k e e' list m xs list2) (sym empty)
    (subst (λ xs. AtHand n most k e e' list m [] xs) (sym left) (record {
      kept = b.kept;
      for_it = record { routed = ap (route_of m.payload) count ∙ route_one m.payload token ∙ sym number; fits = own };
      nears = All-nil (IsFor e'.graph e'.count e'.number);
      stretch = moved;
      behind = λ several. absurd (several one);
    }))

-- nothing is near
pub ends_empty : (n most k : ℕ) (e e' : ElementView) (list near list' : List Message) (well : Bool)
    → Between n most k e e' list near list' well → near ≡ [] → Stretch n e e' list [] list' well
ends_empty n most k e e' list near list' well b is = subst (λ xs. Stretch n e e' list xs list' well) is b.stretch

-- what is near goes to the end of the list
pub ends_back : (n most k : ℕ) (e e' : ElementView) (list near list1 list' : List Message) (well : Bool)
    → Between n most k e e' list near list1 well → list' ≡ list1 ++ near → k < length list
    → Stretch n e e' list [] list' well × OthersStay e k list list'
ends_back n most k e e' list near list1 list' well b is lt = (
  stretch_back n e e' list near list1 list' well b.stretch is (fits_for e' near b.nears),
  subst (OthersStay e k list) (sym is) (stay_more e k list list1 near lt b.behind),
)

-- and what is at hand behind it
pub record Left (n k : ℕ) (e e' : ElementView) (list list' : List Message) : Type 0 where
  pub stretch : Stretch n e e' list [] list' true
  pub behind : OthersStay e k list list'
  pub last : IsForAt e' list' (length list' - 1)
  pub before : OthersStay e k list (remove list' (length list' - 1))
  pub some : 0 < length list'

pub ends_left : (n most k : ℕ) (e e' : ElementView) (list : List Message) (m : Message)
    (near list1 list' : List Message) → AtHand n most k e e' list m near list1
    → list' ≡ (list1 ++ near) ++ m ∷ [] → k < length list → Left n k e e' list list'
ends_left n most k e e' list m near list1 list' h is lt =
    let long : length list' ≡ length (list1 ++ near) + 1 = ap length is ∙ length_push (list1 ++ near) m in
    let at : length list' - 1 ≡ length (list1 ++ near) = omega (arith, long) in
    let last : slice_get list' (length list' - 1) ≡ Some m =
    ap (λ i. slice_get list' i) at ∙ ap (λ xs. slice_get xs (length (list1 ++ near))) is ∙ last_of (list1 ++ near) m in
    record {
      stretch = stretch_left n e e' list m near list1 list' true h.stretch is (fits_for e' near h.nears) h.for_it.fits;
      behind = subst (OthersStay e k list) (sym is)
          (stay_more e k list (list1 ++ near) (m ∷ []) lt (stay_more e k list list1 near lt h.behind));
      before = subst (OthersStay e k list)
          (sym (ap (λ i. remove list' i) at ∙ ap (λ xs. remove xs (length (list1 ++ near))) is
          ∙ without_last (list1 ++ near) m))
          (stay_more e k list list1 near lt h.behind);
      last = subst (λ (o : Option Message). IfSome o (IsFor e'.graph e'.count e'.number)) (sym last) h.for_it;
      some = omega (arith, long);
    }
  where
    without_last : (xs : List Message) (x : Message) → remove (xs ++ x ∷ []) (length xs) ≡ xs
    without_last xs x =
        ap (λ ys. ys ++ drop (suc (length xs)) (xs ++ x ∷ [])) (take-append_seam xs (x ∷ []))
        ∙ ap (λ ys. xs ++ ys) (drop_all (suc (length xs)) (xs ++ x ∷ []) (omega (arith, length_push xs x)))
        ∙ none_behind xs

    last_of : (xs : List Message) (x : Message) → slice_get (xs ++ x ∷ []) (length xs) ≡ Some x
    last_of xs x =
        slice_get_read (xs ++ x ∷ []) (length xs + 1) (length xs) x (sym (length_push xs x)) (omega arith)
        (sym (get_or_push xs x x (length xs) refl))

-- ---- a message that is handled alone

pub goes_behind : (n most k j : ℕ) (e e1 e2 : ElementView) (list list1 list2 : List Message) (r : Result Bool TakeError)
    → Stretch n e e1 list [] list1 true → n < most → OthersStay e k list (remove list1 j) → k < length list
    → GoesAt j e1 e2 list1 list2 r → GoesOn most k e e2 list list2 r
goes_behind n most k j e e1 e2 list list1 list2 r s few before lt x = from x.step x.handles x.well
  where
    done : (st : Step) (b : Bool) → HandlesAt j e1 e2 list1 list2 (Ok st) → (b ≡ true → st ≡ step.Went)
        → GoesOn most k e e2 list list2 (Ok b)
    done st b h is =
        let m = h.message in
        let outs = outputs_of e1.graph e1.number e1.state m in
        let first : Stretch n e e1 list (m ∷ []) (remove list1 j) true =
        stretch_moved n e e1 list [] list1 (m ∷ []) (remove list1 j) true s
        (λ f. let w = weight_removed f list1 j m h.at in
        omega (arith, w, sum_by-cons f m [])) (All-removed (Fits e.graph) list1 j) in
        let taken : TakesNear e1 e2 m [] [] (remove list1 j) list2 st = record {
          sent = outs;
          takes = record {
            stamp = h.handles.becomes.stamp;
            step = h.handles.becomes.step;
            element =
                h.handles.becomes.element;
            outputs = refl;
          };
          spreads = spreads_far m [] [] (remove list1 j) list2 outs refl h.handles.becomes.outputs;
        } in
        record {
          n = n + 1;
          few = omega (arith, few);
          some = omega arith;
          stretch =
              stretch_more n e e1 e2 list m [] (remove list1 j) [] list2 st b first taken (All-nil (Fits e1.graph))
              h.handles.fits is;
          others = subst (OthersStay e k list) (sym h.handles.becomes.outputs)
              (stay_more e k list (remove list1 j) outs lt before);
        }

    failed : (x : TakeError) → HandlesAt j e1 e2 list1 list2 (Err x) → GoesOn most k e e2 list list2 (Err x)
    failed x h = record {
      n = n;
      few = omega (arith, few);
      some = tt;
      stretch = subst (λ xs. Stretch n e e2 list [] xs true) (sym h.handles.becomes.same)
          (subst (λ (v : ElementView). Stretch n e v list [] list1 true) (sym h.handles.becomes.element) s);
      others = tt;
    }

    from : (q : Result Step TakeError) → HandlesAt j e1 e2 list1 list2 q → r ≡ came_well q
        → GoesOn most k e e2 list list2 r
    from (Ok step.Went) h is = subst (GoesOn most k e e2 list list2) (sym is) (done step.Went true h (λ w. refl))
    from (Ok (step.Fault f)) h is =
        subst (GoesOn most k e e2 list list2) (sym is) (done (step.Fault f) false h (λ w. absurd (false≢true w)))
    from (Ok step.Stuck) h is =
        subst (GoesOn most k e e2 list list2) (sym is) (done step.Stuck false h (λ w. absurd (false≢true w)))
    from (Err x) h is = subst (GoesOn most k e e2 list list2) (sym is) (failed x h)

pub goes_alone : (most k : ℕ) (e e' : ElementView) (list list' : List Message) (r : Result Bool TakeError) → 0 < most
    → k < length list → GoesAt k e e' list list' r → GoesOn most k e e' list list' r
goes_alone most k e e' list list' r some lt x =
    goes_behind 0 most k k e e e' list list list' r (stretch_none e list) some (λ several. behind_first k list lt) lt x

-- nothing was handled
pub goes_none : (most k : ℕ) (e e' : ElementView) (list list' : List Message) (r : Result Bool TakeError) → IsErr r
    → e' ≡ e → list' ≡ list → GoesOn most k e e' list list' r
goes_none most k e e' list list' (Ok b) is same_element same = cc
goes_none most k e e' list list' (Err x) is same_element same = record {
  n = 0;
  few = omega arith;
  some = tt;
  stretch = subst (λ (v : ElementView). Stretch 0 e v list [] list' true) (sym same_element)
      (subst (λ xs. Stretch 0 e e list [] xs true) (sym same) (stretch_none e list));
  others = tt;
}
