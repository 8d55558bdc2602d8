-- Each step of a worker keeps its accounts (specs/Workers.antt).
use Rattle.std.proofs.Common.{◌≡◌, ℕ, zero, suc, ◌+◌, ◌-◌, ◌<◌, ◌≤◌, List, [], ◌∷◌, ◌++◌, All, length, map, set, get_or}
use Rattle.std.proofs.Common.{take, refl, sym, ap, subst, ◌∙◌, arith, ⊎_elim, length-set, length-append}
use Rattle.std.specs.Prelude.{Bool, true, false, IsTrue, Some, slice_get, Result, Ok, Err}
use Rattle.std.specs.declared.alloc.AllocError.{AllocError}
use Rattle.std.specs.List.{flat_map, remove, sum_by}
use Rattle.std.proofs.lemmas.Grind.{flat_map-append}
use Rattle.std.proofs.lemmas.List.{get_or-set_same}
use Rattle.std.proofs.lemmas.List.Elements.{All-append, All-drop, All-nil, All-take}
use Rattle.std.proofs.lemmas.List.Sums.{sum_by-append, sum_by-cons, sum_by-remove, sum_by-set, sum_by_push}
use Rattle.std.proofs.lemmas.Option.{get_or_from_slice_get, slice_get_within}
use Rattle.std.proofs.lemmas.Bool.{cases_lt, false≢true}
use lib.Seq.{take-append-add}
use Rattle.std.specs.Global.{Global}
use Rattle.crossbeam_queue.specs.SegTies.{SegId}
use Rattle.id_instr.specs.Graph.{Parts}
use Rattle.id_tag.specs.Routes.{route_of}
use Rattle.id_tag.proofs.RoutesLemmas.{route_of_below}
use Rattle.id_tag.specs.declared.Message.{Message}
use Rattle.id_tag.specs.declared.Payload.{Payload}
use Rattle.id_flight.specs.Queues.{QueueView}
use Rattle.id_inbox.specs.Doors.{DoorView}
use Rattle.id_inbox.specs.Hands.{sending, weight_in}
use Rattle.id_record.specs.declared.kept.Keeps.{Keeps}
use Rattle.id_record.specs.declared.step.Step.TheVariants.{Went}
use Rattle.id_record.specs.Events.{AllWent, EventView}
use Rattle.id_step.specs.Fits.{Fits}
use Rattle.id_step.specs.Steps.{State, event_of, outputs_of, state_after}
use Rattle.id_step.specs.Replays.{ElementView}
use Rattle.id_elements.specs.Doors.{HaveParts, queues_of}
use Rattle.id_step.specs.Stretches.{GoesOn, IsBehind, is_well, sent_by, taken_by}
use Rattle.id_step.specs.declared.step.TakeError.{TakeError}
use Rattle.id_elements.specs.Passing.{AreFor, AreRouted, IsSentOn}
use Rattle.id_elements.specs.Workers.{AreWorkers, IsKept, IsSame, IsSameWithin, IsWorker, StopsAtFault, WorkerView}
use Rattle.id_elements.specs.Workers.{sent_in, weight_taken}
use Rattle.id_elements.proofs.DoorsLemmas.{parts_set, queues_set, sent_by-set, taken_by-set}

-- ---- lists

-- a message at a place weighs what is missing without it
pub weight_removed : (f : Message → ℕ) (ms : List Message) (k : ℕ) (m : Message) → slice_get ms k ≡ Some m
    → sum_by f (remove ms k) + f m ≡ sum_by f ms
weight_removed f ms k m at =
    let lt = slice_get_within ms k m at in
    let is : get_or ms k m ≡ m = get_or_from_slice_get ms k m m at in
    let e : f (get_or ms k m) ≡ f m = ap f is in
    omega (arith, sum_by-remove f ms k m lt, e)

-- what holds of each of some messages holds of each without one
All-removed : (P : Message → Type 0) (ms : List Message) (k : ℕ) → All P ms → All P (remove ms k)
All-removed P ms k all = All-append P _ _ (All-take P k ms all) (All-drop P (suc k) ms all)

-- what letters weigh
weight_letters : (f : Message → ℕ) (ls : List QueueView)
    → sum_by (sum_by f) (map (λ (q : QueueView). q.messages) ls) ≡ weight_in f ls
weight_letters f [] = refl
weight_letters f (q ∷ qs) =
    let rest = weight_letters f qs in
    omega (
      arith,
      rest,
      sum_by-cons (sum_by f) q.messages (map (λ (x : QueueView). x.messages) qs),
      sum_by-cons (λ (x : QueueView). sum_by f x.messages) q qs,
    )

length_letters : (ls : List QueueView) → length (map (λ (q : QueueView). q.messages) ls) ≡ length ls
length_letters [] = refl
length_letters (q ∷ qs) = ap suc (length_letters qs)

-- ---- messages that are for an element

AreFor-both : (e : ElementView) (ms : List Message) → AreRouted e.count e.number ms → All (Fits e.graph) ms
    → AreFor e ms
AreFor-both e ms routed fits k d lt = record { routed = routed k d lt; fits = fits k d lt }

pub fits_for : (e : ElementView) (ms : List Message) → AreFor e ms → All (Fits e.graph) ms
fits_for e ms are k d lt = (are k d lt).fits

routed_for : (e : ElementView) (ms : List Message) → AreFor e ms → AreRouted e.count e.number ms
routed_for e ms are k d lt = (are k d lt).routed

-- all are for the only element
routed_to_only : (p : Payload) → route_of p 1 ≡ 0
routed_to_only p = let lt = route_of_below p 1 (omega arith) in omega (arith, lt)

AreFor-only : (e : ElementView) (ms : List Message) → e.count ≡ 1 → e.number ≡ 0 → All (Fits e.graph) ms → AreFor e ms
AreFor-only e ms one first fits k d lt = record {
  routed = ap (λ (n : ℕ). route_of (get_or ms k d).payload n) one
      ∙ (routed_to_only (get_or ms k d).payload ∙ sym first);
  fits = fits k d lt;
}

-- ---- a worker

-- the worker that has these
abbrev pub worker_of : Bool → List DoorView → ElementView → List Message → List Message → List Message → List Message
    → List QueueView → WorkerView
worker_of goes ds e own came back stray ls = record {
  goes = goes;
  doors = ds;
  element = e;
  own = own;
  came = came;
  back = back;
  stray = stray;
  letters = map (λ (q : QueueView). q.messages) ls;
}

-- ---- an element handles a message of its own

-- what its record says that was sent and taken
pub sent_after : (g : Parts) (n : ℕ) (s : State) (m : Message)
    → sent_in (state_after g n s m) ≡ sent_in s ++ outputs_of g n s m
sent_after g n s m =
    flat_map-append (λ (v : EventView). v.outputs) s.events (event_of g n s m ∷ [])
    ∙ ap (λ xs. sent_in s ++ xs) (none (outputs_of g n s m))
  where
    none : (xs : List Message) → xs ++ [] ≡ xs
    none [] = refl
    none (x ∷ xs) = ap (λ ys. x ∷ ys) (none xs)

pub taken_after : (f : Message → ℕ) (g : Parts) (n : ℕ) (s : State) (m : Message)
    → weight_taken f (state_after g n s m) ≡ weight_taken f s + f m
taken_after f g n s m = sum_by_push (λ (v : EventView). f v.message) s.events (event_of g n s m)

-- the same behind a stretch
sent_behind : (s s' : State) (ran : List EventView) → s'.events ≡ s.events ++ ran
    → sent_in s' ≡ sent_in s ++ sent_by ran
sent_behind s s' ran is =
    ap (λ es. flat_map (λ (v : EventView). v.outputs) es) is
    ∙ flat_map-append (λ (v : EventView). v.outputs) s.events ran

taken_behind : (f : Message → ℕ) (s s' : State) (ran : List EventView) → s'.events ≡ s.events ++ ran
    → weight_taken f s' ≡ weight_taken f s + taken_by f ran
taken_behind f s s' ran is =
    ap (λ es. sum_by (λ (v : EventView). f v.message) es) is
    ∙ sum_by-append (λ (v : EventView). f v.message) s.events ran

-- an element whose events all went well stops at the first that does not
stops_after : (es ran : List EventView) (n : ℕ) → length ran ≡ n → AllWent es → AllWent (take (n - 1) ran)
    → StopsAtFault (es ++ ran)
stops_after es [] n many went before =
    subst StopsAtFault (sym (none_behind es)) (All-take (λ (v : EventView). v.step ≡ Went) (length es - 1) es went)
  where
    none_behind : (xs : List EventView) → xs ++ [] ≡ xs
    none_behind [] = refl
    none_behind (x ∷ xs) = ap (λ ys. x ∷ ys) (none_behind xs)
stops_after es (v ∷ vs) n many went before =
    let last : length (es ++ v ∷ vs) - 1 ≡ length es + length vs = omega (arith, length-append es (v ∷ vs)) in
    let first : n - 1 ≡ length vs = omega (arith, many) in
    subst AllWent (sym (ap (λ i. take i (es ++ v ∷ vs)) last ∙ take-append-add es (v ∷ vs) (length vs)))
    (All-append (λ (x : EventView). x.step ≡ Went) es (take (length vs) (v ∷ vs)) went
    (subst (λ i. AllWent (take i (v ∷ vs))) first before))

module _ (most k : ℕ) (own : List Message) (e : ElementView) (own' : List Message) (e' : ElementView)
    (r : Result Bool TakeError)
    (p : GoesOn most k e e' own own' r) where
  -- it is the same element
  pub number_given : e'.number ≡ e.number
  number_given = ap (λ (x : ElementView). x.number) p.stretch.element

  pub count_given : e'.count ≡ e.count
  count_given = ap (λ (x : ElementView). x.count) p.stretch.element

  -- which has handled some messages, and not too many
  pub few_given : length e'.state.events ≤ length e.state.events + most
  few_given =
      let a : length e'.state.events ≡ length (e.state.events ++ p.stretch.ran) = ap length p.stretch.events in
      let n = p.stretch.count in
      let m = p.few in
      omega (arith, a, n, m, length-append e.state.events p.stretch.ran)

module _ (goes : Bool) (ds : List DoorView) (e : ElementView) (own came back stray : List Message) (ls : List QueueView)
    (on : IsTrue goes)
    (kept : IsKept (worker_of goes ds e own came back stray ls))
    (most k : ℕ) (own1 : List Message) (e' : ElementView) (r : Result Bool TakeError)
    (p : GoesOn most k e e' own own1 r) where
  fits_given : All (Fits e.graph) own1
  fits_given = p.stretch.fit (fits_for e own (kept.own on))

  -- wherever the messages of its own have gone
  IsKept-moved : (goes' : Bool) (own' back' : List Message) (ls' : List QueueView)
      → ((f : Message → ℕ)
      → sum_by f own' + sum_by f back' + weight_in f ls' ≡ sum_by f own1 + sum_by f back + weight_in f ls)
      → length ls' ≡ length ls → (IsTrue goes' → AreFor e own') → (IsTrue goes' → back' ≡ [])
      → (IsTrue goes' → is_well r ≡ true) → IsKept (worker_of goes' ds e' own' came back' stray ls')
  IsKept-moved goes' own' back' ls' moved long are none went =
      let g = e.graph in
      let ran = p.stretch.ran in
      let events_are = p.stretch.events in
      let sent_is : sent_in e'.state ≡ sent_in e.state ++ sent_by ran = sent_behind e.state e'.state ran events_are in
      let all_went : AllWent e.state.events = kept.went on in
      record {
        parts = kept.parts;
        count = ap (λ (x : ElementView). x.count) p.stretch.element ∙ kept.count;
        number = subst (λ (x : ℕ). x < length ds) (sym (ap (λ (x : ElementView). x.number) p.stretch.element))
            kept.number;
        letters = length_letters ls' ∙ long ∙ sym (length_letters ls) ∙ kept.letters;
        own = λ so. subst (λ (x : ElementView). AreFor x own') (sym p.stretch.element) (are so);
        back = none;
        went = λ so. subst AllWent (sym events_are)
            (All-append (λ (v : EventView). v.step ≡ Went) e.state.events ran all_went (p.stretch.went (went so)));
        stops = subst StopsAtFault (sym events_are)
            (stops_after e.state.events ran p.n p.stretch.count all_went p.stretch.before);
        sent = subst (λ (x : Parts). All (Fits x) (sent_in e'.state))
            (sym (ap (λ (x : ElementView). x.graph) p.stretch.element))
            (subst (All (Fits g)) (sym sent_is)
            (All-append (Fits g) (sent_in e.state) (sent_by ran) kept.sent p.stretch.fits));
        square = λ f.
            let a : sum_by f (sent_in e'.state) ≡ sum_by f (sent_in e.state ++ sent_by ran) = ap (sum_by f) sent_is in
            let w : weight_taken f e'.state ≡ weight_taken f e.state + taken_by f ran =
            taken_behind f e.state e'.state ran events_are in
            let c = p.stretch.weight f in
            let q = moved f in
            let s = kept.square f in
            omega (
              arith,
              sum_by-append f (sent_in e.state) (sent_by ran),
              weight_letters f ls,
              weight_letters f ls',
              a,
              w,
              c,
              q,
              s,
            );
      }

  -- where something failed, it handles nothing more
  pub IsKept-failed : IsKept (worker_of false ds e' own1 came back stray ls)
  IsKept-failed =
      IsKept-moved false own1 back ls (λ f. refl) refl (λ so. absurd (false≢true so)) (λ so. absurd (false≢true so))
      (λ so. absurd (false≢true so))

  -- what the only element sends is for it
  pub IsKept-alone : is_well r ≡ true → e.count ≡ 1 → IsKept (worker_of goes ds e' own1 came back stray ls)
  IsKept-alone went one =
      let first : e.number ≡ 0 = (let c = kept.count in let l = kept.number in omega (arith, c, l, one)) in
      IsKept-moved goes own1 back ls (λ f. refl) refl
      (λ so. AreFor-only e own1 one first fits_given) kept.back (λ so. went)

  -- what is for others was sent on
  module _ (sent : ℕ) (own' back' : List Message) (ls' : List QueueView) where
    pub IsKept-sent : (n : ℕ) → n ≡ e.number → is_well r ≡ true → length own1 - sent ≡ length own - 1
        → IsBehind k own own1 → IsSentOn n sent own1 back ls own' back' ls' (Ok tt)
        → IsKept (worker_of goes ds e' own' came back' stray ls')
    IsKept-sent n mine went from behind on_n =
        let s : IsSentOn e.number sent own1 back ls own' back' ls' (Ok tt) =
        subst (λ (x : ℕ). IsSentOn x sent own1 back ls own' back' ls' (Ok tt)) mine on_n in
        let many : length ls ≡ e.count = sym (length_letters ls) ∙ kept.letters ∙ sym kept.count in
        let front : AreRouted (length ls) e.number (take (length own1 - sent) own1) =
        subst (λ (ms : List Message). AreRouted (length ls) e.number ms)
        (sym (ap (λ (i : ℕ). take i own1) from ∙ behind))
        (subst (λ (c : ℕ). AreRouted c e.number (remove own k)) (sym many)
        (All-removed (λ m. route_of m.payload e.count ≡ e.number) own k (routed_for e own (kept.own on)))) in
        let here = s.routed (kept.back on) front in
        let fit : All (Fits e.graph) own' = s.fits e.graph fits_given
        (subst (All (Fits e.graph)) (sym (kept.back on)) (All-nil (Fits e.graph))) in
        IsKept-moved goes own' back' ls' s.weight s.count
        (λ so. AreFor-both e own' (subst (λ (c : ℕ). AreRouted c e.number own') many here.1) fit) (λ so. here.0)
        (λ so. went)

    -- where memory was wanting, it handles nothing more
    pub IsKept-unsent : (n : ℕ) (x : AllocError) → IsSentOn n sent own1 back ls own' back' ls' (Err x)
        → IsKept (worker_of false ds e' own' came back' stray ls')
    IsKept-unsent n x s =
        IsKept-moved false own' back' ls' s.weight s.count (λ so. absurd (false≢true so)) (λ so. absurd (false≢true so))
        (λ so. absurd (false≢true so))

-- ---- a letter

module _ (goes : Bool) (ds : List DoorView) (e : ElementView) (own came back stray : List Message) (ls : List QueueView)
    (kept : IsKept (worker_of goes ds e own came back stray ls)) where
  -- what is left of the last one was moved to its own, or apart
  pub IsKept-sorted : (own' came' stray' : List Message) → (AreFor e own → AreFor e own')
      → ((f : Message → ℕ)
      → sum_by f own' + sum_by f stray' + sum_by f came' ≡ sum_by f own + sum_by f stray + sum_by f came)
      → IsKept (worker_of goes ds e own' came' back stray' ls)
  IsKept-sorted own' came' stray' are moved = record {
    parts = kept.parts;
    count = kept.count;
    number = kept.number;
    letters = kept.letters;
    own = λ so. are (kept.own so);
    back = kept.back;
    went = kept.went;
    stops = kept.stops;
    sent = kept.sent;
    square = λ f. let q = moved f in let s = kept.square f in omega (arith, q, s);
  }

module _ (goes : Bool) (ds : List DoorView) (e : ElementView) (own came back stray : List Message) (ls : List QueueView)
    (kept : IsKept (worker_of goes ds e own came back stray ls)) (i : ℕ) (d d' : DoorView) (is : d ≡ get_or ds i d)
    (lt : i < length ds) where
  one_part : d'.hand.parts ≡ d.hand.parts → HaveParts 1 (set ds i d')
  one_part same = parts_set 1 ds i d' kept.parts (same ∙ (ap (λ (y : DoorView). y.hand.parts) is ∙ kept.parts i d lt))

  -- there is a letter for the element behind it
  within : i < length ls
  within = let l = kept.letters in omega (arith, l, lt, length_letters ls)

  -- by this door so much was sent and taken
  IsKept-door : (came' : List Message) (ls' : List QueueView) → d'.hand.parts ≡ d.hand.parts → length ls' ≡ length ls
      → ((f : Message → ℕ) → sum_by f d'.hand.taken + (sum_by f d.hand.sent + (sum_by f came + weight_in f ls))
      ≡ sum_by f d.hand.taken + (sum_by f d'.hand.sent + (sum_by f came' + weight_in f ls')))
      → IsKept (worker_of goes (set ds i d') e own came' back stray ls')
  IsKept-door came' ls' parts long moved = record {
    parts = one_part parts;
    count = kept.count ∙ sym (length-set ds i d');
    number = (let n = kept.number in omega (arith, length-set ds i d'));
    letters = length_letters ls' ∙ long ∙ sym (length_letters ls) ∙ kept.letters ∙ sym (length-set ds i d');
    own = kept.own;
    back = kept.back;
    went = kept.went;
    stops = kept.stops;
    sent = kept.sent;
    square = λ f.
        let s = sent_by-set f ds i d d' is lt in
        let t = taken_by-set f ds i d d' is lt in
        let q = moved f in
        let p = kept.square f in
        omega (arith, s, t, q, p, weight_letters f ls, weight_letters f ls');
  }

  -- a letter was put into an inbox, and an empty one stands in its place
  pub IsKept-posted : (q empty : QueueView) → q ≡ get_or ls i q → empty.messages ≡ []
      → d' ≡ record d { hand = sending d.hand q.messages; saw = d'.saw }
      → IsKept (worker_of goes (set ds i d') e own came back stray (set ls i empty))
  IsKept-posted q empty at none h =
      IsKept-door came (set ls i empty) (ap (λ (y : DoorView). y.hand.parts) h) (length-set ls i empty) (λ f.
      let a : sum_by f d'.hand.sent ≡ sum_by f (d.hand.sent ++ q.messages) =
      ap (λ (y : DoorView). sum_by f y.hand.sent) h in
      let b : sum_by f d'.hand.taken ≡ sum_by f d.hand.taken = ap (λ (y : DoorView). sum_by f y.hand.taken) h in
      let c : sum_by f empty.messages ≡ 0 = ap (sum_by f) none in
      let r : sum_by f q.messages ≡ sum_by f (get_or ls i q).messages =
      ap (λ (x : QueueView). sum_by f x.messages) at in
      let w : weight_in f (set ls i empty) + sum_by f (get_or ls i q).messages ≡ weight_in f ls
      + sum_by f empty.messages =
      sum_by-set (λ (x : QueueView). sum_by f x.messages) ls i empty q within in
      omega (arith, a, b, c, r, w, sum_by-append f d.hand.sent q.messages))

  -- it came back
  pub IsKept-returned : (q empty s : QueueView) → q ≡ get_or ls i q → s ≡ q → d' ≡ record d { saw = d'.saw }
      → IsKept (worker_of goes (set ds i d') e own came back stray (set (set ls i empty) i s))
  IsKept-returned q empty s at same h =
      IsKept-door came (set (set ls i empty) i s) (ap (λ (y : DoorView). y.hand.parts) h)
      (length-set (set ls i empty) i s ∙ length-set ls i empty) (λ f.
      let a : sum_by f d'.hand.sent ≡ sum_by f d.hand.sent = ap (λ (y : DoorView). sum_by f y.hand.sent) h in
      let b : sum_by f d'.hand.taken ≡ sum_by f d.hand.taken = ap (λ (y : DoorView). sum_by f y.hand.taken) h in
      let c : sum_by f s.messages ≡ sum_by f q.messages = ap (λ (x : QueueView). sum_by f x.messages) same in
      let r : sum_by f q.messages ≡ sum_by f (get_or ls i q).messages =
      ap (λ (x : QueueView). sum_by f x.messages) at in
      let w : weight_in f (set ls i empty) + sum_by f (get_or ls i q).messages ≡ weight_in f ls
      + sum_by f empty.messages =
      sum_by-set (λ (x : QueueView). sum_by f x.messages) ls i empty q within in
      let there : get_or (set ls i empty) i q ≡ empty = get_or-set_same ls i empty q within in
      let e2 : sum_by f (get_or (set ls i empty) i q).messages ≡ sum_by f empty.messages =
      ap (λ (x : QueueView). sum_by f x.messages) there in
      let within2 : i < length (set ls i empty) = subst (λ (n : ℕ). i < n) (sym (length-set ls i empty)) within in
      let w2 : weight_in f (set (set ls i empty) i s) + sum_by f (get_or (set ls i empty) i q).messages
      ≡ weight_in f (set ls i empty) + sum_by f s.messages =
      sum_by-set (λ (x : QueueView). sum_by f x.messages) (set ls i empty) i s q within2 in
      omega (arith, a, b, c, r, w, e2, w2))

  -- the inboxes and the element are the same
  pub IsSame-door : (came' : List Message) (ls' : List QueueView) → d'.queue ≡ d.queue
      → IsSame (worker_of goes ds e own came back stray ls) (worker_of goes (set ds i d') e own came' back stray ls')
  IsSame-door came' ls' same = record {
    queues = queues_set ds i d d' is lt same;
    number = refl;
    count = refl;
    graph = refl;
    keeps = refl;
  }

pub IsSame-after : (u v w : WorkerView) → IsSame u v → IsSame v w → IsSame u w
IsSame-after u v w first next = record {
  queues = next.queues ∙ first.queues;
  number = next.number ∙ first.number;
  count = next.count ∙ first.count;
  graph = next.graph ∙ first.graph;
  keeps = next.keeps ∙ first.keeps;
}

-- a worker with the same inboxes has as many
pub as_many : (old new : WorkerView) → IsSame old new → length new.doors ≡ length old.doors
as_many old new same =
    sym (length_queues new.doors) ∙ ap length same.queues ∙ length_queues old.doors
  where
    length_queues : (ds : List DoorView) → length (queues_of ds) ≡ length ds
    length_queues [] = refl
    length_queues (d ∷ ds) = ap suc (length_queues ds)

-- ---- workers of a list

get_or_push_less : (ws : List WorkerView) (w : WorkerView) (i : ℕ) (d : WorkerView) → i < length ws
    → get_or (ws ++ w ∷ []) i d ≡ get_or ws i d
get_or_push_less [] w i d lt = absurd (omega arith)
get_or_push_less (x ∷ xs) w zero d lt = refl
get_or_push_less (x ∷ xs) w (suc i) d lt = get_or_push_less xs w i d (omega arith)

get_or_push_end : (ws : List WorkerView) (w d : WorkerView) → get_or (ws ++ w ∷ []) (length ws) d ≡ w
get_or_push_end [] w d = refl
get_or_push_end (x ∷ xs) w d = get_or_push_end xs w d

longer_by_one : (ws : List WorkerView) (w : WorkerView) → length (ws ++ w ∷ []) ≡ length ws + 1
longer_by_one ws w = length-append ws (w ∷ [])

-- one more worker
pub workers_more : (g : Parts) (count most : ℕ) (keeps : Keeps) (qs : List (SegId Global)) (ws : List WorkerView)
    (w : WorkerView) → AreWorkers g count most keeps qs ws → IsWorker g count most keeps qs (length ws) w
    → AreWorkers g count most keeps qs (ws ++ w ∷ [])
workers_more g count most keeps qs ws w kept mine i d lt =
    ⊎_elim (λ (below : i < length ws). subst (IsWorker g count most keeps qs i) (sym (get_or_push_less ws w i d below))
    (kept i d below))
    (λ (le : length ws ≤ i).
    let here : i ≡ length ws = (let k = longer_by_one ws w in omega arith) in
    let at : get_or (ws ++ w ∷ []) i d ≡ w = ap (λ (k : ℕ). get_or (ws ++ w ∷ []) k d) here ∙ get_or_push_end ws w d in
    subst (IsWorker g count most keeps qs i) (sym at)
    (subst (λ (k : ℕ). IsWorker g count most keeps qs k w) (sym here) mine))
    (cases_lt i (length ws))

-- one worker less
pub workers_less : (g : Parts) (count most : ℕ) (keeps : Keeps) (qs : List (SegId Global)) (ws : List WorkerView)
    (w : WorkerView) → AreWorkers g count most keeps qs (ws ++ w ∷ [])
    → AreWorkers g count most keeps qs ws × IsWorker g count most keeps qs (length ws) w
workers_less g count most keeps qs ws w kept = (
  (λ i d lt. subst (IsWorker g count most keeps qs i) (get_or_push_less ws w i d lt)
      (kept i d (let l = longer_by_one ws w in omega arith))),
  subst (IsWorker g count most keeps qs (length ws)) (get_or_push_end ws w w)
      (kept (length ws) w (let l = longer_by_one ws w in omega arith)),
)

-- workers that have worked
pub workers_worked : (g : Parts) (count less most : ℕ) (keeps : Keeps) (qs : List (SegId Global))
    (ws vs : List WorkerView) → length vs ≡ length ws → AreWorkers g count less keeps qs ws
    → ((i : ℕ) (d : WorkerView) → i < length ws → IsSameWithin most (get_or ws i d) (get_or vs i d))
    → AreWorkers g count most keeps qs vs
workers_worked g count less most keeps qs ws vs long are worked i d lt =
    let lt' : i < length ws = omega arith in
    let was = are i d lt' in
    let has = worked i d lt' in
    record {
      queues = has.same.queues ∙ was.queues;
      element = record {
        number = has.same.number ∙ was.element.number;
        count_is = has.same.count ∙ was.element.count_is;
        graph = has.same.graph ∙ was.element.graph;
      };
      kept = has.same.keeps ∙ was.kept;
      few = has.few;
    }
