-- Lemmas on specs/Firsts.antt: the earliest of the first faults of elements comes before each other fault of theirs.
use Rattle.std.proofs.Common.{◌≡◌, ◌≢◌, inl, inr, ℕ, zero, suc, ◌<◌, ◌≤◌, Bool, true, false, nat_lt, Option, Some, None}
use Rattle.std.proofs.Common.{List, []}
use Rattle.std.proofs.Common.{◌∷◌, ◌++◌, ◌+◌, map, take, refl, sym, ap, subst, ◌∙◌, append_assoc, append-nil, arith}
use Rattle.std.proofs.lemmas.List.{map-append}
use Rattle.std.specs.Prelude.{slice_get, MatchOption, if◌then◌else◌}
use Rattle.std.specs.List.{AllByRecursion, filter_map, cons_option}
use Rattle.std.specs.List.Sorted.{IsStrictlySortedBy}
use Rattle.std.specs.Option.{option_or}
use Rattle.std.specs.Ordering.{nat_cmp}
use Rattle.std.specs.declared.cmp.Ordering.TheVariants.{Less}
use Rattle.std.proofs.lemmas.Bool.{cases_lt}
use Rattle.std.proofs.lemmas.Bool.Decides.{nat_tests}
use Rattle.id_value.specs.List.{Among}
use Rattle.id_value.proofs.AmongLemmas.{Among-either, Among-left, Among-right, at-from_Among}
use Rattle.id_instr.specs.Graph.{Parts}
use Rattle.id_source.specs.declared.SourceFault.{SourceFault}
use Rattle.id_tag.specs.declared.Structure.{Structure}
use Rattle.id_tag.specs.declared.Tag.{Tag}
use Rattle.id_source.specs.declared.Path.{Path}
use Rattle.id_source.specs.declared.Site.{Site}
use Rattle.id_record.specs.declared.step.Fault.{Fault}
use Rattle.id_record.specs.declared.step.Fault.TheVariants.{Operator, SecondStore}
use Rattle.id_record.specs.declared.step.Step.{Step}
use Rattle.id_record.specs.declared.step.Step.TheVariants as steps
use Rattle.id_record.specs.declared.telling.Faulted.{Faulted}
use Rattle.id_record.specs.Events.{EventView}
use Rattle.id_record.specs.Tellings.{fault_in, first_fault}
use Rattle.id_record.proofs.EachLemmas.{each-get, each-weaker}
use Rattle.id_step.specs.Steps.{State}
use Rattle.id_step.specs.Replays.{ElementView, Replays}
use Rattle.id_observe.specs.Merged.{by_moment}
use Rattle.id_observe.specs.Paths.{events_of, path_in, structure_in}
use Rattle.id_observe.specs.Sourced.{fault_of, faults_in}
use Rattle.id_observe.specs.Firsts.{IsFirstFault, earlier_of, earliest_from, earliest_in}
use Rattle.id_observe.proofs.MergedLemmas.{by_moment_total, earlier_element, earlier_stamp}
use Rattle.id_observe.proofs.OrderedLemmas.{less-both, less-itself}
use Rattle.id_observe.proofs.RecordsLemmas.{IsRising-from, number_below}
use Rattle.id_observe.proofs.SourcedLemmas.{nothing_all}
use Rattle.id_observe.proofs.WalksLemmas.{take-next}

-- what is so of each element is so of one among them, and the other way round
each-of : {X : Type 0} (P : X → Type 0) (xs : List X) (x : X) → AllByRecursion P xs → Among x xs → P x
each-of P xs x all among = let place = at-from_Among x xs among in each-get P xs place.0 x all place.1

each-from : {X : Type 0} (P : X → Type 0) (xs : List X) → ((x : X) → Among x xs → P x) → AllByRecursion P xs
each-from P [] all = tt
each-from P (x ∷ xs) all = (all x (inl refl), each-from P xs (λ y among. all y (inr among)))

-- ---- the order of two events

-- an event is not before one that is before it
not_before : (x y : EventView) → by_moment y x ≡ Less → by_moment x y ≢ Less
not_before x y less = λ more. less-both by_moment_total y x less more

-- one that is not before the other has no lower stamp
stamp-from : (x y : EventView) → by_moment x y ≢ Less → y.stamp ≤ x.stamp
stamp-from x y not = elim (cases_lt x.stamp y.stamp) [
  | inl lower ↦ absurd (not (earlier_stamp x y lower))
  | inr le ↦ le
]

-- ---- the first fault of some events

-- what is so of each of these events that was a fault
abbrev pub EachFault : List EventView → (EventView → Type 0) → Type 0
EachFault es P = (e : EventView) (x : Fault) → Among e es → e.step ≡ steps.Fault x → P e

each_fault-join : (P : EventView → Type 0) (xs ys : List EventView) → EachFault xs P → EachFault ys P
    → EachFault (xs ++ ys) P
each_fault-join P xs ys one other e x among is =
    elim (Among-either e xs ys among) [ inl here ↦ one e x here is | inr there ↦ other e x there is ]

-- this fault is that of an event of these, and none of them that was a fault is before it
pub record IsFirst (es : List EventView) (a : Faulted) : Type 0 where
  pub event : EventView
  pub among : Among event es
  pub fault : event.step ≡ steps.Fault a.fault
  pub stamp : event.stamp ≡ a.stamp
  pub first : EachFault es (λ e. by_moment e event ≢ Less)

-- none of these was a fault
abbrev pub NoFault : List EventView → Type 0
NoFault es = EachFault es (λ e. ⊥)

abbrev pub AreFirst : List EventView → Option Faulted → Type 0
AreFirst es o = MatchOption o (NoFault es) (IsFirst es)

-- the first of one of two lists is that of both, where no fault of the other is before it
IsFirst-left : (xs ys : List EventView) (a : Faulted) (first : IsFirst xs a)
    → EachFault ys (λ e. by_moment e first.event ≢ Less) → IsFirst (xs ++ ys) a
IsFirst-left xs ys a first others = record {
  event = first.event;
  among = Among-left first.event xs ys first.among;
  fault = first.fault;
  stamp = first.stamp;
  first = each_fault-join (λ e. by_moment e first.event ≢ Less) xs ys first.first others;
}

IsFirst-right : (xs ys : List EventView) (a : Faulted) (first : IsFirst ys a)
    → EachFault xs (λ e. by_moment e first.event ≢ Less) → IsFirst (xs ++ ys) a
IsFirst-right xs ys a first others = record {
  event = first.event;
  among = Among-right first.event xs ys first.among;
  fault = first.fault;
  stamp = first.stamp;
  first = each_fault-join (λ e. by_moment e first.event ≢ Less) xs ys others first.first;
}

-- events that were no faults are left out
AreFirst-behind : (xs ys : List EventView) (o : Option Faulted) → NoFault xs → AreFirst ys o → AreFirst (xs ++ ys) o
AreFirst-behind xs ys None none nothing = each_fault-join (λ e. ⊥) xs ys none nothing
AreFirst-behind xs ys (Some a) none first = IsFirst-right xs ys a first (λ e x among is. absurd (none e x among is))

AreFirst-later : (e : EventView) (es : List EventView) (o : Option Faulted) → ((x : Fault) → e.step ≢ steps.Fault x)
    → AreFirst es o → AreFirst (e ∷ es) o
AreFirst-later e es o not rest = AreFirst-behind (e ∷ []) es o itself rest
  where
    itself : NoFault (e ∷ [])
    itself f x (inl here) is = not x (sym (ap (λ v. v.step) here) ∙ is)
    itself f x (inr later) is = absurd later

-- what events in order show first
first-in : (es : List EventView) → IsStrictlySortedBy by_moment es → AreFirst es (first_fault es)
unfolding IsStrictlySortedBy
first-in [] sorted = λ e x among. absurd among
first-in (e ∷ es) sorted = from (first-in es sorted.1) e.step refl
  where
    itself : EachFault (e ∷ es) (λ f. by_moment f e ≢ Less)
    itself f x (inl here) fault = λ less. less-itself by_moment_total e (subst (λ v. by_moment v e ≡ Less) here less)
    itself f x (inr later) fault = not_before f e (each-of (λ z. by_moment e z ≡ Less) es f sorted.0 later)

    from : AreFirst es (first_fault es) → (w : Step) → e.step ≡ w
        → AreFirst (e ∷ es) (option_or (fault_in e.stamp w) (first_fault es))
    from rest steps.Went is =
        AreFirst-later e es (first_fault es) (λ x bad. let both : steps.Went ≡ steps.Fault x = sym is ∙ bad in cc) rest
    from rest steps.Stuck is =
        AreFirst-later e es (first_fault es) (λ x bad. let both : steps.Stuck ≡ steps.Fault x = sym is ∙ bad in cc) rest
    from rest (steps.Fault y) is = record { event = e; among = inl refl; fault = is; stamp = refl; first = itself }

-- the earlier of what two lists show first is what both do, where all events of the second are of one higher element
earlier-join : (xs ys : List EventView) (n : ℕ) (a b : Option Faulted) → ((e : EventView) → Among e xs → e.element < n)
    → ((e : EventView) → Among e ys → e.element ≡ n) → AreFirst xs a → AreFirst ys b
    → AreFirst (xs ++ ys) (earlier_of a b)
earlier-join xs ys n None b below own none next = AreFirst-behind xs ys b none next
earlier-join xs ys n (Some a) None below own first nothing =
    IsFirst-left xs ys a first (λ e x among is. absurd (nothing e x among is))
earlier-join xs ys n (Some a) (Some b) below own first next = from (nat_lt b.stamp a.stamp) refl
  where
    -- the event of the second has the lower stamp
    later : b.stamp < a.stamp → EachFault xs (λ e. by_moment e next.event ≢ Less)
    later lower e x among is =
        let from_first = stamp-from e first.event (first.first e x among is) in
        not_before e next.event (earlier_stamp next.event e (omega (arith, lower, from_first, first.stamp, next.stamp)))

    -- or not
    sooner : a.stamp ≤ b.stamp → EachFault ys (λ e. by_moment e first.event ≢ Less)
    sooner lower e x among is =
        let from_next = stamp-from e next.event (next.first e x among is) in
        let lower_element = below first.event first.among in
        let is_own = own e among in
        not_before e first.event
        (earlier_element first.event e (omega (arith, lower, from_next, first.stamp, next.stamp))
        (omega (arith, lower_element, is_own)))

    from : (c : Bool) → nat_lt b.stamp a.stamp ≡ c → AreFirst (xs ++ ys) (if c then Some b else Some a)
    from true is = IsFirst-right xs ys b next (later (grind (arith, nat_tests, is)))
    from false is = IsFirst-left xs ys a first (sooner (grind (arith, nat_tests, is)))

-- ---- the first fault of elements

-- all of these events are of elements below these
abbrev pub AreBelow : List EventView → List ℕ → Type 0
AreBelow xs ns = (e : EventView) → Among e xs → AllByRecursion (λ m. e.element < m) ns

earliest-after : (xs : List EventView) (f : Option Faulted) (es : List ElementView)
    → IsStrictlySortedBy nat_cmp (map (λ e. e.number) es) → AllByRecursion Replays es
    → AreBelow xs (map (λ e. e.number) es) → AreFirst xs f
    → AreFirst (xs ++ events_of (map (λ e. e.state) es)) (earliest_from f (map (λ e. e.state) es))
unfolding IsStrictlySortedBy
earliest-after xs f [] rise replay below first = subst (λ l. AreFirst l f) (sym (append-nil xs)) first
earliest-after xs f (d ∷ es) rise replay below first =
    let ys = d.state.events in
    let rising = IsRising-from d replay.0 in
    let own =
    λ (e : EventView) (among : Among e ys). each-of (λ (v : EventView). v.element ≡ d.number) ys e rising.own among in
    let joined =
    earlier-join xs ys d.number f (first_fault ys) (λ e among. (below e among).0) own first
    (first-in ys rising.sorted) in
    subst (λ l. AreFirst l (earliest_from (earlier_of f (first_fault ys)) (map (λ e. e.state) es)))
    (append_assoc xs ys (events_of (map (λ e. e.state) es)))
    (earliest-after (xs ++ ys) (earlier_of f (first_fault ys)) es rise.1 replay.1 (both own) joined)
  where
    above : (n : ℕ) (ns : List ℕ) → AllByRecursion (λ m. nat_cmp n m ≡ Less) ns → AllByRecursion (λ m. n < m) ns
    above n ns all = each-weaker (λ m. nat_cmp n m ≡ Less) (λ m. n < m) (λ m less. number_below n m less) ns all

    both : ((e : EventView) → Among e d.state.events → e.element ≡ d.number)
        → AreBelow (xs ++ d.state.events) (map (λ e. e.number) es)
    both own e among = elim (Among-either e xs d.state.events among) [
      | inl here ↦ (below e here).1
      | inr there ↦ subst (λ n. AllByRecursion (λ m. n < m) (map (λ x. x.number) es)) (sym (own e there))
          (above d.number (map (λ x. x.number) es) rise.0)
    ]

earliest-first : (es : List ElementView) → IsStrictlySortedBy nat_cmp (map (λ e. e.number) es)
    → AllByRecursion Replays es → AreFirst (events_of (map (λ e. e.state) es)) (earliest_in (map (λ e. e.state) es))
earliest-first es rise replay =
    earliest-after [] None es rise replay (λ e among. absurd among) (λ e x among. absurd among)

-- one more element
earliest-push : (f : Option Faulted) (ss : List State) (s : State)
    → earliest_from f (ss ++ s ∷ []) ≡ earlier_of (earliest_from f ss) (first_fault s.events)
earliest-push f [] s = refl
earliest-push f (t ∷ ss) s = earliest-push (earlier_of f (first_fault t.events)) ss s

pub earliest-next : (es : List ElementView) (i : ℕ) (e : ElementView) → slice_get es i ≡ Some e
    → earliest_in (map (λ x. x.state) (take (i + 1) es))
    ≡ earlier_of (earliest_in (map (λ x. x.state) (take i es))) (first_fault e.state.events)
earliest-next es i e at =
    ap (λ xs. earliest_in (map (λ x. x.state) xs)) (take-next es i e at)
    ∙ ap earliest_in (map-append (λ x. x.state) (take i es) (e ∷ []))
    ∙ earliest-push None (map (λ x. x.state) (take i es)) e.state

-- ---- as faults of the source

-- each fault shows one
fault-shown : (g : Parts) (path : Tag → Path) (name : Structure → Site) (x : Fault)
    → fault_of g path name (steps.Fault x) ≢ None
fault-shown g path name (Operator k t) = λ none. cc
fault-shown g path name (SecondStore c t u) = λ none. cc

-- what is no fault shows none
fault-none : (g : Parts) (path : Tag → Path) (name : Structure → Site) (w : Step) → ((x : Fault) → w ≢ steps.Fault x)
    → fault_of g path name w ≡ None
fault-none g path name steps.Went not = refl
fault-none g path name (steps.Fault x) not = absurd (not x refl)
fault-none g path name steps.Stuck not = refl

-- where there is no first fault, none is shown
pub none-shown : (g : Parts) (es : List ElementView) → IsStrictlySortedBy nat_cmp (map (λ e. e.number) es)
    → AllByRecursion Replays es → earliest_in (map (λ e. e.state) es) ≡ None → faults_in g (map (λ e. e.state) es) ≡ []
none-shown g es rise replay is =
    let ss = map (λ e. e.state) es in
    let none : NoFault (events_of ss) = subst (AreFirst (events_of ss)) is (earliest-first es rise replay) in
    nothing_all (λ e. fault_of g (path_in g ss) (structure_in g ss) e.step) (events_of ss)
    (each-from (λ e. fault_of g (path_in g ss) (structure_in g ss) e.step ≡ None) (events_of ss)
    (λ e among. fault-none g (path_in g ss) (structure_in g ss) e.step (λ x. none e x among)))

-- where there is one, it is the first that is shown
pub first-shown : (g : Parts) (es : List ElementView) (a : Faulted) (o : Option SourceFault)
    → IsStrictlySortedBy nat_cmp (map (λ e. e.number) es) → AllByRecursion Replays es
    → earliest_in (map (λ e. e.state) es) ≡ Some a
    → o ≡ fault_of g (path_in g (map (λ e. e.state) es)) (structure_in g (map (λ e. e.state) es)) (steps.Fault a.fault)
    → MatchOption o (faults_in g (map (λ e. e.state) es) ≡ []) (IsFirstFault g (map (λ e. e.state) es))
first-shown g es a None rise replay is shown =
    let ss = map (λ e. e.state) es in
    absurd (fault-shown g (path_in g ss) (structure_in g ss) a.fault (sym shown))
first-shown g es a (Some f) rise replay is shown =
    let ss = map (λ e. e.state) es in
    let first : IsFirst (events_of ss) a = subst (AreFirst (events_of ss)) is (earliest-first es rise replay) in
    record {
      event = first.event;
      among = first.among;
      fault = ap (fault_of g (path_in g ss) (structure_in g ss)) first.fault ∙ sym shown;
      first = first.first;
    }

-- what the element gives stands in what the list gives
abbrev IsGiven : {X Y : Type 0} → (X → Option Y) → List X → X → Type 0
IsGiven {Y = Y} h xs x = (y : Y) → h x ≡ Some y → (i : ℕ) × (slice_get (filter_map h xs) i ≡ Some y)

given_later : {X Y : Type 0} (h : X → Option Y) (w : X) (xs : List X) (x : X) → IsGiven h xs x → IsGiven h (w ∷ xs) x
given_later {Y = Y} h w xs x given y is = at (h w)
  where
    at : (o : Option Y) → (i : ℕ) × (slice_get (cons_option o (filter_map h xs)) i ≡ Some y)
    at None = given y is
    at (Some z) = let place = given y is in (suc place.0, place.1)

given_each : {X Y : Type 0} (h : X → Option Y) (xs : List X) → AllByRecursion (IsGiven h xs) xs
given_each h [] = tt
given_each h (x ∷ xs) = (
  λ y is. (zero, ap (λ o. slice_get (cons_option o (filter_map h xs)) zero) is),
  each-weaker (IsGiven h xs) (IsGiven h (x ∷ xs)) (λ w given. given_later h x xs w given) xs (given_each h xs),
)

-- the first fault is one of those that the records show
pub first_is_shown : (g : Parts) (elements : List State) (f : SourceFault) → IsFirstFault g elements f
    → (i : ℕ) × (slice_get (faults_in g elements) i ≡ Some f)
first_is_shown g elements f is =
    let h = λ (e : EventView). fault_of g (path_in g elements) (structure_in g elements) e.step in
    each-of (IsGiven h (events_of elements)) (events_of elements) is.event (given_each h (events_of elements)) is.among
    f is.fault
