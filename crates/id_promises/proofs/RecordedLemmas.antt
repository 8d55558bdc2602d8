-- Where legal lists lead, the records of elements tell no two events at one moment, and the first fault is one.
use Rattle.std.proofs.Common.{◌≡◌, ◌≢◌, inl, inr, ℕ, zero, suc, ◌<◌, ◌≤◌, List, [], ◌∷◌, ◌++◌, Some, length, replicate}
use Rattle.std.proofs.Common.{refl, sym, ap, ◌∙◌, subst, arith}
use Rattle.std.specs.Prelude.{get_or, slice_get}
use Rattle.std.specs.declared.cmp.Ordering.TheVariants.{Less}
use Rattle.std.proofs.lemmas.Bool.{cases_lt}
use Rattle.std.proofs.lemmas.Option.{get_or_from_slice_get, slice_get_within}
use Rattle.id_value.specs.List.{Among}
use Rattle.id_value.specs.declared.Constant.{Constant}
use Rattle.id_value.proofs.AmongLemmas.{Among-either, at-from_Among}
use Rattle.id_value.proofs.PlacesLemmas.{slice_get-set}
use Rattle.id_instr.specs.Graph.{Parts}
use Rattle.id_tag.specs.declared.Message.{Message}
use Rattle.id_tag.specs.declared.Structure.{Structure}
use Rattle.id_tag.specs.declared.Tag.{Tag}
use Rattle.id_tag.specs.Routes.{route_of}
use Rattle.id_source.specs.declared.Path.{Path}
use Rattle.id_source.specs.declared.Site.{Site}
use Rattle.id_source.specs.declared.SourceFault.{SourceFault}
use Rattle.id_record.specs.declared.step.Fault.{Fault}
use Rattle.id_record.specs.declared.step.Step.{Step}
use Rattle.id_record.specs.declared.step.Step.TheVariants as steps
use Rattle.id_core.specs.Events.{EventView}
use Rattle.id_core.specs.Firsts.{IsFirstFault}
use Rattle.id_core.specs.Machines.{IsQuiet, World, start}
use Rattle.id_core.specs.Observed.{events_of}
use Rattle.id_core.specs.Steps.{State, event_of, fresh, next_stamp, state_after}
use Rattle.id_observe.specs.Merged.{by_moment}
use Rattle.id_observe.specs.Paths.{path_in, structure_in}
use Rattle.id_observe.specs.Sourced.{fault_of}
use Rattle.id_observe.proofs.MergedLemmas.{earlier_element, earlier_stamp}
use Rattle.id_runs.specs.Legal.{LeadTo, follow, no_more}
use Rattle.id_runs.proofs.Banks.{among_flat}

-- the events of an element are its own, none has a later stamp than its last, and no two have one
pub record IsRecord (n : ℕ) (s : State) : Type 0 where
  pub own : (v : EventView) → Among v s.events → v.element ≡ n
  pub within : (v : EventView) → Among v s.events → v.stamp ≤ s.stamp
  pub once : (v u : EventView) → Among v s.events → Among u s.events → v.stamp ≡ u.stamp → v ≡ u

-- what is so of each event of a record, and of the next one, is so of each then
each_event : (P : EventView → Type 0) (vs : List EventView) (e : EventView) → ((v : EventView) → Among v vs → P v) → P e
    → (v : EventView) → Among v (vs ++ e ∷ []) → P v
each_event P vs e old new v a = elim (Among-either v vs (e ∷ []) a) [
  | inl i ↦ old v i
  | inr (inl is) ↦ subst P (sym is) new
  | inr (inr none) ↦ absurd none
]

record_after : (g : Parts) (n : ℕ) (s : State) (m : Message) → IsRecord n s → IsRecord n (state_after g n s m)
record_after g n s m h = record {
  own = each_event (λ (v : EventView). v.element ≡ n) s.events (event_of g n s m) h.own refl;
  within = each_event (λ (v : EventView). v.stamp ≤ next_stamp s m) s.events (event_of g n s m) (λ v a. let w =
      h.within v a in omega arith) (omega arith);
  once = λ v u a b same. elim (Among-either v s.events (event_of g n s m ∷ []) a) [
    | inl i ↦ elim (Among-either u s.events (event_of g n s m ∷ []) b) [
      | inl j ↦ h.once v u i j same
      | inr (inl is) ↦ absurd (earlier v i (same ∙ ap (λ (x : EventView). x.stamp) is))
      | inr (inr none) ↦ absurd none
    ]
    | inr (inl is) ↦ elim (Among-either u s.events (event_of g n s m ∷ []) b) [
      | inl j ↦ absurd (earlier u j (sym same ∙ ap (λ (x : EventView). x.stamp) is))
      | inr (inl also) ↦ is ∙ sym also
      | inr (inr none) ↦ absurd none
    ]
    | inr (inr none) ↦ absurd none
  ];
}
  where
    earlier : (v : EventView) → Among v s.events → v.stamp ≡ next_stamp s m → ⊥
    earlier v i is = let w = h.within v i in omega arith

-- each element has such a record
abbrev pub AreRecords : List State → Type 0
AreRecords ss = (n : ℕ) (s : State) → slice_get ss n ≡ Some s → IsRecord n s

some_same : {A : Type 0} (x y : A) → Some x ≡ Some y → x ≡ y
some_same x y h = cc

replicated : (count n : ℕ) (s : State) → slice_get (replicate count fresh) n ≡ Some s → s ≡ fresh
replicated zero n s h = cc
replicated (suc count) zero s h = cc
replicated (suc count) (suc n) s h = replicated count n s h

records_first : (count : ℕ) → AreRecords (replicate count fresh)
records_first count n s at =
    subst (IsRecord n) (sym (replicated count n s at)) (record {
      own = λ v a. absurd a;
      within = λ v a. absurd a;
      once =
          λ v u a b. absurd a;
    })

module _ (g : Parts) (count : ℕ) where
  records_led : {w x : World} {es : List EventView} → LeadTo g count w es x → AreRecords w.elements
      → AreRecords x.elements
  records_led no_more h = h
  records_led (follow {w = w} {v = v} f l) h = records_led l (λ n s at.
      let k = route_of v.message.payload count in
      elim (slice_get-set w.elements k n (state_after g k f.state v.message) s at) [
        | inl here ↦ (
            let old : IsRecord k f.state = h k f.state f.element in
            let P : ℕ → State → Type 0 = λ j t. IsRecord j t in
            subst (λ j. P j s) (sym here.0) (subst (P k) (sym here.1) (record_after g k f.state v.message old))
            )
        | inr there ↦ h n s there
      ])

  pub records : (vs : List Constant) {x : World} {es : List EventView} → LeadTo g count (start g vs count) es x
      → AreRecords x.elements
  records vs l = records_led l (records_first count)

-- ---- moments

-- what shows a fault was one
was_fault : (g : Parts) (path : Tag → Path) (name : Structure → Site) (w : Step) (f : SourceFault)
    → fault_of g path name w ≡ Some f → (x : Fault) × (w ≡ steps.Fault x)
was_fault g path name steps.Went f h = cc
was_fault g path name (steps.Fault x) f h = (x, refl)
was_fault g path name steps.Stuck f h = cc

module _ (ss : List State) (h : AreRecords ss) where
  -- an event is that of an element
  record IsOf (v : EventView) : Type 0 where
    number : ℕ
    state : State
    at : slice_get ss number ≡ Some state
    among : Among v state.events

  is_of : (v : EventView) → Among v (events_of ss) → IsOf v
  is_of v a =
      let f = among_flat (λ (s : State). s.events) ss v a in
      let at = at-from_Among f.0 ss f.1 in
      record { number = at.0; state = f.0; at = at.1; among = f.2 }

  -- two events of which none is before the other are one
  one_moment : (v u : EventView) → Among v (events_of ss) → Among u (events_of ss) → by_moment v u ≢ Less
      → by_moment u v ≢ Less → v ≡ u
  one_moment v u a b not other =
      let x = is_of v a in
      let y = is_of u b in
      let stamps : v.stamp ≡ u.stamp =
      equal v.stamp u.stamp (λ l. not (earlier_stamp v u l)) (λ l. other (earlier_stamp u v l)) in
      let elements : v.element ≡ u.element = equal v.element u.element
      (λ l. not (earlier_element v u (omega arith) l)) (λ l. other (earlier_element u v (omega arith) l)) in
      let r = h x.number x.state x.at in
      let q = h y.number y.state y.at in
      let numbers : x.number ≡ y.number = sym (r.own v x.among) ∙ elements ∙ q.own u y.among in
      let states : y.state ≡ x.state = some_same y.state x.state (sym y.at ∙ sym (ap (slice_get ss) numbers) ∙ x.at) in
      r.once v u x.among (subst (λ (s : State). Among u s.events) states y.among) stamps
    where
      equal : (m n : ℕ) → (m < n → ⊥) → (n < m → ⊥) → m ≡ n
      equal m n one two = elim (cases_lt m n) [
        | inl l ↦ absurd (one l)
        | inr k ↦ elim (cases_lt n m) [ inl l ↦ absurd (two l) | inr j ↦ omega (arith, k, j) ]
      ]

  pub one_fault : (g : Parts) (f e : SourceFault) → IsFirstFault g ss f → IsFirstFault g ss e → f ≡ e
  one_fault g f e x y =
      let path = path_in g ss in
      let name = structure_in g ss in
      let fx = was_fault g path name x.event.step f x.fault in
      let fy = was_fault g path name y.event.step e y.fault in
      let one : x.event ≡ y.event =
      one_moment x.event y.event x.among y.among (y.first x.event fx.0 x.among fx.1)
      (x.first y.event fy.0 y.among fy.1) in
      some_same f e (sym x.fault ∙ ap (λ (v : EventView). fault_of g path name v.step) one ∙ y.fault)

-- a quiet machine has no fault
pub quiet_no_fault : (g : Parts) (w : World) (f : SourceFault) → IsQuiet w → IsFirstFault g w.elements f → ⊥
quiet_no_fault g w f q h =
    let was = was_fault g (path_in g w.elements) (structure_in g w.elements) h.event.step f h.fault in
    let flat = among_flat (λ (s : State). s.events) w.elements h.event h.among in
    let at = at-from_Among flat.0 w.elements flat.1 in
    let in_state = at-from_Among h.event (flat.0).events flat.2 in
    let state_is = get_or_from_slice_get w.elements at.0 flat.0 flat.0 at.1 in
    let event_is = get_or_from_slice_get (flat.0).events in_state.0 h.event h.event in_state.1 in
    let went_there = q.went at.0 flat.0 (slice_get_within w.elements at.0 flat.0 at.1) in
    let went =
    subst (λ (s : State). (k : ℕ) (d : EventView) → k < length s.events
    → (get_or s.events k d).step ≡ steps.Went) state_is went_there in
    let here : h.event.step ≡ steps.Went =
    sym (ap (λ (v : EventView). v.step) event_is)
    ∙ went in_state.0 h.event (slice_get_within (flat.0).events in_state.0 h.event in_state.1) in
    let both : steps.Went ≡ steps.Fault was.0 = sym here ∙ was.1 in
    cc
