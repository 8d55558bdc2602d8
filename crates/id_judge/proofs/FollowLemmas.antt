-- Events that follow one another, and those that cannot.
use Rattle.std.proofs.Common.{◌≡◌, ◌≢◌, ℕ, Bool, false, Option, Some, None, List, [], ◌∷◌, ◌++◌, slice_get, slice_set}
use Rattle.std.proofs.Common.{take, inl, refl, sym, ap, ◌∙◌, subst}
use Rattle.std.specs.Prelude.{IfSome, IsTrue, option_map}
use Rattle.std.proofs.lemmas.Option.{slice_get-map}
use Rattle.id_value.specs.List.{Among}
use Rattle.id_value.specs.declared.Constant.{Constant}
use Rattle.id_instr.specs.Graph.{Parts}
use Rattle.id_tag.specs.declared.Message.{Message}
use Rattle.id_tag.specs.Routes.{route_of}
use Rattle.id_core.specs.Events.{EventView}
use Rattle.id_core.specs.Steps.{event_of, is_ended, next_stamp, state_after}
use Rattle.id_core.specs.Replays.{ElementView}
use Rattle.id_core.specs.Machines.{World, start, world_of}
use Rattle.id_runs.specs.Legal.{CanFollow, InSomeOrder, IsSameBut, LeadTo, no_more, follow, next, after_event}
use Rattle.id_observe.proofs.WalksLemmas.{take-next}
use Rattle.id_runs.proofs.Weights.{same_order}
use Rattle.id_judge.specs.declared.verdict.Cause.{Cause}
use Rattle.id_judge.specs.declared.verdict.Cause.TheVariants.{NotInFlight, OtherElement, NoStamp, OtherStamp}
use Rattle.id_judge.specs.declared.verdict.Cause.TheVariants.{OtherOutcome, NoLine}
use Rattle.id_judge.specs.Verdicts.{Follows, IsAt, IsCause, IsFirst, goal_of}
use Rattle.id_judge.specs.Benches.{Differs}
use Rattle.id_judge.proofs.OrderLemmas.{also_among, other_order, same_others, with_more}

some_same : {A : Type 0} (x y : A) → Some x ≡ Some y → x ≡ y
some_same x y h = cc

module _ (g : Parts) (count : ℕ) where
  -- what can follow does so whatever the order of what is in flight
  pub can_also : (w x : World) (v : EventView) → IsSameBut w x → CanFollow g count x v → CanFollow g count w v
  can_also w x v same f = record {
    others = f.others;
    flying = next same.flight f.flying;
    state = f.state;
    element = ap (λ es. slice_get es (goal_of count v)) same.elements ∙ f.element;
    left = f.left;
    made = f.made;
  }

  -- and it leads to the same, but for that order
  pub same_after : (w x : World) (v : EventView) → IsSameBut w x
      → (f : CanFollow g count w v) (h : CanFollow g count x v)
      → IsSameBut (after_event g count w v f) (after_event g count x v h)
  same_after w x v same f h =
      let state : f.state ≡ h.state =
      some_same f.state h.state (sym f.element ∙ ap (λ es. slice_get es (goal_of count v)) same.elements ∙ h.element) in
      let others : InSomeOrder f.others h.others =
      same_others v.message f.others h.others
      (next (other_order w.flight (v.message ∷ f.others) f.flying) (next same.flight h.flying)) in
      record {
        elements =
            λ i. slice_set (same.elements i) (goal_of count v) (state_after g (goal_of count v) (state i) v.message);
        flight = with_more f.others h.others v.outputs others;
      }

  pub same_end : {w x y : World} {es : List EventView} → LeadTo g count w es y → (u : World) → LeadTo g count x es u
      → IsSameBut w x → IsSameBut y u
  same_end no_more u no_more same = same
  same_end (follow {w = w} {v = v} f l) u (follow {w = x} h k) same = same_end l u k (same_after w x v same f h)

  -- one event more
  pub lead_more : {w x : World} {es : List EventView} → LeadTo g count w es x → (v : EventView) (y : World)
      → Follows g count x v y → LeadTo g count w (es ++ v ∷ []) y
  lead_more {w} no_more v y f = subst (λ z. LeadTo g count w (v ∷ []) z) f.after (follow f.can no_more)
  lead_more (follow f l) v y h = follow f (lead_more l v y h)

  -- and one less
  pub lead_less : {y : World} (es : List EventView) (w : World) (v : EventView) → LeadTo g count w (es ++ v ∷ []) y
      → (x : World) × LeadTo g count w es x × CanFollow g count x v
  lead_less [] w v (follow f l) = (w, no_more, f)
  lead_less (e ∷ es) w v (follow f l) = let r = lead_less es (after_event g count w e f) v l in (r.0, follow f r.1, r.2)

  -- an event that cannot follow, for a cause, cannot follow
  not_false : (b : Bool) → b ≡ false → IsTrue b → ⊥
  not_false b f t = cc

  pub refutes : (w : World) (v : EventView) (cause : Cause) → IsCause g count w v cause → CanFollow g count w v → ⊥
  refutes w v NotInFlight why f =
      why (also_among v.message (v.message ∷ f.others) w.flight (other_order w.flight (v.message ∷ f.others) f.flying)
      (inl refl))
  refutes w v OtherElement why f = why.1 (sym (ap (λ (e : EventView). e.element) f.made))
  refutes w v NoStamp why f =
      let state : why.0 ≡ f.state = some_same why.0 f.state (sym why.1.element ∙ f.element) in
      not_false (is_ended f.state v.message) f.left (subst (λ s. IsTrue (is_ended s v.message)) state why.2)
  refutes w v OtherStamp why f =
      let state : why.0 ≡ f.state = some_same why.0 f.state (sym why.1.element ∙ f.element) in
      why.3 (sym (ap (λ (e : EventView). e.stamp) f.made) ∙ ap (λ s. next_stamp s v.message) (sym state))
  refutes w v OtherOutcome why f =
      let state : why.0 ≡ f.state = some_same why.0 f.state (sym why.1.element ∙ f.element) in
      why.4 (ap (λ s. event_of g (goal_of count v) s v.message) state ∙ f.made)
  refutes w v NoLine why f = why

pub is_first : (g : Parts) (vs : List Constant) (count : ℕ) (es : List EventView) (k : ℕ) (v : EventView) (w : World)
    (cause : Cause) → slice_get es k ≡ Some v → LeadTo g count (start g vs count) (take k es) w
    → IsCause g count w v cause → IsFirst g vs count es k cause
is_first g vs count es k v w cause at lead why = record {
  event = v;
  at = at;
  end = w;
  before = lead;
  why = why;
  never = λ l.
      let r = lead_less g count (take k es) (start g vs count) v
      (subst (λ xs. LeadTo g count (start g vs count) xs l.end) (take-next es k v at) l.lead) in
      let same : IsSameBut w r.0 =
      same_end g count lead r.0 r.1 (record { elements = refl; flight = same_order (start g vs count).flight }) in
      refutes g count w v cause why (can_also g count w r.0 v same r.2);
}

-- ---- an event that came of the message of the one that is given

module _ (g : Parts) (count : ℕ) (w : World) (u v : EventView) (of : v.message ≡ u.message)
    (own : u.element ≡ goal_of count u)
    (can : CanFollow g count w v) where
  made : event_of g (goal_of count u) can.state u.message ≡ v
  made = subst (λ (m : Message). event_of g (route_of m.payload count) can.state m ≡ v) of can.made

  is_at : IsAt count w u can.state
  is_at = record {
    flying = subst (λ (m : Message). Among m w.flight) of
        (also_among v.message (v.message ∷ can.others) w.flight
        (other_order w.flight (v.message ∷ can.others) can.flying) (inl refl));
    own = own;
    element = subst (λ (m : Message). slice_get w.elements (route_of m.payload count) ≡ Some can.state) of can.element;
  }

  left : is_ended can.state u.message ≡ false
  left = subst (λ (m : Message). is_ended can.state m ≡ false) of can.left

  stamp_is : next_stamp can.state u.message ≡ v.stamp
  stamp_is = ap (λ (e : EventView). e.stamp) made

  pub other_stamp : v.stamp ≢ u.stamp → IsCause g count w u OtherStamp
  other_stamp ne = (can.state, is_at, left, λ h. ne (sym stamp_is ∙ sym h))

  pub other_outcome : v.stamp ≡ u.stamp → v ≢ u → IsCause g count w u OtherOutcome
  other_outcome same ne = (can.state, is_at, left, sym same ∙ sym stamp_is, λ h. ne (sym made ∙ h))

-- where it differs in something, that is the cause
pub difference_is : (g : Parts) (count : ℕ) (w : World) (u v : EventView) → v.message ≡ u.message
    → u.element ≡ goal_of count u → CanFollow g count w v → (o : Option Cause) → Differs v u o
    → IfSome o (IsCause g count w u)
difference_is g count w u v of own can None d = tt
difference_is g count w u v of own can (Some NotInFlight) d = absurd d
difference_is g count w u v of own can (Some OtherElement) d = absurd d
difference_is g count w u v of own can (Some NoStamp) d = absurd d
difference_is g count w u v of own can (Some NoLine) d = absurd d
difference_is g count w u v of own can (Some OtherStamp) d = other_stamp g count w u v of own can d
difference_is g count w u v of own can (Some OtherOutcome) d = other_outcome g count w u v of own can d.0 d.1

-- and where it differs in nothing, it is the one that is given
pub given_follows : (g : Parts) (count : ℕ) (w x : World) (u v : EventView) → Follows g count w v x → (o : Option Cause)
    → Differs v u o → o ≡ None → Follows g count w u x
given_follows g count w x u v f None d is = subst (λ (e : EventView). Follows g count w e x) d f
given_follows g count w x u v f (Some y) d is = cc

-- no stamp is left
pub no_stamp : (g : Parts) (count : ℕ) (es : List ElementView) (flight : List Message) (u : EventView) (e : ElementView)
    → Among u.message flight → u.element ≡ goal_of count u → slice_get es (goal_of count u) ≡ Some e
    → IsTrue (is_ended e.state u.message) → IsCause g count (world_of es flight) u NoStamp
no_stamp g count es flight u e flying own element ended = (
  e.state,
  record {
    flying = flying;
    own = own;
    element =
        slice_get-map (λ (x : ElementView). x.state) es (goal_of count u)
        ∙ ap (option_map (λ (x : ElementView). x.state)) element;
  },
  ended,
)
