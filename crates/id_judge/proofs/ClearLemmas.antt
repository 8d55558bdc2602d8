-- Lists of events with one trace, where lines are clear.
use Rattle.std.proofs.Common.{◌≡◌, ℕ, ◌<◌, List, [], ◌∷◌, ◌++◌, Some, length, slice_get, inl, refl, sym, ap, ◌∙◌, subst}
use Rattle.std.proofs.Common.{arith, append_assoc}
use Rattle.std.specs.Prelude.{IsTrue}
use Rattle.std.proofs.lemmas.List.{append_cancel_left}
use Rattle.id_value.specs.List.{Among}
use Rattle.id_instr.specs.Graph.{Parts}
use Rattle.id_tag.specs.declared.Message.{Message}
use Rattle.id_tag.specs.Routes.{route_of}
use Rattle.id_record.specs.declared.step.Step.{Step}
use Rattle.id_core.specs.Events.{EventView}
use Rattle.id_core.specs.Steps.{State, event_of, is_ended, next_stamp, step_of}
use Rattle.id_core.specs.Machines.{World}
use Rattle.id_runs.specs.Legal.{CanFollow, IsSameBut, LeadTo, no_more, follow, after_event}
use Rattle.id_trace.specs.Traces.{end_text, line_text, payload_text, trace_text}
use Rattle.id_judge.specs.declared.verdict.Cause.{Cause}
use Rattle.id_judge.specs.declared.verdict.Cause.TheVariants.{NotInFlight, OtherElement, NoStamp, OtherStamp}
use Rattle.id_judge.specs.declared.verdict.Cause.TheVariants.{OtherOutcome, NoLine}
use Rattle.id_judge.specs.Ends.{is_line}
use Rattle.id_judge.specs.Judging.{IsSmallFrom}
use Rattle.id_judge.specs.Lines.{AreSmall, BeginsAt, IsClear, IsLineCause, Says, behind}
use Rattle.id_judge.proofs.OrderLemmas.{also_among, other_order}
use Rattle.id_judge.proofs.FollowLemmas.{can_also, same_after}
use Rattle.id_judge.proofs.GivenLemmas.{not_false, same_some}
use Rattle.id_judge.proofs.LinesLemmas.{line_element, line_says, line_stamp, same_end_text}
use Rattle.id_judge.proofs.FrontLemmas.{event_line}

-- two messages that one text says come to ends that have one text
ends : (text : List ℕ) (m n : Message) (a b : Step) → m ≡ n → Says text m a → Says text n b → end_text a ≡ end_text b
ends text m n a b same x y =
    let left : payload_text m.payload ++ (end_text a ++ x.rest) ≡ payload_text m.payload ++ (end_text b ++ y.rest) =
    sym (append_assoc (payload_text m.payload) (end_text a) x.rest) ∙ sym x.is ∙ y.is
    ∙ append_assoc (payload_text n.payload) (end_text b) y.rest
    ∙ ap (λ (z : Message). payload_text z.payload ++ (end_text b ++ y.rest)) (sym same) in
    same_end_text a b x.rest y.rest
    (append_cancel_left (payload_text m.payload) (end_text a ++ x.rest) (end_text b ++ y.rest) left)

module _ (g : Parts) (count : ℕ) where
  -- lines are clear at each moment from here on
  abbrev pub IsClearFrom : World → Type 0
  IsClearFrom w = (es : List EventView) (x : World) → LeadTo g count w es x → IsClear x

  pub flies : (w : World) (v : EventView) → CanFollow g count w v → Among v.message w.flight
  flies w v f =
      also_among v.message (v.message ∷ f.others) w.flight (other_order w.flight (v.message ∷ f.others) f.flying)
      (inl refl)

  pub state_is : (w : World) (v : EventView) (f : CanFollow g count w v) (m : Message) (s : State) → m ≡ v.message
      → slice_get w.elements (route_of m.payload count) ≡ Some s → s ≡ f.state
  state_is w v f m s same element =
      same_some s f.state (sym element ∙ ap (λ (x : Message). slice_get w.elements (route_of x.payload count)) same
      ∙ f.element)

  own_is : (w : World) (v : EventView) (f : CanFollow g count w v) → v.element ≡ route_of v.message.payload count
  own_is w v f = sym (ap (λ (e : EventView). e.element) f.made)

  stamp_is : (w : World) (v : EventView) (f : CanFollow g count w v) → v.stamp ≡ next_stamp f.state v.message
  stamp_is w v f = sym (ap (λ (e : EventView). e.stamp) f.made)

  came_is : (w : World) (v : EventView) (f : CanFollow g count w v)
      → v.step ≡ step_of g (route_of v.message.payload count) f.state v.message
  came_is w v f = sym (ap (λ (e : EventView). e.step) f.made)

  module _ (w : World) (clear : IsClear w) (small : AreSmall w.flight) (text tail : List ℕ) (v : EventView)
      (is : text ≡ line_text v ++ tail) (f : CanFollow g count w v) where
    pub one : (m : Message) (step : Step) → Among m w.flight → Says text m step → m ≡ v.message
    one m step flying says =
        clear m v.message flying (flies w v f) (small m flying) (small v.message (flies w v f)) text step v.step says
        (line_says v text tail is)

    -- an event with the first line of the text cannot follow, for a cause
    cannot : (cause : Cause) → IsLineCause g count w text cause → ⊥
    cannot NotInFlight why = why v.message v.step (flies w v f) (line_says v text tail is)
    cannot OtherElement why =
        let same : why.0 ≡ v.message = one why.0 why.1 why.2 why.3 in
        why.4 (subst (λ n. BeginsAt (behind text) n) (own_is w v f
        ∙ ap (λ (x : Message). route_of x.payload count) (sym same)) (line_element v text tail is))
    cannot NoStamp why =
        let same : why.0 ≡ v.message = one why.0 why.1 why.3.flying why.3.says in
        let state : why.2 ≡ f.state = state_is w v f why.0 why.2 same why.3.element in
        not_false (is_ended f.state v.message) f.left
        (subst (λ x. IsTrue (is_ended f.state x)) same (subst (λ x. IsTrue (is_ended x why.0)) state why.4))
    cannot OtherStamp why =
        let same : why.0 ≡ v.message = one why.0 why.1 why.3.flying why.3.says in
        let state : why.2 ≡ f.state = state_is w v f why.0 why.2 same why.3.element in
        let stamps : next_stamp why.2 why.0 ≡ next_stamp f.state v.message = λ i. next_stamp (state i) (same i) in
        why.5 (subst (λ n. BeginsAt text n) (stamp_is w v f ∙ sym stamps) (line_stamp v text tail is))
    cannot OtherOutcome why =
        let same : why.0 ≡ v.message = one why.0 why.1 why.3.flying why.3.says in
        let state : why.2 ≡ f.state = state_is w v f why.0 why.2 same why.3.element in
        let comes : step_of g (route_of why.0.payload count) why.2 why.0
        ≡ step_of g (route_of v.message.payload count) f.state v.message =
        λ i. step_of g (route_of (same i).payload count) (state i) (same i) in
        why.6 (ends text why.0 v.message why.1 v.step same why.3.says (line_says v text tail is)
        ∙ ap end_text (came_is w v f ∙ sym comes))
    cannot NoLine why = not_false (is_line text) why (ap is_line is ∙ event_line v tail)

  -- two events that can follow and have the first line of a text are one
  pub one_event : (w : World) → IsClear w → AreSmall w.flight → (text r t : List ℕ) (v u : EventView)
      → text ≡ line_text v ++ r → text ≡ line_text u ++ t → CanFollow g count w v → CanFollow g count w u → v ≡ u
  one_event w clear small text r t v u is at f h =
      let same : v.message ≡ u.message =
      one w clear small text t u at h v.message v.step (flies w v f) (line_says v text r is) in
      let state : f.state ≡ h.state = state_is w u h v.message f.state same f.element in
      let makes : event_of g (route_of v.message.payload count) f.state v.message
      ≡ event_of g (route_of u.message.payload count) h.state u.message =
      λ i. event_of g (route_of (same i).payload count) (state i) (same i) in
      sym f.made ∙ makes ∙ h.made

  pub same_tail : (a x y : List ℕ) (text : List ℕ) → text ≡ a ++ x → text ≡ a ++ y → x ≡ y
  same_tail a x y text h k = append_cancel_left a x y (sym h ∙ k)

  -- no legal list has more lines than those before a cause
  pub never : {w end : World} {events : List EventView} → LeadTo g count w events end → IsClearFrom w
      → IsSmallFrom g count w events → {x y : World} {es : List EventView}
      → LeadTo g count x es y → IsSameBut w x → length events < length es → (text rest tail : List ℕ)
      → text ≡ trace_text events ++ rest → text ≡ trace_text es ++ tail → (cause : Cause)
      → IsLineCause g count end rest cause → ⊥
  never no_more clear small no_more same many text rest tail before after cause why = absurd (omega (arith, many))
  never {w} no_more clear small {x} (follow {v = u} {vs = us} h k) same many text rest tail before after cause why =
      let line : rest ≡ line_text u ++ (trace_text us ++ tail) =
      sym before ∙ after ∙ append_assoc (line_text u) (trace_text us) tail in
      cannot w (clear [] w no_more) (small [] [] w refl no_more) rest (trace_text us ++ tail) u line
      (can_also g count w x u same h) cause why
  never (follow f l) clear small no_more same many text rest tail before after cause why = absurd (omega (arith, many))
  never {w} (follow {v = v} {vs = vs} f l) clear small {x} {y} (follow {v = u} {vs = us} h k) same many text rest tail
      before after cause why =
      let first : text ≡ line_text v ++ (trace_text vs ++ rest) =
      before ∙ append_assoc (line_text v) (trace_text vs) rest in
      let other : text ≡ line_text u ++ (trace_text us ++ tail) =
      after ∙ append_assoc (line_text u) (trace_text us) tail in
      let is : v ≡ u =
      one_event w (clear [] w no_more) (small [] (v ∷ vs) w refl no_more) text (trace_text vs ++ rest)
      (trace_text us ++ tail) v u first other f (can_also g count w x u same h) in
      let P : EventView → Type 0 = λ z. (j : CanFollow g count x z) × LeadTo g count (after_event g count x z j) us y in
      let r : P v = subst P (sym is) (h, k) in
      let tails : trace_text vs ++ rest ≡ trace_text us ++ tail =
      same_tail (line_text v) (trace_text vs ++ rest) (trace_text us ++ tail) text first
      (other ∙ ap (λ (z : EventView). line_text z ++ (trace_text us ++ tail)) (sym is)) in
      never l (λ es z m. clear (v ∷ es) z (follow f m))
      (λ ds es z front m. small (v ∷ ds) es z (ap (λ t. v ∷ t) front) (follow f m)) r.1
      (same_after g count w x v same f r.0) (omega (arith, many)) (trace_text vs ++ rest) rest tail refl
      tails cause why
