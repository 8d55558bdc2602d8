-- A trace is that of one legal list, where lines are clear, and a line that cannot follow has one cause.
use Rattle.std.proofs.Common.{◌≡◌, ◌⊎◌, inl, inr, ℕ, ◌<◌, ◌≤◌, List, [], ◌∷◌, ◌++◌, length, refl, sym, ap, ◌∙◌, subst}
use Rattle.std.proofs.Common.{arith, append_assoc}
use Rattle.std.specs.Prelude.{IsTrue, IsFalse, slice_get}
use Rattle.std.proofs.lemmas.Bool.{cases_lt}
use Rattle.std.proofs.lemmas.List.{append-nil, append_cancel_left, length-append}
use Rattle.id_value.specs.declared.Constant.{Constant}
use Rattle.id_value.specs.List.{Among}
use Rattle.id_instr.specs.Graph.{Parts}
use Rattle.id_tag.specs.declared.Message.{Message}
use Rattle.id_tag.specs.Routes.{route_of}
use Rattle.id_record.specs.declared.step.Step.{Step}
use Rattle.id_record.specs.declared.step.Step.TheVariants.{Went, Fault, Stuck}
use Rattle.id_core.specs.Events.{EventView}
use Rattle.id_core.specs.Steps.{State, is_ended, next_stamp}
use Rattle.id_core.specs.Machines.{World, start}
use Rattle.id_runs.specs.Legal.{CanFollow, IsLegalList, IsSameBut, LeadTo, no_more, follow, after_event}
use Rattle.id_runs.proofs.Weights.{same_order}
use Rattle.id_trace.specs.Traces.{end_text, handled_text, line_text, trace_text}
use Rattle.id_judge.specs.declared.verdict.Cause.{Cause}
use Rattle.id_judge.specs.declared.verdict.Cause.TheVariants.{NotInFlight, OtherElement, NoStamp, OtherStamp}
use Rattle.id_judge.specs.declared.verdict.Cause.TheVariants.{OtherOutcome, NoLine}
use Rattle.id_judge.specs.Lines.{AreClear, AreSmall, BeginsAt, IsClear, IsFirstLine, IsLineCause, IsTold, Says, behind}
use Rattle.id_judge.specs.Ends.{is_line}
use Rattle.id_judge.specs.Judging.{IsSmallFrom}
use Rattle.id_judge.proofs.ClearLemmas.{IsClearFrom, never, one_event, same_tail}
use Rattle.id_judge.proofs.FollowLemmas.{can_also, same_after, same_end}
use Rattle.id_judge.proofs.GivenLemmas.{not_false, same_some}
use Rattle.id_judge.proofs.OrderLemmas.{also_among, other_order}

-- each event has a byte at least
some_end : (s : Step) → 1 ≤ length (end_text s)
some_end Went = omega arith
some_end (Fault f) = omega arith
some_end Stuck = omega arith

some_line : (v : EventView) → 1 ≤ length (line_text v)
some_line v =
    omega (arith, some_end v.step, length-append (handled_text v.stamp v.element v.message.payload) (end_text v.step))

-- no event has no byte
none_traced : (es : List EventView) (tail : List ℕ) → [] ≡ trace_text es ++ tail → es ≡ []
none_traced [] tail h = refl
none_traced (e ∷ es) tail h =
    let none : 0 ≡ length (trace_text (e ∷ es) ++ tail) = ap (λ (x : List ℕ). length x) h in
    absurd (omega (
      arith,
      none,
      some_line e,
      length-append (trace_text (e ∷ es)) tail,
      length-append (line_text e) (trace_text es),
    ))

module _ (g : Parts) (count : ℕ) where
  -- of two legal lists whose traces a text begins with the one goes on where the other ends
  record GoesOn (xs ys : List EventView) (more less : List ℕ) : Type 0 where
    events : List EventView
    is : ys ≡ xs ++ events
    past : more ≡ trace_text events ++ less

  goes_on : (v u : EventView) (xs ys : List EventView) (more less : List ℕ) → v ≡ u → GoesOn xs ys more less
      → GoesOn (v ∷ xs) (u ∷ ys) more less
  goes_on v u xs ys more less same h = record { events = h.events; is = λ i. sym same i ∷ h.is i; past = h.past }

  compare : {w end : World} {events : List EventView} → LeadTo g count w events end → IsClearFrom g count w
      → IsSmallFrom g count w events → {x y : World} {es : List EventView}
      → LeadTo g count x es y → IsSameBut w x → (text rest tail : List ℕ) → text ≡ trace_text events ++ rest
      → text ≡ trace_text es ++ tail → GoesOn es events tail rest ⊎ GoesOn events es rest tail
  compare {w} {end} {events} l clear small no_more same text rest tail before after =
      inl (record { events = events; is = refl; past = sym after ∙ before })
  compare no_more clear small {x} {y} (follow {v = u} {vs = us} h k) same text rest tail before after =
      inr (record { events = u ∷ us; is = refl; past = sym before ∙ after })
  compare {w} (follow {v = v} {vs = vs} f l) clear small {x} {y} (follow {v = u} {vs = us} h k) same text rest tail
      before after =
      let first : text ≡ line_text v ++ (trace_text vs ++ rest) =
      before ∙ append_assoc (line_text v) (trace_text vs) rest in
      let other : text ≡ line_text u ++ (trace_text us ++ tail) =
      after ∙ append_assoc (line_text u) (trace_text us) tail in
      let is : v ≡ u =
      one_event g count w (clear [] w no_more) (small [] (v ∷ vs) w refl no_more) text (trace_text vs ++ rest)
      (trace_text us ++ tail) v u first other f (can_also g count w x u same h) in
      let P : EventView → Type 0 = λ z. (j : CanFollow g count x z) × LeadTo g count (after_event g count x z j) us y in
      let r : P v = subst P (sym is) (h, k) in
      let tails : trace_text vs ++ rest ≡ trace_text us ++ tail =
      same_tail g count (line_text v) (trace_text vs ++ rest) (trace_text us ++ tail) text first
      (other ∙ ap (λ (z : EventView). line_text z ++ (trace_text us ++ tail)) (sym is)) in
      elim (compare l (λ es z m. clear (v ∷ es) z (follow f m))
      (λ ds es z front m. small (v ∷ ds) es z (ap (λ t. v ∷ t) front) (follow f m)) r.1
      (same_after g count w x v same f r.0) (trace_text vs ++ rest) rest tail refl tails) [
        | inl a ↦ inl (goes_on u v us vs tail rest (sym is) a)
        | inr a ↦ inr (goes_on v u vs us rest tail is a)
      ]

  -- ---- causes

  -- whatever the order of what is in flight
  told_same : (w x : World) (text : List ℕ) → IsSameBut w x → (m : Message) (step : Step) (s : State)
      → IsTold count x text m step s → IsTold count w text m step s
  told_same w x text same m step s h = record {
    flying = also_among m x.flight w.flight (other_order w.flight x.flight same.flight) h.flying;
    says = h.says;
    element = ap (λ es. slice_get es (route_of m.payload count)) same.elements ∙ h.element;
    own = h.own;
  }

  cause_same : (w x : World) (text : List ℕ) → IsSameBut w x → (cause : Cause) → IsLineCause g count x text cause
      → IsLineCause g count w text cause
  cause_same w x text same NotInFlight why =
      λ m step a says. why m step (also_among m w.flight x.flight same.flight a) says
  cause_same w x text same OtherElement why =
      (why.0, why.1, also_among why.0 x.flight w.flight (other_order w.flight x.flight same.flight) why.2, why.3, why.4)
  cause_same w x text same NoStamp why = (why.0, why.1, why.2, told_same w x text same why.0 why.1 why.2 why.3, why.4)
  cause_same w x text same OtherStamp why =
      (why.0, why.1, why.2, told_same w x text same why.0 why.1 why.2 why.3, why.4, why.5)
  cause_same w x text same OtherOutcome why =
      (why.0, why.1, why.2, told_same w x text same why.0 why.1 why.2 why.3, why.4, why.5, why.6)
  cause_same w x text same NoLine why = why

  -- where lines are clear, a line has one cause
  module _ (w : World) (clear : IsClear w) (small : AreSmall w.flight) (text : List ℕ) where
    same_message : (m n : Message) (a b : Step) → Among m w.flight → Among n w.flight → Says text m a → Says text n b
        → m ≡ n
    same_message m n a b i j x y = clear m n i j (small m i) (small n j) text a b x y

    -- the message and the element of two causes are one
    record AreOne (m n : Message) (s t : State) : Type 0 where
      message : m ≡ n
      state : s ≡ t

    are_one : (m n : Message) (a b : Step) (s t : State) → IsTold count w text m a s → IsTold count w text n b t
        → AreOne m n s t
    are_one m n a b s t h k =
        let same : m ≡ n = same_message m n a b h.flying k.flying h.says k.says in
        record {
          message = same;
          state = same_some s t (sym h.element
              ∙ ap (λ (x : Message). slice_get w.elements (route_of x.payload count)) same ∙ k.element);
        }

    -- it is for another element, and for its own
    not_own : (m n : Message) (a b : Step) (t : State) → Among m w.flight → Says text m a
        → ¬ BeginsAt (behind text) (route_of m.payload count) → IsTold count w text n b t → ⊥
    not_own m n a b t i x never h =
        never (subst (λ (z : Message). BeginsAt (behind text) (route_of z.payload count))
        (sym (same_message m n a b i h.flying x h.says)) h.own)

    -- a stamp is left for it, and none
    not_left : (m n : Message) (a b : Step) (s t : State) → IsTold count w text m a s → IsTrue (is_ended s m)
        → IsTold count w text n b t → IsFalse (is_ended t n) → ⊥
    not_left m n a b s t h ended k left =
        let one = are_one m n a b s t h k in
        not_false (is_ended t n) left (subst (λ b. IsTrue b) (λ i. is_ended (one.state i) (one.message i)) ended)

    -- it has its stamp, and another
    not_stamp : (m n : Message) (a b : Step) (s t : State) → IsTold count w text m a s
        → ¬ BeginsAt text (next_stamp s m) → IsTold count w text n b t
        → BeginsAt text (next_stamp t n) → ⊥
    not_stamp m n a b s t h never k is =
        let one = are_one m n a b s t h k in
        never (subst (λ j. BeginsAt text j) (λ i. next_stamp (sym one.state i) (sym one.message i)) is)

    one_cause : (c d : Cause) → IsLineCause g count w text c → IsLineCause g count w text d
        → (IsFalse (is_line text) → c ≡ NoLine) → (IsFalse (is_line text) → d ≡ NoLine) → c ≡ d
    one_cause NoLine d x y p q = sym (q x)
    one_cause NotInFlight NotInFlight x y p q = refl
    one_cause NotInFlight OtherElement x y p q = absurd (x y.0 y.1 y.2 y.3)
    one_cause NotInFlight NoStamp x y p q = absurd (x y.0 y.1 y.3.flying y.3.says)
    one_cause NotInFlight OtherStamp x y p q = absurd (x y.0 y.1 y.3.flying y.3.says)
    one_cause NotInFlight NoLine x y p q = p y
    one_cause NotInFlight OtherOutcome x y p q = absurd (x y.0 y.1 y.3.flying y.3.says)
    one_cause OtherElement NotInFlight x y p q = absurd (y x.0 x.1 x.2 x.3)
    one_cause OtherElement OtherElement x y p q = refl
    one_cause OtherElement NoStamp x y p q = absurd (not_own x.0 y.0 x.1 y.1 y.2 x.2 x.3 x.4 y.3)
    one_cause OtherElement OtherStamp x y p q = absurd (not_own x.0 y.0 x.1 y.1 y.2 x.2 x.3 x.4 y.3)
    one_cause OtherElement NoLine x y p q = p y
    one_cause OtherElement OtherOutcome x y p q = absurd (not_own x.0 y.0 x.1 y.1 y.2 x.2 x.3 x.4 y.3)
    one_cause NoStamp NotInFlight x y p q = absurd (y x.0 x.1 x.3.flying x.3.says)
    one_cause NoStamp OtherElement x y p q = absurd (not_own y.0 x.0 y.1 x.1 x.2 y.2 y.3 y.4 x.3)
    one_cause NoStamp NoStamp x y p q = refl
    one_cause NoStamp OtherStamp x y p q = absurd (not_left x.0 y.0 x.1 y.1 x.2 y.2 x.3 x.4 y.3 y.4)
    one_cause NoStamp NoLine x y p q = p y
    one_cause NoStamp OtherOutcome x y p q = absurd (not_left x.0 y.0 x.1 y.1 x.2 y.2 x.3 x.4 y.3 y.4)
    one_cause OtherStamp NotInFlight x y p q = absurd (y x.0 x.1 x.3.flying x.3.says)
    one_cause OtherStamp OtherElement x y p q = absurd (not_own y.0 x.0 y.1 x.1 x.2 y.2 y.3 y.4 x.3)
    one_cause OtherStamp NoStamp x y p q = absurd (not_left y.0 x.0 y.1 x.1 y.2 x.2 y.3 y.4 x.3 x.4)
    one_cause OtherStamp OtherStamp x y p q = refl
    one_cause OtherStamp NoLine x y p q = p y
    one_cause OtherStamp OtherOutcome x y p q = absurd (not_stamp x.0 y.0 x.1 y.1 x.2 y.2 x.3 x.5 y.3 y.5)
    one_cause OtherOutcome NotInFlight x y p q = absurd (y x.0 x.1 x.3.flying x.3.says)
    one_cause OtherOutcome OtherElement x y p q = absurd (not_own y.0 x.0 y.1 x.1 x.2 y.2 y.3 y.4 x.3)
    one_cause OtherOutcome NoStamp x y p q = absurd (not_left y.0 x.0 y.1 x.1 y.2 x.2 y.3 y.4 x.3 x.4)
    one_cause OtherOutcome OtherStamp x y p q = absurd (not_stamp y.0 x.0 y.1 x.1 y.2 x.2 y.3 y.5 x.3 x.5)
    one_cause OtherOutcome NoLine x y p q = p y
    one_cause OtherOutcome OtherOutcome x y p q = refl

-- ---- from the start

module _ (g : Parts) (vs : List Constant) (count : ℕ) (text rest : List ℕ) (events : List EventView) (w : World)
    (parts : text ≡ trace_text events ++ rest) (lead : LeadTo g count (start g vs count) events w)
    (small : IsSmallFrom g count (start g vs count) events) where
  itself : IsSameBut (start g vs count) (start g vs count)
  itself = record { elements = refl; flight = same_order (start g vs count).flight }

  compared : AreClear g vs count → (es : List EventView) (x : World) (tail : List ℕ)
      → LeadTo g count (start g vs count) es x → text ≡ trace_text es ++ tail
      → GoesOn g count es events tail rest ⊎ GoesOn g count events es rest tail
  compared clear es x tail l after = compare g count lead clear small l itself text rest tail parts after

  -- nothing stands behind the one or the other
  ends_with : (xs ys : List EventView) (less : List ℕ) → GoesOn g count xs ys [] less → ys ≡ xs
  ends_with xs ys less h = h.is ∙ ap (λ zs. xs ++ zs) (none_traced h.events less h.past) ∙ append-nil xs

  -- nothing stands behind the events: it is the trace of no others
  pub only_list : rest ≡ [] → AreClear g vs count → (es : List EventView) → IsLegalList g vs count es
      → text ≡ trace_text es → es ≡ events
  only_list done clear es l is =
      let after : text ≡ trace_text es ++ [] = is ∙ sym (append-nil (trace_text es)) in
      elim (compared clear es l.end [] l.lead after) [
        | inl a ↦ sym (ends_with es events rest a)
        | inr a ↦ ends_with events es [] (subst (λ r. GoesOn g count events es r []) done a)
      ]

  module _ (k : ℕ) (many : length events ≡ k) (cause : Cause) (why : IsLineCause g count w rest cause)
      (line : IsFalse (is_line rest) → cause ≡ NoLine) where
    longest : AreClear g vs count → (es : List EventView) (x : World) (tail : List ℕ)
        → LeadTo g count (start g vs count) es x → text ≡ trace_text es ++ tail → length es ≤ k
    longest clear es x tail l after = elim (cases_lt k (length es)) [
      | inl more ↦ absurd
          (never g count lead clear small l itself (omega (arith, more, many)) text rest tail parts after cause why)
      | inr few ↦ few
    ]

    no_trace : 0 < length rest → AreClear g vs count → (es : List EventView) (x : World)
        → LeadTo g count (start g vs count) es x → text ≡ trace_text es → ⊥
    no_trace some clear es x l is =
        let after : text ≡ trace_text es ++ [] = is ∙ sym (append-nil (trace_text es)) in
        let few = longest clear es x [] l after in
        elim (compared clear es x [] l after) [
          | inl a ↦ (
              let same : events ≡ es = ends_with es events rest a in
              let none : rest ≡ [] =
              append_cancel_left (trace_text events) rest [] (sym parts ∙ after
              ∙ ap (λ zs. trace_text zs ++ []) (sym same)) in
              absurd (omega (arith, some, ap (λ (z : List ℕ). length z) none))
              )
          | inr a ↦ absurd (more_behind a some few)
        ]
      where
        more_behind : {es : List EventView} → GoesOn g count events es rest [] → 0 < length rest → length es ≤ k → ⊥
        more_behind {es} a some few = by a.events refl
          where
            by : (zs : List EventView) → a.events ≡ zs → ⊥
            by [] is =
                let none : rest ≡ [] =
                a.past ∙ ap (λ zs. trace_text zs ++ []) is in omega (arith, some, ap (λ (z : List ℕ). length z) none)
            by (z ∷ zs) is =
                let whole : es ≡ events ++ z ∷ zs = a.is ∙ ap (λ ys. events ++ ys) is in
                omega (arith, few, many, ap (λ (ys : List EventView). length ys) whole, length-append events (z ∷ zs))

    -- two lists of one length of which the one goes on where the other ends are one
    as_long : (xs ys : List EventView) (more less : List ℕ) → length xs ≡ length ys → GoesOn g count xs ys more less
        → ys ≡ xs
    as_long xs ys more less long h = by h.events refl
      where
        by : (zs : List EventView) → h.events ≡ zs → ys ≡ xs
        by [] is = h.is ∙ ap (λ zs. xs ++ zs) is ∙ append-nil xs
        by (z ∷ zs) is =
            let whole : ys ≡ xs ++ z ∷ zs = h.is ∙ ap (λ zs. xs ++ zs) is in
            absurd (omega (arith, long, ap (λ (ys : List EventView). length ys) whole, length-append xs (z ∷ zs)))

    one : AreClear g vs count → (es : List EventView) (x : World) (tail : List ℕ) (other : Cause)
        → LeadTo g count (start g vs count) es x → length es ≡ k → text ≡ trace_text es ++ tail
        → IsLineCause g count x tail other → (IsFalse (is_line tail) → other ≡ NoLine)
        → other ≡ cause
    one clear es x tail other l long after also none =
        let same : es ≡ events = elim (compared clear es x tail l after) [
          | inl a ↦ sym (as_long es events tail rest (long ∙ sym many) a)
          | inr a ↦ as_long events es rest tail (many ∙ sym long) a
        ] in
        let tails : tail ≡ rest =
        append_cancel_left (trace_text events) tail rest (ap (λ zs. trace_text zs ++ tail) (sym same) ∙ sym after
        ∙ parts) in
        let worlds : IsSameBut w x =
        same_end g count lead x (subst (λ zs. LeadTo g count (start g vs count) zs x) same l) itself in
        let here : IsLineCause g count w rest other =
        cause_same g count w x rest worlds other (subst (λ (t : List ℕ). IsLineCause g count x t other) tails also) in
        one_cause g count w (clear events w lead) (small events [] w (sym (append-nil events)) lead) rest other cause
        here why
        (subst (λ (t : List ℕ). IsFalse (is_line t) → other ≡ NoLine) tails none) line

    -- the first line from which on the text is no trace
    pub is_first_line : 0 < length rest → IsFirstLine g vs count text k cause
    is_first_line some = record {
      events = events;
      many = many;
      rest = rest;
      parts = parts;
      some = some;
      end = w;
      before = lead;
      why = why;
      line = line;
      never = λ clear. record {
        longest = λ es l b. longest clear es l.end b.rest l.lead b.is;
        no_trace = λ es l is. no_trace some clear es l.end l.lead is;
      };
      one = one;
    }
