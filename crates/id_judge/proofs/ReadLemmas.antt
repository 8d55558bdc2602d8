-- What was read of a trace so far, and what comes of its next line.
use Rattle.std.proofs.Common.{◌≡◌, ◌⊎◌, inl, inr, ℕ, ◌+◌, ◌<◌, ◌==◌, ◌||◌, ◌-◌, ◌^◌, List, [], ◌∷◌, ◌++◌, Some, false}
use Rattle.std.proofs.Common.{zero, suc, replicate, length, map, set, slice_get, slice_set, refl, sym, ap, ◌∙◌, subst}
use Rattle.std.proofs.Common.{arith, append_assoc}
use Rattle.std.specs.Prelude.{Err, IfErr, IfOk, IsFalse, Ok, Result, option_map}
use Rattle.std.proofs.lemmas.List.{append-nil, length-append, map-set}
use Rattle.std.proofs.lemmas.Option.{slice_get-map}
use Rattle.id_value.specs.List.{Among}
use Rattle.id_value.specs.declared.Constant.{Constant}
use Rattle.id_value.proofs.AmongLemmas.{Among-from_at}
use Rattle.id_instr.specs.Graph.{Parts}
use Rattle.id_tag.specs.declared.Message.{Message}
use Rattle.id_tag.specs.Routes.{route_of}
use Rattle.id_record.specs.declared.kept.Keeps.{Keeps}
use Rattle.id_record.specs.declared.step.Step.{Step}
use Rattle.id_record.specs.declared.step.Step.TheVariants.{Went, Fault, Stuck}
use Rattle.id_core.specs.Events.{EventView}
use Rattle.id_core.specs.Steps.{State, fresh, is_ended, next_stamp, state_after, step_of}
use Rattle.id_core.specs.Machines.{MachineView, World, start}
use Rattle.id_core.specs.Replays.{ElementView}
use Rattle.id_runs.specs.Legal.{IsSameBut, LeadTo, no_more}
use Rattle.id_runs.proofs.Weights.{same_order}
use Rattle.id_trace.specs.Traces.{end_text, handled_text, line_text, payload_text, trace_text}
use Rattle.id_judge.specs.declared.verdict.Cause.{Cause}
use Rattle.id_judge.specs.declared.verdict.Cause.TheVariants.{NotInFlight, OtherElement, NoStamp, OtherStamp}
use Rattle.id_judge.specs.declared.verdict.Cause.TheVariants.{OtherOutcome, NoLine}
use Rattle.id_judge.specs.Verdicts.{Follows}
use Rattle.id_judge.specs.Benches.{BenchView, Delivers, IsEnded, number_for, world_in}
use Rattle.id_judge.specs.Lines.{Advances, AreSmall, AreStamps, BeginsAt, Compares, IsFirstLine, IsFound, IsLegalTrace}
use Rattle.id_judge.specs.Lines.{IsLineCause, IsOther, IsSaid, IsTold, Says, behind}
use Rattle.id_judge.specs.Ends.{is_line as may_be_line}
use Rattle.id_judge.specs.Judging.{IsRead}
use Rattle.id_judge.proofs.OnlyLemmas.{is_first_line, only_list}
use Rattle.id_judge.proofs.FollowLemmas.{lead_more, same_end}
use Rattle.id_judge.proofs.OrderLemmas.{also_among, other_order}
use Rattle.id_judge.proofs.GivenLemmas.{same_some}
use Rattle.id_judge.proofs.LinesLemmas.{is_line, trace_more}

-- ---- what was read

-- where what is in flight at an end is what a machine has, it is so at each end of the same events
small_end : (g : Parts) (count : ℕ) (w x z : World) (es : List EventView) → LeadTo g count w es x
    → LeadTo g count w es z → AreSmall x.flight → AreSmall z.flight
small_end g count w x z es l k small m a =
    let same : IsSameBut x z = same_end g count l z k (record { elements = refl; flight = same_order w.flight }) in
    small m (also_among m z.flight x.flight (other_order x.flight z.flight same.flight) a)

no_front : {A : Type 0} (ds es : List A) → [] ≡ ds ++ es → [] ≡ ds
no_front [] es e = refl
no_front (d ∷ ds) es e = cc

-- a front of a list with one more is all of it, or a front of the list
front : {A : Type 0} (xs : List A) (v : A) (ds es : List A) → xs ++ v ∷ [] ≡ ds ++ es
    → (xs ++ v ∷ [] ≡ ds) ⊎ ((rest : List A) × (xs ≡ ds ++ rest))
front xs v [] es e = inr (xs, refl)
front [] v (d ∷ []) es e = let here : v ≡ d = cc in inl (ap (λ x. x ∷ []) here)
front [] v (d ∷ c ∷ ds) es e = cc
front (x ∷ xs) v (d ∷ ds) es e =
    let here : x ≡ d = cc in
    let tails : xs ++ v ∷ [] ≡ ds ++ es = cc in
    elim (front xs v ds es tails) [
      | inl same ↦ inl (λ i. here i ∷ same i)
      | inr r ↦ inr (r.0, λ i. here i ∷ r.1 i)
    ]

pub read_none : (g : Parts) (vs : List Constant) (count : ℕ) (text : List ℕ) (w : World) → w ≡ start g vs count
    → AreSmall w.flight → IsRead g vs count text text 0 w
read_none g vs count text w is small =
    let lead : LeadTo g count (start g vs count) [] w =
    subst (λ (x : World). LeadTo g count (start g vs count) [] x) (sym is) no_more in
    record {
      events = [];
      many = refl;
      parts = refl;
      lead = lead;
      small = λ ds es z e l.
          small_end g count (start g vs count) w z [] lead
          (subst (λ ys. LeadTo g count (start g vs count) ys z) (sym (no_front ds es e)) l) small;
    }

-- one line more
pub read_more : (g h : Parts) (vs : List Constant) (count n : ℕ) (text rest tail : List ℕ) (k : ℕ) (v : EventView)
    (w x : World) → h ≡ g → n ≡ count → IsRead g vs count text rest k w → rest ≡ line_text v ++ tail → Follows h n w v x
    → AreSmall x.flight → IsRead g vs count text tail (k + 1) x
read_more g h vs count n text rest tail k v w x graph many r line f small =
    let F : Parts → Type 0 = λ y. Follows y n w v x in
    let H : ℕ → Type 0 = λ j. Follows g j w v x in
    let f' : Follows g count w v x = subst H many (subst F graph f) in
    let lead : LeadTo g count (start g vs count) (r.events ++ v ∷ []) x = lead_more g count r.lead v x f' in
    record {
      events = r.events ++ v ∷ [];
      many = length-append r.events (v ∷ []) ∙ ap (λ j. j + 1) r.many;
      parts =
          r.parts ∙ ap (λ t. trace_text r.events ++ t) line
          ∙ sym (append_assoc (trace_text r.events) (line_text v) tail)
          ∙ ap (λ t. t ++ tail) (sym (trace_more r.events v));
      lead = lead;
      small = λ ds es z e l. elim (front r.events v ds es e) [
        | inl all ↦ small_end g count (start g vs count) x z (r.events ++ v ∷ []) lead
            (subst (λ ys. LeadTo g count (start g vs count) ys z) (sym all) l) small
        | inr part ↦ r.small ds part.0 z part.1 l
      ];
    }

-- the first line from which on it is no trace
pub read_first : (g h : Parts) (vs : List Constant) (count n : ℕ) (text rest : List ℕ) (k : ℕ) (w : World)
    (cause : Cause) → h ≡ g → n ≡ count → IsRead g vs count text rest k w → 0 < length rest
    → IsLineCause h n w rest cause → (IsFalse (may_be_line rest) → cause ≡ NoLine)
    → IsFirstLine g vs count text k cause
read_first g h vs count n text rest k w cause graph many r some why line =
    let F : Parts → Type 0 = λ y. IsLineCause y n w rest cause in
    let H : ℕ → Type 0 = λ j. IsLineCause g j w rest cause in
    is_first_line g vs count text rest r.events w r.parts r.lead r.small k r.many cause
    (subst H many (subst F graph why)) line some

-- all of it
pub read_all : (g h : Parts) (vs : List Constant) (count n : ℕ) (text : List ℕ) (k : ℕ) (w : World) (kept keeps : Keeps)
    (m : MachineView) → h ≡ g → n ≡ count → kept ≡ keeps → IsRead g vs count text [] k w
    → m ≡ record { graph = h; count = n; keeps = kept; world = w }
    → (m.graph ≡ g) × (m.count ≡ count) × (m.keeps ≡ keeps) × IsLegalTrace g vs count text k m.world
read_all g h vs count n text k w kept keeps m graph many keep r is =
    let order : IsLegalTrace g vs count text k w = record {
      events = r.events;
      many = r.many;
      trace = r.parts ∙ append-nil (trace_text r.events);
      legal = record { flight = w.flight; lead = r.lead; in_flight = same_order w.flight };
      only = only_list g vs count text [] r.events w r.parts r.lead r.small refl;
    } in (
      ap (λ (x : MachineView). x.graph) is ∙ graph,
      ap (λ (x : MachineView). x.count) is ∙ many,
      ap (λ (x : MachineView). x.keeps) is ∙ keep,
      subst (λ (x : World). IsLegalTrace g vs count text k x) (sym (ap (λ (x : MachineView). x.world) is)) order,
    )

-- ---- what a text says

-- what the text says, with what stands behind the message
pub said_from : (text body : List ℕ) (m : Message) (step : Step) → body ≡ behind (behind text) → Says text m step
    → (past : List ℕ) × IsSaid body m past
said_from text body m step here s = (
  end_text step ++ s.rest,
  record {
    is = here ∙ s.is ∙ append_assoc (payload_text m.payload) (end_text step) s.rest;
    end =
        (step, record { rest = s.rest; is = refl });
  },
)

pub says_from : (text body : List ℕ) (m : Message) (past : List ℕ) → body ≡ behind (behind text)
    → (s : IsSaid body m past) → Says text m s.end.0
says_from text body m past here s = record {
  rest = s.end.1.rest;
  is =
      sym here ∙ s.is ∙ ap (λ t. payload_text m.payload ++ t) s.end.1.is
      ∙ sym (append_assoc (payload_text m.payload) (end_text s.end.0) s.end.1.rest);
}

-- no message in flight says it
pub none_said : (g : Parts) (count : ℕ) (w : World) (text body : List ℕ) → body ≡ behind (behind text)
    → ((m : Message) (past : List ℕ) → Among m w.flight → IsSaid body m past → ⊥)
    → IsLineCause g count w text NotInFlight
none_said g count w text body here none m step among s =
    let r = said_from text body m step here s in none m r.0 among r.1

module _ (b : BenchView) (text body : List ℕ) (k : ℕ) (m : Message) (past : List ℕ) (here : body ≡ behind (behind text))
    (f : IsFound b.flight body k m past) where
  flying : Among m b.flight
  flying = Among-from_at m b.flight k f.at

  -- it is for another element
  pub other_element : ¬ BeginsAt (behind text) (number_for b m)
      → IsLineCause b.graph (length b.elements) (world_in b) text OtherElement
  other_element never = (m, f.said.end.0, flying, says_from text body m past here f.said, never)

  told : BeginsAt (behind text) (number_for b m) → (s : State)
      → slice_get (world_in b).elements (number_for b m) ≡ Some s
      → IsTold (length b.elements) (world_in b) text m f.said.end.0 s
  told own s element =
      record { flying = flying; says = says_from text body m past here f.said; element = element; own = own }

  -- no stamp is left for it
  pub no_stamp_left : BeginsAt (behind text) (number_for b m) → IsEnded b m
      → IsLineCause b.graph (length b.elements) (world_in b) text NoStamp
  no_stamp_left own e = (
    m,
    f.said.end.0,
    e.0.state,
    told own e.0.state
        (slice_get-map (λ (x : ElementView). x.state) b.elements (number_for b m)
        ∙ ap (option_map (λ (x : ElementView). x.state)) e.1),
    e.2,
  )

  -- it was delivered
  module _ (own : BeginsAt (behind text) (number_for b m)) (step : Step) (c : BenchView) (d : Delivers b m step c) where
    abbrev pub state : State
    state = d.follows.can.state

    pub element_is : slice_get (world_in b).elements (number_for b m) ≡ Some state
    element_is =
        ap (λ (x : Message). slice_get (world_in b).elements (number_for b x)) (sym d.of) ∙ d.follows.can.element

    pub left_is : is_ended state m ≡ false
    left_is = ap (is_ended state) (sym d.of) ∙ d.follows.can.left

    own_is : d.event.element ≡ number_for b m
    own_is = sym (ap (λ (e : EventView). e.element) d.follows.can.made) ∙ ap (number_for b) d.of

    pub stamp_is : d.event.stamp ≡ next_stamp state m
    stamp_is = sym (ap (λ (e : EventView). e.stamp) d.follows.can.made) ∙ ap (next_stamp state) d.of

    step_is : step ≡ step_of b.graph (number_for b m) state m
    step_is =
        sym d.came ∙ sym (ap (λ (e : EventView). e.step) d.follows.can.made)
        ∙ ap (λ (x : Message). step_of b.graph (number_for b x) state x) d.of

    -- and has the line
    pub advances : (tail : List ℕ) → (stamp : ℕ) → stamp ≡ next_stamp state m → Compares text past stamp step tail
        → Advances b text tail c
    advances tail stamp next same =
        let v = d.event in
        let stamps : BeginsAt text v.stamp = subst (λ n. BeginsAt text n) (next ∙ sym stamp_is) same.stamp_is in
        let elements : BeginsAt (behind text) v.element = subst (λ n. BeginsAt (behind text) n) (sym own_is) own in
        let bodies : behind (behind text) ≡ payload_text v.message.payload ++ (end_text v.step ++ tail) =
        sym here ∙ f.said.is ∙ ap (λ t. payload_text m.payload ++ t) same.end
        ∙ (λ i. payload_text (sym d.of i).payload ++ (end_text (sym d.came i) ++ tail)) in
        record {
          event = v;
          line = is_line v text tail stamps elements bodies;
          follows = d.follows;
          same_graph = d.same_graph;
          same_keeps = d.same_keeps;
          same_count = d.same_count;
        }

    -- or another
    pub other_line : (stamp : ℕ) → stamp ≡ next_stamp state m → (cause : Cause) → IsOther text past stamp step cause
        → IsLineCause b.graph (length b.elements) (world_in b) text cause
    other_line stamp next NotInFlight o = absurd o
    other_line stamp next OtherElement o = absurd o
    other_line stamp next NoStamp o = absurd o
    other_line stamp next NoLine o = absurd o
    other_line stamp next OtherStamp o =
        (m, f.said.end.0, state, told own state element_is, left_is, subst (λ n. ¬ BeginsAt text n) next o)
    other_line stamp next OtherOutcome o = (
      m,
      f.said.end.0,
      state,
      told own state element_is,
      left_is,
      subst (λ n. BeginsAt text n) next o.0,
      λ same. o.1 (record {
        rest = f.said.end.1.rest;
        is = f.said.end.1.is ∙ ap (λ t. t ++ f.said.end.1.rest) (same ∙ ap end_text (sym step_is));
      }),
    )

-- ---- stamps

-- the last stamp of an element is that of its state
pub stamp_at : (xs : List ℕ) (w : World) (n : ℕ) (s : State) → AreStamps xs w → slice_get w.elements n ≡ Some s
    → slice_get xs n ≡ Some s.stamp
stamp_at xs w n s are at =
    ap (λ ys. slice_get ys n) are ∙ slice_get-map (λ (x : State). x.stamp) w.elements n
    ∙ ap (option_map (λ (x : State). x.stamp)) at

-- after an event they are those of the next state
pub stamps_after : (g : Parts) (count : ℕ) (w x : World) (v : EventView) (xs : List ℕ) (m : Message) (stamp : ℕ)
    → (f : Follows g count w v x) → v.message ≡ m → AreStamps xs w → stamp ≡ next_stamp f.can.state m
    → AreStamps (set xs (route_of m.payload count) stamp) x
stamps_after g count w x v xs m stamp f of are next =
    let n = route_of v.message.payload count in
    let later = state_after g n f.can.state v.message in
    let h : State → ℕ = λ s. s.stamp in
    let at : set xs (route_of m.payload count) stamp ≡ set xs n (next_stamp f.can.state v.message) =
    (λ i. set xs (route_of (sym of i).payload count) ((next ∙ ap (next_stamp f.can.state) (sym of)) i)) in
    let made : set xs n (next_stamp f.can.state v.message) ≡ map h (slice_set w.elements n later) =
    ap (λ ys. set ys n (next_stamp f.can.state v.message)) are ∙ sym (map-set h w.elements n later) in
    at ∙ made ∙ ap (λ (z : World). map h z.elements) f.after

-- where no stamp is lacking for the message, the stamp of its element and its own are not the last
pub left_at : (xs : List ℕ) (w : World) (n i : ℕ) (s : State) (m : Message) → AreStamps xs w
    → slice_get w.elements n ≡ Some s → is_ended s m ≡ false → i ≡ n
    → (last : ℕ) → slice_get xs i ≡ Some last → ((last == 2 ^ 64 - 1) || (m.stamp == 2 ^ 64 - 1)) ≡ false
left_at xs w n i s m are at left same last there =
    let is : last ≡ s.stamp = same_some last s.stamp (sym there ∙ ap (slice_get xs) same ∙ stamp_at xs w n s are at) in
    ap (λ k. (k == 2 ^ 64 - 1) || (m.stamp == 2 ^ 64 - 1)) is ∙ left

-- a number at the front of what stands behind a word, and of the same text otherwise had
pub own_from : (text second : List ℕ) (n i : ℕ) → second ≡ behind text → i ≡ n → BeginsAt second i
    → BeginsAt (behind text) n
own_from text second n i is same b = subst (λ j. BeginsAt (behind text) j) same (subst (λ t. BeginsAt t i) is b)

pub own_to : (text second : List ℕ) (n i : ℕ) → second ≡ behind text → i ≡ n → BeginsAt (behind text) n
    → BeginsAt second i
own_to text second n i is same b =
    subst (λ t. BeginsAt t i) (sym is) (subst (λ j. BeginsAt (behind text) j) (sym same) b)

-- ---- answers

pub if_ok_more : {A E : Type 0} (P Q : A → Type 0) (r : Result A E) → ((a : A) → P a → Q a) → IfOk r P → IfOk r Q
if_ok_more P Q (Ok a) more h = more a h
if_ok_more P Q (Err e) more h = tt

pub if_ok_all : {A E : Type 0} (Q : A → Type 0) (r : Result A E) → ((a : A) → Q a) → IfOk r Q
if_ok_all Q (Ok a) all = all a
if_ok_all Q (Err e) all = tt

pub if_err_more : {A E : Type 0} (P Q : E → Type 0) (r : Result A E) → ((e : E) → P e → Q e) → IfErr r P → IfErr r Q
if_err_more P Q (Ok a) more h = tt
if_err_more P Q (Err e) more h = more e h

-- ---- lengths

end_some : (s : Step) → 0 < length (end_text s)
end_some Went = omega arith
end_some (Fault f) = omega arith
end_some Stuck = omega arith

-- a line takes something off
pub shorter : (v : EventView) (rest tail : List ℕ) → rest ≡ line_text v ++ tail → length tail < length rest
shorter v rest tail is =
    let all : length rest ≡ length (line_text v ++ tail) = ap (λ (x : List ℕ). length x) is in
    omega (
      arith,
      all,
      length-append (line_text v) tail,
      length-append (handled_text v.stamp v.element v.message.payload) (end_text v.step),
      end_some v.step,
    )

-- at the start each last stamp is 0
pub stamps_first : (n : ℕ) (xs : List ℕ) (w : World) → xs ≡ replicate n 0 → w.elements ≡ replicate n fresh
    → AreStamps xs w
stamps_first n xs w is at = is ∙ sym (zeros n) ∙ ap (map (λ (s : State). s.stamp)) (sym at)
  where
    zeros : (k : ℕ) → map (λ (s : State). s.stamp) (replicate k fresh) ≡ replicate k 0
    zeros zero = refl
    zeros (suc k) = ap (λ ys. 0 ∷ ys) (zeros k)
