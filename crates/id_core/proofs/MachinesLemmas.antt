-- Lemmas on specs/Machines.antt.
use Rattle.std.proofs.Common.{◌≡◌, ℕ, suc, ◌+◌, ◌<◌, Bool, true, false, cond, eqb, eq-eqb, ◌||◌, Option, Some, None}
use Rattle.std.proofs.Common.{List, [], ◌∷◌, ◌++◌, map, filter}
use Rattle.std.proofs.Common.{length, get_or, set, take, drop, refl, sym, ap, subst, ◌∙◌, ⊎_elim, arith}
use Rattle.std.specs.Prelude.{All, IfOk, IsTrue, OnErr, OnOk, Result, Ok, Err, slice_index, slice_get, option_map, ◌↔◌}
use Rattle.std.specs.Prelude.{◌⊎◌, ⊤}
use Rattle.std.specs.List.{list_any, remove}
use Rattle.std.specs.List.Sorted.{IsStrictlyIncreasing}
use Rattle.std.proofs.lemmas.List.{set-get_or, length-map, length-append, length-set, get_or-map, get_or-set_same}
use Rattle.std.proofs.lemmas.List.{get_or-set_other, map-set}
use Rattle.std.proofs.lemmas.Bool.{cases_lt, cases_eq}
use Rattle.std.proofs.Math.ListN.{get_or-append}
use Rattle.std.proofs.Math.Seq.{get_or-append_seam}
use Rattle.std.proofs.lemmas.List.Elements.{All-cons, All-append, All-set, All-take, All-drop}
use Rattle.id_instr.specs.declared.dests.Port.TheVariants as port
use Rattle.id_instr.specs.declared.instr.Block.{Block}
use Rattle.id_instr.specs.declared.instr.Op.TheVariants.{Merge, Back}
use Rattle.id_instr.specs.declared.instr.PortKind.TheVariants as kind
use Rattle.id_instr.specs.Graph.{Parts}
use Rattle.id_value.specs.declared.Constant.{Constant}
use Rattle.id_tag.specs.Routes.{route_of}
use Rattle.std.proofs.lemmas.Option.{get_or_from_slice_get, slice_get_within, slice_get-map}
use Rattle.id_tag.specs.declared.Payload.TheVariants.{Token}
use Rattle.id_tag.specs.declared.Value.TheVariants as value
use Rattle.id_tag.specs.declared.Message.{Message}
use Rattle.id_valid.specs.Roles.{has_main_place, IsMain}
use Rattle.id_valid.specs.Validator.{IsMainBlock}
use Rattle.id_step.specs.Fits.{Fits, TokenFits}
use Rattle.id_step.specs.Fits.{IsFor}
use Rattle.id_step.specs.Takes.{Handles}
use Rattle.id_step.specs.Steps.{fresh, outputs_of, event_of, state_after, step_of, is_ended}
use Rattle.id_step.specs.declared.step.TakeError.{TakeError}
use Rattle.id_step.specs.declared.step.TakeError.TheVariants.{StampEnd}
use Rattle.id_step.specs.declared.step.Short.TheVariants.{Apart}
use Rattle.id_step.specs.Replays.{ElementView}
use Rattle.id_record.specs.declared.step.Step.{Step}
use Rattle.id_core.specs.Machines.{world_of, taken_from, given_to, routed_to, delivered, event_of_given}
use Rattle.id_core.specs.Machines.{event_of_routed, event_at, start_message, input_messages, block_messages, AreTaken}
use Rattle.id_core.specs.Machines.{AllKeep, IsElement, AreElements, IsMachine, MachineView}
use Rattle.id_record.specs.declared.kept.Keeps.{Keeps}
use Rattle.id_record.specs.declared.kept.Keeps.TheVariants as kept
use Rattle.id_observe.specs.Elements.{AreOf, KeepAll, KeepNames}
use Rattle.id_observe.specs.Observed.{main_tag}
use Rattle.id_step.proofs.SentLemmas.{kind_at_op}
use Rattle.id_core.proofs.InputsLemmas.{inputs_fit}

-- what holds of each image holds of what it is the image of
pub All-from_map : {X Y : Type 0} (P : Y → Type 0) (f : X → Y) (xs : List X) → All P (map f xs) → All (λ x. P (f x)) xs
All-from_map P f xs all k d within =
    subst P (get_or-map f xs k d (f d) within) (all k (f d) (omega (arith, length-map xs f)))

-- one more element with the next number
pub AreElements-push : (g : Parts) (count : ℕ) (es : List ElementView) (e : ElementView) → AreElements g count es
    → IsElement g count (length es) e →
    AreElements g count (es ++ e ∷ [])
AreElements-push g count es e old new n d within =
    ⊎_elim (λ lt. rw (get_or-append es (e ∷ []) d n lt) (old n d lt))
    (λ le. last (omega (arith, length-append es (e ∷ [])))) (cases_lt n (length es))
  where
    last : n ≡ length es → IsElement g count n (get_or (es ++ e ∷ []) n d)
    last is = rw (is, get_or-append_seam es e [] d) new

any_or_true : (c : Bool) → (c || true) ≡ true
any_or_true true = refl
any_or_true false = refl

-- the block that passes a test alone stands among all
second_of_main : (p q : Block → Bool) (xs : List Block) (b : Block) → filter p xs ≡ b ∷ [] → q b ≡ true
    → list_any q xs ≡ true
second_of_main p q [] b is here = cc
second_of_main p q (x ∷ xs) b is here = at (λ e. second_of_main p q xs b e here) (p x) is
  where
    at : (filter p xs ≡ b ∷ [] → list_any q xs ≡ true) → (c : Bool) → cond c (x ∷ filter p xs) (filter p xs) ≡ b ∷ []
        → (q x || list_any q xs) ≡ true
    at rest true e = let same : x ≡ b = cc in let passes : q x ≡ true = ap q same ∙ here in rw passes
    at rest false e = let found = rest e in rw found (any_or_true (q x))

-- the start messages fit the graph, where its entries take the inputs
pub start_fits : (g : Parts) (b : Block) (vs : List Constant) → IsMain g b → IsMainBlock g b → AreTaken g b.entries vs →
    All (Fits g) (block_messages (b ∷ []) vs)
start_fits g b vs main kept inputs =
    let first : TokenFits g 0 (main_tag b.first) port.Zero value.Signal =
    record {
      kind = kind_at_op g b.first port.Zero (Merge kind.Signal) kept.trigger;
      in_time = omega arith;
      continuation = tt;
      address = tt;
    } in
    let second : TokenFits g 0 (main_tag (b.first + 1)) port.Zero (value.Continuation (main_tag 0)) = record {
      kind = kind_at_op g (b.first + 1) port.Zero (Back kept.kind) kept.back;
      in_time = omega arith;
      continuation = (
        refl,
        (
          kept.kind,
          record {
            second = second_of_main (has_main_place g) (λ x. eqb (x.first + 1) (b.first + 1)) g.blocks b main
                (eq-eqb (b.first + 1) (b.first + 1) refl);
            back = kept.back;
            merge = kept.answer;
          },
        ),
        omega arith,
      );
      address = tt;
    } in
    let trigger : Message = start_message 0 (Token (main_tag b.first) port.Zero value.Signal) in
    let back : Message = start_message 1 (Token (main_tag (b.first + 1)) port.Zero (value.Continuation (main_tag 0))) in
    let brought = input_messages 2 b.entries vs in
    All-cons (Fits g) trigger (back ∷ brought) first
    (All-cons (Fits g) back brought second (inputs_fit g 2 b.entries vs inputs))

-- the message at a place, given to the element that it is for, which has a stamp left
pub record IsGiven (g : Parts) (count : ℕ) (es : List ElementView) (flight : List Message) (k n : ℕ) (m : Message)
    (e : ElementView) : Type 0 where
  pub there : slice_get flight k ≡ Some m
  pub routed : route_of m.payload count ≡ n
  pub element : slice_get es n ≡ Some e

abbrev pub after_take : Parts → ElementView → Message → ElementView
after_take g e m = record e { state = state_after g e.number e.state m }

state_at : (es : List ElementView) (n : ℕ) (e : ElementView) → slice_get es n ≡ Some e
    → slice_get (map (λ x. x.state) es) n ≡ Some e.state
state_at es n e is = slice_get-map (λ x. x.state) es n ∙ ap (option_map (λ x. x.state)) is

-- where a stamp is left, the message is taken from the list and handled
pub delivered-is : (g : Parts) (count : ℕ) (es : List ElementView) (flight : List Message) (k n : ℕ) (m : Message)
    (e : ElementView) → IsGiven g count es flight k n m e → is_ended e.state m ≡ false
    → delivered g count (world_of es flight) k ≡ taken_from g k (world_of es flight) m n e.state
delivered-is g count es flight k n m e given left =
    ap (routed_to g count k (world_of es flight)) given.there
    ∙ ap (λ r. given_to g k (world_of es flight) m r (slice_get (map (λ x. x.state) es) r)) given.routed
    ∙ ap (given_to g k (world_of es flight) m n) (state_at es n e given.element)
    ∙ ap (λ b. cond b (world_of es flight) (taken_from g k (world_of es flight) m n e.state)) left

-- and where none is left, there is no event
pub event_at-is : (g : Parts) (count : ℕ) (es : List ElementView) (flight : List Message) (k n : ℕ) (m : Message)
    (e : ElementView) → IsGiven g count es flight k n m e
    → event_at g count (world_of es flight) k ≡ cond (is_ended e.state m) None (Some (event_of g n e.state m))
event_at-is g count es flight k n m e given =
    ap (event_of_routed g count (world_of es flight)) given.there
    ∙ ap (λ r. event_of_given g r m (slice_get (map (λ x. x.state) es) r)) given.routed
    ∙ ap (event_of_given g n m) (state_at es n e given.element)

-- an element goes on as the same element
AreElements-set : (g : Parts) (count : ℕ) (es : List ElementView) (n : ℕ) (e : ElementView) → n < length es
    → AreElements g count es → IsElement g count n e →
    AreElements g count (set es n e)
AreElements-set g count es n e lt old new k d within =
    ⊎_elim (λ same. here same)
    (λ other. rw (get_or-set_other es n k e d other) (old k d (omega (arith, length-set es n e)))) (cases_eq k n)
  where
    here : k ≡ n → IsElement g count k (get_or (set es n e) k d)
    here same =
        let P : ℕ → Type 0 = λ j. IsElement g count j (get_or (set es n e) j d) in
        subst P (sym same) (subst (IsElement g count n) (sym (get_or-set_same es n e d lt)) new)

-- a delivery that is no error: the message is given to its element, which has a stamp left
pub record IsDelivery (g : Parts) (count : ℕ) (es : List ElementView) (flight : List Message) (k n : ℕ) (m : Message)
    (e : ElementView) : Type 0 where
  pub given : IsGiven g count es flight k n m e
  pub left : is_ended e.state m ≡ false
  pub same : IsElement g count n e

-- the element as it says that it is after the message
abbrev pub taken : ElementView → Message → ElementView
taken e m = record e { state = state_after e.graph e.number e.state m }

-- the machine's world after a delivery
pub world-delivered : (g : Parts) (count : ℕ) (es : List ElementView) (flight : List Message) (k n : ℕ) (m : Message)
    (e : ElementView) → IsDelivery g count es flight k n m e
    → world_of (set es n (taken e m)) (remove flight k ++ outputs_of e.graph e.number e.state m)
    ≡ delivered g count (world_of es flight) k
world-delivered g count es flight k n m e d =
    rw (
      d.same.graph,
      d.same.number,
      map-set (λ x. x.state) es n (record {
        number = n;
        count = e.count;
        graph = g;
        keeps = e.keeps;
        state =
            state_after g n e.state m;
      }),
    )
    (sym (delivered-is g count es flight k n m e d.given d.left))

-- the event of a delivery
pub event-delivered : (g : Parts) (count : ℕ) (es : List ElementView) (flight : List Message) (k n : ℕ) (m : Message)
    (e : ElementView) → IsDelivery g count es flight k n m e
    → event_at g count (world_of es flight) k ≡ Some (event_of g n e.state m)
event-delivered g count es flight k n m e d =
    event_at-is g count es flight k n m e d.given ∙ ap (λ b. cond b None (Some (event_of g n e.state m))) d.left

-- a machine is one after a delivery
pub IsMachine-deliver : (g : Parts) (keeps : Keeps) (es : List ElementView) (flight : List Message) (k n : ℕ)
    (m : Message) (e : ElementView) → IsMachine g keeps es flight → IsDelivery g (length es) es flight k n m e
    → All (Fits e.graph) (outputs_of e.graph e.number e.state m)
    → IsMachine g keeps (set es n (taken e m)) (remove flight k ++ outputs_of e.graph e.number e.state m)
IsMachine-deliver g keeps es flight k n m e old d fits = record {
  at_least_one = omega (arith, old.at_least_one, length-set es n (taken e m));
  at_most_64 = omega (arith, old.at_most_64, length-set es n (taken e m));
  elements =
      let P : ℕ → Type 0 = λ c. AreElements g c (set es n (taken e m)) in
      subst P (sym (length-set es n (taken e m)))
      (AreElements-set g (length es) es n (taken e m) (slice_get_within es n e d.given.element) old.elements
      (record { number = d.same.number; count_is = d.same.count_is; graph = d.same.graph }));
  kept = All-set (λ x. x.keeps ≡ keeps) es n (taken e m)
      (subst (λ (x : ElementView). x.keeps ≡ keeps) (get_or_from_slice_get es n e e d.given.element)
      (old.kept n e (slice_get_within es n e d.given.element))) old.kept;
  flight_fits = All-append (Fits g) (remove flight k) _
      (All-append (Fits g) (take k flight) (drop (suc k) flight) (All-take (Fits g) k flight old.flight_fits)
      (All-drop (Fits g) (suc k) flight old.flight_fits))
      (let P : Parts → Type 0 = λ x. All (Fits x) (outputs_of e.graph e.number e.state m) in subst P d.same.graph fits);
}

-- the element at each position has it as its number
number_at : (g : Parts) (count : ℕ) (es : List ElementView) (k : ℕ) → AreElements g count es → k < length es
    → slice_index (map (λ e. e.number) es) k ≡ k
number_at g count es k are lt =
    let none : ElementView = record { number = 0; count = 0; graph = g; keeps = kept.All; state = fresh } in
    get_or-map (λ e. e.number) es k none 0 lt ∙ (are k none lt).number

-- so the numbers of a machine's elements rise
pub AreElements-rise : (g : Parts) (count : ℕ) (es : List ElementView) → AreElements g count es
    → IsStrictlyIncreasing (map (λ e. e.number) es)
AreElements-rise g count es are k lt =
    let next : k + 1 < length es = omega (arith, lt, length-map es (λ e. e.number)) in
    omega (arith, number_at g count es k are (omega (arith, next)), number_at g count es (k + 1) are next)

-- they are of its graph
pub AreElements-of : (g : Parts) (count : ℕ) (es : List ElementView) → AreElements g count es → AreOf g es
AreElements-of g count es are n d lt = (are n d lt).graph

-- and keep what it does
pub AllKeep-all : (k : Keeps) (es : List ElementView) → AllKeep k es → k ≡ kept.All → KeepAll es
AllKeep-all k es keep is = subst (λ (x : Keeps). AllKeep x es) is keep

pub AllKeep-names : (k : Keeps) (es : List ElementView) → AllKeep k es → (k ≡ kept.Tellings → ⊥) → KeepNames es
AllKeep-names k es keep more n d lt is = more (sym (keep n d lt) ∙ is)

-- ---- what a delivery leaves, whatever it came to

no_event : {X : Type 0} (o : Option X) (x : X) → o ≡ Some x → o ≡ None → ⊥
no_event o x some none = cc

not_so : {Z : Type 0} (b : Bool) → b ≡ false → b ≡ true → Z
not_so b none some = cc

-- what went well had a stamp left
left_ok : {A : Type 0} (a : A) (b : Bool) → ◌≡◌ {A = Result A TakeError} (Ok a) (Err StampEnd) ↔ IsTrue b → b ≡ false
left_ok {A = A} a true both = let end : ◌≡◌ {A = Result A TakeError} (Ok a) (Err StampEnd) = both.1 refl in cc
left_ok a false both = refl

-- what the delivery of the message at a position tells, as it is promised of a machine
pub record IsTold (k : ℕ) (v later : MachineView) (r : Result Step TakeError) : Type 0 where
  pub world : OnOk r (later ≡ record v { world = delivered v.graph v.count v.world k })
  pub step : IfOk r (λ s. option_map (λ e. e.step) (event_at v.graph v.count v.world k) ≡ Some s)
  pub end : r ≡ Err StampEnd ↔ event_at v.graph v.count v.world k ≡ None
  pub err : OnErr r (later ≡ v)

module _ {g : Parts} {keeps : Keeps} {es : List ElementView} {flight : List Message} {k n : ℕ} {m : Message}
    {e : ElementView}
    (given : IsGiven g (length es) es flight k n m e) (old : IsMachine g keeps es flight) where
  -- the element that the message is for is that of its number
  element_is : IsElement g (length es) n e
  element_is =
      subst (IsElement g (length es) n) (get_or_from_slice_get es n e e given.element)
      (old.elements n e (slice_get_within es n e given.element))

  -- so the message is for it
  pub is_for : IsFor e.graph e.count e.number m
  is_for =
      let fits : Fits g m =
      subst (Fits g) (get_or_from_slice_get flight k m m given.there)
      (old.flight_fits k m (slice_get_within flight k m given.there)) in
      record {
        routed = ap (route_of m.payload) element_is.count_is ∙ given.routed ∙ sym element_is.number;
        fits = subst (λ (x : Parts). Fits x m) (sym element_is.graph) fits;
      }

  delivery : is_ended e.state m ≡ false → IsDelivery g (length es) es flight k n m e
  delivery stamp = record { given = given; left = stamp; same = element_is }

  kept_list : set es n e ≡ es
  kept_list = ap (set es n) (sym (get_or_from_slice_get es n e e given.element)) ∙ set-get_or es n e

  -- the machine stays one, whatever the delivery came to
  pub IsMachine-given : {later : ElementView} {left : List Message} (r : Result Step TakeError)
      → Handles e later m flight (remove flight k) left r → IsMachine g keeps (set es n later) left
  IsMachine-given (Ok s) x =
      rw (
        x.becomes.element,
        x.becomes.outputs,
      ) (IsMachine-deliver g keeps es flight k n m e old (delivery (left_ok s (is_ended e.state m) x.ended)) x.fits)
  IsMachine-given (Err b) x = rw (x.becomes.element, x.becomes.same, kept_list) old

  module _ {v : MachineView}
      (is : ◌≡◌ {A = MachineView} (record { graph = g; count = length es; keeps = keeps; world = world_of es flight })
      v) where
    -- what the machine shows afterwards
    abbrev pub after : ElementView → List Message → MachineView
    after later left =
        record { graph = g; count = length (set es n later); keeps = keeps; world = world_of (set es n later) left }

    view-kept : (later : ElementView) (left : List Message) → later ≡ e → left ≡ flight → after later left ≡ v
    view-kept later left same still = rw (same, still, kept_list) is

    view-delivered : (later : ElementView) (left : List Message) → is_ended e.state m ≡ false → later ≡ taken e m
        → left ≡ remove flight k ++ outputs_of e.graph e.number e.state m
        → after later left ≡ record v { world = delivered v.graph v.count v.world k }
    view-delivered later left stamp took gone =
        let world : world_of (set es n later) left ≡ delivered g (length es) (world_of es flight) k =
        rw (took, gone) (world-delivered g (length es) es flight k n m e (delivery stamp)) in
        subst (λ (x : MachineView). after later left ≡ record x { world = delivered x.graph x.count x.world k }) is
        (λ i. record { graph = g; count = length-set es n later i; keeps = keeps; world = world i })

    event_in_view : (b : Bool) → is_ended e.state m ≡ b
        → event_at v.graph v.count v.world k ≡ cond b None (Some (event_of g n e.state m))
    event_in_view b stamp =
        subst (λ (x : MachineView). event_at x.graph x.count x.world k ≡ cond b None (Some (event_of g n e.state m))) is
        (event_at-is g (length es) es flight k n m e given
        ∙ ap (λ c. cond c None (Some (event_of g n e.state m))) stamp)

    step-delivered : is_ended e.state m ≡ false
        → option_map (λ x. x.step) (event_at v.graph v.count v.world k) ≡ Some (step_of e.graph e.number e.state m)
    step-delivered stamp =
        ap (option_map (λ x. x.step)) (event_in_view false stamp)
        ∙ ap (λ s. Some s)
        (sym (ap (λ x. step_of x e.number e.state m) element_is.graph
        ∙ ap (λ j. step_of g j e.state m) element_is.number))

    -- the end of stamps is told where none is left, and by nothing else
    end-delivered : {A : Type 0} (r : Result A TakeError) → r ≡ Err StampEnd ↔ IsTrue (is_ended e.state m)
        → r ≡ Err StampEnd ↔ event_at v.graph v.count v.world k ≡ None
    end-delivered r both = at (is_ended e.state m) refl
      where
        at : (b : Bool) → is_ended e.state m ≡ b → r ≡ Err StampEnd ↔ event_at v.graph v.count v.world k ≡ None
        at true stamp = ((λ h. event_in_view true stamp), (λ h. both.1 stamp))
        at false stamp = (
          (λ h. not_so (is_ended e.state m) stamp (both.0 h)),
          (λ h. absurd (no_event _ _ (event_in_view false stamp) h)),
        )

    -- what the element and the list in flight tell is told of the machine
    pub told-given : {later : ElementView} {left : List Message} (r : Result Step TakeError)
        → Handles e later m flight (remove flight k) left r → IsTold k v (after later left) r
    told-given {later = later} {left = left} (Ok s) x =
        let stamp = left_ok s (is_ended e.state m) x.ended in
        record {
          world = view-delivered later left stamp x.becomes.element x.becomes.outputs;
          step = step-delivered stamp ∙ ap (λ t. Some t) (sym x.becomes.step);
          end = end-delivered (Ok s) x.ended;
          err = tt;
        }
    told-given {later = later} {left = left} (Err b) x =
        record {
          world = tt;
          step = tt;
          end = end-delivered (Err b) x.ended;
          err =
              view-kept later left x.becomes.element x.becomes.same;
        }
