-- Lemmas on specs/Records.antt: a record goes on by one event.
use Rattle.std.proofs.Common.{Bool, true, false, ◌≡◌, ◌||◌, ℕ, zero, suc, ◌+◌, List, [], ◌∷◌, ◌++◌, Some, None, Option}
use Rattle.std.proofs.Common.{length, refl, sym, ap, ◌∙◌, length-append, arith}
use Rattle.std.specs.Prelude.{◌≤◌, ◌-◌, drop, slice_get, take, if◌then◌else◌}
use Rattle.std.specs.List.{AllByRecursion, cons_option}
use Rattle.std.specs.Option.{option_or}
use Rattle.std.proofs.lemmas.List.{append-nil, drop-append-le, length-take, take-append-drop, take-append-le}
use Rattle.std.proofs.lemmas.List.Concat.{flat_map-append}
use Rattle.std.proofs.lemmas.List.Elements.{filter_map-append}
use Rattle.id_instr.specs.Graph.{Parts}
use Rattle.id_tag.specs.declared.Payload.{Payload}
use Rattle.id_tag.specs.declared.Tag.{Tag}
use Rattle.id_record.specs.declared.handled.Handled.{Handled}
use Rattle.id_record.specs.declared.handled.Replies.{Replies}
use Rattle.id_record.specs.declared.kept.Keeps.TheVariants as keeps
use Rattle.id_record.specs.declared.step.Step.TheVariants.{Went}
use Rattle.id_record.specs.Events.{EventView, full_step}
use Rattle.id_record.specs.Handlings.{AreThere, HasThere}
use Rattle.id_record.specs.Kept.{KeptView, keeps_all, keeps_names, merged_by, noted, replied}
use Rattle.id_record.specs.Sends.{numbered}
use Rattle.id_record.specs.Tellings.{any_stuck, fault_in, first_fault, is_stuck, merged, merged_in, tellings, told_in}
use Rattle.id_record.specs.Records.{AreKept, event_of_handled, events_from, replies_in, sent_for}
use Rattle.id_record.proofs.EachLemmas.{each-append, each-weaker}

-- as many events as were handled
pub length-events_from : (g : Parts) (n : ℕ) (ts : List Tag) (k : ℕ) (hs : List Handled) → length (events_from g n ts k hs) ≡ length hs
length-events_from g n ts k [] = refl
length-events_from g n ts k (h ∷ hs) = omega (arith, length-events_from g n ts (k + 1) hs)

-- the event at a position
pub events_from-get : (g : Parts) (n : ℕ) (ts : List Tag) (k : ℕ) (hs : List Handled) (i : ℕ) (h : Handled) → slice_get hs i ≡ Some h
    → slice_get (events_from g n ts k hs) i ≡ Some (event_of_handled g n ts (k + i) h)
events_from-get g n ts k [] i h is = cc
events_from-get g n ts k (m ∷ hs) zero h is =
    let same : m ≡ h = cc in
    let here : k ≡ k + 0 = omega arith in
    ap (λ x. Some (event_of_handled g n ts k x)) same ∙ ap (λ j. Some (event_of_handled g n ts j h)) here
events_from-get g n ts k (m ∷ hs) (suc i) h is =
    let there : k + 1 + i ≡ k + suc i = omega arith in
    events_from-get g n ts (k + 1) hs i h is ∙ ap (λ j. Some (event_of_handled g n ts j h)) there

-- one more that was handled is one more event
events_from-push : (g : Parts) (n : ℕ) (ts : List Tag) (k : ℕ) (hs : List Handled) (h : Handled)
    → events_from g n ts k (hs ++ h ∷ []) ≡ events_from g n ts k hs ++ event_of_handled g n ts (k + length hs) h ∷ []
events_from-push g n ts k [] h = let here : k ≡ k + 0 = omega arith in ap (λ j. event_of_handled g n ts j h ∷ []) here
events_from-push g n ts k (m ∷ hs) h =
    let there : k + 1 + length hs ≡ k + length (m ∷ hs) = omega arith in
    ap (λ es. event_of_handled g n ts k m ∷ es)
    (events_from-push g n ts (k + 1) hs h ∙ ap (λ j. events_from g n ts (k + 1) hs ++ event_of_handled g n ts j h ∷ []) there)

-- it comes behind all events before
pub pushed : (g : Parts) (n : ℕ) (ts : List Tag) (hs : List Handled) (h : Handled)
    → events_from g n ts 0 (hs ++ h ∷ []) ≡ events_from g n ts 0 hs ++ event_of_handled g n ts (length (events_from g n ts 0 hs)) h ∷ []
pushed g n ts hs h =
    let at : 0 + length hs ≡ length (events_from g n ts 0 hs) = omega (arith, length-events_from g n ts 0 hs) in
    events_from-push g n ts 0 hs h ∙ ap (λ j. events_from g n ts 0 hs ++ event_of_handled g n ts j h ∷ []) at

-- the event of the element n at this position, where it sends this
abbrev pub event_sending : ℕ → ℕ → Handled → List Payload → EventView
event_sending n k h xs = record {
  element = n;
  stamp = h.stamp;
  message = h.message;
  fired = h.reaction.fired;
  outputs = numbered n k h.stamp 0 xs;
  step = full_step h.message.payload h.reaction.verdict;
}

-- more replies change none that were there
replies_in-append : (ts more : List Tag) (r : Replies) → AreThere ts r → replies_in (ts ++ more) r ≡ replies_in ts r
replies_in-append ts more r there =
    let first : r.from ≤ length ts = omega (arith, there) in
    let parts : length (take r.from ts) + length (drop r.from ts) ≡ length ts = sym (length-append (take r.from ts) (drop r.from ts)) ∙
    ap length (take-append-drop r.from ts) in
    let left : r.count ≤ length (drop r.from ts) = omega (arith, there, parts, length-take r.from ts, first) in
    ap (take r.count) (drop-append-le r.from ts more first) ∙ take-append-le r.count (drop r.from ts) more left

pub events_from-replies : (g : Parts) (n : ℕ) (ts more : List Tag) (k : ℕ) (hs : List Handled) → AllByRecursion (HasThere ts) hs
    → events_from g n (ts ++ more) k hs ≡ events_from g n ts k hs
events_from-replies g n ts more k [] there = refl
events_from-replies g n ts more k (h ∷ hs) there =
    let here : event_of_handled g n (ts ++ more) k h ≡ event_of_handled g n ts k h =
    ap (λ us. event_sending n k h (sent_for g h.message.payload h.reaction.fired us)) (replies_in-append ts more h.replies there.0) in
    ap (λ e. e ∷ events_from g n (ts ++ more) (k + 1) hs) here ∙
    ap (λ es. event_of_handled g n ts k h ∷ es) (events_from-replies g n ts more (k + 1) hs there.1)

there-more : (ts more : List Tag) (hs : List Handled) → AllByRecursion (HasThere ts) hs → AllByRecursion (HasThere (ts ++ more)) hs
there-more ts more hs there =
    each-weaker (HasThere ts) (HasThere (ts ++ more)) (λ h k. omega (arith, k, length-append ts more)) hs there

-- ---- what is kept, by one more event

tellings-push : (es : List EventView) (e : EventView) → tellings (es ++ e ∷ []) ≡ tellings es ++ told_in e.message.payload e.fired
tellings-push es e =
    flat_map-append (λ x. told_in x.message.payload x.fired) es (e ∷ [])
    ∙ ap (λ xs. tellings es ++ xs) (append-nil (told_in e.message.payload e.fired))

merged-push : (g : Parts) (es : List EventView) (e : EventView) → merged g (es ++ e ∷ []) ≡ merged g es ++ cons_option (merged_in g e.message.payload) []
merged-push g es e = filter_map-append (λ x. merged_in g x.message.payload) es (e ∷ [])

or-assoc : {A : Type 0} (a b c : Option A) → option_or a (option_or b c) ≡ option_or (option_or a b) c
or-assoc None b c = refl
or-assoc (Some x) b c = refl

or-none : {A : Type 0} (a : Option A) → option_or a None ≡ a
or-none None = refl
or-none (Some x) = refl

first_fault-push : (es : List EventView) (e : EventView) → first_fault (es ++ e ∷ []) ≡ option_or (first_fault es) (fault_in e.stamp e.step)
first_fault-push [] e = or-none (fault_in e.stamp e.step)
first_fault-push (x ∷ es) e =
    ap (λ o. option_or (fault_in x.stamp x.step) o) (first_fault-push es e)
    ∙ or-assoc (fault_in x.stamp x.step) (first_fault es) (fault_in e.stamp e.step)

or-more : (a b c : Bool) → (a || (b || c)) ≡ ((a || b) || c)
or-more true b c = refl
or-more false b c = refl

or-false : (a : Bool) → (a || false) ≡ a
or-false true = refl
or-false false = refl

any_stuck-push : (es : List EventView) (e : EventView) → any_stuck (es ++ e ∷ []) ≡ (any_stuck es || is_stuck e.step)
any_stuck-push [] e = or-false (is_stuck e.step)
any_stuck-push (x ∷ es) e = ap (λ b. is_stuck x.step || b) (any_stuck-push es e) ∙ or-more (is_stuck x.step) (any_stuck es) (is_stuck e.step)

-- what came to merges is kept with it, where it is to be kept
merged_by-names : (g : Parts) (k : KeptView) (x : Payload) → keeps_names k.keeps ≡ true → merged_by g k.keeps x ≡ cons_option (merged_in g x) []
merged_by-names g k x names = rw names refl

if-true : {A : Type 0} (b : Bool) (x y : A) → b ≡ true → (if b then x else y) ≡ x
if-true true x y is = refl
if-true false x y is = cc

-- one more event is kept as it is to be
pub AreKept-note : (g : Parts) (n : ℕ) (ts : List Tag) (hs : List Handled) (k : KeptView) (h : Handled) → AreKept g n ts hs k → HasThere ts h
    → AreKept g n ts (hs ++ h ∷ []) (noted g k h)
AreKept-note g n ts hs k h kept there =
    let es = events_from g n ts 0 hs in
    let e = event_of_handled g n ts (length es) h in
    let more = pushed g n ts hs h in
    record {
      there = each-append (HasThere ts) hs (h ∷ []) kept.there (there, tt);
      len = omega (arith, kept.len, length-append hs (h ∷ []));
      replied = kept.replied;
      tellings =
          ap (λ xs. xs ++ told_in h.message.payload h.reaction.fired) kept.tellings ∙ sym (tellings-push es e) ∙ ap tellings (sym more);
      merged = λ names.
          ap (λ xs. k.merged ++ xs) (merged_by-names g k h.message.payload names)
          ∙ ap (λ xs. xs ++ cons_option (merged_in g h.message.payload) []) (kept.merged names)
          ∙ sym (merged-push g es e) ∙ ap (merged g) (sym more);
      events = λ all. if-true (keeps_all k.keeps) _ _ all ∙ ap (λ xs. xs ++ h ∷ []) (kept.events all);
      replies = kept.replies;
      fault =
          ap (λ o. option_or o (fault_in h.stamp (full_step h.message.payload h.reaction.verdict))) kept.fault
          ∙ sym (first_fault-push es e) ∙ ap first_fault (sym more);
      stuck =
          ap (λ b. b || is_stuck (full_step h.message.payload h.reaction.verdict)) kept.stuck ∙ sym (any_stuck-push es e) ∙ ap any_stuck (sym more);
    }

-- nothing is kept of an event that tells nothing and went well, where tellings alone are kept
pub AreKept-pass : (g : Parts) (n : ℕ) (ts : List Tag) (hs : List Handled) (k : KeptView) (h : Handled) → AreKept g n ts hs k → HasThere ts h
    → k.keeps ≡ keeps.Tellings → told_in h.message.payload h.reaction.fired ≡ [] → full_step h.message.payload h.reaction.verdict ≡ Went
    → AreKept g n ts (hs ++ h ∷ []) (record k { len = k.len + 1; room = k.room - 1 })
AreKept-pass g n ts hs k h kept there little quiet went =
    let es = events_from g n ts 0 hs in
    let e = event_of_handled g n ts (length es) h in
    let more = pushed g n ts hs h in
    record {
      there = each-append (HasThere ts) hs (h ∷ []) kept.there (there, tt);
      len = omega (arith, kept.len, length-append hs (h ∷ []));
      replied = kept.replied;
      tellings =
          kept.tellings ∙ sym (append-nil (tellings es)) ∙ ap (λ xs. tellings es ++ xs) (sym quiet) ∙ sym (tellings-push es e) ∙ ap tellings (sym more);
      merged = λ names. let none : false ≡ true = ap keeps_names (sym little) ∙ names in cc;
      events = λ all. let none : false ≡ true = ap keeps_all (sym little) ∙ all in cc;
      replies = λ all. let none : false ≡ true = ap keeps_all (sym little) ∙ all in cc;
      fault =
          kept.fault ∙ sym (or-none (first_fault es)) ∙ ap (λ s. option_or (first_fault es) (fault_in h.stamp s)) (sym went)
          ∙ sym (first_fault-push es e) ∙ ap first_fault (sym more);
      stuck =
          kept.stuck ∙ sym (or-false (any_stuck es)) ∙ ap (λ s. any_stuck es || is_stuck s) (sym went) ∙ sym (any_stuck-push es e) ∙ ap any_stuck (sym more);
    }

-- and so with one more reply
pub AreKept-reply : (g : Parts) (n : ℕ) (ts : List Tag) (hs : List Handled) (k : KeptView) (t : Tag) → AreKept g n ts hs k
    → AreKept g n (ts ++ t ∷ []) hs (replied k t)
AreKept-reply g n ts hs k t kept =
    let same = events_from-replies g n ts (t ∷ []) 0 hs kept.there in
    record {
      there = there-more ts (t ∷ []) hs kept.there;
      len = kept.len;
      replied = omega (arith, kept.replied, length-append ts (t ∷ []));
      tellings = kept.tellings ∙ ap tellings (sym same);
      merged = λ names. kept.merged names ∙ ap (merged g) (sym same);
      events = kept.events;
      replies = λ all. if-true (keeps_all k.keeps) _ _ all ∙ ap (λ xs. xs ++ t ∷ []) (kept.replies all);
      fault = kept.fault ∙ ap first_fault (sym same);
      stuck = kept.stuck ∙ ap any_stuck (sym same);
    }
