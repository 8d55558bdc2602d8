-- Lemmas on specs/Merged.antt.
use Rattle.std.proofs.Common.{◌≡◌, ◌⊎◌, ℕ, zero, suc, ◌+◌, ◌<◌, ◌≤◌, Bool, true, false, cond, nat_lt, List, [], ◌∷◌}
use Rattle.std.proofs.Common.{◌++◌, Option, Some, None, length, map, drop, set, refl, sym, ap, subst, ◌∙◌, inl, inr}
use Rattle.std.proofs.Common.{append_assoc, add-one, get_or, arith}
use Rattle.std.specs.Prelude.{slice_get, option_map, option_and_then, MatchOption}
use Rattle.std.specs.Cmp.{IsTotalOrder}
use Rattle.std.specs.List.{AllByRecursion, cons_option, flat_map}
use Rattle.std.specs.List.Sorted.{IsPermutation, IsStrictlySortedBy}
use Rattle.std.specs.declared.cmp.Ordering.TheVariants.{Less}
use Rattle.std.proofs.lemmas.Bool.Decides.{nat_tests}
use Rattle.std.proofs.Math.Seq.{drop-cons}
use Rattle.std.proofs.lemmas.Option.{slice_get_within, slice_get_read, slice_get_cases, get_or_from_slice_get}
use Rattle.std.proofs.lemmas.List.{drop_all, append-nil}
use Rattle.std.proofs.lemmas.Cmp.{nat_cmp_total, on_total, then_total}
use Rattle.std.proofs.lemmas.List.Elements.{filter_map-append}
use Rattle.std.proofs.lemmas.List.Sorted.{IsPermutation-refl, IsPermutation-trans, IsPermutation-append_right}
use Rattle.std.proofs.lemmas.List.Sorted.{IsPermutation-middle, IsPermutation-pop_more, length_permutation}
use Rattle.id_observe.specs.declared.merge.Candidate.{Candidate}
use Rattle.id_observe.specs.declared.merge.Head.{Head}
use Rattle.id_observe.specs.declared.merge.Place.{Place}
use Rattle.id_record.specs.Events.{EventView}
use Rattle.id_step.specs.Replays.{ElementView}
use Rattle.id_observe.specs.Merged.{by_moment, event_at_place, events_at, head_of, AreMerged, AreRecords, IsAfter}
use Rattle.id_observe.specs.Merged.{IsBelow, IsEarliest, IsFrom, IsMerge, IsPlace, earlier_of}
use Rattle.id_record.proofs.EachLemmas.{each-append, each-weaker, each-get}
use Rattle.id_observe.proofs.OrderedLemmas.{sorted-between, sorted-front}

-- the order of events is one
pub by_moment_total : IsTotalOrder by_moment
by_moment_total =
    then_total (on_total (λ (e : EventView). e.stamp) nat_cmp_total)
    (on_total (λ (e : EventView). e.element) nat_cmp_total)

-- what its two parts say
pub earlier_stamp : (x y : EventView) → x.stamp < y.stamp → by_moment x y ≡ Less
earlier_stamp x y lt = grind (arith, nat_tests)

pub earlier_element : (x y : EventView) → x.stamp ≤ y.stamp → x.element < y.element → by_moment x y ≡ Less
earlier_element x y le lt = grind (arith, nat_tests)

-- as many events as places
pub length-events_at : (rs : List (List EventView)) (ps : List Place) → AllByRecursion (IsPlace rs) ps
    → length (events_at rs ps) ≡ length ps
length-events_at rs [] are = refl
length-events_at rs (p ∷ ps) are =
    omega (arith, ap (λ o. length (cons_option o (events_at rs ps))) are.0.1, length-events_at rs ps are.1)

-- the event at each place
pub events_at-get : (rs : List (List EventView)) (ps : List Place) (k : ℕ) (p : Place) → AllByRecursion (IsPlace rs) ps
    → slice_get ps k ≡ Some p →
    slice_get (events_at rs ps) k ≡ event_at_place rs p
events_at-get rs [] k p are is = cc
events_at-get rs (q ∷ ps) zero p are is =
    let same : q ≡ p = cc in
    ap (λ o. slice_get (cons_option o (events_at rs ps)) zero) are.0.1 ∙ sym are.0.1 ∙ ap (event_at_place rs) same
events_at-get rs (q ∷ ps) (suc k) p are is =
    ap (λ o. slice_get (cons_option o (events_at rs ps)) (suc k)) are.0.1 ∙ events_at-get rs ps k p are.1 is

-- one more place is one more event
pub events_at-push : (rs : List (List EventView)) (ps : List Place) (p : Place) (x : EventView)
    → event_at_place rs p ≡ Some x →
    events_at rs (ps ++ p ∷ []) ≡ events_at rs ps ++ x ∷ []
events_at-push rs ps p x is =
    filter_map-append (event_at_place rs) ps (p ∷ []) ∙ ap (λ o. events_at rs ps ++ cons_option o []) is

-- what is left of each record from its head on
abbrev pub lefts : List (List EventView) → List Head → List (List EventView)
lefts [] hs = []
lefts (r ∷ rs) [] = []
lefts (r ∷ rs) (h ∷ hs) = drop h.position r ∷ lefts rs hs

-- the heads are those of the records
abbrev pub AreHeads : List (List EventView) → List Head → Type 0
AreHeads [] [] = Unit {0}
AreHeads [] (h ∷ hs) = ⊥
AreHeads (r ∷ rs) [] = ⊥
AreHeads (r ∷ rs) (h ∷ hs) = (h ≡ head_of r h.position) × AreHeads rs hs

-- the next event of a record comes first in what is left of it
drop_at : (r : List EventView) (p : ℕ) (x : EventView) → slice_get r p ≡ Some x → drop p r ≡ x ∷ drop (p + 1) r
drop_at r p x is =
    let within = slice_get_within r p x is in
    rw add-one (drop-cons r p x within ∙ ap (λ y. y ∷ drop (suc p) r) (get_or_from_slice_get r p x x is))

-- nothing is left of a record of which there is no next event
drop_none : (r : List EventView) (p : ℕ) → slice_get r p ≡ None → drop p r ≡ []
drop_none r p none = drop_all p r (at (slice_get_cases r p))
  where
    at : (slice_get r p ≡ slice_get r p)
        × (((x : EventView) × (p < length r) × (slice_get r p ≡ Some x) × (get_or r p x ≡ x)) ⊎
        ((length r ≤ p) × (slice_get r p ≡ None))) → length r ≤ p
    at (e, inl w) = let some = w.2 in cc
    at (e, inr w) = w.0

-- as many heads as records
pub length_heads : (rs : List (List EventView)) (hs : List Head) → AreHeads rs hs → length hs ≡ length rs
length_heads [] [] are = refl
length_heads [] (h ∷ hs) are = absurd are
length_heads (r ∷ rs) [] are = absurd are
length_heads (r ∷ rs) (h ∷ hs) are = omega (arith, length_heads rs hs are.1)

pub within_heads : (hs : List Head) (s k : ℕ) → IsEarliest hs s k → k < length hs
within_heads [] s k is = absurd is
within_heads (h ∷ hs) s zero is = omega arith
within_heads (h ∷ hs) s (suc k) is = omega (arith, within_heads hs s k is.1)

-- the next event of a record has the stamp of its head
next_event : (r : List EventView) (h : Head) (s : ℕ) → h ≡ head_of r h.position → h.stamp ≡ Some s →
    (x : EventView) × (slice_get r h.position ≡ Some x) × (x.stamp ≡ s)
next_event r h s is stamp = at (slice_get r h.position) refl (sym (ap (λ g. g.stamp) is) ∙ stamp)
  where
    at : (o : Option EventView) → slice_get r h.position ≡ o → option_map (λ e. e.stamp) o ≡ Some s →
        (x : EventView) × (slice_get r h.position ≡ Some x) × (x.stamp ≡ s)
    at None e f = cc
    at (Some x) e f = (x, e, cc)

-- the earliest head shows an event, whose stamp is the least one
pub picked : (rs : List (List EventView)) (hs : List Head) (s k : ℕ) (r : List EventView) (h : Head) → AreHeads rs hs
    → IsEarliest hs s k →
    slice_get rs k ≡ Some r → slice_get hs k ≡ Some h
    → (x : EventView) × (slice_get r h.position ≡ Some x) × (x.stamp ≡ s)
picked [] hs s k r h are is at_r at_h = cc
picked (q ∷ rs) [] s k r h are is at_r at_h = absurd are
picked (q ∷ rs) (g ∷ hs) s zero r h are is at_r at_h =
    let same_r : q ≡ r = cc in
    let same_h : g ≡ h = cc in
    let head = let P : Head → Type 0 = λ f. f ≡ head_of q f.position in subst P same_h are.0 in
    let head_r = subst (λ l. h ≡ head_of l h.position) same_r head in
    next_event r h s head_r (ap (λ f. f.stamp) (sym same_h) ∙ is.0)
picked (q ∷ rs) (g ∷ hs) s (suc k) r h are is at_r at_h = picked rs hs s k r h are.1 is.1 at_r at_h

-- taking the next event of a record takes it from what is left
pub left_taken : (rs : List (List EventView)) (hs : List Head) (k : ℕ) (r : List EventView) (h : Head) (x : EventView)
    → AreHeads rs hs →
    slice_get rs k ≡ Some r → slice_get hs k ≡ Some h → slice_get r h.position ≡ Some x
    → IsPermutation (flat_map (λ l. l) (lefts rs hs))
    (x ∷ flat_map (λ l. l) (lefts rs (set hs k (head_of r (h.position + 1)))))
left_taken [] hs k r h x are at_r at_h there = cc
left_taken (q ∷ rs) [] k r h x are at_r at_h there = absurd are
left_taken (q ∷ rs) (g ∷ hs) zero r h x are at_r at_h there =
    let same_r : q ≡ r = cc in
    let same_h : g ≡ h = cc in
    let here : drop g.position q ≡ x ∷ drop (h.position + 1) q = ap (λ f. drop f.position q) same_h ∙
    drop_at q h.position x (ap (λ l. slice_get l h.position) same_r ∙ there) in
    rw here (IsPermutation-refl _)
left_taken (q ∷ rs) (g ∷ hs) (suc k) r h x are at_r at_h there =
    let rest = flat_map (λ l. l) (lefts rs (set hs k (head_of r (h.position + 1)))) in
    IsPermutation-trans _ (drop g.position q ++ x ∷ rest) _
    (IsPermutation-append_right (drop g.position q) _ _ (left_taken rs hs k r h x are.1 at_r at_h there))
    (IsPermutation-middle (drop g.position q) x rest)

-- the heads stay heads
heads_set : (rs : List (List EventView)) (hs : List Head) (k p : ℕ) (r : List EventView) → AreHeads rs hs
    → slice_get rs k ≡ Some r →
    AreHeads rs (set hs k (head_of r p))
heads_set [] hs k p r are at_r = cc
heads_set (q ∷ rs) [] k p r are at_r = absurd are
heads_set (q ∷ rs) (g ∷ hs) zero p r are at_r = let same : r ≡ q = cc in (ap (λ l. head_of l p) same, are.1)
heads_set (q ∷ rs) (g ∷ hs) (suc k) p r are at_r = (are.0, heads_set rs hs k p r are.1 at_r)

-- what is merged, with what is left of each record, is in order
abbrev pub AreAhead : List EventView → List (List EventView) → Type 0
AreAhead done ls = AllByRecursion (λ l. IsStrictlySortedBy by_moment (done ++ l)) ls

-- one more merged event before what is left of a record, whose next event is later
ahead_one : (done : List EventView) (x : EventView) (r : List EventView) (p : ℕ)
    → IsStrictlySortedBy by_moment (done ++ x ∷ []) →
    ((y : EventView) → slice_get r p ≡ Some y → by_moment x y ≡ Less)
    → IsStrictlySortedBy by_moment (done ++ drop p r) → IsStrictlySortedBy by_moment ((done ++ x ∷ []) ++ drop p r)
ahead_one done x r p to_x later old = at (slice_get r p) refl
  where
    at : (o : Option EventView) → slice_get r p ≡ o → IsStrictlySortedBy by_moment ((done ++ x ∷ []) ++ drop p r)
    at None e = rw (drop_none r p e, append-nil (done ++ x ∷ [])) to_x
    at (Some y) e =
        let P : List EventView → Type 0 = λ l. IsStrictlySortedBy by_moment ((done ++ x ∷ []) ++ l) in
        let Q : List EventView → Type 0 = λ l. IsStrictlySortedBy by_moment (done ++ l) in
        subst P (sym (drop_at r p y e))
        (sorted-between by_moment_total done x y (drop (p + 1) r) to_x (subst Q (drop_at r p y e) old) (later y e))

-- the stamp of a head is that of the next event
head_stamp : (r : List EventView) (h : Head) (y : EventView) → h ≡ head_of r h.position
    → slice_get r h.position ≡ Some y → h.stamp ≡ Some y.stamp
head_stamp r h y is there = ap (λ f. f.stamp) is ∙ ap (option_map (λ e. e.stamp)) there

-- a head after a stamp, or from it on, has a next event that is later
after_later : (x y : EventView) (r : List EventView) (h : Head) → h ≡ head_of r h.position → IsAfter x.stamp h
    → slice_get r h.position ≡ Some y →
    by_moment x y ≡ Less
after_later x y r h is after there =
    earlier_stamp x y (let P : Option ℕ → Type 0 = λ o. MatchOption o (Unit {0}) (λ t. x.stamp < t) in
    subst P (head_stamp r h y is there) after)

from_later : (x y : EventView) (r : List EventView) (h : Head) → h ≡ head_of r h.position → IsFrom x.stamp h
    → x.element < y.element →
    slice_get r h.position ≡ Some y → by_moment x y ≡ Less
from_later x y r h is from below there =
    earlier_element x y (let P : Option ℕ → Type 0 = λ o. MatchOption o (Unit {0}) (λ t. x.stamp ≤ t) in
    subst P (head_stamp r h y is there) from) below

-- the records after that of the event
ahead_from : (done : List EventView) (x : EventView) (rs : List (List EventView)) (hs : List Head)
    → IsStrictlySortedBy by_moment (done ++ x ∷ []) →
    AreHeads rs hs → AllByRecursion (IsFrom x.stamp) hs → IsBelow rs x
    → AreAhead done (lefts rs hs) → AreAhead (done ++ x ∷ []) (lefts rs hs)
ahead_from done x [] hs to_x are from below old = tt
ahead_from done x (r ∷ rs) [] to_x are from below old = tt
ahead_from done x (r ∷ rs) (h ∷ hs) to_x are from below old = (
  ahead_one done x r h.position to_x (λ y there. from_later x y r h are.0 from.0
      (each-get (λ (z : EventView). x.element < z.element) r h.position y below.0 there) there) old.0,
  ahead_from done x rs hs to_x are.1 from.1 below.1 old.1,
)

-- a merged event before what is left of its own record
here_ahead : (done : List EventView) (x : EventView) (r : List EventView) (p : ℕ) → slice_get r p ≡ Some x
    → IsStrictlySortedBy by_moment (done ++ drop p r) →
    IsStrictlySortedBy by_moment ((done ++ x ∷ []) ++ drop (p + 1) r)
here_ahead done x r p there old =
    let P : List EventView → Type 0 = λ l. IsStrictlySortedBy by_moment l in
    subst P (ap (λ l. done ++ l) (drop_at r p x there) ∙ sym (append_assoc done (x ∷ []) (drop (p + 1) r))) old

-- what is left of the record at an index, after what is merged
ahead_get : (done : List EventView) (rs : List (List EventView)) (hs : List Head) (k : ℕ) (r : List EventView)
    (h : Head) → AreHeads rs hs →
    slice_get rs k ≡ Some r → slice_get hs k ≡ Some h → AreAhead done (lefts rs hs)
    → IsStrictlySortedBy by_moment (done ++ drop h.position r)
ahead_get done [] hs k r h are at_r at_h old = cc
ahead_get done (q ∷ rs) [] k r h are at_r at_h old = cc
ahead_get done (q ∷ rs) (g ∷ hs) zero r h are at_r at_h old =
    let same_r : q ≡ r = cc in
    let same_h : g ≡ h = cc in
    let P : List EventView → Type 0 = λ l. IsStrictlySortedBy by_moment (done ++ l) in
    subst P (ap (λ f. drop f.position q) same_h ∙ ap (drop h.position) same_r) old.0
ahead_get done (q ∷ rs) (g ∷ hs) (suc k) r h are at_r at_h old = ahead_get done rs hs k r h are.1 at_r at_h old.1

-- the records before that of the event, its own, and those after it
ahead_taken : (done : List EventView) (x : EventView) (rs : List (List EventView)) (hs : List Head) (k : ℕ)
    (r : List EventView) (h : Head) →
    IsStrictlySortedBy by_moment ((done ++ x ∷ []) ++ drop (h.position + 1) r) → AreRecords rs → AreHeads rs hs
    → IsEarliest hs x.stamp k →
    slice_get rs k ≡ Some r → slice_get hs k ≡ Some h → slice_get r h.position ≡ Some x
    → AreAhead done (lefts rs hs) → AreAhead (done ++ x ∷ []) (lefts rs (set hs k (head_of r (h.position + 1))))
ahead_taken done x [] hs k r h here records are is at_r at_h there old = tt
ahead_taken done x (q ∷ rs) [] k r h here records are is at_r at_h there old = absurd are
ahead_taken done x (q ∷ rs) (g ∷ hs) zero r h here records are is at_r at_h there old =
    let same_r : r ≡ q = cc in
    let P : List EventView → Type 0 = λ l. IsStrictlySortedBy by_moment ((done ++ x ∷ []) ++ drop (h.position + 1) l) in
    let below =
    each-get (IsBelow rs) q h.position x records.1 (ap (λ l. slice_get l h.position) (sym same_r) ∙ there) in (
      subst P same_r here,
      ahead_from done x rs hs (sorted-front by_moment (done ++ x ∷ []) _ here) are.1 is.1 below old.1,
    )
ahead_taken done x (q ∷ rs) (g ∷ hs) (suc k) r h here records are is at_r at_h there old = (
  ahead_one done x q g.position (sorted-front by_moment (done ++ x ∷ []) _ here)
      (λ y next. after_later x y q g are.0 is.0 next) old.0,
  ahead_taken done x rs hs k r h here records.2 are.1 is.1 at_r at_h there old.1,
)

-- a merge of records that has come so far
pub record IsMerging (rs : List (List EventView)) (hs : List Head) (ps : List Place) : Type 0 where
  pub heads : AreHeads rs hs
  pub places : AllByRecursion (IsPlace rs) ps
  pub all : IsPermutation (flat_map (λ r. r) rs) (events_at rs ps ++ flat_map (λ r. r) (lefts rs hs))
  pub sorted : IsStrictlySortedBy by_moment (events_at rs ps)
  pub ahead : AreAhead (events_at rs ps) (lefts rs hs)

-- the earliest head's event is merged next
pub IsMerging-next : (rs : List (List EventView)) (hs : List Head) (ps : List Place) (s k : ℕ) (r : List EventView)
    (h : Head) → AreRecords rs →
    IsMerging rs hs ps → IsEarliest hs s k → slice_get rs k ≡ Some r → slice_get hs k ≡ Some h
    → IsMerging rs (set hs k (head_of r (h.position + 1))) (ps ++ record { index = k; position = h.position } ∷ [])
IsMerging-next rs hs ps s k r h records old is at_r at_h =
    let event = picked rs hs s k r h old.heads is at_r at_h in
    let x : EventView = event.0 in
    let place : Place = record { index = k; position = h.position } in
    let there : event_at_place rs place ≡ Some x = ap (option_and_then (λ l. slice_get l h.position)) at_r ∙ event.1 in
    let more = events_at-push rs ps place x there in
    let here =
    here_ahead (events_at rs ps) x r h.position event.1
    (ahead_get (events_at rs ps) rs hs k r h old.heads at_r at_h old.ahead) in
    let first = subst (λ t. IsEarliest hs t k) (sym event.2) is in
    record {
      heads = heads_set rs hs k (h.position + 1) r old.heads at_r;
      places = each-append (IsPlace rs) ps (place ∷ []) old.places ((x, there), tt);
      all =
          let P : List EventView → Type 0 = λ l. IsPermutation (flat_map (λ r. r) rs)
          (l ++ flat_map (λ r. r) (lefts rs (set hs k (head_of r (h.position + 1))))) in
          subst P (sym more)
          (IsPermutation-pop_more _ (events_at rs ps) _ _ x old.all
          (left_taken rs hs k r h x old.heads at_r at_h event.1));
      sorted = subst (IsStrictlySortedBy by_moment) (sym more)
          (sorted-front by_moment (events_at rs ps ++ x ∷ []) _ here);
      ahead =
          let P : List EventView → Type 0 = λ l. AreAhead l (lefts rs (set hs k (head_of r (h.position + 1)))) in
          subst P (sym more)
          (ahead_taken (events_at rs ps) x rs hs k r h here records old.heads first at_r at_h event.1 old.ahead);
    }

-- what is left gets less
pub fewer_left : (rs : List (List EventView)) (hs : List Head) (s k : ℕ) (r : List EventView) (h : Head)
    → AreHeads rs hs → IsEarliest hs s k →
    slice_get rs k ≡ Some r → slice_get hs k ≡ Some h
    → length (flat_map (λ l. l) (lefts rs (set hs k (head_of r (h.position + 1))))) < length
    (flat_map (λ l. l) (lefts rs hs))
fewer_left rs hs s k r h are is at_r at_h =
    let event = picked rs hs s k r h are is at_r at_h in
    omega (arith, length_permutation _ _ (left_taken rs hs k r h event.0 are at_r at_h event.1))

-- before the merge
heads_start : (rs : List (List EventView)) → AreHeads rs (map (λ r. head_of r 0) rs)
heads_start [] = tt
heads_start (r ∷ rs) = (refl, heads_start rs)

lefts_start : (rs : List (List EventView)) → lefts rs (map (λ r. head_of r 0) rs) ≡ rs
lefts_start [] = refl
lefts_start (r ∷ rs) = ap (λ l. r ∷ l) (lefts_start rs)

sorted_records : (rs : List (List EventView)) → AreRecords rs → AreAhead [] rs
sorted_records [] are = tt
sorted_records (r ∷ rs) are = (are.0, sorted_records rs are.2)

pub IsMerging-start : (rs : List (List EventView)) → AreRecords rs → IsMerging rs (map (λ r. head_of r 0) rs) []
unfolding IsStrictlySortedBy
IsMerging-start rs are = record {
  heads = heads_start rs;
  places = tt;
  all = rw (lefts_start rs) (IsPermutation-refl (flat_map (λ r. r) rs));
  sorted = tt;
  ahead = let P : List (List EventView) → Type 0 =
      λ l. AreAhead [] l in subst P (sym (lefts_start rs)) (sorted_records rs are);
}

-- after the merge
lefts_end : (rs : List (List EventView)) (hs : List Head) → AreHeads rs hs → AreMerged hs
    → flat_map (λ l. l) (lefts rs hs) ≡ []
lefts_end [] hs are none = refl
lefts_end (r ∷ rs) [] are none = refl
lefts_end (r ∷ rs) (h ∷ hs) are none =
    let nothing : slice_get r h.position ≡ None =
    at (slice_get r h.position) refl (sym (ap (λ g. g.stamp) are.0) ∙ none.0) in
    rw (drop_none r h.position nothing) (lefts_end rs hs are.1 none.1)
  where
    at : (o : Option EventView) → slice_get r h.position ≡ o → option_map (λ e. e.stamp) o ≡ None
        → slice_get r h.position ≡ None
    at None e f = e
    at (Some x) e f = cc

pub IsMerging-end : (rs : List (List EventView)) (hs : List Head) (ps : List Place) → IsMerging rs hs ps → AreMerged hs
    → IsMerge rs ps
IsMerging-end rs hs ps merging none =
    let P : List EventView → Type 0 = λ l. IsPermutation (flat_map (λ r. r) rs) (events_at rs ps ++ l) in
    record {
      places = merging.places;
      all = subst (IsPermutation (flat_map (λ r. r) rs)) (append-nil (events_at rs ps))
          (subst P (lefts_end rs hs merging.heads none) merging.all);
      sorted = merging.sorted;
    }

-- a place names a record and an event of it
pub place_record : (rs : List (List EventView)) (p : Place) → IsPlace rs p → p.index < length rs
place_record rs p is = at (slice_get rs p.index) refl is.1
  where
    at : (o : Option (List EventView)) → slice_get rs p.index ≡ o
        → option_and_then (λ r. slice_get r p.position) o ≡ Some is.0 → p.index < length rs
    at None e f = cc
    at (Some r) e f = slice_get_within rs p.index r e

-- the record of a place has an event at its position
pub place_event : (rs : List (List EventView)) (p : Place) (r : List EventView) → IsPlace rs p
    → slice_get rs p.index ≡ Some r → p.position < length r
place_event rs p r is there =
    slice_get_within r p.position is.0 (sym (ap (option_and_then (λ l. slice_get l p.position)) there) ∙ is.1)

-- a position of the merged list is one of the list of places
pub place_there : (rs : List (List EventView)) (ps : List Place) (k : ℕ) (p : Place) → AllByRecursion (IsPlace rs) ps
    → k < length (events_at rs ps) →
    p ≡ get_or ps k p → slice_get ps k ≡ Some p
place_there rs ps k p are below is =
    slice_get_read ps (length (events_at rs ps)) k p (length-events_at rs ps are) below is

-- the event there is that of the place
pub event_there : (rs : List (List EventView)) (ps : List Place) (k : ℕ) (p : Place) (r : List EventView)
    → AllByRecursion (IsPlace rs) ps →
    slice_get ps k ≡ Some p → slice_get rs p.index ≡ Some r → slice_get (events_at rs ps) k ≡ slice_get r p.position
event_there rs ps k p r are is there =
    events_at-get rs ps k p are is ∙ ap (option_and_then (λ l. slice_get l p.position)) there

-- one more record
pub joined-push : (rs : List (List EventView)) (r : List EventView)
    → flat_map (λ l. l) (rs ++ r ∷ []) ≡ flat_map (λ l. l) rs ++ r
joined-push [] r = append-nil r
joined-push (q ∷ rs) r = ap (λ l. q ++ l) (joined-push rs r) ∙ sym (append_assoc q (flat_map (λ l. l) rs) r)

-- the first of the heads with the least stamp, so far
abbrev pub IsCandidate : List Head → Option Candidate → Type 0
IsCandidate hs first = MatchOption first (AreMerged hs) (λ c. IsEarliest hs c.stamp c.index)

after_lower : (s t : ℕ) (o : Option ℕ) → s < t → MatchOption o (Unit {0}) (λ u. t ≤ u)
    → MatchOption o (Unit {0}) (λ u. s < u)
after_lower s t None lt le = tt
after_lower s t (Some u) lt le = omega arith

from_after : (t : ℕ) (o : Option ℕ) → MatchOption o (Unit {0}) (λ u. t < u) → MatchOption o (Unit {0}) (λ u. t ≤ u)
from_after t None lt = tt
from_after t (Some u) lt = omega arith

-- a stamp below the least one is below all
after_earliest : (hs : List Head) (s t k : ℕ) → s < t → IsEarliest hs t k → AllByRecursion (IsAfter s) hs
after_earliest [] s t k lt is = tt
after_earliest (h ∷ hs) s t zero lt is =
    let P : Option ℕ → Type 0 = λ o. MatchOption o (Unit {0}) (λ u. s < u) in
    (subst P (sym is.0) lt, each-weaker (IsFrom t) (IsAfter s) (λ g from. after_lower s t g.stamp lt from) hs is.1)
after_earliest (h ∷ hs) s t (suc k) lt is =
    (after_lower s t h.stamp lt (from_after t h.stamp is.0), after_earliest hs s t k lt is.1)

after_merged : (hs : List Head) (s : ℕ) → AreMerged hs → AllByRecursion (IsAfter s) hs
after_merged hs s none =
    let P : Option ℕ → Type 0 = λ o. MatchOption o (Unit {0}) (λ u. s < u) in
    each-weaker (λ h. h.stamp ≡ None) (IsAfter s) (λ h is. subst P (sym is) tt) hs none

-- one more head, which is no earlier, or which is the earliest
earliest_stays : (hs : List Head) (h : Head) (s k : ℕ) → IsEarliest hs s k → IsFrom s h → IsEarliest (hs ++ h ∷ []) s k
earliest_stays [] h s k is from = absurd is
earliest_stays (g ∷ hs) h s zero is from = (is.0, each-append (IsFrom s) hs (h ∷ []) is.1 (from, tt))
earliest_stays (g ∷ hs) h s (suc k) is from = (is.0, earliest_stays hs h s k is.1 from)

earliest_new : (hs : List Head) (h : Head) (s : ℕ) → AllByRecursion (IsAfter s) hs → h.stamp ≡ Some s
    → IsEarliest (hs ++ h ∷ []) s (length hs)
earliest_new [] h s after is = (is, tt)
earliest_new (g ∷ hs) h s after is = (after.0, earliest_new hs h s after.1 is)

pub IsCandidate-push : (hs : List Head) (first : Option Candidate) (h : Head) → IsCandidate hs first →
    IsCandidate (hs ++ h ∷ []) (earlier_of first (length hs) h.stamp)
IsCandidate-push hs first h old = at first h.stamp refl old
  where
    choose : (c : Candidate) (s : ℕ) (b : Bool) → nat_lt s c.stamp ≡ b → h.stamp ≡ Some s
        → IsEarliest hs c.stamp c.index →
        IsCandidate (hs ++ h ∷ []) (cond b (Some (record { index = length hs; stamp = s })) (Some c))
    choose c s true lt is best =
        earliest_new hs h s (after_earliest hs s c.stamp c.index (grind (arith, nat_tests)) best) is
    choose c s false ge is best =
        let le : c.stamp ≤ s = grind (arith, nat_tests) in
        let P : Option ℕ → Type 0 = λ o. MatchOption o (Unit {0}) (λ u. c.stamp ≤ u) in
        earliest_stays hs h c.stamp c.index best (subst P (sym is) le)

    at : (f : Option Candidate) (o : Option ℕ) → h.stamp ≡ o → IsCandidate hs f
        → IsCandidate (hs ++ h ∷ []) (earlier_of f (length hs) o)
    at None None is best = each-append (λ g. g.stamp ≡ None) hs (h ∷ []) best (is, tt)
    at None (Some s) is best = earliest_new hs h s (after_merged hs s best) is
    at (Some c) None is best =
        let P : Option ℕ → Type 0 = λ o. MatchOption o (Unit {0}) (λ u. c.stamp ≤ u) in
        earliest_stays hs h c.stamp c.index best (subst P (sym is) tt)
    at (Some c) (Some s) is best = choose c s (nat_lt s c.stamp) refl is best

-- the records of elements, joined
pub joined_map : (es : List ElementView)
    → flat_map (λ r. r) (map (λ e. e.state.events) es) ≡ flat_map (λ e. e.state.events) es
joined_map [] = refl
joined_map (e ∷ es) = ap (λ l. e.state.events ++ l) (joined_map es)

-- where the heads stand: each index of a head is one of a record
pub earliest_within : (rs : List (List EventView)) (hs seen : List Head) (ps : List Place) (k : ℕ) → IsMerging rs hs ps
    → seen ≡ hs →
    (s : ℕ) × IsEarliest seen s k → (k < length hs) × (k < length rs)
earliest_within rs hs seen ps k merging same is =
    let within = subst (λ l. k < length l) same (within_heads seen is.0 k is.1) in
    (within, omega (arith, length_heads rs hs merging.heads))

-- one turn of the merge, as the code says it
pub merging_turn : (rs : List (List EventView)) (hs seen : List Head) (ps : List Place) (k : ℕ) (r : List EventView)
    (h : Head) → AreRecords rs →
    IsMerging rs hs ps → seen ≡ hs → (s : ℕ) × IsEarliest seen s k → r ≡ get_or rs k r → h ≡ get_or hs k h
    → IsMerging rs (set hs k (head_of r (h.position + 1))) (ps ++ record { index = k; position = h.position } ∷ [])
merging_turn rs hs seen ps k r h records merging same is at_r at_h =
    let within = earliest_within rs hs seen ps k merging same is in
    let first = subst (λ l. IsEarliest l is.0 k) same is.1 in
    IsMerging-next rs hs ps is.0 k r h records merging first (slice_get_read rs _ k r refl within.1 at_r)
    (slice_get_read hs _ k h refl within.0 at_h)

-- the record has an event at its head
pub turn_event : (rs : List (List EventView)) (hs seen : List Head) (ps : List Place) (k : ℕ) (r : List EventView)
    (h : Head) → IsMerging rs hs ps →
    seen ≡ hs → (s : ℕ) × IsEarliest seen s k → r ≡ get_or rs k r → h ≡ get_or hs k h → h.position < length r
turn_event rs hs seen ps k r h merging same is at_r at_h =
    let within = earliest_within rs hs seen ps k merging same is in
    let first = subst (λ l. IsEarliest l is.0 k) same is.1 in
    let event =
    picked rs hs is.0 k r h merging.heads first (slice_get_read rs _ k r refl within.1 at_r)
    (slice_get_read hs _ k h refl within.0 at_h) in
    slice_get_within r h.position event.0 event.1

-- and less is left
pub turn_smaller : (rs : List (List EventView)) (hs seen : List Head) (ps : List Place) (k : ℕ) (r : List EventView)
    (h : Head) → IsMerging rs hs ps →
    seen ≡ hs → (s : ℕ) × IsEarliest seen s k → r ≡ get_or rs k r → h ≡ get_or hs k h
    → length (flat_map (λ l. l) (lefts rs (set hs k (head_of r (h.position + 1))))) < length
    (flat_map (λ l. l) (lefts rs hs))
turn_smaller rs hs seen ps k r h merging same is at_r at_h =
    let within = earliest_within rs hs seen ps k merging same is in
    let first = subst (λ l. IsEarliest l is.0 k) same is.1 in
    fewer_left rs hs is.0 k r h merging.heads first (slice_get_read rs _ k r refl within.1 at_r)
    (slice_get_read hs _ k h refl within.0 at_h)
