-- How messages move from the end of an element's own to the letters for others (specs/Passing.antt).
use Rattle.std.proofs.Common.{◌≡◌, ℕ, ◌+◌, ◌-◌, ◌<◌, List, [], ◌∷◌, ◌++◌, All, length, reverse, get_or, take, refl, sym}
use Rattle.std.proofs.Common.{ap, subst, ◌∙◌, arith, append_assoc, length-append}
use Rattle.std.specs.Prelude.{Some, slice_get, Result, Ok, Err}
use Rattle.std.specs.declared.alloc.AllocError.{AllocError}
use Rattle.std.specs.List.{sum_by}
use Rattle.std.proofs.lemmas.List.{get_or-reverse, length-reverse, length-take-le, reverse-append, take-take}
use Rattle.std.proofs.lemmas.List.Elements.{All-append, All-more, All-nil, All-push, All-take}
use Rattle.std.proofs.lemmas.List.Sorted.{IsPermutation-reverse, sum_by-IsPermutation}
use Rattle.std.proofs.lemmas.List.Sums.{sum_by-append, sum_by_push}
use Rattle.std.proofs.lemmas.Option.{get_or_from_slice_get, slice_get_within}
use Rattle.std.proofs.Math.Seq.{get_or-append_seam, take-append_seam}
use Rattle.id_instr.specs.Graph.{Parts}
use Rattle.id_tag.specs.Routes.{route_of}
use Rattle.id_tag.specs.declared.Message.{Message}
use Rattle.id_flight.specs.Queues.{QueueView}
use Rattle.id_inbox.specs.Hands.{weight_in}
use Rattle.id_step.specs.Fits.{Fits, IsFor}
use Rattle.id_step.specs.Replays.{ElementView}
use Rattle.id_elements.specs.Passing.{AreFor, AreRouted, IsGoalAt, IsLastMoved, IsLastSent, IsSentOn}

-- ---- a message of a letter

-- a message that is for the element comes behind what is for it
pub for_push : (e : ElementView) (own own' : List Message) (m : Message) → own' ≡ own ++ m ∷ []
    → route_of m.payload e.count ≡ e.number → Fits e.graph m → AreFor e own → AreFor e own'
for_push e own own' m is mine fits all =
    subst (AreFor e) (sym is)
    (All-push (IsFor e.graph e.count e.number) own m all (record { routed = mine; fits = fits }))

-- ---- lists

-- what holds of each message holds of each in the other order, and they weigh as much
pub All-reverse : (P : Message → Type 0) (ms : List Message) → All P ms → All P (reverse ms)
All-reverse P ms all k d lt =
    let le : k < length ms = omega (arith, length-reverse ms) in
    subst P (sym (get_or-reverse ms k d le)) (all (length ms - 1 - k) d (omega arith))

pub weight_reverse : (f : Message → ℕ) (ms : List Message) → sum_by f (reverse ms) ≡ sum_by f ms
weight_reverse f ms = sum_by-IsPermutation f ms (reverse ms) (IsPermutation-reverse ms)

-- the last of a list, and those before it
module _ {X : Type 0} (own own' : List X) (x : X) (is : own ≡ own' ++ x ∷ []) where
  length_last : length own ≡ length own' + 1
  length_last = ap length is ∙ length-append own' (x ∷ [])

  pub before_last : own' ≡ take (length own - 1) own
  before_last =
      let e : length own - 1 ≡ length own' = (let l = length_last in omega arith) in
      sym (ap (λ (n : ℕ). take n own) e ∙ ap (λ ms. take (length own') ms) is ∙ take-append_seam own' (x ∷ []))

  pub at_last : (k : ℕ) (m : X) → k ≡ length own - 1 → slice_get own k ≡ Some m → m ≡ x
  at_last k m last at =
      let e : k ≡ length own' = (let l = length_last in omega arith) in
      sym (get_or_from_slice_get own k m m at) ∙ ap (λ n. get_or own n m) e ∙ ap (λ ms. get_or ms (length own') m) is
      ∙ get_or-append_seam own' x [] m

  pub All-last : (P : X → Type 0) → All P own → P x
  All-last P all =
      let e : get_or own (length own') x ≡ x =
      ap (λ ms. get_or ms (length own') x) is ∙ get_or-append_seam own' x [] x in
      subst P e (all (length own') x (let l = length_last in omega arith))

-- ---- the last message is sent on

-- it was moved back: it is for the element
pub IsLastSent-back : (n count : ℕ) (own own' back back' : List Message) (ls : List QueueView) (k : ℕ)
    → count ≡ length ls → k ≡ length own - 1 → IsGoalAt count own k n → IsLastMoved own back own' back'
    → IsLastSent n own back ls own' back' ls (Ok tt)
IsLastSent-back n count own own' back back' ls k many last goal put =
    let x = put.message in
    let same : goal.message ≡ x = at_last own own' x put.from_is k goal.message last goal.there in
    let mine : route_of x.payload (length ls) ≡ n = subst (λ (c : ℕ). route_of x.payload c ≡ n) many
    (subst (λ (m : Message). route_of m.payload count ≡ n) same goal.routed) in
    record {
      weight = λ f.
          let a : sum_by f own ≡ sum_by f (own' ++ x ∷ []) = ap (sum_by f) put.from_is in
          let b : sum_by f back' ≡ sum_by f (back ++ x ∷ []) = ap (sum_by f) put.to_is in
          omega (arith, a, b, sum_by_push f own' x, sum_by_push f back x);
      count = refl;
      fits = λ g all kept. subst (All (Fits g)) (sym put.to_is)
          (All-push (Fits g) back x kept (All-last own own' x put.from_is (Fits g) all));
      routed = λ all. subst (AreRouted (length ls) n) (sym put.to_is)
          (All-push (λ m. route_of m.payload (length ls) ≡ n) back x all mine);
      moved = before_last own own' x put.from_is;
      stays = tt;
    }

-- ---- all of the last messages are

-- so many of the last have been sent on
pub record IsSending (n sent done : ℕ) (own back : List Message) (ls : List QueueView) (own' back' : List Message)
    (ls' : List QueueView) :
    Type 0 where
  pub weight : (f : Message → ℕ)
      → sum_by f own' + sum_by f back' + weight_in f ls' ≡ sum_by f own + sum_by f back + weight_in f ls
  pub count : length ls' ≡ length ls
  pub own_is : own' ≡ take (length own - done) own
  pub fits : (g : Parts) → All (Fits g) own → All (Fits g) back → All (Fits g) back'
  pub routed : AreRouted (length ls) n back → AreRouted (length ls) n back'

module _ (n sent done : ℕ) (own back : List Message) (ls : List QueueView) (own' back' : List Message)
    (ls' : List QueueView)
    (was : IsSending n sent done own back ls own' back' ls') where
  -- one more
  pub IsSending-more : (own2 back2 : List Message) (ls2 : List QueueView)
      → IsLastSent n own' back' ls' own2 back2 ls2 (Ok tt) → IsSending n sent (done + 1) own back ls own2 back2 ls2
  IsSending-more own2 back2 ls2 step = record {
    weight = λ f. step.weight f ∙ was.weight f;
    count = step.count ∙ was.count;
    own_is =
        let e : length own' - 1 ≡ length own - (done + 1) =
        (let l : length own' ≡ length (take (length own - done) own) = ap length was.own_is in
        omega (arith, l, length-take-le (length own - done) own (omega arith))) in
        step.moved ∙ ap (λ (k : ℕ). take k own') e ∙ ap (λ ms. take (length own - (done + 1)) ms) was.own_is
        ∙ take-take (length own - (done + 1)) (length own - done) own (omega arith);
    fits = λ g all kept. step.fits g
        (subst (All (Fits g)) (sym was.own_is) (All-take (Fits g) (length own - done) own all)) (was.fits g all kept);
    routed = λ all. subst (λ (c : ℕ). AreRouted c n back2) was.count
        (step.routed (subst (λ (c : ℕ). AreRouted c n back') (sym was.count) (was.routed all)));
  }

  -- what is for the element was moved back
  pub IsSentOn-sent : (own2 back2 : List Message) → done ≡ sent → own2 ≡ own' ++ reverse back' → back2 ≡ []
      → IsSentOn n sent own back ls own2 back2 ls' (Ok tt)
  IsSentOn-sent own2 back2 all own_is empty =
      let Routed : Message → Type 0 = λ m. route_of m.payload (length ls) ≡ n in
      record {
        weight = λ f.
            let a : sum_by f own2 ≡ sum_by f (own' ++ reverse back') = ap (sum_by f) own_is in
            let b : sum_by f back2 ≡ 0 = ap (sum_by f) empty in
            omega (arith, a, b, sum_by-append f own' (reverse back'), weight_reverse f back', was.weight f);
        count = was.count;
        fits = λ g fit kept. subst (All (Fits g)) (sym own_is) (All-append (Fits g) own' (reverse back')
            (subst (All (Fits g)) (sym was.own_is) (All-take (Fits g) (length own - done) own fit))
            (All-reverse (Fits g) back' (was.fits g fit kept)));
        routed = λ none there.
            let front : All Routed own' =
            subst (All Routed) (sym was.own_is)
            (subst (λ (k : ℕ). All Routed (take (length own - k) own)) (sym all) there) in
            let some : All Routed back = subst (All Routed) (sym none) (All-nil Routed) in (
              empty,
              subst (All Routed) (sym own_is)
                  (All-append Routed own' (reverse back') front (All-reverse Routed back' (was.routed some))),
            );
      }

-- those in front of these are for the element: then fewer are to be sent on
pub IsSentOn-fewer : (n sent fewer : ℕ) (own back : List Message) (ls : List QueueView) (own' back' : List Message)
    (ls' : List QueueView)
    (r : Result (Unit {0}) AllocError) → IsSentOn n fewer own back ls own' back' ls' r
    → (AreRouted (length ls) n (take (length own - sent) own) → AreRouted (length ls) n (take (length own - fewer) own))
    → IsSentOn n sent own back ls own' back' ls' r
IsSentOn-fewer n sent fewer own back ls own' back' ls' (Ok u) on front = record {
  weight = on.weight;
  count = on.count;
  fits = on.fits;
  routed = λ none there. on.routed none (front there);
}
IsSentOn-fewer n sent fewer own back ls own' back' ls' (Err e) on front = record {
  weight = on.weight;
  count = on.count;
  fits = on.fits;
  routed = tt;
}

-- ---- one after another comes back

-- the last of these goes in front of the others, behind what is there
pub last_back : (own back own' back' : List Message) → IsLastMoved back own back' own'
    → own' ++ reverse back' ≡ own ++ reverse back
last_back own back own' back' put =
    let x = put.message in
    ap (λ ms. ms ++ reverse back') put.to_is ∙ append_assoc own (x ∷ []) (reverse back')
    ∙ ap (λ ms. own ++ ms) (sym (reverse-append back' (x ∷ [])) ∙ ap reverse (sym put.from_is))

-- one more is for the element of this number
pub routed_more : (count n : ℕ) (ms : List Message) (k to : ℕ) → IsGoalAt count ms k to → to ≡ n
    → AreRouted count n (take k ms) → AreRouted count n (take (k + 1) ms)
routed_more count n ms k to goal same all =
    let m = goal.message in
    let P : Message → Type 0 = λ x. route_of x.payload count ≡ n in
    All-more P ms k m (slice_get_within ms k m goal.there) all
    (subst P (sym (get_or_from_slice_get ms k m m goal.there)) (goal.routed ∙ same))
