-- Messages in some order: what is taken out, and what is among them.
use Rattle.std.proofs.Common.{◌≡◌, ℕ, Some, List, ◌∷◌, ◌++◌, slice_get, get_or, swap_remove, sym, ap, ◌∙◌, subst, arith}
use Rattle.std.proofs.lemmas.List.Sums.{sum_by-append, sum_by-cons, sum_by-swap_remove}
use Rattle.std.proofs.lemmas.Option.{get_or_from_slice_get, slice_get_within}
use Rattle.id_value.specs.List.{Among}
use Rattle.id_tag.specs.declared.Message.{Message}
use Rattle.id_step.specs.Codes.{coded_message}
use Rattle.id_runs.specs.Legal.{InSomeOrder}
use Rattle.id_runs.proofs.Weights.{Tells, among_weight, in_some_order, is, tells, weighs, weight_among}

t : Tells Message
t = tells coded_message

-- a message that is taken out, and what is left then
pub taken_out : (ms : List Message) (k : ℕ) (m : Message) → slice_get ms k ≡ Some m
    → InSomeOrder ms (m ∷ swap_remove ms k m)
taken_out ms k m at = in_some_order t ms (m ∷ swap_remove ms k m) (λ f.
    let there : get_or ms k m ≡ m = get_or_from_slice_get ms k m m at in
    let sum = sum_by-swap_remove f ms k m (slice_get_within ms k m at) in
    let here : f (get_or ms k m) ≡ f m = ap f there in
    omega (arith, sum, here, sum_by-cons f m (swap_remove ms k m)))

pub taken_first : (ms left : List Message) (k : ℕ) (x m : Message) → x ≡ get_or ms k x → left ≡ swap_remove ms k x
    → slice_get ms k ≡ Some m → InSomeOrder ms (m ∷ left)
taken_first ms left k x m is out at =
    let same : x ≡ m = is ∙ get_or_from_slice_get ms k m x at in
    subst (λ (l : List Message). InSomeOrder ms (m ∷ l)) (sym (out ∙ ap (swap_remove ms k) same)) (taken_out ms k m at)

-- two lists with the same first item have the same others
pub same_others : (m : Message) (xs ys : List Message) → InSomeOrder (m ∷ xs) (m ∷ ys) → InSomeOrder xs ys
same_others m xs ys h =
    in_some_order t xs ys (λ f. let w = weighs f h in omega (arith, w, sum_by-cons f m xs, sum_by-cons f m ys))

-- with as many more in both
pub with_more : (xs ys zs : List Message) → InSomeOrder xs ys → InSomeOrder (xs ++ zs) (ys ++ zs)
with_more xs ys zs h =
    in_some_order t (xs ++ zs) (ys ++ zs) (λ f. let w = weighs f h in
    omega (arith, w, sum_by-append f xs zs, sum_by-append f ys zs))

pub other_order : (xs ys : List Message) → InSomeOrder xs ys → InSomeOrder ys xs
other_order xs ys h = in_some_order t ys xs (λ f. sym (weighs f h))

-- what is among the one is among the other
pub also_among : (m : Message) (xs ys : List Message) → InSomeOrder xs ys → Among m xs → Among m ys
also_among m xs ys h a =
    among_weight t m ys (let w = weighs (is t m) h in let s = weight_among t m xs a in omega (arith, w, s))
