-- The names of a report of a sound run (specs/Reports.antt).
use Rattle.std.proofs.Common.{◌≡◌, inl, inr, ℕ, List, [], ◌∷◌, map, sym, ap, subst, ◌∙◌}
use Rattle.std.specs.Prelude.{IsPermutation}
use Rattle.std.proofs.lemmas.List.Sorted.{All-permutation, IsPermutation-sym}
use Rattle.id_instr.specs.Graph.{Parts}
use Rattle.id_source.specs.declared.NameValue.{NameValue}
use Rattle.id_value.specs.List.{Among, AllDiffer}
use Rattle.id_source.specs.Sources.{Source}
use Rattle.id_source.specs.Names.{AreNames, AreSomeNames}
use Rattle.id_source.specs.Orders.{NamesRise}
use Rattle.id_source.specs.Facts.{site}
use Rattle.id_core.specs.Machines.{World}
use Rattle.id_core.specs.Observed as shown
use Rattle.id_laws.specs.Laws.{IsSound, IsComplete}
use Rattle.id_laws.proofs.Validity.ValidCounts.{all_among}
use Rattle.id_print.specs.Names.{IsSortedOf, AreApart}
use Rattle.id_compile.proofs.InsideLemmas.{among_all}

-- what is among a list is among those in another order
pub among_permuted : {X : Type 0} (xs ys : List X) (x : X) → IsPermutation xs ys → Among x xs → Among x ys
among_permuted xs ys x s h = among_all (λ z. Among z ys) xs x
    (All-permutation (λ z. Among z ys) ys xs (IsPermutation-sym xs ys s) (all_among (λ z. Among z ys) ys (λ z k. k))) h

pub among_sorted : {X : Type 0} (xs ys : List X) (x : X) → IsPermutation xs ys → Among x ys → Among x xs
among_sorted xs ys x s h =
    among_all (λ z. Among z xs) ys x
    (All-permutation (λ z. Among z xs) xs ys s (all_among (λ z. Among z xs) xs (λ z k. k))) h

-- what is among things comes, by a function, among what the function makes of them
pub among_map : {A B : Type 0} (f : A → B) (xs : List A) (x : A) → Among x xs → Among (f x) (map f xs)
among_map f [] x h = absurd h
among_map f (y ∷ ys) x (inl e) = inl (ap f e)
among_map f (y ∷ ys) x (inr h) = inr (among_map f ys x h)

-- what differs after a function differs
pub differ_by : {A B : Type 0} (f : A → B) (xs : List A) → AllDiffer (map f xs) → AllDiffer xs
differ_by f [] h = tt
differ_by f (x ∷ xs) h = (λ k. h.0 (among_map f xs x k), differ_by f xs h.1)

-- of things that differ after a function two that it makes one are one
pub one_by : {A B : Type 0} (f : A → B) (xs : List A) → AllDiffer (map f xs) → (x y : A) → Among x xs → Among y xs
    → f x ≡ f y → x ≡ y
one_by f [] h x y a b e = absurd a
one_by f (z ∷ zs) h x y (inl a) (inl b) e = a ∙ sym b
one_by {B = B} f (z ∷ zs) h x y (inl a) (inr b) e =
    absurd (h.0 (subst (λ (w : B). Among w (map f zs)) (sym e ∙ ap f a) (among_map f zs y b)))
one_by {B = B} f (z ∷ zs) h x y (inr a) (inl b) e =
    absurd (h.0 (subst (λ (w : B). Among w (map f zs)) (e ∙ ap f b) (among_map f zs x a)))
one_by f (z ∷ zs) h x y (inr a) (inr b) e = one_by f zs h.1 x y a b e

-- what a sound run shows of names is apart
pub AreApart-sound : (S : Source) (g : Parts) (number : ℕ → ℕ → ℕ) (w : World) → IsSound S g number w
    → AreApart (shown.names g w)
AreApart-sound S g number w s = record {
  differ = differ_by (λ n. site n.path n.place) (shown.names g w) s.names_once;
  one = λ n m h k e. one_by (λ n. site n.path n.place) (shown.names g w) s.names_once n m h k
      (λ i. site (e.0 i) (e.1 i));
}

-- what a sound run's report says of names is so
pub AreSomeNames-sound : (S : Source) (g : Parts) (number : ℕ → ℕ → ℕ) (w : World) (ns : List NameValue)
    → IsSound S g number w → IsSortedOf ns (shown.names g w) → NamesRise ns → AreSomeNames S ns
AreSomeNames-sound S g number w ns s sorted rise = record {
  only = λ n h. s.names n (among_sorted (shown.names g w) ns n sorted.same h);
  rise = rise;
}

-- where no names are asked for, none are said
pub AreSomeNames-none : (S : Source) → AreSomeNames S []
AreSomeNames-none S = record { only = λ n h. absurd h; rise = tt }

-- and all, where the run is complete
pub AreNames-complete : (S : Source) (g : Parts) (w : World) (ns : List NameValue) → AreSomeNames S ns
    → IsComplete S g w → IsSortedOf ns (shown.names g w) → AreNames S ns
AreNames-complete S g w ns some c sorted = record {
  all = λ n h. among_permuted (shown.names g w) ns n sorted.same (c.names n h);
  only = some.only;
  rise = some.rise;
}
