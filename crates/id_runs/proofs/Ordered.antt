-- Lists in strict order: where no two items of a list tie, there is one of them, and what a test picks of it is what
-- the
-- test picks of the list itself, where that is in order already.
use Rattle.std.proofs.Common.{◌≡◌, Bool, true, false, cond, filter, List, [], ◌∷◌, ◌++◌, refl, sym, ap, subst, ◌∙◌}
use Rattle.std.specs.Cmp.{IsTotalOrder}
use Rattle.std.specs.List.{AllByRecursion}
use Rattle.std.specs.List.Sorted.{IsPermutation, IsStrictlySortedBy}
use Rattle.std.specs.Ordering.{ordering_reverse}
use Rattle.std.specs.declared.cmp.Ordering.{Ordering}
use Rattle.std.specs.declared.cmp.Ordering.TheVariants.{Less, Equal, Greater}
use Rattle.std.proofs.lemmas.List.Elements.{recursion_from_All, All-from_recursion}
use Rattle.std.proofs.lemmas.List.Sorted.{All-permutation, IsPermutation-refl, IsPermutation-trans}
use Rattle.std.proofs.lemmas.List.Sorted.{IsPermutation-cons, IsPermutation-middle}
use Rattle.id_record.proofs.EachLemmas.{each-append, each-weaker}
use Rattle.id_observe.proofs.OrderedLemmas.{one_order}

module _ {X : Type 0} where
  -- what is so of each item of a list is so of each of another order of it
  pub each-permutation : (P : X → Type 0) (xs ys : List X) → IsPermutation xs ys → AllByRecursion P xs
      → AllByRecursion P ys
  each-permutation P xs ys h all =
      recursion_from_All P ys (All-permutation P xs ys h (All-from_recursion P xs all))

  -- what a test picks
  module _ (p : X → Bool) where
    pub filter-pass : (x : X) (xs : List X) → p x ≡ true → filter p (x ∷ xs) ≡ x ∷ filter p xs
    filter-pass x xs is = ap (λ b. cond b (x ∷ filter p xs) (filter p xs)) is

    pub filter-fail : (x : X) (xs : List X) → p x ≡ false → filter p (x ∷ xs) ≡ filter p xs
    filter-fail x xs is = ap (λ b. cond b (x ∷ filter p xs) (filter p xs)) is

    pub all-pass : (xs : List X) → AllByRecursion (λ x. p x ≡ true) xs → filter p xs ≡ xs
    all-pass [] all = refl
    all-pass (x ∷ xs) all = filter-pass x xs all.0 ∙ ap (λ ys. x ∷ ys) (all-pass xs all.1)

    pub none-passes : (xs : List X) → AllByRecursion (λ x. p x ≡ false) xs → filter p xs ≡ []
    none-passes [] all = refl
    none-passes (x ∷ xs) all = filter-fail x xs all.0 ∙ none-passes xs all.1

    pub filter-both : (xs ys : List X) → filter p (xs ++ ys) ≡ filter p xs ++ filter p ys
    filter-both [] ys = refl
    filter-both (x ∷ xs) ys = go (p x) (filter-both xs ys)
      where
        go : (b : Bool) → filter p (xs ++ ys) ≡ filter p xs ++ filter p ys
            → cond b (x ∷ filter p (xs ++ ys)) (filter p (xs ++ ys)) ≡ cond b (x ∷ filter p xs) (filter p xs)
            ++ filter p ys
        go true more = ap (λ zs. x ∷ zs) more
        go false more = more

  module _ {R : X → X → Ordering} (o : IsTotalOrder R) where
    -- the item is below each of these
    abbrev IsFirst : X → List X → Type 0
    IsFirst x ys = AllByRecursion (λ y. R x y ≡ Less) ys

    -- no two of the list tie
    abbrev pub AreApart : List X → Type 0
    AreApart [] = Unit {0}
    AreApart (x ∷ xs) = AllByRecursion (λ y. R x y ≡ Equal → ⊥) xs × AreApart xs

    pub apart-both : (xs ys : List X) → AreApart xs → AreApart ys
        → AllByRecursion (λ x. AllByRecursion (λ y. R x y ≡ Equal → ⊥) ys) xs → AreApart (xs ++ ys)
    apart-both [] ys a b c = b
    apart-both (x ∷ xs) ys a b c = (each-append (λ y. R x y ≡ Equal → ⊥) xs ys a.0 c.0, apart-both xs ys a.1 b c.1)

    -- what is in order is apart
    pub apart-sorted : (xs : List X) → IsStrictlySortedBy R xs → AreApart xs
    unfolding IsStrictlySortedBy
    apart-sorted [] s = tt
    apart-sorted (x ∷ xs) s = (
      each-weaker (λ y. R x y ≡ Less) (λ y. R x y ≡ Equal → ⊥) (λ y less equal. absurd cc) xs s.0,
      apart-sorted xs s.1,
    )

    -- ---- one more item

    -- the list in order with one more item: what a test picks of it begins with that item, if that is below what the
    -- test
    -- picks of the others
    record Put (x : X) (ys : List X) : Type 0 where
      list : List X
      all : IsPermutation (x ∷ ys) list
      sorted : IsStrictlySortedBy R list
      picks : (p : X → Bool) → (p x ≡ true → IsFirst x (filter p ys)) → filter p list ≡ filter p (x ∷ ys)

    reversed : (a b : Ordering) → a ≡ ordering_reverse b → a ≡ Greater → b ≡ Less
    reversed a Less h k = refl
    reversed a Equal h k = cc
    reversed a Greater h k = cc

    -- where the item goes behind the first of the others
    picks-behind : (p : X → Bool) (x y : X) (ys zs : List X) → R x y ≡ Greater
        → ((p x ≡ true → IsFirst x (filter p ys)) → filter p zs ≡ filter p (x ∷ ys))
        → (p x ≡ true → IsFirst x (filter p (y ∷ ys))) → filter p (y ∷ zs) ≡ filter p (x ∷ y ∷ ys)
    picks-behind p x y ys zs greater more first = go (p x) (p y) refl refl
      where
        go : (a b : Bool) → p x ≡ a → p y ≡ b → filter p (y ∷ zs) ≡ filter p (x ∷ y ∷ ys)
        go true true at_x at_y =
            absurd (let less = (subst (IsFirst x) (filter-pass p y ys at_y) (first at_x)).0 in cc)
        go false true at_x at_y =
            filter-pass p y zs at_y
            ∙ ap (λ ws. y ∷ ws) (more (λ is. absurd cc) ∙ filter-fail p x ys at_x)
            ∙ sym (filter-fail p x (y ∷ ys) at_x ∙ filter-pass p y ys at_y)
        go a false at_x at_y =
            let gone = filter-fail p y ys at_y in
            filter-fail p y zs at_y ∙ more (λ is. subst (IsFirst x) gone (first is))
            ∙ ap (λ ws. cond (p x) (x ∷ ws) ws) (sym gone)

    put-in : (x : X) (ys : List X) → IsStrictlySortedBy R ys → AllByRecursion (λ y. R x y ≡ Equal → ⊥) ys → Put x ys
    unfolding IsStrictlySortedBy
    put-in x [] s apart = record {
      list = x ∷ [];
      all = IsPermutation-refl (x ∷ []);
      sorted = (tt, tt);
      picks = λ p first. refl;
    }
    put-in x (y ∷ ys) s apart = go (R x y) refl (put-in x ys s.1 apart.1)
      where
        go : (a : Ordering) → R x y ≡ a → Put x ys → Put x (y ∷ ys)
        go Less is more = record {
          list = x ∷ y ∷ ys;
          all = IsPermutation-refl (x ∷ y ∷ ys);
          sorted = ((is, each-weaker (λ z. R y z ≡ Less) (λ z. R x z ≡ Less) (λ z m. o.trans x y z is m) ys s.0), s);
          picks = λ p first. refl;
        }
        go Equal is more = absurd (apart.0 is)
        go Greater is more =
            let less : R y x ≡ Less = reversed (R x y) (R y x) (o.antisymm x y) is in
            record {
              list = y ∷ more.list;
              all = IsPermutation-trans (x ∷ y ∷ ys) (y ∷ x ∷ ys) (y ∷ more.list) (IsPermutation-middle (x ∷ []) y ys)
                  (IsPermutation-cons y (x ∷ ys) more.list more.all);
              sorted = (each-permutation (λ z. R y z ≡ Less) (x ∷ ys) more.list more.all (less, s.0), more.sorted);
              picks = λ p first. picks-behind p x y ys more.list is (more.picks p) first;
            }

    -- ---- all items

    -- the list in order: what a test picks of it is what it picks of the list itself, where that is in order already
    pub record Sorting (xs : List X) : Type 0 where
      pub list : List X
      pub all : IsPermutation xs list
      pub sorted : IsStrictlySortedBy R list
      pub picks : (p : X → Bool) → IsStrictlySortedBy R (filter p xs) → filter p list ≡ filter p xs

    picked-first : (p : X → Bool) (x : X) (xs : List X) → p x ≡ true → IsStrictlySortedBy R (filter p (x ∷ xs))
        → IsFirst x (filter p xs)
    unfolding IsStrictlySortedBy
    picked-first p x xs is s = (subst (IsStrictlySortedBy R) (filter-pass p x xs is) s).0

    picked-rest : (p : X → Bool) (x : X) (xs : List X) → IsStrictlySortedBy R (filter p (x ∷ xs))
        → IsStrictlySortedBy R (filter p xs)
    unfolding IsStrictlySortedBy
    picked-rest p x xs s = go (p x) refl
      where
        go : (b : Bool) → p x ≡ b → IsStrictlySortedBy R (filter p xs)
        go true is = (subst (IsStrictlySortedBy R) (filter-pass p x xs is) s).1
        go false is = subst (IsStrictlySortedBy R) (filter-fail p x xs is) s

    pub sorting : (xs : List X) → AreApart xs → Sorting xs
    unfolding IsStrictlySortedBy
    sorting [] apart = record { list = []; all = IsPermutation-refl []; sorted = tt; picks = λ p s. refl }
    sorting (x ∷ xs) apart =
        let rest = sorting xs apart.1 in
        let more =
        put-in x rest.list rest.sorted (each-permutation (λ y. R x y ≡ Equal → ⊥) xs rest.list rest.all apart.0) in
        record {
          list = more.list;
          all = IsPermutation-trans (x ∷ xs) (x ∷ rest.list) more.list (IsPermutation-cons x xs rest.list rest.all)
              more.all;
          sorted = more.sorted;
          picks = λ p s.
              let same = rest.picks p (picked-rest p x xs s) in
              more.picks p (λ is. subst (IsFirst x) (sym same) (picked-first p x xs is s))
              ∙ ap (λ ws. cond (p x) (x ∷ ws) ws) same;
        }

    -- a list has one order
    pub picked : (p : X → Bool) (xs ys : List X) → AreApart xs → IsPermutation xs ys → IsStrictlySortedBy R ys
        → IsStrictlySortedBy R (filter p xs) → filter p ys ≡ filter p xs
    picked p xs ys apart all s t =
        let one = sorting xs apart in
        ap (filter p) (one_order o xs ys one.list all one.all s one.sorted) ∙ one.picks p t
