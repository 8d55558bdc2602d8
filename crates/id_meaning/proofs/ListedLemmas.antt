-- The list of the facts of a round has each of them once, in order.
use Rattle.std.proofs.Common.{◌≡◌, inl, inr, ℕ, zero, suc, ◌≤◌, ◌<◌, Bool as Truth, true, false, List, [], ◌∷◌, length}
use Rattle.std.proofs.Common.{get_or}
use Rattle.std.proofs.Common.{refl, ap, sym, ◌∙◌, subst, arith}
use Rattle.std.specs.Prelude.{IsPermutation, Contains}
use Rattle.std.specs.List.{IsDistinct}
use Rattle.std.proofs.lemmas.List.Sorted.{Contains-permutation, IsPermutation-sym, length_permutation}
use Rattle.std.proofs.lemmas.Map.Keys.{IsDistinct-IsPermutation, IsDistinct-from_apart}
use Rattle.std.proofs.lemmas.Map.Made.{AllPairs-from_IsDistinct}
use Rattle.id_value.specs.List.{Among}
use Rattle.id_check.specs.declared.checked.Checked.{Checked}
use Rattle.id_check.specs.Programs.{place}
use Rattle.id_source.specs.declared.Shape.{Shape as Shaped}
use Rattle.id_source.specs.declared.Put.{Put as Stored}
use Rattle.id_source.specs.declared.Ask.{Ask as Asked}
use Rattle.id_source.specs.declared.Fact.{Fact}
use Rattle.id_source.specs.declared.Fact.TheVariants as fact
use Rattle.id_facts.specs.declared.facts.Trail.{Trail}
use Rattle.id_facts.specs.declared.facts.RowFact.{RowFact}
use Rattle.id_facts.specs.declared.facts.RowFact.TheVariants.{On, Has, Shape, Put, Ask}
use Rattle.id_facts.specs.declared.facts.RowValue.{RowValue}
use Rattle.id_facts.specs.declared.facts.RowValue.TheVariants.{Int, Bool, Name}
use Rattle.id_source.specs.Sources.{Source}
use Rattle.id_source.specs.Rounds.{Rounds}
use Rattle.id_source.specs.Computed.{AreFacts, HasMoreFacts}
use Rattle.id_facts.specs.RowFacts.{fact_at}
use Rattle.id_facts.specs.Listed.{AreFound, AreShown, IsPart, IsRound, NamesArray, fact_of, facts_in, name_at, path_at}
use Rattle.id_facts.specs.Listed.{value_at}
use Rattle.id_source.specs.Things.{IsThing}
use Rattle.id_source.proofs.CheckedLemmas.{apart_of}
use Rattle.id_meaning.proofs.KnownLemmas.{IsThere, name-once, path-once, there-of}
use Rattle.id_facts.proofs.FactsLemmas.{among-at}
use Rattle.id_facts.proofs.OrdersLemmas.{FactsRise-up, is_same, is_same-flips, is_same-itself, is_same-one}

-- ---- lists in another order

contains-among : {A : Type 0} (x : A) (ys : List A) → Among x ys → Contains ys x
contains-among x [] h = absurd h
contains-among x (y ∷ ys) (inl h) = (0, omega arith, sym h)
contains-among x (y ∷ ys) (inr h) = let r = contains-among x ys h in (suc r.0, omega (arith, r.1), r.2)

among-contained : {A : Type 0} (x : A) (ys : List A) (k : ℕ) → k < length ys → get_or ys k x ≡ x → Among x ys
among-contained x [] k below e = absurd (omega arith)
among-contained x (y ∷ ys) zero below e = inl (sym e)
among-contained x (y ∷ ys) (suc k) below e = inr (among-contained x ys k (omega arith) e)

moved : {A : Type 0} (xs ys : List A) → IsPermutation xs ys → (x : A) → Among x xs → Among x ys
moved xs ys p x h = let r = Contains-permutation xs ys x p (contains-among x xs h) in among-contained x ys r.0 r.1 r.2

-- ---- facts of the source, each of one fact of rows

module _ (P : Checked) (fs : List RowFact) where
  in-all : (f : RowFact) (gs : List RowFact) → Among f gs → Among (fact_of P fs f) (facts_in P fs gs)
  in-all f [] h = absurd h
  in-all f (g ∷ gs) (inl e) = inl (ap (λ x. fact_of P fs x) e)
  in-all f (g ∷ gs) (inr h) = inr (in-all f gs h)

  in-only : (x : Fact) (gs : List RowFact) → Among x (facts_in P fs gs)
      → (f : RowFact) × Among f gs × (x ≡ fact_of P fs f)
  in-only x [] h = absurd h
  in-only x (g ∷ gs) (inl e) = (g, inl refl, e)
  in-only x (g ∷ gs) (inr h) = let r = in-only x gs h in (r.0, inr r.1, r.2)

  facts-count : (gs : List RowFact) → length (facts_in P fs gs) ≡ length gs
  facts-count [] = refl
  facts-count (g ∷ gs) = let r = facts-count gs in omega (arith, r)

  in-at : (gs : List RowFact) (i : ℕ) (d : Fact) → i < length gs
      → get_or (facts_in P fs gs) i d ≡ fact_of P fs (fact_at gs i)
  in-at [] i d l = absurd (omega arith)
  in-at (g ∷ gs) zero d l = refl
  in-at (g ∷ gs) (suc i) d l = in-at gs i d (omega arith)

-- ---- facts of rows that are one fact of the source

same-shape : (s t : Shaped) → fact.Shape s ≡ fact.Shape t → s ≡ t
same-shape s t e = cc

same-put : (s t : Stored) → fact.Put s ≡ fact.Put t → s ≡ t
same-put s t e = cc

same-ask : (s t : Asked) → fact.Ask s ≡ fact.Ask t → s ≡ t
same-ask s t e = cc

not-so : (t : Truth) → (t ≡ true → ⊥) → t ≡ false
not-so true h = absurd (h refl)
not-so false h = refl

module _ (S : Source) (fs : List RowFact) (a : AreFound S fs) where
  row-once : (n m : ℕ) → IsThing S n → IsThing S m → place S.checked n ≡ place S.checked m → n ≡ m
  row-once n m t u e = (apart_of S.checked).apart n m t.within u.within t.thing u.thing e

  trail-once : (p q : Trail) → IsThere fs p → IsThere fs q → path_at S.checked fs p ≡ path_at S.checked fs q → p ≡ q
  trail-once p q t u e = path-once S fs a p q t u e

  value-once : (v w : RowValue) → NamesArray S.checked fs v → NamesArray S.checked fs w
      → value_at S.checked fs v ≡ value_at S.checked fs w → v ≡ w
  value-once (Int m) (Int n) x y e = cc
  value-once (Int m) (Bool c) x y e = cc
  value-once (Int m) (Name j) x y e = cc
  value-once (Bool b) (Int n) x y e = cc
  value-once (Bool b) (Bool c) x y e = cc
  value-once (Bool b) (Name j) x y e = cc
  value-once (Name i) (Int n) x y e = cc
  value-once (Name i) (Bool c) x y e = cc
  value-once (Name i) (Name j) x y e =
      let same : name_at S.checked fs i ≡ name_at S.checked fs j = cc in
      ap (λ k. Name k) (name-once S fs a i j x y same)

  -- of two facts that are one fact of the source
  pub fact-once : (f g : RowFact) → Among f fs → Among g fs → fact_of S.checked fs f ≡ fact_of S.checked fs g → f ≡ g
  fact-once (On p n) (On q m) i j e =
      let path : path_at S.checked fs p ≡ path_at S.checked fs q = cc in
      let here : place S.checked n ≡ place S.checked m = cc in
      ap (λ x. On x n) (trail-once p q (there-of S fs a (On p n) i) (there-of S fs a (On q m) j) path)
      ∙ ap (λ x. On q x) (row-once n m (a.things (On p n) i) (a.things (On q m) j) here)
  fact-once (On p n) (Has q m w) i j e = cc
  fact-once (On p n) (Shape t lo hi) i j e = cc
  fact-once (On p n) (Put q m t l w) i j e = cc
  fact-once (On p n) (Ask q m t l) i j e = cc
  fact-once (Has p n v) (On q m) i j e = cc
  fact-once (Has p n v) (Has q m w) i j e =
      let path : path_at S.checked fs p ≡ path_at S.checked fs q = cc in
      let here : place S.checked n ≡ place S.checked m = cc in
      let value : value_at S.checked fs v ≡ value_at S.checked fs w = cc in
      ap (λ x. Has x n v) (trail-once p q (there-of S fs a (Has p n v) i) (there-of S fs a (Has q m w) j) path)
      ∙ ap (λ x. Has q x v) (row-once n m (a.things (Has p n v) i) (a.things (Has q m w) j) here)
      ∙ ap (λ x. Has q m x) (value-once v w (a.arrays (Has p n v) i) (a.arrays (Has q m w) j) value)
  fact-once (Has p n v) (Shape t lo hi) i j e = cc
  fact-once (Has p n v) (Put q m t l w) i j e = cc
  fact-once (Has p n v) (Ask q m t l) i j e = cc
  fact-once (Shape s lo hi) (On q m) i j e = cc
  fact-once (Shape s lo hi) (Has q m w) i j e = cc
  fact-once (Shape s lo hi) (Shape t low high) i j e =
      let r = same-shape _ _ e in
      ap (λ x. Shape x lo hi)
      (name-once S fs a s t (a.arrays (Shape s lo hi) i) (a.arrays (Shape t low high) j) (ap (λ x. x.name) r))
      ∙ ap (λ x. Shape t x hi) (ap (λ x. x.low) r) ∙ ap (λ x. Shape t low x) (ap (λ x. x.high) r)
  fact-once (Shape s lo hi) (Put q m t l w) i j e = cc
  fact-once (Shape s lo hi) (Ask q m t l) i j e = cc
  fact-once (Put p n s k v) (On q m) i j e = cc
  fact-once (Put p n s k v) (Has q m w) i j e = cc
  fact-once (Put p n s k v) (Shape t lo hi) i j e = cc
  fact-once (Put p n s k v) (Put q m t l w) i j e =
      let r = same-put _ _ e in
      let x = a.arrays (Put p n s k v) i in
      let y = a.arrays (Put q m t l w) j in
      ap (λ z. Put z n s k v)
      (trail-once p q (there-of S fs a (Put p n s k v) i) (there-of S fs a (Put q m t l w) j)
      (ap (λ z. z.store.path) r))
      ∙ ap (λ z. Put q z s k v)
      (row-once n m (a.things (Put p n s k v) i) (a.things (Put q m t l w) j) (ap (λ z. z.store.place) r))
      ∙ ap (λ z. Put q m z k v) (name-once S fs a s t x.0 y.0 (ap (λ z. z.name) r))
      ∙ ap (λ z. Put q m t z v) (ap (λ z. z.index) r)
      ∙ ap (λ z. Put q m t l z) (value-once v w x.1 y.1 (ap (λ z. z.value) r))
  fact-once (Put p n s k v) (Ask q m t l) i j e = cc
  fact-once (Ask p n s k) (On q m) i j e = cc
  fact-once (Ask p n s k) (Has q m w) i j e = cc
  fact-once (Ask p n s k) (Shape t lo hi) i j e = cc
  fact-once (Ask p n s k) (Put q m t l w) i j e = cc
  fact-once (Ask p n s k) (Ask q m t l) i j e =
      let r = same-ask _ _ e in
      ap (λ z. Ask z n s k)
      (trail-once p q (there-of S fs a (Ask p n s k) i) (there-of S fs a (Ask q m t l) j) (ap (λ z. z.fetch.path) r))
      ∙ ap (λ z. Ask q z s k)
      (row-once n m (a.things (Ask p n s k) i) (a.things (Ask q m t l) j) (ap (λ z. z.fetch.place) r))
      ∙ ap (λ z. Ask q m z k)
      (name-once S fs a s t (a.arrays (Ask p n s k) i) (a.arrays (Ask q m t l) j) (ap (λ z. z.name) r))
      ∙ ap (λ z. Ask q m t z) (ap (λ z. z.index) r)

  -- the list has none twice
  facts-apart : (i j : ℕ) (d : Fact) → i < j → j < length (facts_in S.checked fs fs)
      → is_same (get_or (facts_in S.checked fs fs) i d) (get_or (facts_in S.checked fs fs) j d) ≡ false
  facts-apart i j d below within =
      let own = facts_in S.checked fs fs in
      not-so (is_same (get_or own i d) (get_or own j d)) (λ h. (
      let c = facts-count S.checked fs fs in
      let l : i < length fs = omega (arith, c, below, within) in
      let m : j < length fs = omega (arith, c, within) in
      let one =
      sym (in-at S.checked fs fs i d l) ∙ is_same-one (get_or own i d) (get_or own j d) h
      ∙ in-at S.checked fs fs j d m in
      let same = fact-once (fact_at fs i) (fact_at fs j) (among-at fs i l) (among-at fs j m) one in
      let number = a.apart i j l m same in
      absurd (omega (arith, number, below))))

  pub facts-distinct : IsDistinct is_same (facts_in S.checked fs fs)
  facts-distinct = IsDistinct-from_apart is_same (facts_in S.checked fs fs) facts-apart

-- ---- rounds

-- a round is a part of itself
pub part : (S : Source) (n : ℕ) (fs : List RowFact) → IsRound S n fs → IsPart S n fs
part S n fs h = record { only = h.only; found = h.found }

facts-only : (S : Source) (n : ℕ) (fs : List RowFact) → IsPart S n fs → (f : Fact) → Among f (facts_in S.checked fs fs)
    → Rounds S n f
facts-only S n fs h f i =
    let r = in-only S.checked fs f fs i in
    let F : Fact → Type 0 = λ x. Rounds S n x in
    subst F (sym r.2) (h.only r.0 r.1)

facts-all : (S : Source) (n : ℕ) (fs : List RowFact) → IsRound S n fs → (f : Fact) → Rounds S n f
    → Among f (facts_in S.checked fs fs)
facts-all S n fs h f i =
    let r = h.all f i in
    let F : Fact → Type 0 = λ x. Among x (facts_in S.checked fs fs) in
    subst F (sym r.2) (in-all S.checked fs r.0 fs r.1)

-- where the facts are those of a round, their list is that of the round
pub AreFacts-from_rows : (S : Source) (n : ℕ) (fs : List RowFact) (all : List Fact) → IsRound S n fs
    → AreShown S.checked fs all → AreFacts S n all
AreFacts-from_rows S n fs all s h =
    let own = facts_in S.checked fs fs in
    record {
      all = λ f k. moved own all h.same f (facts-all S n fs s f k);
      only = λ f k. facts-only S n fs (part S n fs s) f (moved all own (IsPermutation-sym own all h.same) f k);
      rise = FactsRise-up all h.up
          (IsDistinct-IsPermutation is_same is_same-flips own all h.same (facts-distinct S fs s.found));
    }

-- it is as long
pub shown-count : (P : Checked) (fs : List RowFact) (all : List Fact) → AreShown P fs all → length all ≡ length fs
shown-count P fs all h = length_permutation (facts_in P fs fs) all h.same ∙ facts-count P fs fs

-- where there are more facts of a round, the round has more
pub more-facts : (S : Source) (r n most : ℕ) (ds : List RowFact) → IsPart S r ds → r ≤ n → most < length ds
    → HasMoreFacts S n most
more-facts S r n most ds s l m =
    let c = facts-count S.checked ds ds in
    record {
      round = r;
      up_to = l;
      facts = facts_in S.checked ds ds;
      only = facts-only S r ds s;
      once =
          AllPairs-from_IsDistinct
          (λ f g. (
            is_same-one f g,
            λ e. (let F : Fact → Type 0 = λ x. is_same f x ≡ true in subst F e (is_same-itself f)),
          ))
          (facts_in S.checked ds ds) (facts-distinct S ds s.found);
      more = omega (arith, c, m);
    }
