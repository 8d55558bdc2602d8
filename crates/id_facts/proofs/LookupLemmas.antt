-- What is looked up in cells is what their facts tell.
use Rattle.std.proofs.Common.{◌≡◌, ◌⊎◌, inl, inr, ℕ, ℤ, Bool as Truth, true, false, ◌&&◌, nat_eq, Option, None, Some}
use Rattle.std.proofs.Common.{List, [], ◌∷◌, if◌then◌else◌, refl, ap, sym, ◌∙◌, subst}
use Rattle.std.specs.Ordering.{int_eq}
use Rattle.std.proofs.lemmas.Bool.{eqb-true, false≢true}
use Rattle.std.proofs.lemmas.Bool.Decides.{Decides-int_eq}
use Rattle.id_value.specs.List.{Among}
use Rattle.id_value.proofs.AmongLemmas.{Among-either, Among-left, Among-right}
use Rattle.id_facts.specs.declared.cells.Bounds.{Bounds}
use Rattle.id_facts.specs.declared.cells.Cells.{Cells}
use Rattle.id_facts.specs.declared.cells.Point.{Point}
use Rattle.id_facts.specs.declared.facts.RowFact.{RowFact}
use Rattle.id_facts.specs.declared.facts.RowFact.TheVariants.{On, Has, Shape, Put, Ask}
use Rattle.id_facts.specs.declared.facts.RowValue.{RowValue}
use Rattle.id_facts.specs.declared.facts.RowValue.TheVariants.{Int, Bool, Name}
use Rattle.id_facts.specs.declared.facts.Trail.{Trail}
use Rattle.id_facts.specs.Cells.{AreChained, ask_by, bounds_by, chain, find, first_on, items, listed}
use Rattle.id_facts.specs.RowFacts.{chain_at, chain_of, fact_at, is_on}
use Rattle.id_facts.specs.Cells.{named_by, or_these, put_by, told, value_by, values}
use Rattle.id_facts.specs.RowFacts.{same_trail}
use Rattle.id_facts.proofs.FactsLemmas.{among-at, index-of}
use Rattle.id_facts.proofs.FactsLemmas.{IsOnBy}
use Rattle.id_facts.proofs.OneLemmas.{both, and-is, eq-itself, trail-itself, trail-true, on-true, on-is}

if-some : {A : Type 0} (b : Truth) (x y : A) → (if b then Some x else None) ≡ Some y → (b ≡ true) × (x ≡ y)
if-some true x y e = (refl, let q : x ≡ y = cc in q)
if-some false x y e = cc

pub value-true : (p : Trail) (n : ℕ) (v : RowValue) (f : RowFact) → value_by p n f ≡ Some v → f ≡ Has p n v
value-true p n v (Has q m w) h =
    let t = if-some (same_trail q p && nat_eq m n) w v h in
    let u = both (same_trail q p) (nat_eq m n) t.0 in
    ap (λ r. Has r m w) (trail-true q p u.0) ∙ ap (λ r. Has p r w) (eqb-true m n u.1) ∙ ap (λ r. Has p n r) t.1
value-true p n v (On q m) h = cc
value-true p n v (Shape s lo hi) h = cc
value-true p n v (Put q m s i w) h = cc
value-true p n v (Ask q m s i) h = cc

pub value-is : (p : Trail) (n : ℕ) (v : RowValue) → value_by p n (Has p n v) ≡ Some v
value-is p n v =
    ap (λ b. if b then Some v else None) (and-is (same_trail p p) (nat_eq n n) (trail-itself p) (eq-itself n))

pub bounds-true : (s : ℕ) (b : Bounds) (f : RowFact) → bounds_by s f ≡ Some b → f ≡ Shape s b.low b.high
bounds-true s b (Shape t lo hi) h =
    let r = if-some (nat_eq t s) (record { low = lo; high = hi }) b h in
    let l : lo ≡ b.low = ap (λ x. x.low) r.1 in
    let m : hi ≡ b.high = ap (λ x. x.high) r.1 in
    ap (λ i. Shape i lo hi) (eqb-true t s r.0) ∙ ap (λ i. Shape s i hi) l ∙ ap (λ i. Shape s b.low i) m
bounds-true s b (On q m) h = cc
bounds-true s b (Has q m w) h = cc
bounds-true s b (Put q m t i w) h = cc
bounds-true s b (Ask q m t i) h = cc

pub named-true : (s : ℕ) (q : Point) (f : RowFact) → named_by s f ≡ Some q → f ≡ Has q.path q.row (Name s)
named-true s q (Has p n (Name t)) h =
    let r = if-some (nat_eq t s) (record { path = p; row = n }) q h in
    let l : p ≡ q.path = ap (λ x. x.path) r.1 in
    let m : n ≡ q.row = ap (λ x. x.row) r.1 in
    ap (λ i. Has p n (Name i)) (eqb-true t s r.0) ∙ ap (λ i. Has i n (Name s)) l ∙ ap (λ i. Has q.path i (Name s)) m
named-true s q (Has p n (Int k)) h = cc
named-true s q (Has p n (Bool b)) h = cc
named-true s q (On p n) h = cc
named-true s q (Shape t lo hi) h = cc
named-true s q (Put p n t i w) h = cc
named-true s q (Ask p n t i) h = cc

-- two indices are one where they compare so
index-true : (i j : ℤ) → int_eq i j ≡ true → i ≡ j
index-true i j h = (Decides-int_eq i j).0 h

pub put-true : (s : ℕ) (j : ℤ) (v : RowValue) (f : RowFact) → put_by s j f ≡ Some v
    → (p : Trail) × (n : ℕ) × (f ≡ Put p n s j v)
put-true s j v (Put p n t i w) h =
    let r = if-some (nat_eq t s && int_eq i j) w v h in
    let u = both (nat_eq t s) (int_eq i j) r.0 in (
      p,
      n,
      ap (λ a. Put p n a i w) (eqb-true t s u.0) ∙ ap (λ a. Put p n s a w) (index-true i j u.1)
          ∙ ap (λ a. Put p n s j a) r.1,
    )
put-true s j v (On p n) h = cc
put-true s j v (Has p n w) h = cc
put-true s j v (Shape t lo hi) h = cc
put-true s j v (Ask p n t i) h = cc

pub ask-true : (s : ℕ) (j : ℤ) (q : Point) (f : RowFact) → ask_by s j f ≡ Some q → f ≡ Ask q.path q.row s j
ask-true s j q (Ask p n t i) h =
    let r = if-some (nat_eq t s && int_eq i j) (record { path = p; row = n }) q h in
    let u = both (nat_eq t s) (int_eq i j) r.0 in
    let l : p ≡ q.path = ap (λ x. x.path) r.1 in
    let m : n ≡ q.row = ap (λ x. x.row) r.1 in
    ap (λ a. Ask p n a i) (eqb-true t s u.0) ∙ ap (λ a. Ask p n s a) (index-true i j u.1) ∙ ap (λ a. Ask a n s j) l
    ∙ ap (λ a. Ask q.path a s j) m
ask-true s j q (On p n) h = cc
ask-true s j q (Has p n w) h = cc
ask-true s j q (Shape t lo hi) h = cc
ask-true s j q (Put p n t i w) h = cc

-- ---- what a list of them tells

pub told-among : {A : Type 0} (f : RowFact → Option A) (fs : List RowFact) (is : List ℕ) (x : A)
    → Among x (told f fs is) → (i : ℕ) × Among i is × (f (fact_at fs i) ≡ Some x)
told-among f fs [] x h = absurd h
told-among f fs (i ∷ is) x h = elim (Among-either x (listed (f (fact_at fs i))) (told f fs is) h) [
  | inl k ↦ (i, inl refl, one (f (fact_at fs i)) k)
  | inr k ↦ (let r = told-among f fs is x k in (r.0, inr r.1, r.2))
]
  where
    one : (o : Option _) → Among x (listed o) → o ≡ Some x
    one None k = absurd k
    one (Some y) (inl e) = ap (λ z. Some z) (sym e)
    one (Some y) (inr k) = absurd k

pub told-all : {A : Type 0} (f : RowFact → Option A) (fs : List RowFact) (is : List ℕ) (i : ℕ) (x : A) → Among i is
    → f (fact_at fs i) ≡ Some x → Among x (told f fs is)
told-all f fs [] i x h e = absurd h
told-all f fs (j ∷ is) i x (inl q) e =
    let F : Option _ → Type 0 = λ o. Among x (listed o) in
    Among-left x (listed (f (fact_at fs j))) (told f fs is)
    (subst F (sym (ap (λ k. f (fact_at fs k)) (sym q) ∙ e)) (inl refl))
told-all f fs (j ∷ is) i x (inr h) e =
    Among-right x (listed (f (fact_at fs j))) (told f fs is) (told-all f fs is i x h e)

some-same : (i j : ℕ) → Some i ≡ Some j → i ≡ j
some-same i j e = cc

module _ (c : Cells) (chained : AreChained c) where
  -- a fact that is found is one of the cells
  pub fact-there : (k i : ℕ) (f : RowFact) → Among i (chain c k) → fact_at (items c) i ≡ f → Among f (items c)
  fact-there k i f h e =
      let F : RowFact → Type 0 = λ g. Among g (items c) in subst F e (among-at (items c) i (chained.within k i h))

  -- and one of the cells is in its chain
  in-chain : (f : RowFact) → Among f (items c) → (i : ℕ) × Among i (chain c (chain_of f)) × (fact_at (items c) i ≡ f)
  in-chain f h =
      let r = index-of f (items c) h in
      let F : ℕ → Type 0 = λ k. Among r.0 (chain c k) in
      (r.0, subst F (ap chain_of r.2) (chained.there r.0 r.1), r.2)

  first-true : (p : Trail) (n i : ℕ) (is : List ℕ) → first_on (items c) p n is ≡ Some i
      → Among i is × (is_on p n (fact_at (items c) i) ≡ true)
  first-true p n i [] h = cc
  first-true p n i (j ∷ is) h = go (is_on p n (fact_at (items c) j)) refl (λ k. first-true p n i is k) h
    where
      go : (b : Truth) → is_on p n (fact_at (items c) j) ≡ b
          → (first_on (items c) p n is ≡ Some i → Among i is × (is_on p n (fact_at (items c) i) ≡ true))
          → (if b then Some j else first_on (items c) p n is) ≡ Some i
          → Among i (j ∷ is) × (is_on p n (fact_at (items c) i) ≡ true)
      go true e rest k =
          let q : j ≡ i = some-same j i k in (inl (sym q), ap (λ r. is_on p n (fact_at (items c) r)) (sym q) ∙ e)
      go false e rest k = let r = rest k in (inr r.0, r.1)

  first-all : (p : Trail) (n i : ℕ) (is : List ℕ) → Among i is → is_on p n (fact_at (items c) i) ≡ true
      → (j : ℕ) × (first_on (items c) p n is ≡ Some j)
  first-all p n i [] h e = absurd h
  first-all p n i (k ∷ is) h e = go (is_on p n (fact_at (items c) k)) refl (λ g. first-all p n i is g e) h
    where
      go : (b : Truth) → is_on p n (fact_at (items c) k) ≡ b
          → (Among i is → (j : ℕ) × (first_on (items c) p n is ≡ Some j)) → (i ≡ k) ⊎ Among i is
          → (j : ℕ) × ((if b then Some k else first_on (items c) p n is) ≡ Some j)
      go true f rest g = (k, refl)
      go false f rest (inl q) = absurd (false≢true (sym f ∙ ap (λ r. is_on p n (fact_at (items c) r)) (sym q) ∙ e))
      go false f rest (inr g) = rest g

  pub find-true : (p : Trail) (n i : ℕ) → find c p n ≡ Some i → IsOnBy (items c) i p n
  find-true p n i h =
      let r = first-true p n i (chain c (chain_at p n)) h in
      record { within = chained.within (chain_at p n) i r.0; fact = on-true p n (fact_at (items c) i) r.1 }

  pub find-all : (p : Trail) (n : ℕ) → Among (On p n) (items c) → (i : ℕ) × (find c p n ≡ Some i)
  find-all p n h =
      let r = in-chain (On p n) h in
      first-all p n r.0 (chain c (chain_at p n)) r.1 (ap (λ f. is_on p n f) r.2 ∙ on-is p n)

  -- values, where the fact g is followed
  pub values-true : (g : RowFact) (p : Trail) (n : ℕ) (v : RowValue) → Among g (items c) → Among v (values c g p n)
      → Among (Has p n v) (items c)
  values-true g p n v here h = go (value_by p n g) refl h
    where
      go : (o : Option RowValue) → value_by p n g ≡ o
          → Among v (or_these o (told (value_by p n) (items c) (chain c (chain_at p n)))) →
          Among (Has p n v) (items c)
      go None e k =
          let r = told-among (value_by p n) (items c) (chain c (chain_at p n)) v k in
          fact-there (chain_at p n) r.0 (Has p n v) r.1 (value-true p n v (fact_at (items c) r.0) r.2)
      go (Some w) e (inl q) =
          let F : RowFact → Type 0 = λ f. Among f (items c) in
          subst F (value-true p n w g e ∙ ap (λ r. Has p n r) (sym q)) here
      go (Some w) e (inr k) = absurd k

  pub values-all : (g : RowFact) (p : Trail) (n : ℕ) (v : RowValue) → value_by p n g ≡ None
      → Among (Has p n v) (items c) → Among v (values c g p n)
  values-all g p n v e h =
      let r = in-chain (Has p n v) h in
      let F : Option RowValue → Type 0 =
      λ o. Among v (or_these o (told (value_by p n) (items c) (chain c (chain_at p n)))) in
      subst F (sym e)
      (told-all (value_by p n) (items c) (chain c (chain_at p n)) r.0 v r.1 (ap (λ f. value_by p n f) r.2
      ∙ value-is p n v))

  pub values-self : (p : Trail) (n : ℕ) (v : RowValue) → Among v (values c (Has p n v) p n)
  values-self p n v =
      let F : Option RowValue → Type 0 =
      λ o. Among v (or_these o (told (value_by p n) (items c) (chain c (chain_at p n)))) in
      subst F (sym (value-is p n v)) (inl refl)
