-- What is looked up of things is what their facts tell.
use Rattle.std.proofs.Common.{◌≡◌, ◌⊎◌, ◌<◌, ◌&&◌, inl, inr, ℕ, ℤ, Bool as Truth, true, false, Option, None, Some}
use Rattle.std.proofs.Common.{nat_eq}
use Rattle.std.proofs.Common.{List, [], ◌∷◌, length, if◌then◌else◌, refl, ap, sym, ◌∙◌, subst}
use Rattle.std.proofs.lemmas.Bool.{eqb-true, false≢true}
use Rattle.id_value.specs.List.{Among}
use Rattle.id_check.specs.declared.checked.Checked.{Checked}
use Rattle.id_source.specs.Links.{Leads, targets}
use Rattle.id_facts.specs.declared.cells.Point.{Point}
use Rattle.id_facts.specs.declared.facts.RowFact.{RowFact}
use Rattle.id_facts.specs.declared.facts.RowFact.TheVariants.{On, Has, Shape, Put, Ask}
use Rattle.id_facts.specs.declared.facts.RowValue.{RowValue}
use Rattle.id_facts.specs.declared.facts.Trail.{Trail}
use Rattle.id_facts.specs.declared.facts.Trail.TheVariants.{Outermost}
use Rattle.id_facts.specs.Cells.{chain, value_by}
use Rattle.id_facts.specs.RowFacts.{chain_at, fact_at, path_of, row_of, same_trail}
use Rattle.id_facts.proofs.FactsLemmas.{among-at, index-of}
use Rattle.id_facts.proofs.OneLemmas.{and-is, both, eq-itself, trail-itself, trail-true}
use Rattle.id_facts.proofs.LookupLemmas.{fact-there, told-all, told-among, value-true}
use Rattle.id_facts.proofs.LookupLemmas.{values-all as cell-values-all}
use Rattle.id_why.specs.declared.known.Cell.{Cell}
use Rattle.id_why.specs.declared.known.Known.{Known}
use Rattle.id_why.specs.Known.{AreIndexed, any_gives, ask_by, asks, gives, is_given, known_facts, numbers_of, values}
use Rattle.id_why.specs.Needs.{IsGiven, Lacks, by_store, by_value, point}
use Rattle.id_why.proofs.TestLemmas.{if-some, or-left, or-right, or-true}

-- a fact that gives a thing a value
gives-given : (fs : List RowFact) (t : Point) (f : RowFact) → gives t f ≡ true → Among f fs → IsGiven fs t
gives-given fs t (Has p n v) e m =
    let b = both (same_trail p t.path) (nat_eq n t.row) e in
    let F : RowFact → Type 0 = λ g. Among g fs in
    by_value v
    (subst F (ap (λ r. Has r n v) (trail-true p t.path b.0) ∙ ap (λ r. Has t.path r v) (eqb-true n t.row b.1)) m)
gives-given fs t (Put p n s j v) e m =
    let b = both (same_trail p t.path) (nat_eq n t.row) e in
    let F : RowFact → Type 0 = λ g. Among g fs in
    by_store s j v
    (subst F (ap (λ r. Put r n s j v) (trail-true p t.path b.0) ∙ ap (λ r. Put t.path r s j v) (eqb-true n t.row b.1))
    m)
gives-given fs t (On p n) e m = cc
gives-given fs t (Shape s lo hi) e m = cc
gives-given fs t (Ask p n s j) e m = cc

any-true : (fs : List RowFact) (t : Point) (is : List ℕ) → any_gives fs t is ≡ true
    → ((i : ℕ) → Among i is → i < length fs) → IsGiven fs t
any-true fs t [] e w = cc
any-true fs t (i ∷ is) e w = elim (or-true (gives t (fact_at fs i)) (any_gives fs t is) e) [
  | inl a ↦ gives-given fs t (fact_at fs i) a (among-at fs i (w i (inl refl)))
  | inr b ↦ any-true fs t is b (λ j m. w j (inr m))
]

any-all : (fs : List RowFact) (t : Point) (is : List ℕ) (i : ℕ) → Among i is → gives t (fact_at fs i) ≡ true
    → any_gives fs t is ≡ true
any-all fs t [] i m e = absurd m
any-all fs t (j ∷ is) i (inl q) e =
    or-left (gives t (fact_at fs j)) (any_gives fs t is) (ap (λ r. gives t (fact_at fs r)) (sym q) ∙ e)
any-all fs t (j ∷ is) i (inr m) e = or-right (gives t (fact_at fs j)) (any_gives fs t is) (any-all fs t is i m e)

here : (t : Point) → same_trail t.path t.path && nat_eq t.row t.row ≡ true
here t = and-is (same_trail t.path t.path) (nat_eq t.row t.row) (trail-itself t.path) (eq-itself t.row)

ask-true : (t : Point) (c : Cell) (f : RowFact) → ask_by t f ≡ Some c → f ≡ Ask t.path t.row c.name c.index
ask-true t c (Ask p n s j) e =
    let r = if-some (same_trail p t.path && nat_eq n t.row) (record { name = s; index = j }) c e in
    let b = both (same_trail p t.path) (nat_eq n t.row) r.0 in
    let x : s ≡ c.name = ap (λ d. d.name) r.1 in
    let y : j ≡ c.index = ap (λ d. d.index) r.1 in
    ap (λ q. Ask q n s j) (trail-true p t.path b.0) ∙ ap (λ q. Ask t.path q s j) (eqb-true n t.row b.1)
    ∙ ap (λ q. Ask t.path t.row q j) x ∙ ap (λ q. Ask t.path t.row c.name q) y
ask-true t c (On p n) e = cc
ask-true t c (Has p n v) e = cc
ask-true t c (Shape s lo hi) e = cc
ask-true t c (Put p n s j v) e = cc

module _ (P : Checked) (k : Known) (h : AreIndexed P k) where
  -- a fact is found by its path and row
  in-numbers : (f : RowFact) → Among f (known_facts k)
      → (i : ℕ) × Leads k.points (chain_at (path_of f) (row_of f)) i × (fact_at (known_facts k) i ≡ f)
  in-numbers f m =
      let r = index-of f (known_facts k) m in
      let F : RowFact → Type 0 = λ g. Leads k.points (chain_at (path_of g) (row_of g)) r.0 in
      (r.0, subst F r.2 (h.points r.0 r.1), r.2)

  there : (c i : ℕ) (f : RowFact) → Leads k.points c i → fact_at (known_facts k) i ≡ f → Among f (known_facts k)
  there c i f l e =
      let F : RowFact → Type 0 = λ g. Among g (known_facts k) in
      subst F e (among-at (known_facts k) i (h.points_within c i l))

  pub given-true : (t : Point) → is_given k t ≡ true → IsGiven (known_facts k) t
  given-true t e = any-true (known_facts k) t (numbers_of k t) e (λ i m. h.points_within (chain_at t.path t.row) i m)

  given-all : (t : Point) → IsGiven (known_facts k) t → is_given k t ≡ true
  given-all t (by_value v m) =
      let r = in-numbers (Has t.path t.row v) m in
      any-all (known_facts k) t (numbers_of k t) r.0 r.1 (ap (gives t) r.2 ∙ here t)
  given-all t (by_store s j v m) =
      let r = in-numbers (Put t.path t.row s j v) m in
      any-all (known_facts k) t (numbers_of k t) r.0 r.1 (ap (gives t) r.2 ∙ here t)

  pub given-false : (t : Point) → is_given k t ≡ false → Lacks (known_facts k) t
  given-false t e = λ g. false≢true (sym e ∙ given-all t g)

  pub values-true : (p : Trail) (n : ℕ) (v : RowValue) → Among v (values k p n) → Among (Has p n v) (known_facts k)
  values-true p n v m =
      let r = told-among (value_by p n) (known_facts k) (chain k.cells (chain_at p n)) v m in
      fact-there k.cells h.chained (chain_at p n) r.0 (Has p n v) r.1
      (value-true p n v (fact_at (known_facts k) r.0) r.2)

  pub values-all : (p : Trail) (n : ℕ) (v : RowValue) → Among (Has p n v) (known_facts k) → Among v (values k p n)
  values-all p n v m = cell-values-all k.cells h.chained (On Outermost 0) p n v refl m

  pub asks-true : (t : Point) (c : Cell) → Among c (asks k t) → Among (Ask t.path t.row c.name c.index) (known_facts k)
  asks-true t c m =
      let r = told-among (ask_by t) (known_facts k) (numbers_of k t) c m in
      there (chain_at t.path t.row) r.0 (Ask t.path t.row c.name c.index) r.1
      (ask-true t c (fact_at (known_facts k) r.0) r.2)

  pub asks-all : (t : Point) (c : Cell) → Among (Ask t.path t.row c.name c.index) (known_facts k) → Among c (asks k t)
  asks-all t c m =
      let r = in-numbers (Ask t.path t.row c.name c.index) m in
      let one : ask_by t (Ask t.path t.row c.name c.index) ≡ Some c = ap (λ b. if b then Some c else None) (here t) in
      told-all (ask_by t) (known_facts k) (numbers_of k t) r.0 c r.1 (ap (ask_by t) r.2 ∙ one)
