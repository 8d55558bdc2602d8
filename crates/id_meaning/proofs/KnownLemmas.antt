-- What is true of the facts of a round: each that the source has by then is that of one of its rows.
use Rattle.std.proofs.Common.{◌≡◌, ℕ, zero, suc, ◌≤◌, ◌<◌, ℤ, List, length, refl, ap, sym}
use Rattle.std.proofs.Common.{◌∙◌, subst, arith}
use Rattle.id_value.specs.List.{Among}
use Rattle.id_value.specs.declared.Constant.{Constant}
use Rattle.id_value.specs.declared.Constant.TheVariants as constant
use Rattle.id_check.specs.Programs.{place}
use Rattle.id_source.specs.declared.Path.{Path}
use Rattle.id_source.specs.declared.SourceValue.{SourceValue}
use Rattle.id_source.specs.declared.SourceValue.TheVariants as value
use Rattle.id_source.specs.declared.Site.{Site}
use Rattle.id_source.specs.declared.Shape.{Shape as Shaped}
use Rattle.id_source.specs.declared.Put.{Put as Stored}
use Rattle.id_source.specs.declared.Ask.{Ask as Asked}
use Rattle.id_source.specs.declared.Fact.TheVariants as fact
use Rattle.id_facts.specs.declared.facts.RowFact.{RowFact}
use Rattle.id_facts.specs.declared.facts.RowFact.TheVariants.{On, Has, Shape, Put, Ask}
use Rattle.id_facts.specs.declared.facts.RowValue.{RowValue}
use Rattle.id_facts.specs.declared.facts.RowValue.TheVariants.{Int, Bool, Name}
use Rattle.id_facts.specs.declared.facts.Trail.{Trail}
use Rattle.id_facts.specs.declared.facts.Trail.TheVariants.{Outermost, Below}
use Rattle.id_source.specs.Sources.{Source, value_of}
use Rattle.id_source.specs.Facts.{ask, put, shape}
use Rattle.id_source.specs.Rounds.{Rounds}
use Rattle.id_facts.specs.RowFacts.{AreBefore, fact_at, path_of, row_of}
use Rattle.id_facts.specs.Firsts.{row_value}
use Rattle.id_facts.specs.Listed.{AreFound, BeginsOn, IsArrayOn, IsOfThing, IsRound, fact_of, name_at, path_at}
use Rattle.id_facts.specs.Listed.{site_at, step_at, steps_in_all, steps_of, value_at}
use Rattle.id_source.specs.Things.{IsThing}
use Rattle.id_source.proofs.CheckedLemmas.{apart_of}
use Rattle.id_facts.proofs.FactsLemmas.{Inside, fact-before, inside-more, among-at, index-of}
use Rattle.id_facts.proofs.PathsLemmas.{all_steps, steps-suc}
use Rattle.id_source.proofs.StepsLemmas.{last-same, none-last}

pub among-inside : (fs : List RowFact) → AreBefore fs → (f : RowFact) → Among f fs → Inside (length fs) (path_of f)
among-inside fs b f h =
    let r = index-of f fs h in
    let F : RowFact → Type 0 = λ g. Inside (length fs) (path_of g) in
    subst F r.2 (inside-more r.0 (length fs) (path_of (fact_at fs r.0)) (let l = r.1 in
    omega arith) (fact-before fs b r.0))

same-shape : (s t : Shaped) → fact.Shape s ≡ fact.Shape t → s ≡ t
same-shape s t e = cc

same-put : (s t : Stored) → fact.Put s ≡ fact.Put t → s ≡ t
same-put s t e = cc

same-ask : (s t : Asked) → fact.Ask s ≡ fact.Ask t → s ≡ t
same-ask s t e = cc

-- a path is there: it begins where something is On
pub record IsThere (fs : List RowFact) (q : Trail) : Type 0 where
  pub begins : BeginsOn fs q
  pub inside : Inside (length fs) q

module _ (S : Source) (fs : List RowFact) (a : AreFound S fs) where
  pub there-of : (f : RowFact) → Among f fs → IsThere fs (path_of f)
  there-of f h = record { begins = a.begin f h; inside = among-inside fs a.before f h }

  -- what is On is a thing
  thing-of : (i n : ℕ) (p : Trail) → i < length fs → fact_at fs i ≡ On p n → IsThing S n
  thing-of i n p l e =
      let F : RowFact → Type 0 = λ f. IsOfThing S f in
      subst F e (a.things (fact_at fs i) (among-at fs i l))

  same-row : (n m : ℕ) → IsThing S n → IsThing S m → place S.checked n ≡ place S.checked m → n ≡ m
  same-row n m t u e = (apart_of S.checked).apart n m t.within u.within t.thing u.thing e

  same-number : (i j n m : ℕ) (p q : Trail) → i < length fs → j < length fs → fact_at fs i ≡ On p n
      → fact_at fs j ≡ On q m → p ≡ q → n ≡ m → i ≡ j
  same-number i j n m p q l k d e f g = a.apart i j l k (d ∙ ap (λ r. On r n) f ∙ ap (λ r. On q r) g ∙ sym e)

  once : (k : ℕ) (q r : Trail) → steps_in_all q ≤ k → IsThere fs q → IsThere fs r
      → all_steps S.checked fs q ≡ all_steps S.checked fs r → q ≡ r
  once k Outermost Outermost l m n e = refl
  once k Outermost (Below j y) l m n e =
      absurd (none-last (steps_of S.checked fs j (path_of (fact_at fs j))) (step_at S.checked (row_of (fact_at fs j)) y)
      e)
  once k (Below i x) Outermost l m n e =
      absurd (none-last (steps_of S.checked fs i (path_of (fact_at fs i))) (step_at S.checked (row_of (fact_at fs i)) x)
      (sym e))
  once zero (Below i x) (Below j y) l m n e = absurd (omega arith)
  once (suc k) (Below i x) (Below j y) l m n e =
      let P = S.checked in
      let f = fact_at fs i in
      let g = fact_at fs j in
      let b = m.begins in
      let c = n.begins in
      let u = there-of f (among-at fs i m.inside) in
      let v = there-of g (among-at fs j n.inside) in
      let w = fits i (path_of f) (fact-before fs a.before i) in
      let z =
      last-same (all_steps P fs (path_of f)) (all_steps P fs (path_of g)) (step_at P (row_of f) x)
      (step_at P (row_of g) y)
      (sym (steps-suc P fs a.before i x) ∙ e ∙ steps-suc P fs a.before j y) in
      let path : path_of f ≡ path_of g = once k (path_of f) (path_of g) (omega arith) u v z.0 in
      let s = thing-of i b.1.0 b.0 m.inside b.1.1 in
      let t = thing-of j c.1.0 c.0 n.inside c.1.1 in
      let here : place P b.1.0 ≡ place P c.1.0 =
      ap (λ r. place P r) (sym (ap row_of b.1.1)) ∙ ap (λ r. r.place) z.1 ∙ ap (λ r. place P r) (ap row_of c.1.1) in
      let row = same-row b.1.0 c.1.0 s t here in
      let paths : b.0 ≡ c.0 = sym (ap path_of b.1.1) ∙ path ∙ ap path_of c.1.1 in
      let number = same-number i j b.1.0 c.1.0 b.0 c.0 m.inside n.inside b.1.1 c.1.1 paths row in
      ap (λ r. Below r x) number ∙ ap (λ r. Below j r) (ap (λ r. r.number) z.1)
    where
      fits : (i : ℕ) (p : Trail) → Inside i p → steps_in_all p ≤ i
      fits i Outermost h = omega arith
      fits i (Below j k) h = omega arith

  -- at a path there is one number
  pub path-once : (q r : Trail) → IsThere fs q → IsThere fs r → path_at S.checked fs q ≡ path_at S.checked fs r → q ≡ r
  path-once q r m n e = once (steps_in_all q) q r (omega arith) m n (ap (λ p. p.steps) e)

  -- a structure has one name
  pub name-once : (i j : ℕ) → IsArrayOn S.checked fs i → IsArrayOn S.checked fs j
      → name_at S.checked fs i ≡ name_at S.checked fs j → i ≡ j
  name-once i j x y e =
      let P = S.checked in
      let F : Trail → Type 0 = λ q. IsThere fs q in
      let u = subst F (ap path_of x.on) (there-of (fact_at fs i) (among-at fs i x.within)) in
      let v = subst F (ap path_of y.on) (there-of (fact_at fs j) (among-at fs j y.within)) in
      let same : site_at P fs x.path x.array ≡ site_at P fs y.path y.array =
      sym (ap (λ f. site_at P fs (path_of f) (row_of f)) x.on) ∙ e
      ∙ ap (λ f. site_at P fs (path_of f) (row_of f)) y.on in
      let path = path-once x.path y.path u v (ap (λ s. s.path) same) in
      let row =
      same-row x.array y.array (thing-of i x.array x.path x.within x.on) (thing-of j y.array y.path y.within y.on)
      (ap (λ s. s.place) same) in
      same-number i j x.array y.array x.path y.path x.within y.within x.on y.on path row

-- ---- values

pub value-constant : (S : Source) (fs : List RowFact) (w : RowValue) (c : Constant)
    → value_of c ≡ value_at S.checked fs w → w ≡ row_value c
value-constant S fs (Int m) (constant.Int n) e = let q : n ≡ m = cc in ap (λ k. Int k) (sym q)
value-constant S fs (Int m) (constant.Bool b) e = cc
value-constant S fs (Bool c) (constant.Int n) e = cc
value-constant S fs (Bool c) (constant.Bool b) e = let q : b ≡ c = cc in ap (λ k. Bool k) (sym q)
value-constant S fs (Name i) (constant.Int n) e = cc
value-constant S fs (Name i) (constant.Bool b) e = cc

pub value-number : (S : Source) (fs : List RowFact) (w : RowValue) (n : ℤ) → value.Int n ≡ value_at S.checked fs w
    → w ≡ Int n
value-number S fs w n e = value-constant S fs w (constant.Int n) e

value-name : (S : Source) (fs : List RowFact) (w : RowValue) (x : Site) → value.Name x ≡ value_at S.checked fs w
    → (i : ℕ) × (w ≡ Name i) × (x ≡ name_at S.checked fs i)
value-name S fs (Int m) x e = cc
value-name S fs (Bool b) x e = cc
value-name S fs (Name i) x e = (i, refl, let q : x ≡ name_at S.checked fs i = cc in q)

module _ (S : Source) (k : ℕ) (fs : List RowFact) (s : IsRound S k fs) where
  abbrev Of : Trail → Path
  Of p = path_at S.checked fs p

  abbrev Called : ℕ → Site
  Called i = name_at S.checked fs i

  pub thing : (n m : ℕ) → IsThing S n → IsThing S m → place S.checked n ≡ place S.checked m → n ≡ m
  thing n m t u e = (apart_of S.checked).apart n m t.within u.within t.thing u.thing e

  -- ---- facts of the round are those of rows

  pub known-on : (n : ℕ) (P : Path) → IsThing S n → Rounds S k (fact.On P (place S.checked n))
      → (q : Trail) × (P ≡ Of q) × Among (On q n) fs
  known-on n P t h =
      go (s.all (fact.On P (place S.checked n)) h).0 (s.all (fact.On P (place S.checked n)) h).1
      (s.all (fact.On P (place S.checked n)) h).2
    where
      go : (g : RowFact) → Among g fs → fact.On P (place S.checked n) ≡ fact_of S.checked fs g
          → (q : Trail) × (P ≡ Of q) × Among (On q n) fs
      go (On q m) i e =
          let a : P ≡ Of q = cc in
          let r : place S.checked n ≡ place S.checked m = cc in
          let F : ℕ → Type 0 = λ j. Among (On q j) fs in
          (q, a, subst F (sym (thing n m t (s.found.things (On q m) i) r)) i)
      go (Has q m v) i e = cc
      go (Shape x lo hi) i e = cc
      go (Put q m x j v) i e = cc
      go (Ask q m x j) i e = cc

  pub record IsHas (n : ℕ) (P : Path) (v : SourceValue) : Type 0 where
    pub path : Trail
    pub value : RowValue
    pub is_path : P ≡ Of path
    pub is_value : v ≡ value_at S.checked fs value
    pub known : Among (Has path n value) fs

  pub known-has : (n : ℕ) (P : Path) (v : SourceValue) → IsThing S n → Rounds S k (fact.Has P (place S.checked n) v)
      → IsHas n P v
  known-has n P v t h =
      go (s.all (fact.Has P (place S.checked n) v) h).0 (s.all (fact.Has P (place S.checked n) v) h).1
      (s.all (fact.Has P (place S.checked n) v) h).2 where
        go : (g : RowFact) → Among g fs → fact.Has P (place S.checked n) v ≡ fact_of S.checked fs g → IsHas n P v
        go (On q m) i e = cc
        go (Has q m w) i e =
            let a : P ≡ Of q = cc in
            let r : place S.checked n ≡ place S.checked m = cc in
            let u : v ≡ value_at S.checked fs w = cc in
            let F : ℕ → Type 0 = λ j. Among (Has q j w) fs in
            record {
              path = q;
              value = w;
              is_path = a;
              is_value = u;
              known =
                  subst F (sym (thing n m t (s.found.things (Has q m w) i) r)) i;
            }
        go (Shape x lo hi) i e = cc
        go (Put q m x j w) i e = cc
        go (Ask q m x j) i e = cc

  known-shape : (x : Site) (lo hi : ℤ) → Rounds S k (shape x lo hi)
      → (i : ℕ) × (x ≡ Called i) × Among (Shape i lo hi) fs
  known-shape x lo hi h = go (s.all (shape x lo hi) h).0 (s.all (shape x lo hi) h).1 (s.all (shape x lo hi) h).2
    where
      go : (g : RowFact) → Among g fs → shape x lo hi ≡ fact_of S.checked fs g
          → (i : ℕ) × (x ≡ Called i) × Among (Shape i lo hi) fs
      go (On q m) i e = cc
      go (Has q m w) i e = cc
      go (Shape y lw hg) i e =
          let r = same-shape _ _ e in
          let a : x ≡ Called y = ap (λ d. d.name) r in
          let b : lw ≡ lo = sym (ap (λ d. d.low) r) in
          let c : hg ≡ hi = sym (ap (λ d. d.high) r) in
          let F : ℤ → Type 0 = λ j. Among (Shape y j hg) fs in
          let G : ℤ → Type 0 = λ j. Among (Shape y lo j) fs in
          (y, a, subst G c (subst F b i))
      go (Put q m y j w) i e = cc
      go (Ask q m y j) i e = cc

  pub record IsPut (x : Site) (j : ℤ) (v : SourceValue) (a : Site) : Type 0 where
    pub path : Trail
    pub row : ℕ
    pub name : ℕ
    pub value : RowValue
    pub is_name : x ≡ Called name
    pub is_value : v ≡ value_at S.checked fs value
    pub known : Among (Put path row name j value) fs

  pub known-put : (x : Site) (j : ℤ) (v : SourceValue) (a : Site) → Rounds S k (put x j v a) → IsPut x j v a
  known-put x j v a h = go (s.all (put x j v a) h).0 (s.all (put x j v a) h).1 (s.all (put x j v a) h).2
    where
      go : (g : RowFact) → Among g fs → put x j v a ≡ fact_of S.checked fs g → IsPut x j v a
      go (On q m) i e = cc
      go (Has q m w) i e = cc
      go (Shape y lw hg) i e = cc
      go (Put q m y l w) i e =
          let r = same-put _ _ e in
          let b : x ≡ Called y = ap (λ d. d.name) r in
          let c : l ≡ j = sym (ap (λ d. d.index) r) in
          let d : v ≡ value_at S.checked fs w = ap (λ d. d.value) r in
          let F : ℤ → Type 0 = λ t. Among (Put q m y t w) fs in
          record { path = q; row = m; name = y; value = w; is_name = b; is_value = d; known = subst F c i }
      go (Ask q m y l) i e = cc

  pub record IsAsk (f x : Site) (j : ℤ) : Type 0 where
    pub path : Trail
    pub row : ℕ
    pub name : ℕ
    pub is_fetch : f ≡ site_at S.checked fs path row
    pub is_name : x ≡ Called name
    pub known : Among (Ask path row name j) fs

  pub known-ask : (f x : Site) (j : ℤ) → Rounds S k (ask f x j) → IsAsk f x j
  known-ask f x j h = go (s.all (ask f x j) h).0 (s.all (ask f x j) h).1 (s.all (ask f x j) h).2
    where
      go : (g : RowFact) → Among g fs → ask f x j ≡ fact_of S.checked fs g → IsAsk f x j
      go (On q m) i e = cc
      go (Has q m w) i e = cc
      go (Shape y lw hg) i e = cc
      go (Put q m y l w) i e = cc
      go (Ask q m y l) i e =
          let r = same-ask _ _ e in
          let a : f ≡ site_at S.checked fs q m = ap (λ d. d.fetch) r in
          let b : x ≡ Called y = ap (λ d. d.name) r in
          let c : l ≡ j = sym (ap (λ d. d.index) r) in
          let F : ℤ → Type 0 = λ t. Among (Ask q m y t) fs in
          record { path = q; row = m; name = y; is_fetch = a; is_name = b; known = subst F c i }

  pub there : (f : RowFact) → Among f fs → IsThere fs (path_of f)
  there f h = there-of S fs s.found f h

  -- at a path that is there
  pub has-at : (q : Trail) (n : ℕ) (P : Path) (v : SourceValue) → IsThere fs q → IsThing S n → P ≡ Of q
      → Rounds S k (fact.Has P (place S.checked n) v) → (w : RowValue) × (v ≡ value_at S.checked fs w)
      × Among (Has q n w) fs
  has-at q n P v i t e h =
      let x = known-has n P v t h in
      let F : Trail → Type 0 = λ r. Among (Has r n x.value) fs in (
        x.value,
        x.is_value,
        subst F (path-once S fs s.found x.path q (there (Has x.path n x.value) x.known) i (sym x.is_path ∙ e)) x.known,
      )

  pub constant-at : (q : Trail) (n : ℕ) (P : Path) (c : Constant) → IsThere fs q → IsThing S n → P ≡ Of q
      → Rounds S k (fact.Has P (place S.checked n) (value_of c))
      → Among (Has q n (row_value c)) fs
  constant-at q n P c i t e h =
      let x = has-at q n P (value_of c) i t e h in
      let F : RowValue → Type 0 = λ w. Among (Has q n w) fs in
      subst F (value-constant S fs x.0 c x.1) x.2

  pub number-at : (q : Trail) (n : ℕ) (P : Path) (j : ℤ) → IsThere fs q → IsThing S n → P ≡ Of q
      → Rounds S k (fact.Has P (place S.checked n) (value.Int j))
      → Among (Has q n (Int j)) fs
  number-at q n P j i t e h = constant-at q n P (constant.Int j) i t e h

  pub name-at : (q : Trail) (n : ℕ) (P : Path) (x : Site) → IsThere fs q → IsThing S n → P ≡ Of q
      → Rounds S k (fact.Has P (place S.checked n) (value.Name x))
      → (y : ℕ) × (x ≡ Called y) × Among (Has q n (Name y)) fs
  name-at q n P x i t e h =
      let z = has-at q n P (value.Name x) i t e h in
      let w = value-name S fs z.0 x z.1 in
      let F : RowValue → Type 0 = λ v. Among (Has q n v) fs in
      (w.0, w.2, subst F w.1 z.2)

  -- the structure of a Shape, by its number
  pub shape-of : (y : ℕ) (x : Site) (lo hi : ℤ) → IsArrayOn S.checked fs y → x ≡ Called y → Rounds S k (shape x lo hi)
      → Among (Shape y lo hi) fs
  shape-of y x lo hi a e h =
      let z = known-shape x lo hi h in
      let same = name-once S fs s.found z.0 y (s.found.arrays (Shape z.0 lo hi) z.2) a (sym z.1 ∙ e) in
      let F : ℕ → Type 0 = λ i. Among (Shape i lo hi) fs in
      subst F same z.2
