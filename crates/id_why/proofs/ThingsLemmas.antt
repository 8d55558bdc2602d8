-- Things, each once.
use Rattle.std.proofs.Common.{◌≡◌, ◌⊎◌, ◌<◌, ◌≤◌, ◌&&◌, ◌||◌, inl, inr, ℕ, zero, suc, Bool as Truth, true, false}
use Rattle.std.proofs.Common.{nat_eq, nat_lt}
use Rattle.std.proofs.Common.{List, [], ◌∷◌, ◌++◌, length, drop, if◌then◌else◌, refl, ap, sym, ◌∙◌, subst, arith}
use Rattle.std.proofs.lemmas.Bool.{eqb-true, false≢true, lt-ltb}
use Rattle.std.specs.Prelude.{get_or, ◌%◌, ◌+◌}
use Rattle.std.proofs.lemmas.List.{append-nil, append_assoc, length-append}
use Rattle.std.proofs.Math.ListN.{get_or-append}
use Rattle.std.proofs.Math.Seq.{get_or-append_seam}
use Rattle.std.proofs.Math.Nat.{eq-or-lt_of_le, mod-lt}
use Rattle.id_value.specs.List.{AllDiffer, Among}
use Rattle.id_value.proofs.AmongLemmas.{Among-either, Among-left, Among-right}
use Rattle.id_value.proofs.DifferLemmas.{AllDiffer-append}
use Rattle.id_source.specs.declared.edges.Edges.{Edges}
use Rattle.id_source.specs.Links.{AreNone, Gains, Leads, targets, width}
use Rattle.id_facts.specs.declared.cells.Point.{Point}
use Rattle.id_facts.specs.declared.facts.Trail.TheVariants.{Outermost}
use Rattle.id_facts.specs.RowFacts.{chain_at, mark_of, same_trail}
use Rattle.id_facts.proofs.OneLemmas.{and-is, both, eq-itself, trail-itself, trail-true}
use Rattle.id_why.specs.Needs.{point}
use Rattle.id_why.specs.Things.{AreHeld, is_thing, same_point, thing_at, with_all, with_one}
use Rattle.id_why.proofs.TestLemmas.{or-left, or-right, or-true}

-- ---- things that are one

pub point-one : (t u : Point) → same_point t u ≡ true → t ≡ u
point-one t u h =
    let b = both (same_trail t.path u.path) (nat_eq t.row u.row) h in
    ap (λ p. point p t.row) (trail-true t.path u.path b.0) ∙ ap (λ n. point u.path n) (eqb-true t.row u.row b.1)

pub point-same : (t : Point) → same_point t t ≡ true
point-same t = and-is (same_trail t.path t.path) (nat_eq t.row t.row) (trail-itself t.path) (eq-itself t.row)

pub thing-among : (t : Point) (us : List Point) → is_thing t us ≡ true → Among t us
thing-among t [] h = cc
thing-among t (u ∷ us) h = elim (or-true (same_point u t) (is_thing t us) h) [
  | inl a ↦ inl (sym (point-one u t a))
  | inr a ↦ inr (thing-among t us a)
]

pub among-thing : (t : Point) (us : List Point) → Among t us → is_thing t us ≡ true
among-thing t [] h = absurd h
among-thing t (u ∷ us) (inl q) =
    or-left (same_point u t) (is_thing t us) (ap (λ y. same_point y t) (sym q) ∙ point-same t)
among-thing t (u ∷ us) (inr h) = or-right (same_point u t) (is_thing t us) (among-thing t us h)

-- ---- one more, and more

-- the new things are the old ones with more behind, all of them among those that came
pub record Grows (us ts ws : List Point) : Type 0 where
  pub news : List Point
  pub grows : ws ≡ us ++ news
  pub told : (t : Point) → Among t news → Among t ts
  pub all : (t : Point) → Among t ts → Among t ws
  pub once : AllDiffer us → AllDiffer ws

pub grows-one : (us : List Point) (t : Point) → Grows us (t ∷ []) (with_one us t)
grows-one us t = go (is_thing t us) refl
  where
    go : (b : Truth) → is_thing t us ≡ b → Grows us (t ∷ []) (if b then us else us ++ t ∷ [])
    go true e = record {
      news = [];
      grows = sym (append-nil us);
      told = λ x m. absurd m;
      all = λ x m. elim m [
        | inl q ↦ (let F : Point → Type 0 = λ y. Among y us in subst F (sym q) (thing-among t us e))
        | inr q ↦ absurd q
      ];
      once = λ d. d;
    }
    go false e = record {
      news = t ∷ [];
      grows = refl;
      told = λ x m. m;
      all = λ x m. Among-right x us (t ∷ []) m;
      once = λ d. AllDiffer-append us (t ∷ []) d ((λ m. m), tt) (λ x m n. elim n [
        | inl q ↦ (let F : Point → Type 0 = λ y. Among y us in false≢true (sym e ∙ among-thing t us (subst F q m)))
        | inr q ↦ q
      ]);
    }

pub grows-all : (us ts : List Point) → Grows us ts (with_all us ts)
grows-all us [] = record {
  news = [];
  grows = sym (append-nil us);
  told = λ x m. m;
  all = λ x m. absurd m;
  once = λ d. d;
}
grows-all us (t ∷ ts) =
    let a = grows-one us t in
    let b = grows-all (with_one us t) ts in
    record {
      news = a.news ++ b.news;
      grows = b.grows ∙ ap (λ ys. ys ++ b.news) a.grows ∙ append_assoc us a.news b.news;
      told = λ x m. elim (Among-either x a.news b.news m) [
        | inl n ↦ (let one : Among x (t ∷ []) = a.told x n in elim one [ inl q ↦ inl q | inr q ↦ absurd q ])
        | inr n ↦ inr (b.told x n)
      ];
      all = λ x m. elim m [
        | inl q ↦ (let F : List Point → Type 0 = λ ys. Among x ys in
            subst F (sym b.grows) (Among-left x (with_one us t) b.news (a.all x (inl q))))
        | inr n ↦ b.all x n
      ];
      once = λ d. b.once (a.once d);
    }

-- ---- chains

pub held-none : (ts : List Point) (E : Edges) → ts ≡ [] → AreNone E 262144 → AreHeld ts E
held-none ts E e n = record {
  wide = n.wide;
  there = λ i l. (let P : List Point → Type 0 = λ xs. i < length xs in let q : i < 0 = subst P e l in
      absurd (omega arith));
}

-- edges that are kept still find the things
pub held-kept : (ts us : List Point) (E F : Edges) → us ≡ ts → width F ≡ width E
    → ((a b : ℕ) → Leads E a b → Leads F a b) → AreHeld ts E → AreHeld us F
held-kept ts us E F e w kept h =
    let G : List Point → Type 0 = λ xs. AreHeld xs F in
    subst G (sym e) (record { wide = w ∙ h.wide; there = λ i l. kept _ i (h.there i l) })

chain-low : (t : Point) → chain_at t.path t.row < 262144
chain-low t = mod-lt (t.row % 262144 + mark_of t.path) (omega arith)

pub held-more : (ts us : List Point) (E F : Edges) (t : Point) (n c : ℕ) → us ≡ ts ++ t ∷ [] → n ≡ length ts
    → c ≡ chain_at t.path t.row → Gains E F c (n ∷ []) → AreHeld ts E → AreHeld us F
held-more ts us E F t n c e q r g h =
    let d = point Outermost 0 in
    let G : List Point → Type 0 = λ xs. AreHeld xs F in
    subst G (sym e) record {
      wide = g.wide ∙ h.wide;
      there = λ i l. (
          let long = length-append ts (t ∷ []) in
          let le : i ≤ length ts = omega arith in
          elim (eq-or-lt_of_le le) [
            | inl s ↦
                (let H : Point → Type 0 = λ y. Leads F (chain_at y.path y.row) (length ts) in
                let I : ℕ → Type 0 =
                λ j. Leads F (chain_at (thing_at (ts ++ t ∷ []) j).path (thing_at (ts ++ t ∷ []) j).row) j in
                let low = chain-low t in
                let wide = h.wide in
                let J : ℕ → Type 0 = λ j. Leads F c j in
                let K : ℕ → Type 0 = λ j. Leads F j (length ts) in
                subst I (sym s)
                (subst H (sym (get_or-append_seam ts t [] d))
                (subst K r (subst J q (g.added n (omega arith) (inl refl))))))
            | inr s ↦
                (let H : Point → Type 0 = λ y. Leads F (chain_at y.path y.row) i in
                subst H (sym (get_or-append ts (t ∷ []) d i s)) (g.kept _ i (h.there i s)))
          ]);
    }

-- whether the thing is one of those with these numbers
abbrev pub is_held : List Point → Point → List ℕ → Truth
is_held ts t [] = false
is_held ts t (i ∷ is) = (nat_lt i (length ts) && same_point (thing_at ts i) t) || is_held ts t is

held-at : (ts : List Point) (t : Point) (is : List ℕ) (i : ℕ) → Among i is → i < length ts
    → same_point (thing_at ts i) t ≡ true → is_held ts t is ≡ true
held-at ts t [] i m l e = absurd m
held-at ts t (j ∷ is) i (inl q) l e =
    let P : ℕ → Type 0 = λ k. nat_lt k (length ts) && same_point (thing_at ts k) t ≡ true in
    or-left (nat_lt j (length ts) && same_point (thing_at ts j) t) (is_held ts t is)
    (subst P q (and-is (nat_lt i (length ts)) (same_point (thing_at ts i) t) (lt-ltb i (length ts) l) e))
held-at ts t (j ∷ is) i (inr m) l e =
    or-right (nat_lt j (length ts) && same_point (thing_at ts j) t) (is_held ts t is) (held-at ts t is i m l e)

thing-index : (t : Point) (ts : List Point) → Among t ts → (i : ℕ) × (i < length ts) × (thing_at ts i ≡ t)
thing-index t [] m = absurd m
thing-index t (u ∷ ts) (inl q) = (0, omega arith, sym q)
thing-index t (u ∷ ts) (inr m) = let r = thing-index t ts m in (suc r.0, (let l = r.1 in omega arith), r.2)

-- where the thing is not found in its chain, it is not there
pub held-out : (ts : List Point) (E : Edges) (t : Point) → AreHeld ts E
    → is_held ts t (targets E.rows.items (chain_at t.path t.row)) ≡ false
    → is_thing t ts ≡ false
held-out ts E t h e = go (is_thing t ts) refl
  where
    go : (b : Truth) → is_thing t ts ≡ b → is_thing t ts ≡ false
    go false q = q
    go true q =
        let r = thing-index t ts (thing-among t ts q) in
        let P : Point → Type 0 = λ y. Leads E (chain_at y.path y.row) r.0 in
        let yes = held-at ts t (targets E.rows.items (chain_at t.path t.row)) r.0 (subst P r.2 (h.there r.0 r.1)) r.1
        (ap (λ y. same_point y t) r.2 ∙ point-same t) in
        let bad : false ≡ true = sym e ∙ yes in cc

-- a thing is there where that of some number is the same
pub held-found : (ts : List Point) (t u : Point) (n : ℕ) → n < length ts → u ≡ get_or ts n u → same_point u t ≡ true
    → true ≡ is_thing t ts
held-found ts t u n l q e = sym (among-thing t ts (let F : Point → Type 0 = λ y. Among y ts in
    subst F (point-one u t e) (subst F (sym q) (any ts n u l))))
  where
    any : (xs : List Point) (i : ℕ) (d : Point) → i < length xs → Among (get_or xs i d) xs
    any [] i d l = absurd (omega arith)
    any (x ∷ xs) zero d l = inl refl
    any (x ∷ xs) (suc i) d l = inr (any xs i d (omega arith))
