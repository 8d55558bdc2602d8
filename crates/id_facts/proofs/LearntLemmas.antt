-- What is learnt: facts behind those that are there, each once.
use Rattle.std.proofs.Common.{◌≡◌, ◌⊎◌, inl, inr, ℕ, suc, ◌+◌, ◌≤◌, ◌<◌, ◌&&◌, nat_lt, nat_eq, not, ℤ, Bool as Truth}
use Rattle.std.proofs.Common.{true, false}
use Rattle.std.proofs.Common.{List, [], ◌∷◌, ◌++◌, length, if◌then◌else◌, refl, ap, sym, ◌∙◌, subst, arith}
use Rattle.std.specs.Prelude.{pos, ◌*◌, ◌%◌}
use Rattle.std.proofs.Math.Nat.{mod-lt}
use Rattle.std.specs.Ordering.{int_eq}
use Rattle.std.specs.Bool.{beq}
use Rattle.std.proofs.lemmas.Bool.{and_from, cases_lt, eq-eqb, false≢true, lt-ltb, ltb-true}
use Rattle.std.proofs.lemmas.Bool.Decides.{Decides-int_eq}
use Rattle.std.proofs.lemmas.List.{append-nil, append_assoc, length-append}
use Rattle.std.proofs.Math.Seq.{get_or-append_seam}
use Rattle.id_value.specs.List.{Among}
use Rattle.id_value.proofs.AmongLemmas.{Among-either, Among-left, Among-right}
use Rattle.id_facts.specs.declared.facts.RowFact.{RowFact}
use Rattle.id_facts.specs.declared.facts.RowFact.TheVariants.{On, Has, Shape, Put, Ask}
use Rattle.id_facts.specs.declared.facts.RowValue.{RowValue}
use Rattle.id_facts.specs.declared.facts.RowValue.TheVariants.{Int, Bool, Name}
use Rattle.id_facts.specs.declared.facts.Trail.{Trail}
use Rattle.id_facts.specs.declared.facts.Trail.TheVariants.{Outermost, Below}
use Rattle.id_facts.specs.declared.facts.Sort.TheVariants.{Shapes, Puts, Asks}
use Rattle.id_source.specs.declared.edges.Edges.{Edges}
use Rattle.id_source.specs.Links.{Gains, Leads, width}
use Rattle.id_facts.specs.RowFacts.{AreBefore, AreHeld, all_learnt, chain_at, chain_by, fact_at, is_among, is_inside}
use Rattle.id_facts.specs.RowFacts.{is_path_inside, is_value_inside, learnt, path_of}
use Rattle.id_facts.specs.RowFacts.{index_mark, mark_of, member_chain, same_fact, same_trail, same_value, value_mark}
use Rattle.id_facts.proofs.FactsLemmas.{among-at, index-of}
use Rattle.id_facts.proofs.SameLemmas.{among-same, same-among}
use Rattle.id_facts.proofs.OneLemmas.{on-is, trail-itself}
use Rattle.id_facts.proofs.MembersLemmas.{fact-one}
use Rattle.id_facts.proofs.FactsLemmas.{Inside, at-front}

-- ---- facts that are one

pub both : (a b : Truth) → a && b ≡ true → (a ≡ true) × (b ≡ true)
both true b h = (refl, h)
both false b h = cc

bit-itself : (b : Truth) → beq b b ≡ true
bit-itself true = refl
bit-itself false = refl

int-itself : (n : ℤ) → int_eq n n ≡ true
int-itself n = (Decides-int_eq n n).1 refl

number-itself : (n : ℕ) → nat_eq n n ≡ true
number-itself n = eq-eqb n n refl

value-itself : (v : RowValue) → same_value v v ≡ true
value-itself (Int n) = int-itself n
value-itself (Bool b) = bit-itself b
value-itself (Name i) = number-itself i

-- a fact is found to be itself
pub fact-itself : (f : RowFact) → same_fact f f ≡ true
fact-itself (On p n) = on-is p n
fact-itself (Has p n v) =
    and_from (same_trail p p && nat_eq n n) (same_value v v)
    (and_from (same_trail p p) (nat_eq n n) (trail-itself p) (number-itself n)) (value-itself v)
fact-itself (Shape s lo hi) =
    and_from (nat_eq s s && int_eq lo lo) (int_eq hi hi)
    (and_from (nat_eq s s) (int_eq lo lo) (number-itself s) (int-itself lo)) (int-itself hi)
fact-itself (Put p n s i v) =
    let a = and_from (same_trail p p) (nat_eq n n) (trail-itself p) (number-itself n) in
    let b = and_from (same_trail p p && nat_eq n n) (nat_eq s s) a (number-itself s) in
    let c = and_from (same_trail p p && nat_eq n n && nat_eq s s) (int_eq i i) b (int-itself i) in
    and_from (same_trail p p && nat_eq n n && nat_eq s s && int_eq i i) (same_value v v) c (value-itself v)
fact-itself (Ask p n s i) =
    let a = and_from (same_trail p p) (nat_eq n n) (trail-itself p) (number-itself n) in
    let b = and_from (same_trail p p && nat_eq n n) (nat_eq s s) a (number-itself s) in
    and_from (same_trail p p && nat_eq n n && nat_eq s s) (int_eq i i) b (int-itself i)

-- a fact is found where it is among them, and there alone
pub among-found : (fs : List RowFact) (f : RowFact) → Among f fs → is_among f fs ≡ true
among-found fs f h = among-same fs f f h (fact-itself f)

pub found-among : (fs : List RowFact) (f : RowFact) → is_among f fs ≡ true → Among f fs
found-among fs f h =
    let r = same-among fs f h in
    let F : RowFact → Type 0 = λ g. Among g fs in
    subst F (fact-one r.0 f r.2) r.1

-- ---- what is there, stays there

number-more : (n m i : ℕ) → n ≤ m → nat_lt i n ≡ true → nat_lt i m ≡ true
number-more n m i l h = let k = ltb-true i n h in lt-ltb i m (omega arith)

path-more : (n m : ℕ) (p : Trail) → n ≤ m → is_path_inside n p ≡ true → is_path_inside m p ≡ true
path-more n m Outermost l h = refl
path-more n m (Below i k) l h = number-more n m i l h

value-more : (n m : ℕ) (v : RowValue) → n ≤ m → is_value_inside n v ≡ true → is_value_inside m v ≡ true
value-more n m (Int k) l h = refl
value-more n m (Bool b) l h = refl
value-more n m (Name i) l h = number-more n m i l h

pub within-more : (n m : ℕ) (f : RowFact) → n ≤ m → is_inside n f ≡ true → is_inside m f ≡ true
within-more n m (On p r) l h = path-more n m p l h
within-more n m (Has p r v) l h =
    let a = both (is_path_inside n p) (is_value_inside n v) h in
    and_from (is_path_inside m p) (is_value_inside m v) (path-more n m p l a.0) (value-more n m v l a.1)
within-more n m (Shape s lo hi) l h = number-more n m s l h
within-more n m (Put p r s i v) l h =
    let a = both (is_path_inside n p && nat_lt s n) (is_value_inside n v) h in
    let b = both (is_path_inside n p) (nat_lt s n) a.0 in
    and_from (is_path_inside m p && nat_lt s m) (is_value_inside m v)
    (and_from (is_path_inside m p) (nat_lt s m) (path-more n m p l b.0) (number-more n m s l b.1))
    (value-more n m v l a.1)
within-more n m (Ask p r s i) l h =
    let b = both (is_path_inside n p) (nat_lt s n) h in
    and_from (is_path_inside m p) (nat_lt s m) (path-more n m p l b.0) (number-more n m s l b.1)

-- and the other way round
pub path-there : (n : ℕ) (p : Trail) → Inside n p → is_path_inside n p ≡ true
path-there n Outermost h = refl
path-there n (Below i k) h = lt-ltb i n h

pub there-path : (n : ℕ) (p : Trail) → is_path_inside n p ≡ true → Inside n p
there-path n Outermost h = tt
there-path n (Below i k) h = ltb-true i n h

pub inside-path : (n : ℕ) (f : RowFact) → is_inside n f ≡ true → Inside n (path_of f)
inside-path n (On p r) h = there-path n p h
inside-path n (Has p r v) h = there-path n p (both (is_path_inside n p) (is_value_inside n v) h).0
inside-path n (Shape s lo hi) h = tt
inside-path n (Put p r s i v) h =
    there-path n p
    (both (is_path_inside n p) (nat_lt s n) (both (is_path_inside n p && nat_lt s n) (is_value_inside n v) h).0).0
inside-path n (Ask p r s i) h = there-path n p (both (is_path_inside n p) (nat_lt s n) h).0

-- each fact speaks of what is there among all
pub among-within : (fs : List RowFact) → AreBefore fs → (f : RowFact) → Among f fs → is_inside (length fs) f ≡ true
among-within fs b f h =
    let r = index-of f fs h in
    let l = r.1 in
    let F : RowFact → Type 0 = λ g. is_inside (length fs) g ≡ true in
    subst F r.2 (within-more r.0 (length fs) (fact_at fs r.0) (omega arith) (b r.0 r.1))

-- ---- what is learnt

-- no two of the facts are one
abbrev pub AreApart : List RowFact → Type 0
AreApart fs = (i j : ℕ) → i < length fs → j < length fs → fact_at fs i ≡ fact_at fs j → i ≡ j

-- ds are the facts with those of es that were not there
pub record Learns (fs ds es : List RowFact) : Type 0 where
  pub news : List RowFact
  pub grows : ds ≡ fs ++ news
  pub told : (f : RowFact) → Among f news → Among f es
  pub fresh : (f : RowFact) → Among f news → Among f fs → ⊥
  pub all : (f : RowFact) → Among f es → is_inside (length fs) f ≡ true → Among f ds
  pub before : AreBefore fs → AreBefore ds
  pub apart : AreApart fs → AreApart ds

pub wide : (fs ds news : List RowFact) → ds ≡ fs ++ news → length fs ≤ length ds
wide fs ds news e =
    let a : length ds ≡ length (fs ++ news) = ap (λ xs. length xs) e in
    let b = length-append fs news in
    omega (arith, a, b)

pub kept : (fs ds news : List RowFact) → ds ≡ fs ++ news → (f : RowFact) → Among f fs → Among f ds
kept fs ds news e f h = let F : List RowFact → Type 0 = λ xs. Among f xs in subst F (sym e) (Among-left f fs news h)

learns-none : (fs : List RowFact) → Learns fs fs []
learns-none fs = record {
  news = [];
  grows = sym (append-nil fs);
  told = λ f h. h;
  fresh = λ f h k. absurd h;
  all = λ f h l. absurd h;
  before = λ b. b;
  apart = λ a. a;
}

-- one fact behind these
one-long : (fs : List RowFact) (f : RowFact) → length (fs ++ f ∷ []) ≡ suc (length fs)
one-long fs f = let a = length-append fs (f ∷ []) in omega (arith, a)

one-seam : (fs : List RowFact) (f : RowFact) → fact_at (fs ++ f ∷ []) (length fs) ≡ f
one-seam fs f = get_or-append_seam fs f [] (On Outermost 0)

one-which : (fs : List RowFact) (f : RowFact) (i : ℕ) → i < length (fs ++ f ∷ []) → (i < length fs) ⊎ (i ≡ length fs)
one-which fs f i l =
    let a = one-long fs f in elim (cases_lt i (length fs)) [ inl k ↦ inl k | inr k ↦ inr (omega (arith, a)) ]

one-before : (fs : List RowFact) (f : RowFact) → is_inside (length fs) f ≡ true → AreBefore fs
    → AreBefore (fs ++ f ∷ [])
one-before fs f h b i l = elim (one-which fs f i l) [
  | inl k ↦ ap (λ g. is_inside i g) (at-front fs (f ∷ []) i k) ∙ b i k
  | inr q ↦ (let F : ℕ → Type 0 = λ j. is_inside j (fact_at (fs ++ f ∷ []) j) ≡ true in
      subst F (sym q) (ap (λ g. is_inside (length fs) g) (one-seam fs f) ∙ h))
]

one-apart : (fs : List RowFact) (f : RowFact) → (Among f fs → ⊥) → AreApart fs → AreApart (fs ++ f ∷ [])
one-apart fs f new a i j l m e = elim (one-which fs f i l) [
  | inl x ↦ elim (one-which fs f j m) [
    | inl y ↦ a i j x y (sym (at-front fs (f ∷ []) i x) ∙ e ∙ at-front fs (f ∷ []) j y)
    | inr y ↦ absurd (new (clash i x (sym (at-front fs (f ∷ []) i x) ∙ e ∙ last j y)))
  ]
  | inr x ↦ elim (one-which fs f j m) [
    | inl y ↦ absurd (new (clash j y (sym (at-front fs (f ∷ []) j y) ∙ sym e ∙ last i x)))
    | inr y ↦ x ∙ sym y
  ]
]
  where
    last : (k : ℕ) → k ≡ length fs → fact_at (fs ++ f ∷ []) k ≡ f
    last k q = ap (λ n. fact_at (fs ++ f ∷ []) n) q ∙ one-seam fs f

    clash : (k : ℕ) → k < length fs → fact_at fs k ≡ f → Among f fs
    clash k x q = let F : RowFact → Type 0 = λ g. Among g fs in subst F q (among-at fs k x)

member-low : (f : RowFact) → member_chain f < 262144
member-low (On p n) = mod-lt (n % 262144 + mark_of p) (omega arith)
member-low (Has p n v) = mod-lt (chain_at p n + value_mark v * 77041) (omega arith)
member-low (Shape s lo hi) =
    mod-lt (chain_by Shapes s (pos 0) + index_mark lo * 77041 + index_mark hi * 29327) (omega arith)
member-low (Put p n s i v) = mod-lt (chain_by Puts s i + chain_at p n * 3 + value_mark v * 77041) (omega arith)
member-low (Ask p n s i) = mod-lt (chain_by Asks s i + chain_at p n * 3) (omega arith)

-- facts are found where their chains keep what they have
pub held-kept : (fs gs : List RowFact) (E F : Edges) → gs ≡ fs → width F ≡ width E
    → ((n b : ℕ) → Leads E n b → Leads F n b) → AreHeld fs E → AreHeld gs F
held-kept fs gs E F e w k h =
    let H : List RowFact → Type 0 = λ xs. AreHeld xs F in
    subst H (sym e) (record {
      wide = w ∙ h.wide;
      there = λ i l. k (member_chain (fact_at fs i)) i (h.there i l);
      before = h.before;
    })

-- and one more, where its number hangs in its chain
pub held-more : (fs gs : List RowFact) (E F : Edges) (f : RowFact) (n k : ℕ) → gs ≡ fs ++ f ∷ [] → n ≡ length fs
    → k ≡ member_chain f → is_inside (length fs) f ≡ true → Gains E F k (n ∷ []) → AreHeld fs E → AreHeld gs F
held-more fs gs E F f n k e q r inside g h =
    let H : List RowFact → Type 0 = λ xs. AreHeld xs F in
    let ds = fs ++ f ∷ [] in
    subst H (sym e) (record {
      wide = g.wide ∙ h.wide;
      there = λ i l. elim (one-which fs f i l) [
        | inl x ↦
            let A : RowFact → Type 0 = λ y. Leads F (member_chain y) i in
            subst A (sym (at-front fs (f ∷ []) i x)) (g.kept (member_chain (fact_at fs i)) i (h.there i x))
        | inr x ↦
            let A : ℕ → Type 0 = λ j. Leads F (member_chain (fact_at ds j)) j in
            let B : RowFact → Type 0 = λ y. Leads F (member_chain y) (length fs) in
            let C : ℕ → Type 0 = λ j. Leads F j (length fs) in
            let w = h.wide in
            let low = member-low f in
            let there : Leads F k (length fs) = g.added (length fs) (omega (arith, w, low, r)) (inl (sym q)) in
            subst A (sym x) (subst B (sym (one-seam fs f)) (subst C r there))
      ];
      before = one-before fs f inside h.before;
    })

fresh-so : (a b : Truth) → a && not b ≡ true → (a ≡ true) × (b ≡ false)
fresh-so true false h = (refl, refl)
fresh-so true true h = cc
fresh-so false b h = cc

stale-so : (a b : Truth) → a ≡ true → a && not b ≡ false → b ≡ true
stale-so true true e h = refl
stale-so true false e h = cc
stale-so false b e h = cc

learns-one : (fs : List RowFact) (f : RowFact) (b : Truth) → is_inside (length fs) f && not (is_among f fs) ≡ b
    → Learns fs (if b then fs ++ f ∷ [] else fs) (f ∷ [])
learns-one fs f true e =
    let t = fresh-so (is_inside (length fs) f) (is_among f fs) e in
    let new : Among f fs → ⊥ = λ h. false≢true (sym t.1 ∙ among-found fs f h) in
    record {
      news = f ∷ [];
      grows = refl;
      told = λ g h. h;
      fresh = λ g h k. elim h [
        | inl q ↦ (let F : RowFact → Type 0 = λ x. Among x fs in new (subst F q k))
        | inr x ↦ absurd x
      ];
      all = λ g h l. Among-right g fs (f ∷ []) h;
      before = λ b. one-before fs f t.0 b;
      apart = λ a. one-apart fs f new a;
    }
learns-one fs f false e = record {
  news = [];
  grows = sym (append-nil fs);
  told = λ g h. absurd h;
  fresh = λ g h k. absurd h;
  all = λ g h l. elim h [
    | inl q ↦
        let F : RowFact → Type 0 = λ x. is_inside (length fs) x ≡ true in
        let G : RowFact → Type 0 = λ x. Among x fs in
        subst G (sym q) (found-among fs f (stale-so (is_inside (length fs) f) (is_among f fs) (subst F q l) e))
    | inr x ↦ absurd x
  ];
  before = λ b. b;
  apart = λ a. a;
}

learns-both : (fs ds cs es gs : List RowFact) → Learns fs ds es → Learns ds cs gs → Learns fs cs (es ++ gs)
learns-both fs ds cs es gs a b = record {
  news = a.news ++ b.news;
  grows = b.grows ∙ ap (λ xs. xs ++ b.news) a.grows ∙ append_assoc fs a.news b.news;
  told = λ f h. elim (Among-either f a.news b.news h)
      [ inl i ↦ Among-left f es gs (a.told f i) | inr i ↦ Among-right f es gs (b.told f i) ];
  fresh = λ f h k. elim (Among-either f a.news b.news h)
      [ inl i ↦ a.fresh f i k | inr i ↦ b.fresh f i (kept fs ds a.news a.grows f k) ];
  all = λ f h l. elim (Among-either f es gs h) [
    | inl i ↦ kept ds cs b.news b.grows f (a.all f i l)
    | inr i ↦ b.all f i (within-more (length fs) (length ds) f (wide fs ds a.news a.grows) l)
  ];
  before = λ x. b.before (a.before x);
  apart = λ x. b.apart (a.apart x);
}

-- facts are learnt one by one
pub learns : (fs es : List RowFact) → Learns fs (all_learnt fs es) es
learns fs [] = learns-none fs
learns fs (f ∷ es) =
    learns-both fs (learnt fs f) (all_learnt (learnt fs f) es) (f ∷ []) es
    (learns-one fs f (is_inside (length fs) f && not (is_among f fs)) refl)
    (learns (learnt fs f) es)

pub learns-so : (fs ds es : List RowFact) → ds ≡ all_learnt fs es → Learns fs ds es
learns-so fs ds es e = let F : List RowFact → Type 0 = λ xs. Learns fs xs es in subst F (sym e) (learns fs es)

-- ---- one list after another

pub all_learnt-append : (fs es gs : List RowFact) → all_learnt fs (es ++ gs) ≡ all_learnt (all_learnt fs es) gs
all_learnt-append fs [] gs = refl
all_learnt-append fs (e ∷ es) gs = all_learnt-append (learnt fs e) es gs
