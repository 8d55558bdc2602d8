-- Facts in a line, each of which follows from facts behind it and is none of them: each fact of a source is in such a
-- line, and so of a round that is no later than the line is long.
use Rattle.std.proofs.Common.{◌≡◌, ◌⊎◌, inl, inr, ℕ, zero, suc, ◌≤◌, Bool as Truth, true, false, List, [], ◌∷◌, length}
use Rattle.std.proofs.Common.{refl, sym, ap, subst, ◌∙◌, arith}
use Rattle.std.proofs.lemmas.Bool.{cases_lt, false≢true}
use Rattle.id_value.specs.List.{AllDiffer, Among}
use Rattle.id_source.specs.declared.Fact.{Fact}
use Rattle.id_source.specs.Facts.{Rule}
use Rattle.id_source.specs.Rounds.{Every, Holds, Rounds}
use Rattle.id_source.specs.Sources.{Source}
use Rattle.id_facts.proofs.OrdersLemmas.{is_same, is_same-itself, is_same-one}

-- a fact of a round is one of each round behind it
pub later : (S : Source) (n m : ℕ) (f : Fact) → n ≤ m → Rounds S n f → Rounds S m f
later S n zero f low h = let same : n ≡ 0 = omega (arith, low) in subst (λ i. Rounds S i f) same h
later S n (suc m) f low h = elim (cases_lt n (suc m)) [
  | inl less ↦ inl (later S n m f (omega (arith, less)) h)
  | inr more ↦ let same : n ≡ suc m = omega (arith, low, more) in subst (λ i. Rounds S i f) same h
]

every_to : (F G : Fact → Type 0) → ((f : Fact) → F f → G f) → (fs : List Fact) → Every F fs → Every G fs
every_to F G h [] all = tt
every_to F G h (f ∷ fs) all = (h f all.0, every_to F G h fs all.1)

-- a fact is among a list, or it is not
among_or_not : (f : Fact) (fs : List Fact) → Among f fs ⊎ (Among f fs → ⊥)
among_or_not f [] = inr (λ h. h)
among_or_not f (g ∷ fs) = by (is_same f g) refl (among_or_not f fs)
  where
    by : (b : Truth) → is_same f g ≡ b → Among f fs ⊎ (Among f fs → ⊥) → Among f (g ∷ fs) ⊎ (Among f (g ∷ fs) → ⊥)
    by true e rest = inl (inl (is_same-one f g e))
    by false e (inl h) = inl (inr h)
    by false e (inr none) = inr (λ h. elim h [
      | inl same ↦ false≢true (sym e ∙ (ap (is_same f) (sym same) ∙ is_same-itself f))
      | inr k ↦ none k
    ])

module _ (S : Source) where
  -- the fact follows from some of these
  pub record FollowsFrom (fs : List Fact) (f : Fact) : Type 0 where
    pub premises : List Fact
    pub rule : Rule S premises f
    pub there : Every (λ g. Among g fs) premises

  -- each follows from those behind it, and is none of them
  abbrev pub IsChain : List Fact → Type 0
  IsChain [] = Unit {0}
  IsChain (f ∷ fs) = FollowsFrom fs f × (Among f fs → ⊥) × IsChain fs

  pub chain_differs : (fs : List Fact) → IsChain fs → AllDiffer fs
  chain_differs [] h = tt
  chain_differs (f ∷ fs) h = (h.1, chain_differs fs h.2)

  -- each is of a round no later than the chain is long
  pub chain_holds : (fs : List Fact) → IsChain fs → (f : Fact) → Among f fs → Rounds S (length fs) f
  chain_holds [] h f l = absurd l
  chain_holds (g ∷ fs) h f (inr l) = inl (chain_holds fs h.2 f l)
  chain_holds (g ∷ fs) h f (inl e) =
      let x = h.0 in
      let here : Rounds S (length (g ∷ fs)) g =
      inr (
        x.premises,
        x.rule,
        every_to (λ k. Among k fs) (Rounds S (length fs)) (chain_holds fs h.2) x.premises x.there,
      ) in
      subst (Rounds S (length (g ∷ fs))) (sym e) here

  -- a longer chain
  pub record Longer (fs : List Fact) (F : List Fact → Type 0) : Type 0 where
    pub list : List Fact
    pub chain : IsChain list
    pub keeps : (g : Fact) → Among g fs → Among g list
    pub has : F list

  abbrev HasAll : List Fact → List Fact → Type 0
  HasAll gs list = Every (λ g. Among g list) gs

  -- where each of some facts can be had, all of them can
  extend_all : (F : Fact → Type 0) → ((f : Fact) → F f → (fs : List Fact) → IsChain fs → Longer fs (Among f))
      → (gs : List Fact) → Every F gs → (fs : List Fact) → IsChain fs → Longer fs (HasAll gs)
  extend_all F one [] all fs h = record { list = fs; chain = h; keeps = λ g l. l; has = tt }
  extend_all F one (g ∷ gs) all fs h =
      let x = one g all.0 fs h in
      let y = extend_all F one gs all.1 x.list x.chain in
      record { list = y.list; chain = y.chain; keeps = λ k l. y.keeps k (x.keeps k l); has = (y.keeps g x.has, y.has) }

  -- a chain goes on to each fact of a round
  extend : (n : ℕ) (f : Fact) → Rounds S n f → (fs : List Fact) → IsChain fs → Longer fs (Among f)
  extend zero f r fs h = absurd r
  extend (suc n) f (inl r) fs h = extend n f r fs h
  extend (suc n) f (inr (gs, rule, hold)) fs h = by (extend_all (Rounds S n) (extend n) gs hold fs h)
    where
      with_it : (x : Longer fs (HasAll gs)) → Among f x.list ⊎ (Among f x.list → ⊥) → Longer fs (Among f)
      with_it x (inl l) = record { list = x.list; chain = x.chain; keeps = x.keeps; has = l }
      with_it x (inr none) = record {
        list = f ∷ x.list;
        chain = (record { premises = gs; rule = rule; there = x.has }, none, x.chain);
        keeps = λ g l. inr (x.keeps g l);
        has = inl refl;
      }

      by : Longer fs (HasAll gs) → Longer fs (Among f)
      by x = with_it x (among_or_not f x.list)

  -- each fact of the source is in a chain
  pub record InChain (f : Fact) : Type 0 where
    pub list : List Fact
    pub chain : IsChain list
    pub there : Among f list

  pub in_chain : (f : Fact) → Holds S f → InChain f
  in_chain f h = let x = extend h.round f h.there [] tt in record { list = x.list; chain = x.chain; there = x.has }
