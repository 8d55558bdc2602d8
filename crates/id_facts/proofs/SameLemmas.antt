-- Facts that are the same as one of some.
use Rattle.std.proofs.Common.{◌≡◌, ◌⊎◌, ◌||◌, ◌&&◌, ℕ, zero, suc, ◌<◌, nat_lt, Bool as Truth, true, false, List, []}
use Rattle.std.proofs.Common.{◌∷◌, length, inl, inr, refl, ap, sym, ◌∙◌, subst, arith}
use Rattle.std.proofs.Math.ListN.{get_or}
use Rattle.std.proofs.lemmas.Bool.{lt-ltb, false≢true}
use Rattle.id_value.specs.List.{Among}
use Rattle.id_facts.specs.declared.facts.RowFact.{RowFact}
use Rattle.id_facts.specs.RowFacts.{fact_at, is_among, same_fact}

-- whether the fact is one of those with these numbers
abbrev pub is_in : List RowFact → RowFact → List ℕ → Truth
is_in fs f [] = false
is_in fs f (i ∷ is) = (nat_lt i (length fs) && same_fact (fact_at fs i) f) || is_in fs f is

or-true : (a b : Truth) → a || b ≡ true → (a ≡ true) ⊎ (b ≡ true)
or-true true b h = inl refl
or-true false b h = inr h

or-left : (a b : Truth) → a ≡ true → a || b ≡ true
or-left true b h = refl
or-left false b h = cc

or-right : (a b : Truth) → b ≡ true → a || b ≡ true
or-right true b h = refl
or-right false b h = h

-- where some of the facts is the same, it is found among all
pub among-same : (fs : List RowFact) (f g : RowFact) → Among g fs → same_fact g f ≡ true → is_among f fs ≡ true
among-same [] f g h e = absurd h
among-same (k ∷ fs) f g (inl q) e =
    or-left (same_fact k f) (is_among f fs) (ap (λ r. same_fact r f) (sym q) ∙ e)
among-same (k ∷ fs) f g (inr h) e = or-right (same_fact k f) (is_among f fs) (among-same fs f g h e)

-- and the other way round
pub same-among : (fs : List RowFact) (f : RowFact) → is_among f fs ≡ true
    → (g : RowFact) × Among g fs × (same_fact g f ≡ true)
same-among [] f h = absurd (false≢true h)
same-among (k ∷ fs) f h = elim (or-true (same_fact k f) (is_among f fs) h) [
  | inl e ↦ (k, inl refl, e)
  | inr e ↦ (let r = same-among fs f e in (r.0, inr r.1, r.2))
]

-- one of these numbers is one of them
among-any : (fs : List RowFact) (n : ℕ) (d : RowFact) → n < length fs → Among (get_or fs n d) fs
among-any [] n d l = absurd (omega arith)
among-any (f ∷ fs) zero d l = inl refl
among-any (f ∷ fs) (suc n) d l = inr (among-any fs n d (omega arith))

-- a fact is there where that of some number is the same
pub found-at : (fs : List RowFact) (f g : RowFact) (n : ℕ) → n < length fs → g ≡ get_or fs n g → same_fact g f ≡ true
    → true ≡ is_among f fs
found-at fs f g n l q e =
    let P : RowFact → Type 0 = λ h. Among h fs in
    sym (among-same fs f g (subst P (sym q) (among-any fs n g l)) e)

-- where the number of the same fact is one of these, the fact is in them
pub in-at : (fs : List RowFact) (f : RowFact) (is : List ℕ) (i : ℕ) → Among i is → i < length fs
    → same_fact (fact_at fs i) f ≡ true → is_in fs f is ≡ true
in-at fs f [] i h l e = absurd h
in-at fs f (j ∷ is) i (inl q) l e =
    let P : ℕ → Type 0 = λ k. nat_lt k (length fs) && same_fact (fact_at fs k) f ≡ true in
    or-left (nat_lt j (length fs) && same_fact (fact_at fs j) f) (is_in fs f is)
    (subst P q (and-true _ _ (lt-ltb i (length fs) l) e))
  where
    and-true : (a b : Truth) → a ≡ true → b ≡ true → a && b ≡ true
    and-true true b p q = q
    and-true false b p q = cc
in-at fs f (j ∷ is) i (inr h) l e =
    or-right (nat_lt j (length fs) && same_fact (fact_at fs j) f) (is_in fs f is) (in-at fs f is i h l e)
