-- Lemmas on specs/Rounds.antt.
use Rattle.std.proofs.Common.{inl, inr, ℕ, zero, suc, List, [], ◌∷◌}
use Rattle.id_source.specs.declared.Fact.{Fact}
use Rattle.id_source.specs.Sources.{Source}
use Rattle.id_source.specs.Facts.{Rule}
use Rattle.id_source.specs.Rounds.{Every, Rounds}

-- facts of a round are facts of the next one
pub Every-more : (S : Source) (n : ℕ) (fs : List Fact) → Every (Rounds S n) fs → Every (Rounds S (suc n)) fs
Every-more S n [] h = tt
Every-more S n (f ∷ fs) h = (inl h.0, Every-more S n fs h.1)

-- each fact of a round follows from facts of that round
pub again : (S : Source) (n : ℕ) (f : Fact) → Rounds S n f → (fs : List Fact) × Rule S fs f × Every (Rounds S n) fs
again S zero f h = absurd h
again S (suc n) f (inl h) = let r = again S n f h in (r.0, r.1, Every-more S n r.0 r.2)
again S (suc n) f (inr (fs, rule, hold)) = (fs, rule, Every-more S n fs hold)

-- each fact of a round follows from facts of the round before
pub Rounds-follow : (S : Source) (n : ℕ) (f : Fact) → Rounds S (suc n) f
    → (fs : List Fact) × Rule S fs f × Every (Rounds S n) fs
Rounds-follow S n f (inl h) = again S n f h
Rounds-follow S n f (inr h) = h
