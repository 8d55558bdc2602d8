-- The first of the causes found so far, where more are noted.
use Rattle.std.proofs.Common.{◌≡◌, ◌⊎◌, inl, inr, ◌<◌, ◌≤◌, ℕ, List, [], ◌∷◌, ◌++◌, refl, sym, subst, append_assoc}
use Rattle.std.proofs.Common.{append-nil, arith}
use Rattle.std.specs.Prelude.{Option}
use Rattle.id_check.specs.declared.cause.CheckCause.{CheckCause}
use Rattle.id_check.specs.Causes.{IsBefore, IsFirst, number_of, place_of}
use Rattle.id_check.specs.Firsts.{IsFirstOf, Notes}
use Rattle.id_value.proofs.AmongLemmas.{Among-left, Among-right, Among-either, Among-one}

-- what is not before another cause, but before a third, is behind it
other_before : (p q r n m k : ℕ) → ((p < q) ⊎ ((p ≡ q) × (n ≤ m)) → ⊥) → (p < r) ⊎ ((p ≡ r) × (n ≤ k))
    → (q < r) ⊎ ((q ≡ r) × (m ≤ k))
other_before p q r n m k h i = grind arith

IsBefore-refl : (c : CheckCause) → IsBefore c c
IsBefore-refl c = inr (refl, omega arith)

IsBefore-others : (c d e : CheckCause) → (IsBefore c d → ⊥) → IsBefore c e → IsBefore d e
IsBefore-others c d e h i =
    other_before (place_of c) (place_of d) (place_of e) (number_of c) (number_of d) (number_of e) h i

-- the first cause stays before a later one
pub IsFirst-stays : (c d : CheckCause) (cs : List CheckCause) → IsBefore c d → IsFirst c cs → IsFirst c (cs ++ d ∷ [])
IsFirst-stays c d cs h f = record {
  among = Among-left c cs (d ∷ []) f.among;
  before = λ e i. elim (Among-either e cs (d ∷ []) i)
      [ inl j ↦ f.before e j | inr j ↦ subst (IsBefore c) (sym (Among-one e d j)) h ];
}

-- another is the first where the one before it is not
pub IsFirst-turns : (c d : CheckCause) (cs : List CheckCause) → (IsBefore c d → ⊥) → IsFirst c cs
    → IsFirst d (cs ++ d ∷ [])
IsFirst-turns c d cs h f = record {
  among = Among-right d cs (d ∷ []) (inl refl);
  before = λ e i. elim (Among-either e cs (d ∷ []) i) [
    | inl j ↦ IsBefore-others c d e h (f.before e j)
    | inr j ↦ subst (IsBefore d) (sym (Among-one e d j))
        (IsBefore-refl d)
  ];
}

-- causes are noted after others
pub Notes-append : (a b c : Option CheckCause) (cs ds : List CheckCause) → Notes a cs b → Notes b ds c
    → Notes a (cs ++ ds) c
Notes-append a b c cs ds g h = λ es i. subst (IsFirstOf c) (append_assoc es cs ds) (h (es ++ cs) (g es i))

-- no cause was noted
pub Notes-none : (o : Option CheckCause) → Notes o [] o
Notes-none o = λ cs i. subst (IsFirstOf o) (sym (append-nil cs)) i
