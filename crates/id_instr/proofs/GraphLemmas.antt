-- Lemmas on specs/Graph.antt, in the order of its definitions.
use Rattle.std.proofs.Common.{◌≡◌, ◌<◌, Bool, cond, List, [], ◌∷◌, ◌++◌, length, true, false, All, inl, inr, refl, sym, subst}
use Rattle.std.proofs.lemmas.List.Elements.{All-nil, All-cons, All-head, All-tail, All-append}
use Rattle.std.proofs.lemmas.Option.{slice_get_cases}
use Rattle.id_value.specs.List.{Among}
use Rattle.id_value.proofs.AmongLemmas.{Among-left, Among-right, Among-either}
use Rattle.id_instr.specs.declared.instr.Instr.{Instr}
use Rattle.id_instr.specs.declared.dests.Dest.{Dest}
use Rattle.id_instr.specs.Ports.{two_sides}
use Rattle.id_instr.specs.Graph.{IsPort, arcs_on, false_arcs, arcs}

-- what holds of two lists in one holds of each
pub All-left : {A : Type 0} (P : A → Type 0) (xs ys : List A) → All P (xs ++ ys) → All P xs
All-left P [] ys h = All-nil P
All-left P (x ∷ xs) ys h = All-cons P x xs (All-head P x (xs ++ ys) h) (All-left P xs ys (All-tail P x (xs ++ ys) h))

pub All-right : {A : Type 0} (P : A → Type 0) (xs ys : List A) → All P (xs ++ ys) → All P ys
All-right P [] ys h = h
All-right P (x ∷ xs) ys h = All-right P xs ys (All-tail P x (xs ++ ys) h)

-- what holds of the destinations on both sides holds of all, and the other way round
pub All-arcs : (P : Dest → Type 0) (i : Instr) → All P (arcs_on true i) → All P (false_arcs i) → All P (arcs i)
All-arcs P i = All-append P (arcs_on true i) (false_arcs i)

pub All-true_arcs : (P : Dest → Type 0) (i : Instr) → All P (arcs i) → All P (arcs_on true i)
All-true_arcs P i = All-left P (arcs_on true i) (false_arcs i)

pub All-false_arcs : (P : Dest → Type 0) (i : Instr) → All P (arcs i) → All P (false_arcs i)
All-false_arcs P i = All-right P (arcs_on true i) (false_arcs i)

-- of an operator with two sides it holds on each
pub All-arcs_on : (P : Dest → Type 0) (i : Instr) (b : Bool) → two_sides i.op ≡ true → All P (arcs i) → All P (arcs_on b i)
All-arcs_on P i true two h = All-true_arcs P i h
All-arcs_on P i false two h = subst (λ s. All P (cond s i.others [])) two (All-false_arcs P i h)

-- a destination that counts is on a side that there is, and the other way round
pub Among-arcs : (d : Dest) (i : Instr) → Among d (arcs i) → (b : Bool) × Among d (arcs_on b i) × (b ≡ false → two_sides i.op ≡ true)
Among-arcs d i h = elim (Among-either d (arcs_on true i) (false_arcs i) h) [
  | inl first ↦ (true, first, λ e. cc)
  | inr second ↦ let t = counted (two_sides i.op) second in (false, t.1, λ _. t.0)
]
  where
    counted : (s : Bool) → Among d (cond s i.others []) → (s ≡ true) × Among d i.others
    counted true h = (refl, h)
    counted false h = absurd h

pub Among-from_arcs_on : (d : Dest) (i : Instr) (b : Bool) → (b ≡ false → two_sides i.op ≡ true) → Among d (arcs_on b i) → Among d (arcs i)
Among-from_arcs_on d i true two h = Among-left d (arcs_on true i) (false_arcs i) h
Among-from_arcs_on d i false two h =
    Among-right d (arcs_on true i) (false_arcs i) (subst (λ s. Among d (cond s i.others [])) (sym (two refl)) h)

-- a port is one of an instruction that exists
pub IsPort-within : (is : List Instr) (d : Dest) → IsPort is d → d.instr < length is
IsPort-within is d h =
    elim (slice_get_cases is d.instr).1 [ inl p ↦ p.1 | inr q ↦ let h' = rw q.1 at h in cc ]
