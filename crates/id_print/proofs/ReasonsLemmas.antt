-- Lemmas on specs/Reasons.antt: the parts of a line.
use Rattle.std.proofs.Common.{◌≡◌, ℕ, ◌≤◌, List, [], ◌∷◌, ◌++◌, Bool as Truth, true, false, nat_eq, codes, length, take}
use Rattle.std.proofs.Common.{refl, ap, sym, ◌∙◌}
use Rattle.std.specs.List.{flat_map}
use Rattle.std.proofs.lemmas.List.{append-nil, take-append-drop}
use Rattle.std.proofs.Math.ListN.{drop_of_length-le}
use Rattle.id_facts.specs.declared.cells.Point.{Point}
use Rattle.id_why.specs.declared.known.Cell.{Cell}
use Rattle.id_print.specs.Pens.{PenView}
use Rattle.id_print.specs.Reasons.{cells_text, stores_text, things_text, wanted_text}

-- the texts of as many as there are
pub all-of : {A : Type 0} (f : A → List ℕ) (xs : List A) (i : ℕ) → length xs ≤ i
    → flat_map f (take i xs) ≡ flat_map f xs
all-of f xs i l =
    ap (flat_map f) (sym (append-nil (take i xs)) ∙ ap (λ d. take i xs ++ d) (sym (drop_of_length-le xs l))
    ∙ take-append-drop i xs)

pub wanted-none : (v : PenView) (cs : List Cell) (ts : List Point) → cs ≡ [] → things_text v ts ≡ wanted_text v cs ts
wanted-none v [] ts e = refl
wanted-none v (c ∷ cs) ts e = cc

pub wanted-some : (v : PenView) (cs : List Cell) (ts : List Point) → (cs ≡ [] → ⊥)
    → cells_text v cs ++ stores_text v ts ≡ wanted_text v cs ts
wanted-some v [] ts e = absurd (e refl)
wanted-some v (c ∷ cs) ts e = refl

pub stores-some : (v : PenView) (ts : List Point) → (ts ≡ [] → ⊥) → codes " of" ++ things_text v ts ≡ stores_text v ts
stores-some v [] e = absurd (e refl)
stores-some v (t ∷ ts) e = refl

-- a list that is said not to be empty
pub not-empty : {A : Type 0} (xs : List A) (b : Truth) → b ≡ nat_eq (length xs) 0 → b ≡ false → xs ≡ [] → ⊥
not-empty [] b e f q = let bad : true ≡ false = sym e ∙ f in cc
not-empty (x ∷ xs) b e f q = cc
