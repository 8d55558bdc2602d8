-- Lemmas on specs/Pens.antt: the lines of facts by path and row, one after another.
use Rattle.std.proofs.Common.{◌≡◌, ℕ, ◌-◌, ◌≤◌, List, [], ◌∷◌, ◌++◌, length, take}
use Rattle.std.proofs.Common.{refl, ap, sym, ◌∙◌}
use Rattle.std.specs.List.{flat_map}
use Rattle.std.proofs.Math.Seq.{take-length}
use Rattle.std.proofs.lemmas.List.{append-nil, length-drop, take-append-drop}
use Rattle.std.proofs.Math.ListN.{drop, drop_of_length-le}
use Rattle.id_facts.specs.declared.facts.RowFact.{RowFact}
use Rattle.id_facts.specs.declared.facts.Trail.{Trail}
use Rattle.id_source.specs.declared.PathStep.{PathStep}
use Rattle.id_facts.specs.Listed.{facts_in}
use Rattle.id_print.specs.Texts.{fact_text, facts_text}
use Rattle.id_print.specs.Pens.{PenView, fact_in, path_in}

-- the line of a fact by path and row
abbrev pub row_text : PenView → RowFact → List ℕ
row_text v f = fact_text v.text (fact_in v f)

-- the lines of all of them
pub rows-text : (v : PenView) (fs : List RowFact)
    → flat_map (row_text v) fs ≡ facts_text v.text (facts_in v.checked v.facts fs)
rows-text v [] = refl
rows-text v (f ∷ fs) = ap (λ t. row_text v f ++ t) (rows-text v fs)

-- and of as many as there are
pub rows-all : (v : PenView) (fs : List RowFact) (i : ℕ) → length fs ≤ i
    → flat_map (row_text v) (take i fs) ≡ facts_text v.text (facts_in v.checked v.facts fs)
rows-all v fs i l =
    let none : drop i fs ≡ [] = drop_of_length-le fs l in
    let all : take i fs ≡ fs =
    sym (append-nil (take i fs)) ∙ ap (λ d. take i fs ++ d) (sym none) ∙ take-append-drop i fs in
    ap (flat_map (row_text v)) all ∙ rows-text v fs

-- the steps that are written are those of the path
pub steps-told : (v : PenView) (q : Trail) (xs ys : List PathStep) (n : ℕ) → xs ≡ ys → drop n ys ≡ (path_in v q).steps
    → take (length xs - n) (drop n xs) ≡ (path_in v q).steps
steps-told v q xs ys n e h =
    ap (λ k. take k (drop n xs)) (sym (length-drop n xs)) ∙ take-length (drop n xs) ∙ ap (drop n) e ∙ h
