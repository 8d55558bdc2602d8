-- Paths by the facts that they begin at.
use Rattle.std.proofs.Common.{◌≡◌, ℕ, zero, suc, ◌-◌, ◌≤◌, ◌<◌, List, [], ◌∷◌, ◌++◌, length}
use Rattle.std.proofs.Common.{reverse, refl, ap, sym, ◌∙◌, arith}
use Rattle.id_check.specs.declared.checked.Checked.{Checked}
use Rattle.id_check.specs.Programs.{place}
use Rattle.id_source.specs.declared.Path.{Path}
use Rattle.id_source.specs.declared.PathStep.{PathStep}
use Rattle.id_facts.specs.declared.facts.RowFact.{RowFact}
use Rattle.id_facts.specs.declared.facts.Trail.{Trail}
use Rattle.id_facts.specs.declared.facts.Trail.TheVariants.{Outermost, Below}
use Rattle.id_source.specs.Facts.{below, without}
use Rattle.id_facts.specs.RowFacts.{AreBefore, fact_at, path_of, row_of}
use Rattle.id_facts.specs.Cells.{out_of}
use Rattle.id_facts.specs.Listed.{path_at, step_at, steps_in_all, steps_of}
use Rattle.id_source.proofs.StepsLemmas.{append-one, reverse-last, take-nil, without-more, without-none}
use Rattle.id_facts.proofs.FactsLemmas.{Inside, inside-more, fact-before, at-front}

path_from : List PathStep → Path
path_from ss = record { steps = ss }

-- it has no more steps than its spot says
fits : (i : ℕ) (p : Trail) → Inside i p → steps_in_all p ≤ i
fits i Outermost h = omega arith
fits i (Below j k) h = omega arith

pub step-smaller : (i k : ℕ) (q p : Trail) → q ≡ Below i k → Inside i p → steps_in_all p < steps_in_all q
step-smaller i k q p e h = let l = fits i p h in let s : steps_in_all q ≡ suc i = ap steps_in_all e in omega arith

pub steps-same : (P : Checked) (es : List RowFact) → AreBefore es → (k j : ℕ) (q : Trail) → steps_in_all q ≤ k
    → steps_in_all q ≤ j → steps_of P es k q ≡ steps_of P es j q
steps-same P es b zero zero q l m = refl
steps-same P es b zero (suc j) Outermost l m = refl
steps-same P es b zero (suc j) (Below i n) l m = absurd (omega arith)
steps-same P es b (suc k) zero Outermost l m = refl
steps-same P es b (suc k) zero (Below i n) l m = absurd (omega arith)
steps-same P es b (suc k) (suc j) Outermost l m = refl
steps-same P es b (suc k) (suc j) (Below i n) l m =
    let p = path_of (fact_at es i) in
    let w = fits i p (fact-before es b i) in
    ap (λ ss. ss ++ step_at P (row_of (fact_at es i)) n ∷ []) (steps-same P es b k j p (omega arith) (omega arith))

-- all of its steps
abbrev pub all_steps : Checked → List RowFact → Trail → List PathStep
all_steps P es q = steps_of P es (steps_in_all q) q

-- those of the path of its spot, and then its own
pub steps-suc : (P : Checked) (es : List RowFact) → AreBefore es → (i k : ℕ)
    → all_steps P es (Below i k) ≡ all_steps P es (path_of (fact_at es i)) ++ step_at P (row_of (fact_at es i)) k ∷ []
steps-suc P es b i k =
    let p = path_of (fact_at es i) in
    let w = fits i p (fact-before es b i) in
    ap (λ ss. ss ++ step_at P (row_of (fact_at es i)) k ∷ [])
    (steps-same P es b i (steps_in_all p) p (omega arith) (omega arith))

-- the path that begins at a spot
pub path-below : (P : Checked) (es : List RowFact) → AreBefore es → (i : ℕ) (p : Trail) (n k : ℕ)
    → path_of (fact_at es i) ≡ p → row_of (fact_at es i) ≡ n
    → path_at P es (Below i k) ≡ below (path_at P es p) (place P n) k
unfolding path_from
path-below P es b i p n k e f =
    let all : all_steps P es (Below i k) ≡ all_steps P es p ++ step_at P n k ∷ [] =
    steps-suc P es b i k ∙ ap (λ q. all_steps P es q ++ step_at P (row_of (fact_at es i)) k ∷ []) e
    ∙ ap (λ m. all_steps P es p ++ step_at P m k ∷ []) f in
    ap path_from all

steps-grown : (P : Checked) (es xs : List RowFact) → AreBefore es → (k : ℕ) (q : Trail) → Inside (length es) q
    → steps_of P (es ++ xs) k q ≡ steps_of P es k q
steps-grown P es xs b zero q l = refl
steps-grown P es xs b (suc k) Outermost l = refl
steps-grown P es xs b (suc k) (Below i m) l =
    let p = path_of (fact_at es i) in
    let w = inside-more i (length es) p (omega arith) (fact-before es b i) in
    ap (λ f. steps_of P (es ++ xs) k (path_of f) ++ step_at P (row_of f) m ∷ []) (at-front es xs i l)
    ∙ ap (λ ss. ss ++ step_at P (row_of (fact_at es i)) m ∷ []) (steps-grown P es xs b k p w)

pub path-grown : (P : Checked) (es xs : List RowFact) → AreBefore es → (q : Trail) → Inside (length es) q
    → path_at P (es ++ xs) q ≡ path_at P es q
unfolding path_from
path-grown P es xs b q l = ap path_from (steps-grown P es xs b (steps_in_all q) q l)

-- without its last steps
pub path-out : (P : Checked) (es : List RowFact) → AreBefore es → (d : ℕ) (p : Trail)
    → path_at P es (out_of es d p) ≡ without d (path_at P es p)
unfolding path_from
path-out P es b zero p = sym (without-none (path_at P es p))
path-out P es b (suc d) Outermost =
    path-out P es b d Outermost ∙ ap path_from (take-nil (0 - d) ∙ sym (take-nil (0 - suc d)))
path-out P es b (suc d) (Below i k) =
    let p = path_of (fact_at es i) in
    path-out P es b d p ∙ sym
    (ap path_from
    (without-more d (all_steps P es p) (all_steps P es (Below i k)) (step_at P (row_of (fact_at es i)) k)
    (steps-suc P es b i k)))

-- one step further out
pub steps-more : (P : Checked) (es : List RowFact) (i k n : ℕ) (q p : Trail) (g : RowFact) (x : PathStep)
    (ss ts : List PathStep) → q ≡ Below i k → g ≡ fact_at es i → AreBefore es → n ≡ row_of g → p ≡ path_of g
    → x ≡ step_at P n k
    → ts ≡ ss ++ x ∷ [] → all_steps P es p ++ reverse ts ≡ all_steps P es q ++ reverse ss
steps-more P es i k n q p g x ss ts e f b r o h t =
    let step : x ≡ step_at P (row_of (fact_at es i)) k = h ∙ ap (λ m. step_at P m k) (r ∙ ap row_of f) in
    let path : p ≡ path_of (fact_at es i) = o ∙ ap path_of f in
    let whole : all_steps P es q ≡ all_steps P es p ++ x ∷ [] =
    ap (λ r. all_steps P es r) e ∙ steps-suc P es b i k
    ∙ ap (λ r. all_steps P es r ++ step_at P (row_of (fact_at es i)) k ∷ []) (sym path)
    ∙ ap (λ y. all_steps P es p ++ y ∷ []) (sym step) in
    ap (λ xs. all_steps P es p ++ reverse xs) t ∙ ap (λ xs. all_steps P es p ++ xs) (reverse-last ss x)
    ∙ sym (append-one (all_steps P es p) (reverse ss) x) ∙ ap (λ xs. xs ++ reverse ss) (sym whole)
