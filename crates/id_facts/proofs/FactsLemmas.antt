-- Facts by their numbers.
use Rattle.std.proofs.Common.{◌≡◌, ℕ, zero, suc, ◌≤◌, ◌<◌, ◌&&◌, Bool, true, false, List, [], ◌∷◌, ◌++◌, length, inl}
use Rattle.std.proofs.Common.{inr, refl, sym, subst, arith}
use Rattle.std.proofs.lemmas.Bool.{cases_lt, ltb-true}
use Rattle.id_value.specs.List.{Among}
use Rattle.id_facts.specs.declared.facts.RowFact.{RowFact}
use Rattle.id_facts.specs.declared.facts.RowFact.TheVariants.{On, Has, Shape, Put, Ask}
use Rattle.id_facts.specs.declared.facts.Trail.{Trail}
use Rattle.id_facts.specs.declared.facts.Trail.TheVariants.{Outermost, Below}
use Rattle.id_facts.specs.RowFacts.{AreBefore, fact_at, is_inside, is_path_inside, is_value_inside, path_of}

-- ---- facts and their numbers

pub among-at : (fs : List RowFact) (i : ℕ) → i < length fs → Among (fact_at fs i) fs
among-at [] i l = absurd (omega arith)
among-at (f ∷ fs) zero l = inl refl
among-at (f ∷ fs) (suc i) l = inr (among-at fs i (omega arith))

pub index-of : (f : RowFact) (fs : List RowFact) → Among f fs → (i : ℕ) × (i < length fs) × (fact_at fs i ≡ f)
index-of f [] h = absurd h
index-of f (g ∷ fs) (inl e) = (0, omega arith, sym e)
index-of f (g ∷ fs) (inr h) = let r = index-of f fs h in (suc r.0, (let l = r.1 in omega arith), r.2)

-- the path is there, where there are n facts
abbrev pub Inside : ℕ → Trail → Type 0
Inside n Outermost = Unit {0}
Inside n (Below i k) = i < n

pub inside-more : (n m : ℕ) (p : Trail) → n ≤ m → Inside n p → Inside m p
inside-more n m Outermost l h = tt
inside-more n m (Below i k) l h = omega arith

pub path-inside : (n : ℕ) (p : Trail) → is_path_inside n p ≡ true → Inside n p
path-inside n Outermost h = tt
path-inside n (Below i k) h = ltb-true i n h

left-true : (a b : Bool) → a && b ≡ true → a ≡ true
left-true true b h = refl
left-true false b h = cc

fact-inside : (n : ℕ) (f : RowFact) → is_inside n f ≡ true → Inside n (path_of f)
fact-inside n (On p m) h = path-inside n p h
fact-inside n (Has p m v) h = path-inside n p (left-true (is_path_inside n p) (is_value_inside n v) h)
fact-inside n (Shape s lo hi) h = tt
fact-inside n (Put p m s i v) h =
    path-inside n p (left-true (is_path_inside n p) _ (left-true _ (is_value_inside n v) h))
fact-inside n (Ask p m s i) h = path-inside n p (left-true (is_path_inside n p) _ h)

past-at : (es : List RowFact) (i : ℕ) → length es ≤ i → fact_at es i ≡ On Outermost 0
past-at [] i l = refl
past-at (e ∷ es) zero l = absurd (omega arith)
past-at (e ∷ es) (suc i) l = past-at es i (omega arith)

pub fact-before : (es : List RowFact) → AreBefore es → (i : ℕ) → Inside i (path_of (fact_at es i))
fact-before es b i = elim (cases_lt i (length es)) [
  | inl l ↦ fact-inside i (fact_at es i) (b i l)
  | inr l ↦ (let F : RowFact → Type 0 = λ f. Inside i (path_of f) in subst F (sym (past-at es i l)) tt)
]

-- it stays as more facts come
pub at-front : (es xs : List RowFact) (i : ℕ) → i < length es → fact_at (es ++ xs) i ≡ fact_at es i
at-front [] xs i l = absurd (omega arith)
at-front (e ∷ es) xs zero l = refl
at-front (e ∷ es) xs (suc i) l = at-front es xs i (omega arith)

-- the row is On at the path by the fact of number i
pub record IsOnBy (fs : List RowFact) (i : ℕ) (p : Trail) (n : ℕ) : Type 0 where
  pub within : i < length fs
  pub fact : fact_at fs i ≡ On p n
