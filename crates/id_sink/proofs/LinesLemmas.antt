-- Texts are cut at the first byte that cannot go on, and into lines.
use Rattle.std.proofs.Common.{◌≡◌, ℕ, Bool, true, false, List, [], ◌∷◌, ◌++◌, map, refl, sym, ap, subst, ◌∙◌}
use Rattle.std.specs.Prelude.{◌&&◌, if◌then◌else◌, not}
use Rattle.std.specs.List.{flat_map}
use Rattle.std.proofs.lemmas.Bool.{false≢true}
use Rattle.id_text.specs.Places.{is_line_end, is_within_line}

-- whether all of the bytes pass the test
abbrev pub all_pass : (ℕ → Bool) → List ℕ → Bool
all_pass t [] = true
all_pass t (b ∷ bs) = t b && all_pass t bs

-- the first byte is there, and does not pass the test
abbrev pub Stops : (ℕ → Bool) → List ℕ → Type 0
Stops t [] = ⊥
Stops t (b ∷ bs) = t b ≡ false

-- whether there are no bytes
abbrev pub is_nothing : List ℕ → Bool
is_nothing [] = true
is_nothing (b ∷ bs) = false

-- whether the bytes are one line: the last of them, and no other, ends a line
abbrev pub is_line : List ℕ → Bool
is_line [] = false
is_line (b ∷ bs) = if is_line_end b then is_nothing bs else is_line bs

-- ---- all pass

-- both pass
pub both : (a b : Bool) → (a && b) ≡ true → (a ≡ true) × (b ≡ true)
both true true e = (refl, refl)
both true false e = absurd (false≢true e)
both false b e = absurd (false≢true e)

pub both_of : (a b : Bool) → a ≡ true → b ≡ true → (a && b) ≡ true
both_of true b e f = f
both_of false b e f = absurd (false≢true e)

pub all_pass-append : (t : ℕ → Bool) (xs ys : List ℕ) → all_pass t xs ≡ true → all_pass t ys ≡ true
    → all_pass t (xs ++ ys) ≡ true
all_pass-append t [] ys h k = k
all_pass-append t (x ∷ xs) ys h k =
    let p = both (t x) (all_pass t xs) h in both_of (t x) (all_pass t (xs ++ ys)) p.0 (all_pass-append t xs ys p.1 k)

-- what passes one test passes the other
pub all_pass-other : (t u : ℕ → Bool) → ((b : ℕ) → t b ≡ true → u b ≡ true) → (xs : List ℕ) → all_pass t xs ≡ true
    → all_pass u xs ≡ true
all_pass-other t u h [] k = refl
all_pass-other t u h (x ∷ xs) k =
    let p = both (t x) (all_pass t xs) k in both_of (u x) (all_pass u xs) (h x p.0) (all_pass-other t u h xs p.1)

-- ---- cut where a test ends

passes_not : (t : ℕ → Bool) (x y : ℕ) → x ≡ y → t x ≡ true → t y ≡ false → ⊥
passes_not t x y e h k = false≢true (sym k ∙ (sym (ap t e) ∙ h))

pub cut : (t : ℕ → Bool) (xs ys r s : List ℕ) → all_pass t xs ≡ true → all_pass t ys ≡ true → Stops t r → Stops t s
    → xs ++ r ≡ ys ++ s → (xs ≡ ys) × (r ≡ s)
cut t [] [] r s h k p q e = (refl, e)
cut t [] (y ∷ ys) [] s h k p q e = absurd p
cut t [] (y ∷ ys) (c ∷ r) s h k p q e =
    let same : y ≡ c = cc in absurd (passes_not t y c same (both (t y) (all_pass t ys) k).0 p)
cut t (x ∷ xs) [] r [] h k p q e = absurd q
cut t (x ∷ xs) [] r (d ∷ s) h k p q e =
    let same : x ≡ d = cc in absurd (passes_not t x d same (both (t x) (all_pass t xs) h).0 q)
cut t (x ∷ xs) (y ∷ ys) r s h k p q e =
    let first : x ≡ y = cc in
    let more : xs ++ r ≡ ys ++ s = cc in
    let z = cut t xs ys r s (both (t x) (all_pass t xs) h).1 (both (t y) (all_pass t ys) k).1 p q more in
    let rest : xs ≡ ys = z.0 in
    (λ i. first i ∷ rest i, z.1)

-- ---- lines

-- a line with bytes of it before
pub is_line-behind : (xs ys : List ℕ) → all_pass is_within_line xs ≡ true → is_line ys ≡ true
    → is_line (xs ++ ys) ≡ true
is_line-behind [] ys h k = k
is_line-behind (x ∷ xs) ys h k =
    let p = both (is_within_line x) (all_pass is_within_line xs) h in
    by (is_line_end x) p.0 (is_line-behind xs ys p.1 k)
  where
    by : (b : Bool) → not b ≡ true → is_line (xs ++ ys) ≡ true
        → (if b then is_nothing (xs ++ ys) else is_line (xs ++ ys)) ≡ true
    by true e f = absurd (false≢true e)
    by false e f = f

no_bytes : (xs : List ℕ) → is_nothing xs ≡ true → xs ≡ []
no_bytes [] e = refl
no_bytes (x ∷ xs) e = absurd (false≢true e)

-- of two texts that begin with a line each, and are one, the lines are one, and so is what stands behind
pub line_cut : (xs ys r s : List ℕ) → is_line xs ≡ true → is_line ys ≡ true → xs ++ r ≡ ys ++ s → (xs ≡ ys) × (r ≡ s)
line_cut [] ys r s h k e = absurd (false≢true h)
line_cut (x ∷ xs) [] r s h k e = absurd (false≢true k)
line_cut (x ∷ xs) (y ∷ ys) r s h k e =
    let first : x ≡ y = cc in
    let more : xs ++ r ≡ ys ++ s = cc in
    let same : is_line_end y ≡ is_line_end x = sym (ap is_line_end first) in
    let z = by (is_line_end x) refl h (subst (λ (b : Bool). (if b then is_nothing ys else is_line ys) ≡ true) same k)
    more
    (λ f g. line_cut xs ys r s f g more) in
    let rest : xs ≡ ys = z.0 in
    (λ i. first i ∷ rest i, z.1)
  where
    by : (b : Bool) → b ≡ b → (if b then is_nothing xs else is_line xs) ≡ true
        → (if b then is_nothing ys else is_line ys) ≡ true → xs ++ r ≡ ys ++ s
        → (is_line xs ≡ true → is_line ys ≡ true → (xs ≡ ys) × (r ≡ s)) → (xs ≡ ys) × (r ≡ s)
    by true u f g e again =
        let a = no_bytes xs f in
        let b = no_bytes ys g in
        let c : r ≡ s = (λ i. (sym a) i ++ r) ∙ (e ∙ (λ i. b i ++ s)) in
        (a ∙ sym b, c)
    by false u f g e again = again f g

module _ {A : Type 0} (f : A → List ℕ) (line : (x : A) → is_line (f x) ≡ true) where
  no_line : (x : A) (r : List ℕ) → [] ≡ f x ++ r → ⊥
  no_line x r e = by (f x) (line x) e
    where
      by : (l : List ℕ) → is_line l ≡ true → [] ≡ l ++ r → ⊥
      by [] h e = false≢true h
      by (b ∷ bs) h e = cc

  -- the bytes of lines tell each of them
  pub same_lines : (xs ys : List A) → flat_map f xs ≡ flat_map f ys → map f xs ≡ map f ys
  same_lines [] [] e = refl
  same_lines [] (y ∷ ys) e = absurd (no_line y (flat_map f ys) e)
  same_lines (x ∷ xs) [] e = absurd (no_line x (flat_map f xs) (sym e))
  same_lines (x ∷ xs) (y ∷ ys) e =
      let z = line_cut (f x) (f y) (flat_map f xs) (flat_map f ys) (line x) (line y) e in
      let first : f x ≡ f y = z.0 in
      let rest : map f xs ≡ map f ys = same_lines xs ys z.1 in
      λ i. first i ∷ rest i
