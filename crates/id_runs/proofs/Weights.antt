-- Lists whose items are weighed: those that weigh the same, however their items are weighed, have the same items.
use Rattle.std.proofs.Common.{◌≡◌, ℕ, ◌<◌, ◌==◌, ◌&&◌, Bool, true, false, cond, List, [], ◌∷◌, map, inl, inr}
use Rattle.std.proofs.Common.{refl, sym, ap, ◌∙◌, subst, arith, ⊎_elim}
use Rattle.std.specs.Coded.{Coded}
use base.Stored.{Gv, gnil, gnum, gcons}
use Rattle.std.specs.List.{flat_map, sum_by}
use Rattle.std.proofs.lemmas.List.Sums.{sum_by-append, sum_by-cons}
use Rattle.std.proofs.lemmas.Bool.{and_from, and_parts, cases_Bool, eq-eqb, eqb-true}
use Rattle.id_value.specs.List.{Among}
use Rattle.id_runs.specs.Legal.{InSomeOrder, none, keep, swap, next}

-- ---- codes, and a test that tells what has a code apart

abbrev same_code : Gv → Gv → Bool
same_code gnil gnil = true
same_code gnil (gnum n) = false
same_code gnil (gcons c d) = false
same_code (gnum m) gnil = false
same_code (gnum m) (gnum n) = m == n
same_code (gnum m) (gcons c d) = false
same_code (gcons a b) gnil = false
same_code (gcons a b) (gnum n) = false
same_code (gcons a b) (gcons c d) = same_code a c && same_code b d

is_same_code : (x y : Gv) → same_code x y ≡ true → x ≡ y
is_same_code gnil gnil h = refl
is_same_code gnil (gnum n) h = absurd cc
is_same_code gnil (gcons c d) h = absurd cc
is_same_code (gnum m) gnil h = absurd cc
is_same_code (gnum m) (gnum n) h = ap gnum (eqb-true m n h)
is_same_code (gnum m) (gcons c d) h = absurd cc
is_same_code (gcons a b) gnil h = absurd cc
is_same_code (gcons a b) (gnum n) h = absurd cc
is_same_code (gcons a b) (gcons c d) h =
    let both = and_parts (same_code a c) (same_code b d) h in
    let first = is_same_code a c both.0 in
    let second = is_same_code b d both.1 in
    λ i. gcons (first i) (second i)

self_code : (x : Gv) → same_code x x ≡ true
self_code gnil = refl
self_code (gnum n) = eq-eqb n n refl
self_code (gcons a b) = and_from (same_code a a) (same_code b b) (self_code a) (self_code b)

-- a test for whether two things are one
pub record Tells (A : Type 0) : Type 0 where
  pub same : A → A → Bool
  pub is_same : (x y : A) → same x y ≡ true → x ≡ y
  pub self : (x : A) → same x x ≡ true

pub tells : {A : Type 0} → Coded A → Tells A
tells c = record {
  same = λ x y. same_code (c.code x) (c.code y);
  is_same = λ x y h. c.inj x y (is_same_code (c.code x) (c.code y) h);
  self = λ x. self_code (c.code x);
}

-- ---- lists in some order

pub same_order : {A : Type 0} (xs : List A) → InSomeOrder xs xs
same_order [] = none
same_order (x ∷ xs) = keep x (same_order xs)

turned : {A : Type 0} {us vs : List A} → InSomeOrder us vs → InSomeOrder vs us
turned none = none
turned (keep x h) = keep x (turned h)
turned (swap x y) = swap y x
turned (next h k) = next (turned k) (turned h)

-- lists in some order weigh the same
pub weighs : {A : Type 0} (f : A → ℕ) {xs ys : List A} → InSomeOrder xs ys → sum_by f xs ≡ sum_by f ys
weighs f none = refl
weighs f (keep {xs} {ys} x h) = let r = weighs f h in omega (arith, sum_by-cons f x xs, sum_by-cons f x ys, r)
weighs f (swap {xs} x y) =
    omega (arith, sum_by-cons f x (y ∷ xs), sum_by-cons f y xs, sum_by-cons f y (x ∷ xs), sum_by-cons f x xs)
weighs f (next h k) = weighs f h ∙ weighs f k

module _ {A : Type 0} (t : Tells A) where
  -- 1 for the item itself and 0 for any other
  abbrev pub is : A → A → ℕ
  is x y = cond (t.same x y) 1 0

  pub is_self : (x : A) → is x x ≡ 1
  is_self x = ap (λ b. cond b 1 0) (t.self x)

  -- what weighs something can be taken out
  pub pick : (x : A) (ms : List A) → 0 < sum_by (is x) ms → (others : List A) × InSomeOrder ms (x ∷ others)
  pick x [] some = absurd (omega arith)
  pick x (m ∷ ms) some =
      ⊎_elim (λ (yes : t.same x m ≡ true).
      (ms, subst (λ (y : A). InSomeOrder (m ∷ ms) (y ∷ ms)) (sym (t.is_same x m yes)) (same_order (m ∷ ms))))
      (λ (no : t.same x m ≡ false).
      let zero_here : is x m ≡ 0 = ap (λ b. cond b 1 0) no in
      let r = pick x ms (omega (arith, sum_by-cons (is x) m ms, zero_here)) in
      (m ∷ r.0, next (keep m r.1) (swap m x)))
      (cases_Bool (t.same x m))

  -- lists that weigh the same, however they are weighed, have the same items
  pub in_some_order : (xs ys : List A) → ((f : A → ℕ) → sum_by f xs ≡ sum_by f ys) → InSomeOrder xs ys
  in_some_order [] [] h = none
  in_some_order [] (y ∷ ys) h = absurd (let k = h (λ _. 1) in omega (arith, sum_by-cons (λ (_ : A). 1) y ys))
  in_some_order (x ∷ xs) ys h =
      let k = h (is x) in
      let p = pick x ys (omega (arith, sum_by-cons (is x) x xs, is_self x)) in
      let r = in_some_order xs p.0 (λ f.
      let e = h f in
      let w = weighs f p.1 in
      omega (arith, sum_by-cons f x xs, sum_by-cons f x p.0, e, w)) in
      next (keep x r) (turned p.1)

  -- what weighs something is among the list
  pub among_weight : (x : A) (ms : List A) → 0 < sum_by (is x) ms → Among x ms
  among_weight x [] some = absurd (omega arith)
  among_weight x (m ∷ ms) some =
      ⊎_elim (λ (yes : t.same x m ≡ true). inl (t.is_same x m yes))
      (λ (no : t.same x m ≡ false).
      let z : is x m ≡ 0 =
      ap (λ b. cond b 1 0) no in inr (among_weight x ms (omega (arith, sum_by-cons (is x) m ms, z))))
      (cases_Bool (t.same x m))

  -- what is among the list weighs something
  pub weight_among : (x : A) (ms : List A) → Among x ms → 0 < sum_by (is x) ms
  weight_among x [] a = absurd a
  weight_among x (m ∷ ms) (inl e) =
      let one : is x m ≡ 1 = subst (λ (y : A). is x y ≡ 1) e (is_self x) in omega (arith, sum_by-cons (is x) m ms, one)
  weight_among x (m ∷ ms) (inr a) = let r = weight_among x ms a in omega (arith, sum_by-cons (is x) m ms, r)

-- ---- sums over sums

pub sum_flat : {A B : Type 0} (f : B → ℕ) (h : A → List B) (xs : List A)
    → sum_by f (flat_map h xs) ≡ sum_by (λ x. sum_by f (h x)) xs
sum_flat f h [] = refl
sum_flat f h (x ∷ xs) =
    let r = sum_flat f h xs in
    omega (arith, sum_by-append f (h x) (flat_map h xs), sum_by-cons (λ y. sum_by f (h y)) x xs, r)

pub sum_map : {A B : Type 0} (f : B → ℕ) (h : A → B) (xs : List A) → sum_by f (map h xs) ≡ sum_by (λ x. f (h x)) xs
sum_map f h [] = refl
sum_map f h (x ∷ xs) =
    let r = sum_map f h xs in omega (arith, sum_by-cons f (h x) (map h xs), sum_by-cons (λ y. f (h y)) x xs, r)

pub sum_same : {A : Type 0} (f h : A → ℕ) (xs : List A) → ((x : A) → f x ≡ h x) → sum_by f xs ≡ sum_by h xs
sum_same f h [] e = refl
sum_same f h (x ∷ xs) e =
    let r = sum_same f h xs e in
    let k = e x in
    omega (arith, sum_by-cons f x xs, sum_by-cons h x xs, k, r)
