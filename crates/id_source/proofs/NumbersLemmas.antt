-- In round n no iteration has a number above n.
use Rattle.std.proofs.Common.{inl, inr, ℕ, zero, suc, ◌≤◌, Bool as Truth, true, false, List, [], ◌∷◌, ◌++◌, arith}
use Rattle.id_source.specs.declared.Path.{Path}
use Rattle.id_source.specs.declared.PathStep.{PathStep}
use Rattle.id_source.specs.declared.SourceValue.{SourceValue}
use Rattle.id_source.specs.declared.Fact.{Fact}
use Rattle.id_source.specs.declared.Fact.TheVariants.{On, Has, Shape, Put, Ask}
use Rattle.id_source.specs.Sources.{Source}
use Rattle.id_check.specs.Programs.{place}
use Rattle.id_source.specs.Facts.{below, Rule, main_on, param_has, literal_has, operand_on, left_on, right_on}
use Rattle.id_source.specs.Facts.{unary_has, binary_has, name_has, test_on}
use Rattle.id_source.specs.Facts.{arm_on, conditional_has, GoesOn, by_predicate, by_bounds, by_index, lower_on}
use Rattle.id_source.specs.Facts.{upper_on, index_begins, index_counts}
use Rattle.id_source.specs.Facts.{argument_on, callee_on, argument_has, call_has, loop_test_on, first_has, turn_on}
use Rattle.id_source.specs.Facts.{loop_statement_on, next_on, next_has}
use Rattle.id_source.specs.Facts.{last_on, loop_has, statement_on, body_on, block_has, binding_has}
use Rattle.id_source.specs.Facts.{loop_store_on, store_on, bounds_low_on, bounds_high_on, shape_made, array_has}
use Rattle.id_source.specs.Facts.{fetch_target_on, fetch_index_on, asks}
use Rattle.id_source.specs.Facts.{fetch_has, store_target_on, store_index_on, store_value_on, puts}
use Rattle.id_source.specs.Rounds.{Every, Rounds}

-- no step has a number above n
abbrev Small : ℕ → List PathStep → Type 0
Small n [] = Unit {0}
Small n (s ∷ ss) = (s.number ≤ n) × Small n ss

Small-more : (n : ℕ) (ss : List PathStep) → Small n ss → Small (suc n) ss
Small-more n [] h = tt
Small-more n (s ∷ ss) h = (let l = h.0 in omega arith, Small-more n ss h.1)

Small-push : (n : ℕ) (ss : List PathStep) (s : PathStep) → Small n ss → s.number ≤ n → Small n (ss ++ s ∷ [])
Small-push n [] s h l = (l, tt)
Small-push n (t ∷ ss) s h l = (h.0, Small-push n ss s h.1 l)

Small-front : (n : ℕ) (ss : List PathStep) (s : PathStep) → Small n (ss ++ s ∷ []) → Small n ss
Small-front n [] s h = tt
Small-front n (t ∷ ss) s h = (h.0, Small-front n ss s h.1)

Small-last : (n : ℕ) (ss : List PathStep) (s : PathStep) → Small n (ss ++ s ∷ []) → s.number ≤ n
Small-last n [] s h = h.0
Small-last n (t ∷ ss) s h = Small-last n ss s h.1

-- the path of the fact; of a Shape that of its structure
abbrev path_in : Fact → Path
path_in (On p e) = p
path_in (Has p e v) = p
path_in (Shape s) = s.name.path
path_in (Put p) = p.store.path
path_in (Ask a) = a.fetch.path

abbrev SmallIn : ℕ → Fact → Type 0
SmallIn n f = Small n (path_in f).steps

step_of : ℕ → ℕ → PathStep
step_of e k = record { place = e; number = k }

more-in : (n : ℕ) (p : Path) → Small n p.steps → Small (suc n) p.steps
more-in n p h = Small-more n p.steps h

push-in : (n : ℕ) (p : Path) (e k : ℕ) → Small n p.steps → k ≤ suc n → Small (suc n) (below p e k).steps
unfolding step_of
push-in n p e k h l = Small-push (suc n) p.steps (step_of e k) (Small-more n p.steps h) l

front-in : (n : ℕ) (p : Path) (e k : ℕ) → Small n (below p e k).steps → Small n p.steps
unfolding step_of
front-in n p e k h = Small-front n p.steps (step_of e k) h

last-in : (n : ℕ) (p : Path) (e k : ℕ) → Small n (below p e k).steps → k ≤ n
unfolding step_of
last-in n p e k h = Small-last n p.steps (step_of e k) h

-- where a loop goes on or not
goes-small : {S : Source} (n m w : ℕ) (p : Path) (k : ℕ) (c : Truth) {fs : List Fact} → GoesOn S m w p k c fs
    → Every (SmallIn n) fs → Small (suc n) (below p (place S.checked m) k).steps
goes-small {S} n m w p k c (by_predicate j s) h = more-in n (below p (place S.checked m) k) h.0
goes-small {S} n m w p k c (by_bounds s e) h = push-in n p (place S.checked m) 0 h.0 (omega arith)
goes-small {S} n m w p k c (by_index j s e) h =
    let l = last-in n p (place S.checked m) j h.0 in
    push-in n p (place S.checked m) (suc j) (front-in n p (place S.checked m) j h.0) (omega arith)

by-rule : {S : Source} {fs : List Fact} {f : Fact} (n : ℕ) → Rule S fs f → Every (SmallIn n) fs → SmallIn (suc n) f
by-rule n main_on h = tt
by-rule n (param_has i) h = tt
by-rule n (literal_has {p = p} st) h = more-in n p h.0
by-rule n (operand_on {p = p} st) h = more-in n p h.0
by-rule n (left_on {p = p} st) h = more-in n p h.0
by-rule n (right_on {p = p} st) h = more-in n p h.0
by-rule n (unary_has {p = p} c st e) h = more-in n p h.0
by-rule n (binary_has {p = p} c d st e) h = more-in n p h.0
by-rule n (name_has {p = p} st e) h = more-in n p h.0
by-rule n (test_on {p = p} c) h = more-in n p h.0
by-rule n (arm_on {p = p} c) h = more-in n p h.0
by-rule n (conditional_has {p = p} c) h = more-in n p h.0
by-rule n (argument_on {p = p} st t) h = more-in n p h.0
by-rule n (callee_on {p = p} st b d) h = push-in n p _ 0 h.0 (omega arith)
by-rule n (argument_has {p = p} st t b d g) h = push-in n p _ 0 h.0 (omega arith)
by-rule n (call_has {p = p} st b d) h = more-in n p h.0
by-rule n (loop_test_on {p = p} st) h = push-in n p _ 0 h.0 (omega arith)
by-rule n (first_has {p = p} st x b) h = push-in n p _ 0 h.0 (omega arith)
by-rule n (lower_on {p = p} s) h = more-in n p h.0
by-rule n (upper_on {p = p} s) h = more-in n p h.0
by-rule n (index_begins {p = p} s e) h = push-in n p _ 0 h.0 (omega arith)
by-rule n (index_counts p k s e) h =
    let l = last-in n p _ k h.0 in push-in n p _ (suc k) (front-in n p _ k h.0) (omega arith)
by-rule n (turn_on p k st) h = let l = last-in n p _ k h.0 in push-in n p _ (suc k) (front-in n p _ k h.0) (omega arith)
by-rule n (loop_statement_on {n = m} {w = w} p k st o b) h = goes-small n m w p k true o h
by-rule n (next_on {n = m} {w = w} p k st o x) h = goes-small n m w p k true o h
by-rule n (next_has p k st x) h =
    let l = last-in n p _ k h.0 in push-in n p _ (suc k) (front-in n p _ k h.0) (omega arith)
by-rule n (last_on {n = m} {w = w} p k st o) h = goes-small n m w p k false o h
by-rule n (loop_has p k st) h = more-in n p (front-in n p _ k h.0)
by-rule n (statement_on {p = p} st i t) h = more-in n p h.0
by-rule n (store_on {p = p} st i t) h = more-in n p h.0
by-rule n (loop_store_on {n = m} {w = w} p k st o b) h = goes-small n m w p k true o h
by-rule n (bounds_low_on {p = p} st) h = more-in n p h.0
by-rule n (bounds_high_on {p = p} st) h = more-in n p h.0
by-rule n (shape_made {p = p} st e) h = more-in n p h.0
by-rule n (array_has {p = p} st e) h = more-in n p h.0
by-rule n (fetch_target_on {p = p} st) h = more-in n p h.0
by-rule n (fetch_index_on {p = p} st) h = more-in n p h.0
by-rule n (asks {p = p} st e) h = more-in n p h.0
by-rule n (fetch_has {f = f}) h = more-in n f.path h.0
by-rule n (store_target_on {p = p} st) h = more-in n p h.0
by-rule n (store_index_on {p = p} st) h = more-in n p h.0
by-rule n (store_value_on {p = p} st) h = more-in n p h.0
by-rule n (puts {p = p} st e) h = more-in n p h.0
by-rule n (body_on {p = p} st) h = more-in n p h.0
by-rule n (block_has {p = p} st) h = more-in n p h.0
by-rule n (binding_has {p = p} st) h = more-in n p h.0

fact-more : (n : ℕ) (f : Fact) → SmallIn n f → SmallIn (suc n) f
fact-more n f h = more-in n (path_in f) h

round-small : (S : Source) (n : ℕ) (f : Fact) → Rounds S n f → SmallIn n f
round-small S zero f h = absurd h
round-small S (suc n) f (inl h) = fact-more n f (round-small S n f h)
round-small S (suc n) f (inr t) = by-rule n t.1 (each (λ g h. round-small S n g h) t.0 t.2)
  where
    each : ((g : Fact) → Rounds S n g → SmallIn n g) → (fs : List Fact) → Every (Rounds S n) fs → Every (SmallIn n) fs
    each one [] h = tt
    each one (g ∷ fs) h = (one g h.0, each one fs h.1)

-- the number of an iteration in which something has a value
pub last-number : (S : Source) (n : ℕ) (p : Path) (e k a : ℕ) (v : SourceValue) → Rounds S n (Has (below p e k) a v)
    → k ≤ n
last-number S n p e k a v h = last-in n p e k (round-small S n (Has (below p e k) a v) h)
