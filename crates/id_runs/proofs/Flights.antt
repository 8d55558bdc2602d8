-- What is in flight while events follow one another: by the accounts and the stamps, each message was in flight when it
-- was taken.
use Rattle.std.proofs.Common.{◌≡◌, ℕ, ◌+◌, ◌<◌, ◌≤◌, true, false, cond, List, [], ◌∷◌, ◌++◌, map}
use Rattle.std.proofs.Common.{refl, ap, arith, ⊎_elim}
use Rattle.std.specs.List.{AllByRecursion, flat_map, sum_by}
use Rattle.std.proofs.lemmas.List.Sums.{sum_by-append, sum_by-cons}
use Rattle.std.proofs.lemmas.Bool.{cases_Bool}
use Rattle.id_runs.specs.Legal.{InSomeOrder}
use Rattle.id_runs.proofs.Weights.{Tells, in_some_order, is, is_self, pick, weighs}

module _ {M E : Type 0} (message : E → M) (outputs : E → List M) where
  -- from one list in flight, each event takes its message out and puts its outputs in, until another list is in flight
  pub data Flies : List M → List E → List M → Type 0 where
    no_more : {ms : List M} → Flies ms [] ms
    follow : {ms end : List M} {v : E} {vs : List E} (others : List M) → InSomeOrder ms (message v ∷ others)
        → Flies (others ++ outputs v) vs end → Flies ms (v ∷ vs) end

  -- what was in flight and what was sent is what was taken and what is left, however messages are weighed
  abbrev pub Accounts : List M → List E → List M → Type 0
  Accounts ms vs left =
      (f : M → ℕ) → sum_by f ms + sum_by f (flat_map outputs vs) ≡ sum_by f (map message vs) + sum_by f left

-- stamps don't fall
abbrev pub Rises : {E : Type 0} → (E → ℕ) → List E → Type 0
Rises stamp [] = Unit {0}
Rises stamp (v ∷ vs) = AllByRecursion (λ u. stamp v ≤ stamp u) vs × Rises stamp vs

-- the event is above the message that it took, and what it sent has its stamp
pub record IsStamped {M E : Type 0} (message : E → M) (outputs : E → List M) (stamp : E → ℕ) (stamp_in : M → ℕ)
    (v : E) : Type 0 where
  pub taken : stamp_in (message v) < stamp v
  pub sent : AllByRecursion (λ m. stamp_in m ≡ stamp v) (outputs v)

module _ {M E : Type 0} (t : Tells M) (message : E → M) (outputs : E → List M) (stamp : E → ℕ) (stamp_in : M → ℕ) where
  abbrev Stamped : E → Type 0
  Stamped v = IsStamped message outputs stamp stamp_in v

  -- a message is none of those with greater stamps
  none_above : (x : M) (ms : List M) (n : ℕ) → stamp_in x < n → AllByRecursion (λ m. stamp_in m ≡ n) ms
      → sum_by (is t x) ms ≡ 0
  none_above x [] n lt all = refl
  none_above x (m ∷ ms) n lt all =
      let r = none_above x ms n lt all.1 in
      ⊎_elim (λ (yes : t.same x m ≡ true).
      absurd (let e : stamp_in x ≡ stamp_in m = ap stamp_in (t.is_same x m yes) in let k = all.0 in omega arith))
      (λ (no : t.same x m ≡ false).
      let z : is t x m ≡ 0 = ap (λ b. cond b 1 0) no in omega (arith, sum_by-cons (is t x) m ms, z, r))
      (cases_Bool (t.same x m))

  none_later : (x : M) (n : ℕ) (vs : List E) → stamp_in x < n → AllByRecursion (λ v. n ≤ stamp v) vs
      → AllByRecursion Stamped vs → sum_by (is t x) (flat_map outputs vs) ≡ 0
  none_later x n [] lt later stamped = refl
  none_later x n (v ∷ vs) lt later stamped =
      let a = none_above x (outputs v) (stamp v) (let k = later.0 in omega arith) stamped.0.sent in
      let r = none_later x n vs lt later.1 stamped.1 in
      omega (arith, sum_by-append (is t x) (outputs v) (flat_map outputs vs), a, r)

  -- each message was in flight when it was taken, and what is in flight at the end is what is left
  pub flies : (ms : List M) (vs : List E) (left : List M) → Rises stamp vs → AllByRecursion Stamped vs
      → Accounts message outputs ms vs left → (end : List M) × Flies message outputs ms vs end × InSomeOrder end left
  flies ms [] left rises stamped accounts =
      (ms, no_more, in_some_order t ms left (λ f. let a = accounts f in omega arith))
  flies ms (v ∷ vs) left rises stamped accounts =
      let x : M = message v in
      let sent_here = none_above x (outputs v) (stamp v) stamped.0.taken stamped.0.sent in
      let sent_later = none_later x (stamp v) vs stamped.0.taken rises.0 stamped.1 in
      let a = accounts (is t x) in
      let some : 0 < sum_by (is t x) ms =
      omega (
        arith,
        sum_by-append (is t x) (outputs v) (flat_map outputs vs),
        sum_by-cons (is t x) x (map message vs),
        is_self t x,
        sent_here,
        sent_later,
        a,
      ) in
      let p = pick t x ms some in
      let r = flies (p.0 ++ outputs v) vs left rises.1 stamped.1
      (λ f.
      let b = accounts f in
      let w = weighs f p.1 in
      omega (
        arith,
        sum_by-append f (outputs v) (flat_map outputs vs),
        sum_by-cons f x (map message vs),
        sum_by-append f p.0 (outputs v),
        sum_by-cons f x p.0,
        b,
        w,
      )) in
      (r.0, follow {end = r.0} p.0 p.1 r.1, r.2)
