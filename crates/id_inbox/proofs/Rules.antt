-- Each step keeps the rule of an inbox.
use Rattle.std.proofs.Common.{◌≡◌, ◌≢◌, ℕ, zero, suc, ◌+◌, ◌<◌, ◌≤◌, List, [], ◌∷◌, ◌++◌, set, sym, refl, ap, ◌∙◌, subst, ⊎_elim, arith}
use Rattle.std.specs.List.{sum_by}
use Rattle.std.proofs.lemmas.List.Sums.{sum_by-append, sum_by-cons}
use mathlib.Core.Option.{some, some-ne-none, some-injective}
use lib.ListN.{get_elem?}
use Rattle.crossbeam_queue.specs.Fifo.{Pushes, Pops, Forks, Merges, Learns}
use Rattle.crossbeam_queue.proofs.Lists.{at_set, at_snoc}
use Rattle.id_tag.specs.declared.Message.{Message}
use Rattle.id_flight.specs.Queues.{QueueView}
use Rattle.id_inbox.specs.declared.hand.Hand.{Hand}
use Rattle.id_inbox.specs.Hands.{new_hand, spent_hand, kept_of, both_of, sending, taking, IdleIsEmpty, IsBalanced, KnowsAll, weight_in}

-- the total after a change of one pass
total_set : (f : Hand → ℕ) (views : List Hand) (port : ℕ) (v w : Hand) → get_elem? views port ≡ some v → sum_by f (set views port w) + f v ≡ sum_by f views + f w
total_set f [] port v w at = absurd (some-ne-none v (sym at))
total_set f (u ∷ us) zero v w at =
    let same : u ≡ v = some-injective u v at in
    let e : f u ≡ f v = ap f same in
    omega (arith, sum_by-cons f w us, sum_by-cons f u us, e)
total_set f (u ∷ us) (suc port) v w at =
    let r = total_set f us port v w at in
    omega (arith, sum_by-cons f u us, sum_by-cons f u (set us port w), r)

abbrev pub Empty : Hand → Type 0
Empty v = (v.sent ≡ []) × (v.taken ≡ [])

-- passes without parts stay empty, where one pass changes
idle_set : (views : List Hand) (port : ℕ) (w : Hand) → (w.parts ≡ 0 → Empty w) → IdleIsEmpty views → IdleIsEmpty (set views port w)
idle_set views port w mine others j u e none = ⊎_elim (λ (x : (j ≡ port) × (w ≡ u)). subst (λ (y : Hand). y.parts ≡ 0 → Empty y) x.1 mine none)
    (λ (x : (j ≢ port) × (get_elem? views j ≡ some u)). others j u x.1 none) (at_set views port j w u e)

-- a total of a list with one more
total_snoc : (f : Hand → ℕ) (views : List Hand) (w : Hand) → sum_by f (views ++ w ∷ []) ≡ sum_by f views + f w
total_snoc f views w = omega (arith, sum_by-append f views (w ∷ []), sum_by-cons f w [])

-- one letter more, at the end and at the front
weight_snoc : (f : Message → ℕ) (items : List QueueView) (x : QueueView)
    → weight_in f (items ++ x ∷ []) ≡ weight_in f items + sum_by f x.messages
weight_snoc f items x =
    let g : QueueView → ℕ = λ q. sum_by f q.messages in
    omega (arith, sum_by-append g items (x ∷ []), sum_by-cons g x [])

weight_first : (f : Message → ℕ) (x : QueueView) (items : List QueueView)
    → weight_in f (x ∷ items) ≡ sum_by f x.messages + weight_in f items
weight_first f x items = sum_by-cons (λ (q : QueueView). sum_by f q.messages) x items

pub sends : (n port : ℕ) (v : Hand) (x : QueueView) → 0 < v.parts → Pushes IsBalanced n port v x (λ w. w ≡ sending v x.messages)
sends n port v x some_part items views room h at = (
  sending v x.messages,
  (
    (let s = total_set (λ u. u.parts) views port v (sending v x.messages) at in let p = h.0 in omega arith),
    (λ f.
        let s = total_set (λ u. sum_by f u.sent) views port v (sending v x.messages) at in
        let t = total_set (λ u. sum_by f u.taken) views port v (sending v x.messages) at in
        let p = h.1 f in
        omega (arith, sum_by-append f v.sent x.messages, weight_snoc f items x, s, t, p)),
    idle_set views port (sending v x.messages) (λ none. absurd (omega arith)) h.2,
  ),
  refl,
)

pub takes : (port : ℕ) (v : Hand) → 0 < v.parts → Pops IsBalanced port v (λ x w. w ≡ taking v x.messages)
takes port v some_part x items views h at = (
  taking v x.messages,
  (
    (let s = total_set (λ u. u.parts) views port v (taking v x.messages) at in let p = h.0 in omega arith),
    (λ f.
        let s = total_set (λ u. sum_by f u.sent) views port v (taking v x.messages) at in
        let t = total_set (λ u. sum_by f u.taken) views port v (taking v x.messages) at in
        let p = h.1 f in
        omega (arith, sum_by-append f v.taken x.messages, weight_first f x items, s, t, p)),
    idle_set views port (taking v x.messages) (λ none. absurd (omega arith)) h.2,
  ),
  refl,
)

pub forks : (port : ℕ) (v : Hand) → 1 < v.parts → Forks IsBalanced port v (kept_of v) new_hand
forks port v two items views h at = let vs : List Hand = set views port (kept_of v) in (
  (let s = total_set (λ u. u.parts) views port v (kept_of v) at in
      let t = total_snoc (λ u. u.parts) vs new_hand in
      let p = h.0 in omega arith),
  (λ f.
      let s = total_set (λ u. sum_by f u.sent) views port v (kept_of v) at in
      let t = total_set (λ u. sum_by f u.taken) views port v (kept_of v) at in
      let s' = total_snoc (λ u. sum_by f u.sent) vs new_hand in
      let t' = total_snoc (λ u. sum_by f u.taken) vs new_hand in
      let p = h.1 f in
      omega (arith, s, t, s', t', p)),
  (let idle = idle_set views port (kept_of v) (λ none. absurd (omega arith)) h.2 in
      λ j u e none. ⊎_elim (λ (x : get_elem? vs j ≡ some u). idle j u x none)
      (λ (x : new_hand ≡ u). absurd (let k : 1 ≡ u.parts = ap (λ (y : Hand). y.parts) x in omega arith)) (at_snoc vs new_hand u j e)),
)

pub merges : (port : ℕ) (v : Hand) (other : ℕ) (u : Hand) → Merges IsBalanced port v other u (both_of v u) spent_hand
merges port v other u items views h at apart at' =
    let vs : List Hand = set views port (both_of v u) in (
      (let s = total_set (λ y. y.parts) views port v (both_of v u) at in
          let t = total_set (λ y. y.parts) vs other u spent_hand at' in
          let p = h.0 in omega arith),
      (λ f.
          let s = total_set (λ y. sum_by f y.sent) views port v (both_of v u) at in
          let t = total_set (λ y. sum_by f y.taken) views port v (both_of v u) at in
          let s' = total_set (λ y. sum_by f y.sent) vs other u spent_hand at' in
          let t' = total_set (λ y. sum_by f y.taken) vs other u spent_hand at' in
          let p = h.1 f in
          omega (arith, sum_by-append f v.sent u.sent, sum_by-append f v.taken u.taken, s, t, s', t', p)),
      idle_set vs other spent_hand (λ none. (refl, refl))
          (idle_set views port (both_of v u) (λ none.
          let was : get_elem? views other ≡ some u = ⊎_elim (λ (x : (other ≡ port) × (both_of v u ≡ u)). absurd (apart x.0)) (λ (x : (other ≢ port) × (get_elem? views other ≡ some u)). x.1) (at_set views port other (both_of v u) u at') in
          let a = h.2 port v at (omega arith) in
          let b = h.2 other u was (omega arith) in
          (ap (λ l. l ++ u.sent) a.0 ∙ b.0, ap (λ l. l ++ u.taken) a.1 ∙ b.1)) h.2),
    )

-- a sum is zero where each term is
zero_total : (f g : Hand → ℕ) (views : List Hand) → sum_by g views ≡ 0 → ((j : ℕ) (u : Hand) → get_elem? views j ≡ some u → g u ≡ 0 → f u ≡ 0) → sum_by f views ≡ 0
zero_total f g [] none each = refl
zero_total f g (u ∷ us) none each =
    let a = sum_by-cons g u us in
    let b = each 0 u refl (omega arith) in
    let r = zero_total f g us (omega arith) (λ j w e. each (suc j) w e) in
    omega (arith, sum_by-cons f u us, b, r)

-- a term is at most the sum
least : (g : Hand → ℕ) (views : List Hand) (port : ℕ) (v : Hand) → get_elem? views port ≡ some v → g v ≤ sum_by g views
least g [] port v at = absurd (some-ne-none v (sym at))
least g (u ∷ us) zero v at =
    let e : g u ≡ g v = ap g (some-injective u v at) in
    omega (arith, sum_by-cons g u us, e)
least g (u ∷ us) (suc port) v at = let r = least g us port v at in omega (arith, sum_by-cons g u us, r)

-- where one pass has all parts, a total is its own
whole_total : (f g : Hand → ℕ) (views : List Hand) (port : ℕ) (v : Hand) → get_elem? views port ≡ some v → sum_by g views ≡ g v
    → ((j : ℕ) (u : Hand) → get_elem? views j ≡ some u → g u ≡ 0 → f u ≡ 0) → sum_by f views ≡ f v
whole_total f g [] port v at all each = absurd (some-ne-none v (sym at))
whole_total f g (u ∷ us) zero v at all each =
    let same : u ≡ v = some-injective u v at in
    let e : f u ≡ f v = ap f same in
    let e' : g u ≡ g v = ap g same in
    let a = sum_by-cons g u us in
    let r = zero_total f g us (omega arith) (λ j w x. each (suc j) w x) in
    omega (arith, sum_by-cons f u us, e, r)
whole_total f g (u ∷ us) (suc port) v at all each =
    let a = sum_by-cons g u us in
    let n : g v ≤ sum_by g us = least g us port v at in
    let b = each 0 u refl (omega arith) in
    let r = whole_total f g us port v at (omega arith) (λ j w x. each (suc j) w x) in
    omega (arith, sum_by-cons f u us, b, r)

pub learns : (port : ℕ) (v : Hand) → Learns IsBalanced port v (KnowsAll v)
learns port v items views h at all f =
    let whole : sum_by (λ (u : Hand). u.parts) views ≡ v.parts = h.0 ∙ sym all in
    let s = whole_total (λ u. sum_by f u.sent) (λ u. u.parts) views port v at whole (λ j u e none. ap (sum_by f) (h.2 j u e none).0) in
    let t = whole_total (λ u. sum_by f u.taken) (λ u. u.parts) views port v at whole (λ j u e none. ap (sum_by f) (h.2 j u e none).1) in
    let p = h.1 f in
    omega (arith, s, t, p)
