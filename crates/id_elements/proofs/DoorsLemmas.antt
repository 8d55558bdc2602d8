-- What changes where one door of a list changes.
use Rattle.std.proofs.Common.{◌≡◌, ℕ, zero, suc, ◌+◌, ◌<◌, List, [], ◌∷◌, length, set, get_or, take, refl, ap, ◌∙◌}
use Rattle.std.proofs.Common.{arith, add-one}
use Rattle.std.specs.Prelude.{Some, slice_get}
use Rattle.std.specs.List.{sum_by}
use Rattle.std.proofs.lemmas.List.Sums.{sum_by-cons, sum_by-set}
use Rattle.std.proofs.lemmas.Grind.{common_steps}
use Rattle.id_tag.specs.declared.Message.{Message}
use Rattle.id_inbox.specs.Doors.{DoorView}
use Rattle.id_elements.specs.Doors.{HaveParts, queues_of, sent_by, taken_by}

-- the inboxes stay the same
pub queues_set : (ds : List DoorView) (i : ℕ) (d e : DoorView) → d ≡ get_or ds i d → i < length ds → e.queue ≡ d.queue
    → queues_of (set ds i e) ≡ queues_of ds
queues_set [] i d e is lt same = refl
queues_set (x ∷ xs) zero d e is lt same = ap (λ q. q ∷ queues_of xs) (same ∙ ap (λ (y : DoorView). y.queue) is)
queues_set (x ∷ xs) (suc i) d e is lt same = ap (λ qs. x.queue ∷ qs) (queues_set xs i d e is (omega arith) same)

pub sent_by-set : (f : Message → ℕ) (ds : List DoorView) (i : ℕ) (d e : DoorView) → d ≡ get_or ds i d → i < length ds
    → sent_by f (set ds i e) + sum_by f d.hand.sent ≡ sent_by f ds + sum_by f e.hand.sent
sent_by-set f ds i d e is lt =
    let k : sum_by f d.hand.sent ≡ sum_by f (get_or ds i d).hand.sent =
    ap (λ (y : DoorView). sum_by f y.hand.sent) is in
    let s = sum_by-set (λ (y : DoorView). sum_by f y.hand.sent) ds i e d lt in
    omega (arith, k, s)

pub taken_by-set : (f : Message → ℕ) (ds : List DoorView) (i : ℕ) (d e : DoorView) → d ≡ get_or ds i d → i < length ds
    → taken_by f (set ds i e) + sum_by f d.hand.taken ≡ taken_by f ds + sum_by f e.hand.taken
taken_by-set f ds i d e is lt =
    let k : sum_by f d.hand.taken ≡ sum_by f (get_or ds i d).hand.taken =
    ap (λ (y : DoorView). sum_by f y.hand.taken) is in
    let s = sum_by-set (λ (y : DoorView). sum_by f y.hand.taken) ds i e d lt in
    omega (arith, k, s)

pub ruleset door_steps = (queues_set, sent_by-set, taken_by-set)

-- each door has so many parts
pub parts_set : (n : ℕ) (ds : List DoorView) (i : ℕ) (e : DoorView) → HaveParts n ds → e.hand.parts ≡ n
    → HaveParts n (set ds i e)
parts_set n ds i e all mine = grind (arith, common_steps)

-- one message more of a list
weight_next : (f : Message → ℕ) (ms : List Message) (k : ℕ) (m : Message) → slice_get ms k ≡ Some m
    → sum_by f (take (suc k) ms) ≡ sum_by f (take k ms) + f m
weight_next f [] k m at = absurd cc
weight_next f (x ∷ xs) zero m at =
    let e : f x ≡ f m = (let is : x ≡ m = cc in ap f is) in
    omega (arith, sum_by-cons f x [], e)
weight_next f (x ∷ xs) (suc k) m at =
    let r = weight_next f xs k m at in
    omega (arith, sum_by-cons f x (take (suc k) xs), sum_by-cons f x (take k xs), r)

pub weight_take : (f : Message → ℕ) (ms : List Message) (k : ℕ) (m : Message) → slice_get ms k ≡ Some m
    → sum_by f (take (k + 1) ms) ≡ sum_by f (take k ms) + f m
weight_take f ms k m at = ap (λ (n : ℕ). sum_by f (take n ms)) (add-one k) ∙ weight_next f ms k m at
