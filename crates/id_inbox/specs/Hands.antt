-- What doors have sent and taken, and the rule of an inbox (docs/THREADS.md, "Inboxes").
use Rattle.std.specs.Prelude.{◌≡◌, ℕ, ◌+◌, ◌-◌, List, [], ◌∷◌, ◌++◌}
use Rattle.std.specs.List.{sum_by}
use mathlib.Core.Option.{some}
use lib.ListN.{get_elem?}
use Rattle.id_tag.specs.declared.Message.{Message}
use Rattle.id_flight.specs.Queues.{QueueView}
use Rattle.id_inbox.specs.declared.hand.Hand.{Hand}

-- the hand of a door with so many parts, which has sent and taken these messages, in order
abbrev pub hand : ℕ → List Message → List Message → Hand
hand parts sent taken = record { parts = parts; sent = sent; taken = taken }

-- the hand of the first door to an inbox has all parts
abbrev pub first_hand : Hand
first_hand = hand 1024 [] []

-- the hand of a door that was split off has one part
abbrev pub new_hand : Hand
new_hand = hand 1 [] []

-- the hand of a door that another has taken in has none
abbrev pub spent_hand : Hand
spent_hand = hand 0 [] []

-- what a door keeps of its hand where it gives a part away
abbrev pub kept_of : Hand → Hand
kept_of v = hand (v.parts - 1) v.sent v.taken

-- two hands in one: the parts of both, and what the first has sent and taken before what the second has
abbrev pub both_of : Hand → Hand → Hand
both_of v w = hand (v.parts + w.parts) (v.sent ++ w.sent) (v.taken ++ w.taken)

-- a hand after a push of a letter with these messages
abbrev pub sending : Hand → List Message → Hand
sending v ms = hand v.parts (v.sent ++ ms) v.taken

-- a hand after a pop that found a letter with these messages
abbrev pub taking : Hand → List Message → Hand
taking v ms = hand v.parts v.sent (v.taken ++ ms)

-- what these letters hold, however messages are weighed
abbrev pub weight_in : (Message → ℕ) → List QueueView → ℕ
weight_in f letters = sum_by (λ (q : QueueView). sum_by f q.messages) letters

-- however messages are weighed, what all doors have sent weighs as much as what they have taken and the queue holds
abbrev pub IsEven : List QueueView → List Hand → Type 0
IsEven items views =
    (f : Message → ℕ)
    → sum_by (λ v. sum_by f v.sent) views ≡ sum_by (λ v. sum_by f v.taken) views + weight_in f items

-- a door with no part has sent and taken nothing
abbrev pub IdleIsEmpty : List Hand → Type 0
IdleIsEmpty views = (port : ℕ) (v : Hand) → get_elem? views port ≡ some v → v.parts ≡ 0
    → (v.sent ≡ []) × (v.taken ≡ [])

-- the rule: all parts together are 1024, no message is lost or doubled, and a door with no part has done nothing
abbrev pub IsBalanced : List QueueView → List Hand → Type 0
IsBalanced items views = (sum_by (λ v. v.parts) views ≡ 1024) × IsEven items views × IdleIsEmpty views

-- a door with all parts knows the whole: what it has sent weighs as much as what it has taken and the queue holds
abbrev pub KnowsAll : Hand → List QueueView → Type 0
KnowsAll v items =
    v.parts ≡ 1024 → (f : Message → ℕ) → sum_by f v.sent ≡ sum_by f v.taken + weight_in f items
