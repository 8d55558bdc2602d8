-- How messages move between a worker's lists (docs/THREADS.md, "A worker").
use Rattle.std.specs.Prelude.{◌≡◌, ◌<◌, ◌+◌, ◌-◌, ℕ, List, [], ◌++◌, ◌∷◌, All}
use Rattle.std.specs.Prelude.{length, slice_get, take, OnErr, OnOk, Result, Some}
use Rattle.std.specs.List.{sum_by}
use Rattle.std.specs.declared.alloc.AllocError.{AllocError}
use Rattle.id_instr.specs.Graph.{Parts}
use Rattle.id_tag.specs.declared.Message.{Message}
use Rattle.id_tag.specs.Routes.{route_of}
use Rattle.id_flight.specs.Queues.{QueueView}
use Rattle.id_inbox.specs.Hands.{weight_in}
use Rattle.id_step.specs.Fits.{Fits, IsFor}
use Rattle.id_step.specs.Replays.{ElementView}

-- these messages are for the element
abbrev pub AreFor : ElementView → List Message → Type 0
AreFor e ms = All (IsFor e.graph e.count e.number) ms

-- the element of this number, of so many, is the one that these messages are for
abbrev pub AreRouted : ℕ → ℕ → List Message → Type 0
AreRouted count n ms = All (λ m. route_of m.payload count ≡ n) ms

-- the element of this number is the one, of so many, that the message at this position is for
pub record IsGoalAt (count : ℕ) (ms : List Message) (k n : ℕ) : Type 0 where
  pub message : Message
  pub there : slice_get ms k ≡ Some message
  pub routed : route_of message.payload count ≡ n
  pub below : n < count

-- those of the last so many messages of its own that are for others than the element of this number were sent on: no
-- message is lost, and where all went well, what is left is for the element
pub record IsSentOn (n sent : ℕ) (own back : List Message) (letters : List QueueView)
    (own' back' : List Message) (letters' : List QueueView) (r : Result (Unit {0}) AllocError) : Type 0 where
  pub weight : (f : Message → ℕ) → sum_by f own' + sum_by f back' + weight_in f letters'
      ≡ sum_by f own + sum_by f back + weight_in f letters
  pub count : length letters' ≡ length letters
  pub fits : (g : Parts) → All (Fits g) own → All (Fits g) back → All (Fits g) own'
  pub routed : OnOk r (back ≡ [] → AreRouted (length letters) n (take (length own - sent) own)
      → (back' ≡ []) × AreRouted (length letters) n own')

-- the last message of the first list has gone to the end of the second
pub record IsLastMoved (from to from' to' : List Message) : Type 0 where
  pub message : Message
  pub from_is : from ≡ from' ++ message ∷ []
  pub to_is : to' ≡ to ++ message ∷ []

-- the last message of its own was sent on, or moved back, where it is for the element of this number: no message is
-- lost, and after an error it has not moved
pub record IsLastSent (n : ℕ) (own back : List Message) (letters : List QueueView) (own' back' : List Message)
    (letters' : List QueueView) (r : Result (Unit {0}) AllocError) : Type 0 where
  pub weight : (f : Message → ℕ) → sum_by f own' + sum_by f back' + weight_in f letters'
      ≡ sum_by f own + sum_by f back + weight_in f letters
  pub count : length letters' ≡ length letters
  pub fits : (g : Parts) → All (Fits g) own → All (Fits g) back → All (Fits g) back'
  pub routed : AreRouted (length letters) n back → AreRouted (length letters) n back'
  pub moved : OnOk r (own' ≡ take (length own - 1) own)
  pub stays : OnErr r (own' ≡ own)
