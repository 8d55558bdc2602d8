-- What an element does with a message (docs/MACHINE.md, "Element step"): said once, of the element, of the list that
-- the message comes from and of the list that its messages go to.
use Rattle.std.specs.Prelude.{◌≡◌, ◌↔◌, ◌<◌, ◌^◌, ◌++◌, ℕ, All, Bool, IfSome, IsTrue, List}
use Rattle.std.specs.Prelude.{OnOk, true, false, Option, None, Some, Result, Ok, Err, slice_get}
use Rattle.std.specs.List.{remove}
use Rattle.id_tag.specs.declared.Message.{Message}
use Rattle.id_record.specs.declared.step.Step.{Step}
use Rattle.id_record.specs.declared.step.Step.TheVariants.{Went, Fault, Stuck}
use Rattle.id_step.specs.declared.step.TakeError.{TakeError}
use Rattle.id_step.specs.declared.step.TakeError.TheVariants.{StampEnd}
use Rattle.id_step.specs.Fits.{Fits, IsFor}
use Rattle.id_step.specs.Replays.{ElementView}
use Rattle.id_step.specs.Steps.{is_ended, next_stamp, outputs_of, state_after, step_of}

-- the element has taken the message by its step, which came to this: a stamp was left, the state is the next, and what
-- it sends stands behind the rest of the list
pub record Takes (e e' : ElementView) (m : Message) (rest list : List Message) (s : Step) : Type 0 where
  pub stamp : next_stamp e.state m < 2 ^ 64
  pub step : s ≡ step_of e.graph e.number e.state m
  pub element : e' ≡ record e { state = state_after e.graph e.number e.state m }
  pub outputs : list ≡ rest ++ outputs_of e.graph e.number e.state m

-- nothing has changed
pub record Leaves (e e' : ElementView) (list list' : List Message) : Type 0 where
  pub element : e' ≡ e
  pub same : list' ≡ list

-- the element has taken the message, which came to this, or else nothing has changed
abbrev pub Becomes : ElementView → ElementView → Message → List Message → List Message → List Message
    → Option Step → Type 0
Becomes e e' m list rest list' (Some s) = Takes e e' m rest list' s
Becomes e e' m list rest list' None = Leaves e e' list list'

-- what a message came to, where it was taken
abbrev pub came : Result Step TakeError → Option Step
came (Ok s) = Some s
came (Err x) = None

-- the answer of an element that was given a message for it, where the list without the message is the rest: it has
-- taken it, and what it sends fits, so that the element that this is routed to can take it; or nothing has changed, and
-- no stamp is left, or a growth was refused
pub record Handles (e e' : ElementView) (m : Message) (list rest list' : List Message) (r : Result Step TakeError) :
    Type 0 where
  pub becomes : Becomes e e' m list rest list' (came r)
  pub fits : OnOk r (All (Fits e.graph) (outputs_of e.graph e.number e.state m))
  pub ended : (r ≡ Err StampEnd) ↔ IsTrue (is_ended e.state m)

-- the same of the message at a position of the list: that leaves, and the list closes up
pub record HandlesAt (k : ℕ) (e e' : ElementView) (list list' : List Message) (r : Result Step TakeError) :
    Type 0 where
  pub message : Message
  pub at : slice_get list k ≡ Some message
  pub handles : Handles e e' message list (remove list k) list' r

-- whether what the message came to went well
abbrev pub came_well : Result Step TakeError → Result Bool TakeError
came_well (Ok Went) = Ok true
came_well (Ok (Fault f)) = Ok false
came_well (Ok Stuck) = Ok false
came_well (Err x) = Err x

-- the same, where the answer is whether it went well
pub record GoesAt (k : ℕ) (e e' : ElementView) (list list' : List Message) (r : Result Bool TakeError) : Type 0 where
  pub step : Result Step TakeError
  pub handles : HandlesAt k e e' list list' step
  pub well : r ≡ came_well step

-- the message at a position is for the element, and fits its graph
abbrev pub IsForAt : ElementView → List Message → ℕ → Type 0
IsForAt e list k = IfSome (slice_get list k) (IsFor e.graph e.count e.number)
