-- What an event came to, by the answers of what handles its message: none where it was not handled.
use Rattle.std.specs.Prelude.{◌≡◌, ◌↔◌, ℕ, All, IfErr, IfSome, IsTrue, List, Option, None, Some}
use Rattle.std.specs.Prelude.{Result, Ok, Err, slice_get}
use Rattle.std.specs.List.{remove}
use Rattle.id_tag.specs.declared.Message.{Message}
use Rattle.id_tag.specs.declared.Tag.{Tag}
use Rattle.id_tag.specs.declared.Payload.{Payload}
use Rattle.id_record.specs.declared.step.Step.{Step}
use Rattle.id_record.specs.declared.step.Step.TheVariants as step
use Rattle.id_record.specs.declared.step.Fault.TheVariants.{Operator}
use Rattle.id_record.specs.declared.step.Verdict.{Verdict}
use Rattle.id_record.specs.Events.{full_step, tag_of}
use Rattle.id_step.specs.declared.step.TakeError.{TakeError}
use Rattle.id_step.specs.declared.step.TakeError.TheVariants.{StampEnd}
use Rattle.id_step.specs.declared.step.Short.{Short}
use Rattle.id_step.specs.declared.step.Short.TheVariants.{Went, Failed, Apart}
use Rattle.id_step.specs.Fits.{Fits}
use Rattle.id_step.specs.Replays.{ElementView}
use Rattle.id_step.specs.Steps.{is_ended, outputs_of}
use Rattle.id_step.specs.Takes.{Becomes}

-- of a message under this tag, where that is short
abbrev pub short_step : Tag → Short → Option Step
short_step t Went = Some step.Went
short_step t (Failed f) = Some (step.Fault (Operator f t))
short_step t Apart = None

-- and where an error is no step
abbrev pub came_short : Tag → Result Short TakeError → Option Step
came_short t (Ok s) = short_step t s
came_short t (Err x) = None

-- of a message that says this, in full
abbrev pub came_full : Payload → Result Verdict TakeError → Option Step
came_full x (Ok v) = Some (full_step x v)
came_full x (Err e) = None

-- the message at a position of a list was handled in short, and leaves it; or nothing has changed, and where the answer
-- is an error, no stamp is left, or a growth was refused
pub record HandlesShortAt (k : ℕ) (e e' : ElementView) (list list' : List Message) (r : Result Short TakeError) :
    Type 0 where
  pub message : Message
  pub at : slice_get list k ≡ Some message
  pub becomes : Becomes e e' message list (remove list k) list' (came_short (tag_of message.payload) r)
  pub fits : IfSome (came_short (tag_of message.payload) r)
      (λ s. All (Fits e.graph) (outputs_of e.graph e.number e.state message))
  pub ended : IfErr r (λ x. (x ≡ StampEnd) ↔ IsTrue (is_ended e.state message))
