-- Events as contracts see them (docs/MACHINE.md, "The record").
use Rattle.std.specs.Prelude.{◌≡◌, ℕ, All, List}
use Rattle.id_tag.specs.declared.Message.{Message}
use Rattle.id_tag.specs.declared.Tag.{Tag}
use Rattle.id_tag.specs.declared.Value.{Value}
use Rattle.id_tag.specs.declared.Value.TheVariants.{Signal}
use Rattle.id_tag.specs.declared.Payload.{Payload}
use Rattle.id_tag.specs.declared.Payload.TheVariants.{Token, Read, Write}
use Rattle.id_ops.specs.declared.Fired.{Fired}
use Rattle.id_record.specs.declared.step.Step.{Step}
use Rattle.id_record.specs.declared.step.Step.TheVariants as steps
use Rattle.id_record.specs.declared.step.Fault.TheVariants.{Operator, SecondStore}
use Rattle.id_record.specs.declared.step.Verdict.{Verdict}
use Rattle.id_record.specs.declared.step.Verdict.TheVariants as verdicts

-- an event: who handled which message at which stamp, what was fired, what was sent, and what it came to. A token fires
-- its instruction, unless it waits or is blocked; a read that is answered fires its value to its reply
pub record EventView : Type 0 where
  pub element : ℕ
  pub stamp : ℕ
  pub message : Message
  pub fired : Fired
  pub outputs : List Message
  pub step : Step

-- no event is a fault or `Stuck`
abbrev pub AllWent : List EventView → Type 0
AllWent es = All (λ e. e.step ≡ steps.Went) es

-- the tag that a payload names: that of a token, of a read's reply, of a write's origin
abbrev pub tag_of : Payload → Tag
tag_of (Token tag port value) = tag
tag_of (Read cell reply) = reply
tag_of (Write cell value origin) = origin

-- the value that a payload carries: a read carries none, and a signal stands for it
abbrev pub value_of : Payload → Value
value_of (Token tag port v) = v
value_of (Read cell reply) = Signal
value_of (Write cell v origin) = v

-- a second store: the cell of the write has the value of the store of this tag
abbrev pub second_store : Payload → Tag → Step
second_store (Write cell value origin) first = steps.Fault (SecondStore cell first origin)
second_store (Token tag port value) first = steps.Stuck
second_store (Read cell reply) first = steps.Stuck

-- what a verdict on a message says in full
abbrev pub full_step : Payload → Verdict → Step
full_step payload verdicts.Went = steps.Went
full_step payload (verdicts.Failed fault) = steps.Fault (Operator fault (tag_of payload))
full_step payload verdicts.Stuck = steps.Stuck
full_step payload (verdicts.Second first) = second_store payload first
