-- The messages that go to the cells of a storage, and what its record keeps of them.
use Rattle.id_tag.specs.declared.Tag.{Tag}
use Rattle.id_tag.specs.declared.Value.{Value}
use Rattle.id_tag.specs.declared.Message.{Message}
use Rattle.id_tag.specs.declared.Payload.{Payload}
use Rattle.id_tag.specs.declared.Payload.TheVariants.{Read, Write}
use Rattle.id_tag.specs.Plains.{message_of, tag_in}
use Rattle.id_flight.specs.declared.access.Access.{Access}
use Rattle.id_bank.specs.declared.cell.ReadAnswer.{ReadAnswer}
use Rattle.id_bank.specs.declared.cell.WriteAnswer.{WriteAnswer}
use Rattle.id_ops.specs.declared.Fired.TheVariants.{Nothing}
use Rattle.id_record.specs.declared.step.Step.{Step}
use Rattle.id_record.specs.declared.step.Step.TheVariants.{Went}
use Rattle.id_record.specs.declared.cell_event.CellAnswer.{CellAnswer}
use Rattle.id_record.specs.CellEvents.{cell_content}
use Rattle.id_record.specs.Records.{replies_in, sent_for}
use Rattle.id_step.specs.Steps.{Outcome, answer_fired, answer_sends, fill_sends, making_none}
use Rattle.id_step.specs.declared.storage.Storage.{Storage}

-- what is said is a read
abbrev pub IsRead : Payload → Type 0
IsRead (Read c t) = Unit {0}
IsRead x = ⊥

-- what is said is a write
abbrev pub IsWrite : Payload → Type 0
IsWrite (Write c v t) = Unit {0}
IsWrite x = ⊥

-- the outcome of a read under this tag that got this answer: what waits and the cells are as at the storage
abbrev pub answer_outcome : Storage → Tag → ReadAnswer → Outcome
answer_outcome d t a = making_none (answer_fired t a) (answer_sends t a) Went d.waiting d.cells

-- the outcome of a write of this value that got this answer and came to this step
abbrev pub fill_outcome : Storage → Value → WriteAnswer → Step → Outcome
fill_outcome d v a s = making_none Nothing (fill_sends v a) s d.waiting d.cells

-- the message that the record keeps of a read or a write in small numbers that came to this
abbrev pub recorded_message : Access → CellAnswer → Message
recorded_message x f = record (message_of x.like) { payload = (cell_content f x.cell (tag_in x.like)).payload }

-- and the outcome of it, with those replies of the record that it names
abbrev pub access_outcome : Storage → Access → CellAnswer → Outcome
access_outcome d x f =
    let told = cell_content f x.cell (tag_in x.like) in
    making_none told.fired
    (sent_for d.log.graph told.payload told.fired (replies_in d.log.replies told.replies)) Went d.waiting d.cells
