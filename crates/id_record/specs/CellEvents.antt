-- What a record keeps of a read or a write of a cell in small numbers.
use Rattle.id_tag.specs.Plains.{message_of, tag_in, whole}
use Rattle.id_tag.specs.declared.Cell.{Cell}
use Rattle.id_tag.specs.declared.Tag.{Tag}
use Rattle.id_tag.specs.declared.Payload.TheVariants.{Read, Write}
use Rattle.id_ops.specs.declared.Fired.TheVariants as fired
use Rattle.id_record.specs.declared.handled.Handled.{Handled}
use Rattle.id_record.specs.declared.cell_event.Content.{Content}
use Rattle.id_record.specs.declared.cell_event.CellAnswer.{CellAnswer}
use Rattle.id_record.specs.declared.cell_event.CellAnswer.TheVariants.{Deferred, Answered, Filled}
use Rattle.id_record.specs.declared.cell_event.CellEvent.{CellEvent}
use Rattle.id_record.specs.Handlings.{no_replies, went}

-- what its event says, with the cell and the tag that the message names
abbrev pub cell_content : CellAnswer → Cell → Tag → Content
cell_content Deferred c t = record { payload = Read c t; fired = fired.Nothing; replies = no_replies }
cell_content (Answered v) c t = record { payload = Read c t; fired = fired.Sent t (whole v); replies = no_replies }
cell_content (Filled v r) c t = record { payload = Write c (whole v) t; fired = fired.Nothing; replies = r }

-- what the record keeps of it, where its event says this
abbrev pub cell_handled : CellEvent → Content → Handled
cell_handled v x = record {
  message = record (message_of v.token.now) { payload = x.payload };
  stamp = v.stamp;
  reaction = went x.fired;
  replies = x.replies;
}

-- what the record keeps of it
abbrev pub cell_event : CellEvent → Handled
cell_event v = cell_handled v (cell_content v.answer v.cell (tag_in v.token.now))
