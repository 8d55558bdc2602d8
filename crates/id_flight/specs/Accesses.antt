-- Reads and writes of cells in small numbers, as messages.
use Rattle.std.specs.Prelude.{Option, None, Some}
use Rattle.id_tag.specs.declared.Cell.{Cell}
use Rattle.id_tag.specs.declared.Tag.{Tag}
use Rattle.id_tag.specs.declared.Message.{Message}
use Rattle.id_tag.specs.declared.Payload.{Payload}
use Rattle.id_tag.specs.declared.Payload.TheVariants.{Read, Write}
use Rattle.id_tag.specs.declared.plain.Plain.{Plain}
use Rattle.id_tag.specs.Plains.{message_of, tag_in, whole}
use Rattle.id_flight.specs.declared.access.Access.{Access}

-- what is said of a cell under a tag: that this value is written, or that the cell is read
abbrev pub asked : Option Plain → Cell → Tag → Payload
asked None c t = Read c t
asked (Some v) c t = Write c (whole v) t

-- a read or a write as any message
abbrev pub accessed : Access → Message
accessed d = record (message_of d.like) { payload = asked d.stored d.cell (tag_in d.like) }
