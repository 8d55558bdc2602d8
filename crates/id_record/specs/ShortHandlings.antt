-- How a record keeps what was handled.
use Rattle.std.specs.Prelude.{ℕ, ◌<◌, List, length, slice_index_or}
use Rattle.id_instr.specs.declared.dests.Port.TheVariants.{Zero}
use Rattle.id_tag.specs.declared.Payload.{Payload}
use Rattle.id_tag.specs.declared.Payload.TheVariants.{Token, Read, Write}
use Rattle.id_tag.specs.declared.Sender.TheVariants.{Start}
use Rattle.id_tag.specs.declared.Value.TheVariants.{Signal}
use Rattle.id_tag.specs.declared.plain.PlainCell.{PlainCell}
use Rattle.id_tag.specs.declared.plain.PlainToken.{PlainToken}
use Rattle.id_tag.specs.Plains.{cell_of, message_of, tag_in, whole}
use Rattle.id_ops.specs.declared.Fired.{Fired}
use Rattle.id_ops.specs.declared.Fired.TheVariants as fired
use Rattle.id_ops.specs.PlainFired.{fired_of}
use Rattle.id_record.specs.declared.handled.Handled.{Handled}
use Rattle.id_record.specs.declared.handled.Replies.{Replies}
use Rattle.id_record.specs.declared.handlings.ShortHandled.{ShortHandled}
use Rattle.id_record.specs.declared.handlings.ShortHandled.TheVariants.{Fired as Fires, Entered, Deferred, Answered}
use Rattle.id_record.specs.declared.handlings.ShortHandled.TheVariants.{Filled, Aside}
use Rattle.id_record.specs.Handlings.{no_replies, went}
use Rattle.id_record.specs.Shorts.{context_by, untold}

-- the event at this stamp of a message that says this and is else like the token, where this was fired
abbrev pub near_handled : ℕ → PlainToken → Payload → Fired → Replies → Handled
near_handled n t x f r = record {
  message = record (message_of t) { payload = x };
  stamp = n;
  reaction = went f;
  replies = r;
}

-- a read of this cell for the token's tag, and a write of its value
abbrev pub read_by : PlainToken → PlainCell → Payload
read_by t c = Read (cell_of c) (tag_in t)

-- a write of the token's value to this cell, from the token's tag
abbrev pub written_by : PlainToken → PlainCell → Payload
written_by t c = Write (cell_of c) (whole t.value) (tag_in t)

-- what stands in for what was not handled
abbrev pub unhandled : Handled
unhandled = record {
  message = record { payload = Token untold.tag Zero Signal; sender = Start; position = 0; output = 0; stamp = 0 };
  stamp = 0;
  reaction = went fired.Nothing;
  replies = no_replies;
}

-- what was handled and is kept so, with these that stand aside
abbrev pub handled_of : List Handled → ShortHandled → Handled
handled_of asides (Fires n t p) = near_handled n t (message_of t).payload (fired_of (tag_in t) p) no_replies
handled_of asides (Entered n t e s) =
    near_handled n t (message_of t).payload (fired.Entered (context_by e s)) no_replies
handled_of asides (Deferred n t c) = near_handled n t (read_by t c) fired.Nothing no_replies
handled_of asides (Answered n t c v) = near_handled n t (read_by t c) (fired.Sent (tag_in t) (whole v)) no_replies
handled_of asides (Filled n t c from count) =
    near_handled n t (written_by t c) fired.Nothing (record { from = from; count = count })
handled_of asides (Aside place) = slice_index_or asides place unhandled

-- what stands aside is there
abbrev pub IsThere : List Handled → ShortHandled → Type 0
IsThere asides (Aside place) = place < length asides
IsThere asides _ = Unit {0}

-- what contracts see of what was handled: for how much more there is room, and for how much of it aside
pub record HandlingsView : Type 0 where
  pub items : List Handled
  pub room : ℕ
  pub room_aside : ℕ
