-- What a record keeps of a message that was handled.
use Rattle.std.specs.Prelude.{◌+◌, ◌≤◌, List, length}
use Rattle.id_tag.specs.declared.Tag.{Tag}
use Rattle.id_ops.specs.declared.Fired.{Fired}
use Rattle.id_record.specs.declared.step.Verdict.TheVariants.{Went}
use Rattle.id_record.specs.declared.handled.Handled.{Handled}
use Rattle.id_record.specs.declared.handled.Handling.{Handling}
use Rattle.id_record.specs.declared.handled.Reaction.{Reaction}
use Rattle.id_record.specs.declared.handled.Replies.{Replies}

-- no replies
abbrev pub no_replies : Replies
no_replies = record { from = 0; count = 0 }

-- what the record keeps of a message that is being handled
abbrev pub handled : Handling → Handled
handled h = record { message = h.message.now; stamp = h.stamp; reaction = h.reaction.now; replies = h.replies }

-- this was fired, and all went well
abbrev pub went : Fired → Reaction
went f = record { fired = f; verdict = Went }

-- the replies are among these
abbrev pub AreThere : List Tag → Replies → Type 0
AreThere ts r = r.from + r.count ≤ length ts

-- the replies of the event are
abbrev pub HasThere : List Tag → Handled → Type 0
HasThere ts h = AreThere ts h.replies
