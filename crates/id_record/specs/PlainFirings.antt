-- What a record keeps of a plain token that fires in small numbers.
use Rattle.id_tag.specs.Plains.{message_of, tag_in}
use Rattle.id_ops.specs.PlainFired.{fired_of}
use Rattle.id_record.specs.declared.handled.Handled.{Handled}
use Rattle.id_record.specs.declared.plain_firing.PlainFiring.{PlainFiring}
use Rattle.id_record.specs.Handlings.{no_replies, went}

-- that it is fired, and all went well
abbrev pub plain_firing : PlainFiring → Handled
plain_firing p = record {
  message = message_of p.token.now;
  stamp = p.stamp;
  reaction = went (fired_of (tag_in p.token.now) p.fired);
  replies = no_replies;
}
