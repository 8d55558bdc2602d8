-- What an offer of a plain token comes to, where it is told in short.
use Rattle.std.specs.Prelude.{Option, Some, None}
use Rattle.id_tag.specs.declared.plain.PlainToken.{PlainToken}
use Rattle.id_tag.specs.Plains.{whole}
use Rattle.id_match.specs.declared.meeting.Met.{Met}
use Rattle.id_match.specs.declared.meeting.Met.TheVariants.{Kept, Partner, Apart}
use Rattle.id_match.specs.declared.meeting.Offered.{Offered}
use Rattle.id_match.specs.declared.meeting.Offered.TheVariants as offered
use Rattle.id_match.specs.Waiting.{pair_of}

-- the answer to the token that this says, if it was offered
abbrev pub told : Met → PlainToken → Option Offered
told Kept t = Some offered.Kept
told (Partner v) t = Some (pair_of t.port (whole t.value) (whole v))
told Apart t = None
