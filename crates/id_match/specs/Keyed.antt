-- The store as a map keyed by tag and port (docs/MACHINE.md, "The waiting-matching store").
use Rattle.std.specs.Prelude.{◌&&◌, if◌then◌else◌, Option, Some, None}
use Rattle.id_instr.specs.declared.dests.Port.{Port}
use Rattle.id_tag.specs.declared.Tag.{Tag}
use Rattle.id_tag.specs.declared.Value.{Value}
use Rattle.id_tag.specs.Tags.{same_tag}
use Rattle.id_match.specs.declared.meeting.Offered.{Offered}
use Rattle.id_match.specs.declared.meeting.Offered.TheVariants.{Kept, Pair, Taken}
use Rattle.id_match.specs.Ports.{other_port, same_port}
use Rattle.id_match.specs.Waiting.{answer_of}

-- a map from the ports of tags to values
abbrev pub Keyed : Type 0
Keyed = Tag → Port → Option Value

-- the map with this at port p of tag t, and with what it had at every other port
abbrev pub with_at : Keyed → Tag → Port → Option Value → Keyed
with_at m t p o u q = if same_tag t u && same_port p q then o else m u q

-- the map after that answer to v: v is at its port, or the partner has left its own, or nothing changes
abbrev pub keyed_by_answer : Keyed → Tag → Port → Value → Offered → Keyed
keyed_by_answer m t p v Kept = with_at m t p (Some v)
keyed_by_answer m t p v (Pair _ _) = with_at m t (other_port p) None
keyed_by_answer m t p v Taken = m

-- the map after v was offered to port p of tag t
abbrev pub keyed_after : Keyed → Tag → Port → Value → Keyed
keyed_after m t p v = keyed_by_answer m t p v (answer_of p v (m t p) (m t (other_port p)))
