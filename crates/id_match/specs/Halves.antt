-- An offer under one tag, by what waits there.
use Rattle.std.specs.Prelude.{if◌then◌else◌, Option, Some, None}
use Rattle.id_instr.specs.declared.dests.Port.{Port}
use Rattle.id_tag.specs.declared.Value.{Value}
use Rattle.id_match.specs.declared.meeting.Half.{Half}
use Rattle.id_match.specs.declared.meeting.Offered.{Offered}
use Rattle.id_match.specs.declared.meeting.Offered.TheVariants.{Kept, Taken}
use Rattle.id_match.specs.Ports.{same_port}
use Rattle.id_match.specs.Waiting.{pair_of}

-- the answer to v at port p
abbrev pub answer_at : Option Half → Port → Value → Offered
answer_at None p v = Kept
answer_at (Some h) p v = if same_port h.port p then Taken else pair_of p v h.value

-- what waits after it
abbrev pub half_after : Option Half → Port → Value → Option Half
half_after None p v = Some (record { port = p; value = v })
half_after (Some h) p v = if same_port h.port p then Some h else None
