-- The waiting-matching store (docs/MACHINE.md, "The waiting-matching store").
use Rattle.std.specs.Prelude.{ℕ, Bool, ◌==◌, ◌&&◌, if◌then◌else◌, Option, Some, None, List, map}
use Rattle.std.specs.FinMap.{FinMap, get, insert, remove, entries}
use Rattle.std.specs.Set.{distinct_count}
use Rattle.id_instr.specs.declared.dests.Port.{Port}
use Rattle.id_instr.specs.declared.dests.Port.TheVariants.{Zero, One}
use Rattle.id_tag.specs.declared.Tag.{Tag}
use Rattle.id_tag.specs.declared.Value.{Value}
use Rattle.id_tag.specs.Tags.{tag_cmp, same_context}
use Rattle.id_match.specs.declared.meeting.Half.{Half}
use Rattle.id_match.specs.declared.meeting.Entry.{Entry}
use Rattle.id_match.specs.declared.meeting.Offered.{Offered}
use Rattle.id_match.specs.declared.meeting.Offered.TheVariants.{Kept, Pair, Taken}
use Rattle.id_match.specs.Ports.{other_port, same_port}

-- what waits under each tag: the value of one port, since its partner's coming takes both away
abbrev pub Store : Type 0
Store = FinMap tag_cmp Half

-- the value of this port, if that is the one that waits
abbrev pub at_port : Option Half → Port → Option Value
at_port None p = None
at_port (Some h) p = if same_port h.port p then Some h.value else None

-- the value that waits at a port of a tag: the store as a map keyed by both
abbrev pub waits : Store → Tag → Port → Option Value
waits s t p = at_port (get s t) p

-- the values of port 0 and port 1, where v came to port p and met its partner
abbrev pub pair_of : Port → Value → Value → Offered
pair_of Zero v partner = Pair v partner
pair_of One v partner = Pair partner v

-- the answer to v at port p, by what waits at that port and at the other
abbrev pub answer_of : Port → Value → Option Value → Option Value → Offered
answer_of p v (Some _) _ = Taken
answer_of p v None None = Kept
answer_of p v None (Some partner) = pair_of p v partner

-- the answer to v at port p of tag t
abbrev pub offer_answer : Store → Tag → Port → Value → Offered
offer_answer s t p v = answer_of p v (waits s t p) (waits s t (other_port p))

-- the store after that answer: v waits, or the partner leaves, or nothing changes
abbrev pub store_after : Store → Tag → Port → Value → Offered → Store
store_after s t p v Kept = insert s t (record { port = p; value = v })
store_after s t p v (Pair _ _) = remove s t
store_after s t p v Taken = s

-- the store after v was offered to port p of tag t
abbrev pub offer_after : Store → Tag → Port → Value → Store
offer_after s t p v = store_after s t p v (offer_answer s t p v)

-- what waits under a tag, as an entry
abbrev pub entry_at : Tag × Half → Entry
entry_at e = record { tag = e.0; port = e.1.port; value = e.1.value }

-- what waits, in the order of tags
abbrev pub entries_of : Store → List Entry
entries_of s = map entry_at (entries s)

-- whether two tags are of one frame, a context and an iteration
abbrev pub same_frame : Tag → Tag → Bool
same_frame t u = same_context t.context u.context && (t.iteration == u.iteration)

-- how many different frames the tags of what waits are of
abbrev pub frames_of : Store → ℕ
frames_of s = distinct_count same_frame (map (λ e. e.tag) (entries_of s))
