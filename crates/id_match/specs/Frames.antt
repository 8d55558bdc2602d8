-- The first value of each frame, by which frames are counted.
use Rattle.std.specs.Prelude.{ℕ, zero, suc, Bool, false, not, ◌&&◌, ◌||◌, is_some}
use Rattle.std.specs.FinMap.{contains_key}
use Rattle.id_tag.specs.declared.Tag.{Tag}
use Rattle.id_match.specs.declared.front.Slot.{Slot}
use Rattle.id_match.specs.Front.{slot_half, slot_tag}
use Rattle.id_match.specs.Waiting.{Store}

-- whether something waits in the frame of t at an instruction below n
abbrev pub waits_below : Store → Tag → ℕ → Bool
waits_below s t zero = false
waits_below s t (suc n) = contains_key s (record t { instr = n }) || waits_below s t n

-- whether nothing waits in the frame of t below its own instruction
abbrev pub is_first : Store → Tag → Bool
is_first s t = not (waits_below s t t.instr)

-- whether a slot keeps something that is the first of its frame
abbrev pub is_first_in : Store → Slot → Bool
is_first_in s x = is_some (slot_half x) && is_first s (slot_tag x)
