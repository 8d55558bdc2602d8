-- A door, as contracts see it.
use Rattle.std.specs.Prelude.{◌≡◌, ◌⊎◌, ◌≤◌, ◌-◌, ◌%◌, ◌^◌, ℕ, Option, None, Some}
use Rattle.std.specs.Global.{Global}
use Rattle.crossbeam_queue.specs.SegTies.{SegId}
use Rattle.crossbeam_queue.specs.declared.seg_queue.Stage.{Stage}
use Rattle.crossbeam_queue.specs.declared.seg_queue.Stage.TheVariants.{SawTail}
use Rattle.id_inbox.specs.declared.hand.Hand.{Hand}

-- which inbox it leads to, what it has sent and taken, with its parts, and which place of the queue it saw as the next
-- one, where that is the last that it did there
pub record DoorView : Type 0 where
  pub queue : SegId Global
  pub hand : Hand
  pub saw : Option ℕ

-- the place that it saw as the next one, at this stage of a use of the queue
abbrev pub seen_at : Stage → ℕ → Option ℕ
seen_at SawTail n = Some n
seen_at s n = None

-- the next place can't be had for nothing: it is the last of its block, each of which has 31 of 32 places, so that
-- another block is wanted, or the places are used up
abbrev pub WantsMore : Option ℕ → Type 0
WantsMore None = ⊥
WantsMore (Some n) = (n % 32 ≡ 30) ⊎ (2 ^ 62 - 128 ≤ n)
