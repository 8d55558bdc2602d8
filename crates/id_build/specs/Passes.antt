-- What the passes over a kernel's rows go by, as their clauses speak of it.
use Rattle.std.specs.Prelude.{ℕ, List, map}
use Rattle.id_check.specs.declared.checked.Checked.{Checked}
use Rattle.id_instr.specs.declared.instr.Block.{Block}
use Rattle.id_build.specs.Made.{arc_of, number_by}
use Rattle.id_build.specs.Schemas.{block_of}
use Rattle.id_build.specs.declared.arc.Arc.{Arc}
use Rattle.id_build.specs.declared.arc.Feed.{Feed}
use Rattle.id_build.specs.declared.slots.Slots.{Slots}

-- the program whose graph is made
abbrev pub program_of : Slots → Checked
program_of s = s.kernel.now.checked.now

-- the numbers of the first instructions of its rows
abbrev pub firsts_of : Slots → List ℕ
firsts_of s = s.firsts.items

-- the arcs to the row n that are these feeds
abbrev pub arcs_of : Slots → ℕ → List Feed → List Arc
arcs_of s n fs = map (arc_of s.firsts.items n) fs

-- the block with this head
abbrev pub block_at : Slots → ℕ → Block
block_at s = block_of s.kernel.now.checked.now (number_by s.firsts.items)
