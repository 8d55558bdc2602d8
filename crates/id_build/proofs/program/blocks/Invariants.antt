-- The blocks of the procedures so far.
use Rattle.std.proofs.Common.{◌≡◌, map}
use Rattle.id_check.specs.Programs.{rows}
use Rattle.id_table.specs.Turns.{heads_below}
use Rattle.id_build.specs.Made.{number_by}
use Rattle.id_build.specs.Schemas.{block_of}
use Rattle.id_build.proofs.program.blocks.Given as goal

abbrev pub invariant-loop-head : goal.invariant-loop-head
invariant-loop-head l =
    l.blocks.items ≡ map (block_of l.slots.kernel.now.checked.now (number_by l.slots.firsts.items))
    (heads_below (rows l.slots.kernel.now.checked.now) l.head)
