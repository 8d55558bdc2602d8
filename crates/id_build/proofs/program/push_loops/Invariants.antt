-- The blocks of the loops so far.
use Rattle.std.proofs.Common.{◌≡◌, ◌++◌, map, take}
use Rattle.id_build.specs.Made.{number_by}
use Rattle.id_build.specs.Schemas.{block_of}
use Rattle.id_build.proofs.program.push_loops.Given as goal

abbrev pub invariant-loop-head : goal.invariant-loop-head
invariant-loop-head l =
    l.blocks.items ≡ l.fn.blocks.items ++ map (block_of l.slots.kernel.now.checked.now (number_by l.slots.firsts.items))
    (take l.head-index l.heads)
