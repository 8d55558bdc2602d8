-- The instructions of the rows so far.
use Rattle.std.proofs.Common.{◌≡◌, [], take}
use Rattle.id_build.specs.Made.{instrs_from, pieces_in}
use Rattle.id_build.proofs.program.bare_instrs.Given as goal

abbrev pub invariant-loop-n : goal.invariant-loop-n
invariant-loop-n l = record {
  pieces : l.pieces.items ≡ [];
  instrs : l.instrs.items
      ≡ instrs_from l.slots.firsts.items 0 (pieces_in l.slots.kernel.now.checked.now (take l.n-index l.order)) [];
}
