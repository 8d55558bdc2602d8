-- The instructions so far, and those of the pieces that are left.
use Rattle.std.proofs.Common.{◌≡◌, ◌++◌, [], drop}
use Rattle.id_build.specs.Made.{instrs_from}
use Rattle.id_build.proofs.joined.push_bare.Given as goal

abbrev pub invariant-loop-piece : goal.invariant-loop-piece
invariant-loop-piece l =
    l.instrs.items ++ instrs_from l.slots.firsts.items l.piece-index (drop l.piece-index l.pieces) []
    ≡ l.fn.instrs.items ++ instrs_from l.slots.firsts.items 0 l.pieces []
