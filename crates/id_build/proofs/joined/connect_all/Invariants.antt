-- The instructions with the arcs so far.
use Rattle.std.proofs.Common.{◌≡◌, take}
use Rattle.std.specs.Prelude.{fold}
use Rattle.id_build.specs.Made.{connected}
use Rattle.id_build.proofs.joined.connect_all.Given as goal

abbrev pub invariant-loop-arc : goal.invariant-loop-arc
invariant-loop-arc l = l.instrs.items ≡ fold connected l.fn.instrs.items (take l.arc-index l.arcs)
