-- The sends so far, and those that are left.
use Rattle.std.proofs.Common.{◌≡◌, ◌++◌, drop, map}
use Rattle.id_desugar.specs.Regions.{carried}
use Rattle.id_build.specs.Rows.{param_entry, send_to}
use Rattle.id_build.proofs.pieces.push_carried_sends.Given as goal

abbrev pub invariant-loop-part : goal.invariant-loop-part
invariant-loop-part l =
    l.pieces.items ++ map (send_to l.checked l.place) (map param_entry (drop l.part (carried l.checked l.head)))
    ≡ l.fn.pieces.items ++ map (send_to l.checked l.place) (map param_entry (carried l.checked l.head))
