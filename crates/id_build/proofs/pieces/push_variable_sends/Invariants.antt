-- The sends so far, and those that are left.
use Rattle.std.proofs.Common.{◌≡◌, ◌++◌, ◌+◌, drop, map}
use Rattle.id_build.specs.Rows.{send_to, variable_entries}
use Rattle.id_build.proofs.pieces.push_variable_sends.Given as goal

abbrev pub invariant-loop-index : goal.invariant-loop-index
invariant-loop-index l =
    l.pieces.items ++ map (send_to l.checked l.place) (variable_entries (l.first + l.index) (drop l.index l.nexts))
    ≡ l.fn.pieces.items ++ map (send_to l.checked l.place) (variable_entries l.first l.nexts)
