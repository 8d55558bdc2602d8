-- The sends so far, and those that are left.
use Rattle.std.proofs.Common.{◌≡◌, ◌++◌, drop, map}
use Rattle.id_build.specs.Rows.{import_entries, send_to}
use Rattle.id_build.proofs.pieces.push_import_sends.Given as goal

abbrev pub invariant-loop-part : goal.invariant-loop-part
invariant-loop-part l =
    l.pieces.items ++ map (send_to l.checked l.place) (import_entries l.entries l.part (drop l.part l.imports))
    ≡ l.fn.pieces.items ++ map (send_to l.checked l.place) (import_entries l.entries 0 l.imports)
