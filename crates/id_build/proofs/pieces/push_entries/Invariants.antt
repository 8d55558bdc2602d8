-- The entries so far, and those that are left.
use Rattle.std.proofs.Common.{◌≡◌, ◌++◌, drop}
use Rattle.id_instr.specs.declared.instr.Op.TheVariants.{Merge}
use Rattle.id_build.specs.Rows.{for_each}
use Rattle.id_build.proofs.pieces.push_entries.Given as goal

abbrev pub invariant-loop-import : goal.invariant-loop-import
invariant-loop-import l =
    l.pieces.items ++ for_each l.checked Merge l.place (drop l.import-index l.imports)
    ≡ l.fn.pieces.items ++ for_each l.checked Merge l.place l.imports
