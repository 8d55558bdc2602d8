-- The parameters so far, and those of the rows that are left.
use Rattle.std.proofs.Common.{◌≡◌, ◌++◌, drop, map}
use Rattle.id_table.specs.Rows.{at}
use Rattle.id_check.specs.Programs.{rows}
use Rattle.id_source.specs.Inputs.{wanted_of}
use Rattle.id_source.proofs.inputs.wanted_all.Given as goal

abbrev pub invariant-loop-row : goal.invariant-loop-row
invariant-loop-row l =
    l.wanted.items ++ map (λ b. wanted_of l.checked (at (rows l.checked) b).node) (drop l.row-index l.params) ≡ map
    (λ b. wanted_of l.checked (at (rows l.checked) b).node) l.params
