-- The rows so far import nothing.
use Rattle.std.proofs.Common.{◌≡◌, [], replicate}
use Rattle.id_desugar.specs.Regions.{imports_below}
use Rattle.id_desugar.proofs.imports.import_nothing.Given as goal

abbrev pub invariant-loop-row : goal.invariant-loop-row
invariant-loop-row l = imports_below l.checked l.row ≡ replicate l.row []
