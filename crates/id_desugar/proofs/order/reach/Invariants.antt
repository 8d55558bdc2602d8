-- The reach of the rows so far.
use Rattle.std.proofs.Common.{◌≡◌}
use Rattle.id_desugar.specs.Regions.{reach}
use Rattle.id_desugar.proofs.order.reach.Given as goal

abbrev pub invariant-loop-row : goal.invariant-loop-row
invariant-loop-row l = l.reach ≡ reach l.checked l.row
