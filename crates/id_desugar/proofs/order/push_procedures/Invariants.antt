-- The rows so far.
use Rattle.std.proofs.Common.{◌≡◌, ◌++◌}
use Rattle.id_desugar.specs.Regions.{in_procedure, those}
use Rattle.id_desugar.proofs.order.push_procedures.Given as goal

abbrev pub invariant-loop-row : goal.invariant-loop-row
invariant-loop-row l = l.order.items ≡ l.initial.order.items ++ those (in_procedure l.checked) l.row
