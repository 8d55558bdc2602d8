-- The chains of the rows so far.
use Rattle.std.proofs.Common.{◌≤◌}
use Rattle.id_desugar.specs.Gathering.{AreChains}
use Rattle.id_desugar.proofs.order.find_chains.Given as goal

abbrev pub invariant-loop-row : goal.invariant-loop-row
invariant-loop-row l = (l.row ≤ l.last) × AreChains l.checked l.row l.last l.chains.firsts l.chains.nexts

abbrev pub decreases-loop-row : goal.decreases-loop-row
decreases-loop-row l = l.row
