-- The blocks so far.
use Rattle.std.proofs.Common.{◌≡◌, ◌++◌}
use Rattle.std.specs.Prelude.{take}
use Rattle.id_desugar.specs.Regions.{loops_by}
use Rattle.id_desugar.proofs.order.push_loops.Given as goal

abbrev pub invariant-loop-head : goal.invariant-loop-head
invariant-loop-head l = l.order.items ≡ l.initial.order.items ++ loops_by l.checked l.last (take l.head-index l.loops)
