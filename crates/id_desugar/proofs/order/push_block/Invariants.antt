-- The rows of the block so far.
use Rattle.id_desugar.specs.Regions.{in_block}
use Rattle.id_desugar.proofs.OrderLemmas.{AreReached, rest}
use Rattle.id_desugar.proofs.order.push_block.Given as goal

abbrev pub invariant-loop-at : goal.invariant-loop-at
invariant-loop-at l = AreReached (in_block l.checked l.head) l.last l.initial.order.items l.order.items l.at

abbrev pub decreases-loop-at : goal.decreases-loop-at
decreases-loop-at l = rest l.last l.at
