use Rattle.std.proofs.Common.{◌==◌}
use Rattle.std.specs.List.{list_any}
use Rattle.id_valid.proofs.PastLemmas.{Least-more}
use Rattle.id_valid.proofs.past.least_entry.Goals as goal

-- the entries of one more block
pub loop-block-preserved : goal.loop-block-preserved
loop-block-preserved c =
    Least-more (λ b k. list_any (λ e. e == k) b.entries) c.blocks-block-items.result.now _ _ c.block-item.result _ c.loop-block-test.true c.block-item.is
    (c.earlier-least.ensures _ _ _ c.loop-block.invariant (rw c.as_slice.ensures at c.least_of.ensures))
