-- Each message has a key of its own among those of the block that its activation's context was opened for.
use Rattle.id_laws.proofs.Bounding.ByBlocks as blocks
use Rattle.id_laws.proofs.bounds.bounded_by_block.Goals as goal

pub returns : goal.returns
returns c = blocks.bounded_by_block
