use Rattle.std.proofs.Common.{◌≡◌, true, get_or}
use Rattle.id_valid.specs.Roles.{has_main_place}
use Rattle.id_valid.proofs.RolesLemmas.{filter-not_one}
use Rattle.id_valid.proofs.roles.main_block.Goals as goal

-- a second block with the place was met
pub returns-in-Some : goal.returns-in-Some
returns-in-Some c b alone =
    let one = rw c.in-Some.is at c.loop-block.invariant
    in let passes : has_main_place c.args.graph.now (get_or c.blocks-block-items.result.now c.loop-block.block-index c.block-item.result) ≡ true = cc
    in filter-not_one (has_main_place c.args.graph.now) _ _ c.block-item.result _ b c.loop-block-test.true one passes (rw c.blocks-block-items.ensures alone)
